-- What is found under each key, once the rows that are left are there too; no row of the table has one; their columns
-- are there.
use Rattle.std.proofs.Common.{◌≡◌, List, true, length, nat_lt}
use Rattle.std.specs.Prelude.{filter}
use Rattle.std.specs.BTreeMap.{get}
use Rattle.std.specs.List.{list_all}
use Rattle.row_base.specs.RowOrder.{row_cmp, row_eq}
use Rattle.row_base.specs.declared.row.Datum.{Datum}
use Rattle.merge_op.specs.Found.{found_view, NoneMet}
use Rattle.merge_op.specs.Matches.{key_data}
use Rattle.merge_op.specs.Merges.{first_of}
use Rattle.merge_op.proofs.Keyings.{with_all}
use Rattle.merge_op.proofs.keys.keyed.Given as goal

abbrev pub invariant-loop-row : goal.invariant-loop-row
invariant-loop-row l = record {
  found : (q : List Datum) → with_all (found_view (get row_cmp l.keyed q)) (filter (λ s. row_eq (key_data l.keys s) q) l.row-iterator) ≡ first_of (filter (λ s. row_eq (key_data l.keys s) q) l.source);
  unmet : NoneMet l.keyed;
  bound : list_all (λ s. list_all (λ c. nat_lt c (length s)) l.keys) l.row-iterator ≡ true;
}
