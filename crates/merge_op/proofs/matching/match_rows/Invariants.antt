-- The rows so far, before those that are left, are the rows; those so far stand beside what matches them, and those that
-- are left are bound; once their keys are met too, all are.
use Rattle.std.proofs.Common.{◌≡◌, ◌++◌, List, true, length}
use Rattle.std.specs.BTreeMap.{get}
use Rattle.std.specs.List.{All, list_all, list_any}
use Rattle.row_base.specs.RowOrder.{row_cmp}
use Rattle.row_base.specs.declared.row.Datum.{Datum}
use Rattle.op_types.specs.Bound.{is_merge_bound}
use Rattle.merge_op.specs.Found.{IsKeyed, IsRowMatch, has_key, met_by, rows_beside}
use Rattle.merge_op.proofs.matching.match_rows.Given as goal

abbrev pub invariant-loop-row : goal.invariant-loop-row
invariant-loop-row l = record {
  rows : rows_beside l.matches.items ++ l.row-iterator ≡ l.rows;
  matches : All (IsRowMatch l.op) l.matches.items;
  met : (q : List Datum) → met_by (list_any (has_key l.op.keys q) l.row-iterator) (get row_cmp l.keyed q) ≡ met_by (list_any (has_key l.op.keys q) l.rows) (get row_cmp l.fn.keyed q);
  keyed : IsKeyed l.op.keys l.op.source l.keyed;
  bound : list_all (λ r. is_merge_bound (length r) l.op) l.row-iterator ≡ true;
}
