-- The least so far, beside the least of those that are left, is the least of all.
use Rattle.std.proofs.Common.{◌≡◌, drop}
use Rattle.std.specs.Prelude.{option_map}
use Rattle.dml_ops.specs.Outcomes.{lesser_by}
use Rattle.merge_op.specs.Found.{rows_beside}
use Rattle.merge_op.specs.Merges.{itself, least_where, is_ambiguous}
use Rattle.merge_op.proofs.ambiguous.least_of.Given as goal

abbrev pub invariant-loop-beside : goal.invariant-loop-beside
invariant-loop-beside l =
    lesser_by itself (option_map (λ r. r.now) l.least) (least_where (is_ambiguous l.op) (rows_beside (drop l.beside-index l.matches)))
    ≡ lesser_by itself (option_map (λ r. r.now) l.first) (least_where (is_ambiguous l.op) (rows_beside l.matches))
