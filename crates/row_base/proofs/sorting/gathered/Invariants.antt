use Rattle.std.proofs.Common.{◌≡◌, take, map}
use Rattle.row_base.proofs.sorting.gathered.Given as goal

-- the rows so far are the first of the list
abbrev pub invariant-loop-row : goal.invariant-loop-row
invariant-loop-row l = l.rows ≡ map (λ r. r.now) (take l.row-index l.list)
