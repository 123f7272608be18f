use Rattle.std.proofs.Common.{◌≡◌, [], take, drop}
use Rattle.row_base.specs.Schema.{first_after, repeats_name}
use Rattle.row_base.proofs.schema.first_repeated.Given as goal

-- the rest after what was seen gives what the whole gives
abbrev pub invariant-loop-i : goal.invariant-loop-i
invariant-loop-i l = first_after repeats_name (take l.i l.columns) (drop l.i l.columns) ≡ first_after repeats_name [] l.columns
