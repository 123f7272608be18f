use Rattle.std.proofs.Common.{◌≡◌, [], take, drop}
use Rattle.row_base.specs.Schema.{first_after, is_wrong_place}
use Rattle.row_base.proofs.schema.first_wrong_place.Given as goal

-- the rest after what was seen gives what the whole gives
abbrev pub invariant-loop-i : goal.invariant-loop-i
invariant-loop-i l = first_after (is_wrong_place l.count) (take l.i l.partition) (drop l.i l.partition) ≡ first_after (is_wrong_place l.count) [] l.partition
