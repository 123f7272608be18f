-- The members so far, with those of the columns that are left, are those of all.
use Rattle.std.proofs.Common.{◌≡◌, drop}
use Rattle.serde_json.specs.Data.{no_members}
use Rattle.serde_json.specs.View.{members_view}
use Rattle.file_stats.specs.Written.{members_from, part_at}
use Rattle.file_stats.proofs.write.part_members.Given as goal

abbrev pub invariant-loop-i : goal.invariant-loop-i
invariant-loop-i l =
    members_from (part_at l.schema l.part l.stats) l.i (drop l.i l.schema.columns) (members_view l.members.entries)
    ≡ members_from (part_at l.schema l.part l.stats) 0 l.schema.columns no_members
