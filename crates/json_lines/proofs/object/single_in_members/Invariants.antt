-- The member that was found, before those of the rest, are those of the whole.
use Rattle.std.proofs.Common.{◌≡◌, ◌++◌}
use Rattle.serde_json.specs.View.{members_view}
use Rattle.json_lines.specs.Single.{present_members}
use Rattle.json_lines.proofs.Steps.{listed}
use Rattle.json_lines.proofs.object.single_in_members.Given as goal

abbrev pub invariant-loop-name : goal.invariant-loop-name
invariant-loop-name l = listed l.found ++ present_members (members_view l.name-iterator) ≡ present_members (members_view l.members.entries)
