-- The members so far, with the entries that are left, are those of the whole.
use Rattle.std.proofs.Common.{◌≡◌, drop}
use Rattle.serde_json.specs.Data.{no_members}
use Rattle.serde_json.specs.View.{members_view}
use Rattle.json_lines.specs.Written.{entries_data}
use Rattle.json_lines.proofs.map.entries_members.Given as goal

abbrev pub invariant-loop-entry : goal.invariant-loop-entry
invariant-loop-entry g l = entries_data g.V.Member.written (members_view l.members.entries) (drop l.entry-index l.entries) ≡ entries_data g.V.Member.written no_members l.entries
