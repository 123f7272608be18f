-- The entries that were read, before those of the rest, are those of the whole.
use Rattle.std.proofs.Common.{◌≡◌, ◌++◌, option_map}
use Rattle.serde_json.specs.View.{members_view}
use Rattle.json_lines.specs.Kinds.{nullables_in}
use Rattle.json_lines.proofs.map.nullables_in.Given as goal

abbrev pub invariant-loop-name : goal.invariant-loop-name
invariant-loop-name l = option_map (λ ys. l.entries.items ++ ys) (nullables_in (members_view l.name-iterator)) ≡ nullables_in (members_view l.members.entries)
