use Rattle.std.proofs.Common.{◌≡◌, map, take}
use Rattle.script_text.specs.Places.{long_column}
use Rattle.script_text.proofs.entry.long_columns.Given as goal

abbrev pub invariant-loop-name : goal.invariant-loop-name
invariant-loop-name l = l.columns.items ≡ map long_column (take l.name-index l.names)
