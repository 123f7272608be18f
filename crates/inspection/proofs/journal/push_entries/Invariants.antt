-- The lines so far are written.
use Rattle.std.proofs.Common.{◌≡◌, ◌++◌, take}
use Rattle.std.specs.List.{flat_map}
use Rattle.inspection.specs.Journal.{entry_line}
use Rattle.inspection.proofs.journal.push_entries.Given as goal

abbrev pub invariant-loop-entry : goal.invariant-loop-entry
invariant-loop-entry l = l.out ≡ l.initial.out ++ flat_map entry_line (take l.entry-index l.journal)
