-- The lines that are left, behind the actions so far, read as the whole text.
use Rattle.std.proofs.Common.{◌≡◌, ◌+◌, ◌≤◌, [], length}
use Rattle.json_lines.specs.Lines.{lines}
use Rattle.log_actions.specs.Named.{Holds}
use Rattle.log_actions.specs.Commit.{actions_from}
use Rattle.log_actions.proofs.commit.take_lines.Given as goal

abbrev pub invariant-lines : goal.invariant-lines
invariant-lines l = record {
  holds : Holds l.named l.actions.items;
  reads : actions_from l.number l.actions.items (lines l.rest) ≡ actions_from 1 [] (lines l.bytes);
  few : l.number + length l.rest ≤ 1 + length l.bytes;
}

abbrev pub decreases-lines : goal.decreases-lines
decreases-lines l = length l.rest
