-- What is written is the text of the actions so far, and with those that are left all are read back.
use Rattle.std.proofs.Common.{◌≡◌, take, drop}
use Rattle.std.specs.List.{flat_map}
use Rattle.log_actions.specs.Written.{line_of_action}
use Rattle.log_actions.specs.Whole.{AllReturn}
use Rattle.log_actions.proofs.write.write_lines.Given as goal

abbrev pub invariant-loop-action : goal.invariant-loop-action
invariant-loop-action l = record {
  text : l.out.items ≡ flat_map line_of_action (take l.action-index l.actions);
  back : AllReturn (drop l.action-index l.actions) → AllReturn l.actions;
}
