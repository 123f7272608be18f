use Rattle.std.proofs.Common.{◌≡◌}
use Rattle.format_kernels.specs.Kernels.{values_of}
use Rattle.format_kernels.specs.Register.{state_after}
use Rattle.format_kernels.proofs.kernels.make_values.Given as goal

abbrev pub invariant-loop : goal.invariant-loop
invariant-loop l = record {
  state : l.state ≡ state_after l.counter;
  values : l.values.items ≡ values_of l.width l.counter;
}
