use Rattle.std.proofs.Common.{ℕ, ◌%◌, ◌^◌, ◌∙◌, ap}
use Rattle.std.specs.Prelude.{min}
use Rattle.format_kernels.proofs.States.{state_more, values_more}
use Rattle.format_kernels.proofs.kernels.make_values.Goals as goal

pub loop-preserved : goal.loop-preserved
loop-preserved c =
    let value = c.cut.ensures ∙ ap (λ (s : ℕ). s % 2 ^ min c.args.width 32) c.next_state-state.ensures in
    record {
      state = c.next_state-state.ensures ∙ state_more c.loop.counter c.loop.state c.loop.invariant.state;
      values = c.in_ok-push.ensures.items ∙ values_more c.args.width c.loop.counter c.loop.state c.cut.result c.loop.values.items c.loop.invariant.values c.loop.invariant.state value;
    }
