use Rattle.std.proofs.Common.{◌≡◌}
use Rattle.format_kernels.specs.Commits.{adds}
use Rattle.format_kernels.proofs.commits.commit_text.Given as goal

abbrev pub invariant-loop-number : goal.invariant-loop-number
invariant-loop-number l = l.actions.items ≡ adds l.number
