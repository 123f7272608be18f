use Rattle.std.proofs.Common.{◌≡◌}
use Rattle.format_kernels.proofs.Rows.{words_to}
use Rattle.format_kernels.proofs.tables.words_of.Given as goal

abbrev pub invariant-loop-number : goal.invariant-loop-number
invariant-loop-number l = l.words.items ≡ words_to l.number
