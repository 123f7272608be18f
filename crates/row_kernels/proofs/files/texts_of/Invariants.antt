use Rattle.std.proofs.Common.{◌≡◌}
use Rattle.row_kernels.specs.Files.{texts_of}
use Rattle.row_kernels.proofs.files.texts_of.Given as goal

abbrev pub invariant-loop-number : goal.invariant-loop-number
invariant-loop-number l = l.texts.items ≡ texts_of l.number
