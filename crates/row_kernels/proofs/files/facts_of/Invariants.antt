use Rattle.std.proofs.Common.{◌≡◌, ◌++◌, drop, map}
use Rattle.row_kernels.specs.Files.{facts_by}
use Rattle.row_kernels.proofs.files.facts_of.Given as goal

abbrev pub invariant-loop-text : goal.invariant-loop-text
invariant-loop-text l = l.facts.items ++ map facts_by (drop l.text-index l.texts) ≡ map facts_by l.texts
