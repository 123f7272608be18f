use Rattle.std.specs.Prelude.{filter}
use Rattle.dml_ops.specs.Changes.{passes}
use Rattle.dml_ops.specs.Operations.{scope_of}
use Rattle.dml_ops.proofs.Together.{gives_respects}
use Rattle.dml_ops.proofs.laws.scope_decides.Goals as goal

pub returns : goal.returns
returns c = λ o xs ys same. gives_respects o (filter (passes (scope_of o)) xs) (filter (passes (scope_of o)) ys) same
