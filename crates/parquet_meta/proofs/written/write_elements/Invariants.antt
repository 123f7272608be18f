use Rattle.std.proofs.Common.{◌≡◌, ◌++◌, drop}
use Rattle.parquet_meta.specs.Written.{texts_of}
use Rattle.parquet_meta.proofs.written.write_elements.Given as goal

abbrev pub invariant-loop-element : goal.invariant-loop-element
invariant-loop-element g l = l.out ++ texts_of g.E.Element.text (drop l.element-index l.elements) ≡ l.initial.out ++ texts_of g.E.Element.text l.elements
