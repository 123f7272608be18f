use Rattle.std.proofs.Common.{◌≡◌, ◌++◌, ◌-◌, ◌≤◌, length, Ok}
use Rattle.row_base.specs.Faults.{◌>>=◌}
use Rattle.parquet_meta.specs.Values.{elements_from}
use Rattle.parquet_meta.proofs.fields.read_elements.Given as goal

abbrev pub invariant-loop : goal.invariant-loop
invariant-loop g l = record {
  same : l.reader.piece ≡ l.initial.reader.piece;
  behind : l.initial.reader.at ≤ l.reader.at;
  within : l.reader.at ≤ length l.initial.reader.piece.bytes;
  rest : (elements_from (g.E.Element.element l.initial.reader.piece l.place) (l.count - l.counter) l.reader.at >>= λ others. Ok (l.elements.items ++ others.0, others.1))
      ≡ elements_from (g.E.Element.element l.initial.reader.piece l.place) l.count l.initial.reader.at;
}
