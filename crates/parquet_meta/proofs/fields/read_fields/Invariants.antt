use Rattle.std.proofs.Common.{◌≡◌, ℕ, ◌-◌, ◌<◌, ◌≤◌, length}
use Rattle.parquet_meta.specs.Structs.{fields_from, fields_of}
use Rattle.parquet_meta.proofs.fields.read_fields.Given as goal

abbrev pub invariant-loop-known : goal.invariant-loop-known
invariant-loop-known g l = record {
  same : l.reader.piece ≡ l.initial.reader.piece;
  behind : l.initial.reader.at ≤ l.reader.at;
  rest : (most : ℕ) × (length l.initial.reader.piece.bytes - l.reader.at < most)
      × (fields_from g.F.Fields.step l.initial.reader.piece most l.last l.known l.reader.at ≡ fields_of g.F.Fields.step l.initial.known l.initial.reader.piece l.initial.reader.at);
}

abbrev pub decreases-loop-known : goal.decreases-loop-known
decreases-loop-known g l = length l.initial.reader.piece.bytes - l.reader.at
