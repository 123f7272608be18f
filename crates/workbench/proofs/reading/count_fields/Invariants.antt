use Rattle.std.proofs.Common.{◌≡◌, ◌-◌, length}
use Rattle.std.specs.Prelude.{pos}
use Rattle.workbench.specs.Reading.{after_fields, field_count}
use Rattle.workbench.proofs.reading.count_fields.Given as goal

abbrev pub invariant-loop-count : goal.invariant-loop-count
invariant-loop-count l = record {
  bytes : l.cursor.bytes ≡ l.bytes;
  rest : after_fields l.count (field_count (length l.bytes - l.count) l.bytes l.last l.cursor.at) ≡ field_count (length l.bytes) l.bytes (pos 0) 0;
}
