use Rattle.std.proofs.Common.{◌≡◌, ◌-◌, ◌++◌, option_map}
use Rattle.parquet_pages.specs.Plain.{values_in_line}
use Rattle.parquet_pages.proofs.plain.values_in_line.Given as goal

abbrev pub invariant-loop-i : goal.invariant-loop-i
invariant-loop-i l = option_map (λ vs. l.values.items ++ vs) (values_in_line l.kind (l.count - l.i) l.rest) ≡ values_in_line l.kind l.count l.fn.bytes
