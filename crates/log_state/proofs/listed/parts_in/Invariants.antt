use Rattle.std.proofs.Common.{◌≡◌, ◌++◌, map}
use Rattle.std.specs.List.{filter_map}
use Rattle.log_state.specs.Listed.{values_in}
use Rattle.log_state.proofs.listed.parts_in.Given as goal

abbrev pub invariant-loop-value : goal.invariant-loop-value
invariant-loop-value g l = map (λ p. p.now) l.parts.items ++ filter_map g.P.Part.part_of l.value-iterator ≡ filter_map g.P.Part.part_of (values_in l.kept.entries)
