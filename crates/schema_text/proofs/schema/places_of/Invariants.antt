-- The places so far, before those of the names that are left, are those of the whole.
use Rattle.std.proofs.Common.{◌≡◌, ◌++◌, drop, option_map}
use Rattle.schema_text.specs.Schema.{places_in}
use Rattle.schema_text.proofs.schema.places_of.Given as goal

abbrev pub invariant-loop-name : goal.invariant-loop-name
invariant-loop-name l = option_map (λ ps. l.places.items ++ ps) (places_in l.columns (drop l.name-index l.names)) ≡ places_in l.columns l.names
