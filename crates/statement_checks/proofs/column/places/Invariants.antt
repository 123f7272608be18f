-- The places so far, before those of the names that are left, are the places; each is a column's.
use Rattle.std.proofs.Common.{◌≡◌, ◌++◌, [], drop, length, true, nat_lt, Ok}
use Rattle.std.specs.List.{list_all}
use Rattle.row_base.specs.Faults.{◌>>=◌}
use Rattle.statement_checks.specs.Names.{places_once}
use Rattle.statement_checks.proofs.column.places.Given as goal

abbrev pub invariant-loop-name : goal.invariant-loop-name
invariant-loop-name l =
    ((places_once l.columns l.places.items (drop l.name-index l.names) >>= λ ps. Ok (l.places.items ++ ps)) ≡ places_once l.columns [] l.names)
    × (list_all (λ p. nat_lt p (length l.columns)) l.places.items ≡ true)
