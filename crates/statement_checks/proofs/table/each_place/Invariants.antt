-- The places so far, before those of the names that are left, are the places; each is a column's.
use Rattle.std.proofs.Common.{◌≡◌, ◌++◌, [], drop, length, true, nat_lt, Ok}
use Rattle.std.specs.List.{list_all}
use Rattle.row_base.specs.Faults.{◌>>=◌}
use Rattle.statement_checks.specs.Tables.{partition_in}
use Rattle.statement_checks.proofs.table.each_place.Given as goal

abbrev pub invariant-loop-name : goal.invariant-loop-name
invariant-loop-name l =
    ((partition_in l.columns l.places.items (drop l.name-index l.names) >>= λ ps. Ok (l.places.items ++ ps)) ≡ partition_in l.columns [] l.names)
    × (list_all (λ p. nat_lt p (length l.columns)) l.places.items ≡ true)
