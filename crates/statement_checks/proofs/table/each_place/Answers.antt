-- The places are those of the names, so none of them is wrong.
use Rattle.std.proofs.Common.{rules, ◌≡◌, ◌∙◌, List, ℕ, Ok, ap}
use Rattle.statement_checks.proofs.Partitions.{places_made, places_right}
use Rattle.statement_checks.proofs.table.each_place.Goals as goal

pub returns-clause-right : goal.returns-clause-right
returns-clause-right c =
    let made = places_made c.args.columns.now c.loop-name.places.items c.args.names.now c.loop-name.name-index (search rules) c.loop-name.invariant.0 in
    let same : c.loop-name.places.items ≡ c.from_vec.result = search rules in
    places_right c.args.columns.now c.args.names.now c.from_vec.result (made ∙ ap (λ (ps : List ℕ). Ok ps) same) (search rules)
