use Rattle.std.proofs.Common.{length, ◌≡◌, sym, ap, subst, arith}
use Rattle.parquet_pages.proofs.Distinct.{places_few, places_within, AllBelow}
use Rattle.parquet_pages.proofs.dictionary.Dictionary.indices.Goals as goal

pub append_places-requires-clause-few : goal.append_places-requires-clause-few
append_places-requires-clause-few c =
    omega (arith, ap length c.requires.places, places_few c.args.self.now c.args.values.now, c.requires.few)

pub append_places-requires-clause-within : goal.append_places-requires-clause-within
append_places-requires-clause-within c =
    let many : length c.args.self.now ≡ c.len.result = omega (arith, ap length c.self.view_is, c.len.ensures.len) in
    subst (λ n. AllBelow n c.args.places.now) many
    (subst (AllBelow (length c.args.self.now)) (sym c.requires.places) (places_within c.args.self.now c.args.optional c.args.values.now c.requires.placed))
