use Rattle.std.proofs.Common.{◌≡◌, None, Some, sym, ◌∙◌, ap}
use Rattle.parquet_pages.specs.Places.{place_of}
use Rattle.parquet_pages.proofs.FirstPlaces.{push_itself}
use Rattle.parquet_pages.proofs.dictionary.place_for.Goals as goal

pub returns-in_ok-put-in-None-clause-place : goal.returns-in_ok-put-in-None-clause-place
returns-in_ok-put-in-None-clause-place c =
    let none : place_of c.args.found.now.keys c.args.value.now ≡ None = sym c.place_in.ensures.place ∙ c.in-None.is in
    rw (c.in_ok-put-in-None.ensures, c.in_ok-copy-in-None.ensures)
    (push_itself c.args.found.now.keys c.args.value.now none ∙ ap Some (sym c.len-place.ensures.len))
