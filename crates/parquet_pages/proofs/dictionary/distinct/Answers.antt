use Rattle.std.proofs.Common.{◌≡◌, ◌++◌, ◌+◌, [], List, ℕ, false, length, drop, sym, ◌∙◌, ap, refl}
use Rattle.std.proofs.lemmas.Bool.{lt-leb}
use Rattle.row_base.specs.declared.row.Datum.{Datum}
use Rattle.parquet_pages.specs.Places.{is_null, distinct_after, places_of}
use Rattle.parquet_pages.proofs.SetSteps.{found_step, place_step, place_of_all, too_many}
use Rattle.parquet_pages.proofs.dictionary.distinct.Goals as goal

pub returns-in-None-clause-dictionary : goal.returns-in-None-clause-dictionary
returns-in-None-clause-dictionary c =
    let l = c.loop-value in
    let some : is_null c.value-item.result ≡ false = sym c.is_null.ensures ∙ c.if-is_null.false in
    let whole = distinct_after [] c.args.values.now in
    let many = too_many l.found.keys c.args.values.now l.value-index c.args.most c.value-item.result (distinct_after [] c.args.values.now) c.loop-value-test.true c.value-item.is some
    (rw c.in-None.is at c.in_ok-place.ensures.new) (rw c.in-None.is at c.in_ok-place.ensures.full) l.invariant.rest in
    rw (lt-leb (length whole) c.args.most many) refl

pub loop-value-preserved : goal.loop-value-preserved
loop-value-preserved c =
    let l = c.loop-value in
    let v = c.value-item.result in
    let vs = c.args.values.now in
    let whole = distinct_after [] vs in
    let some : is_null v ≡ false = sym c.is_null.ensures ∙ c.if-is_null.false in
    let found = rw c.in-Some.is at c.in_ok-place.ensures.found in
    let place = rw c.in-Some.is at c.in_ok-place.ensures.place in
    let few = rw c.in-Some.is at c.in_ok-place.ensures.few in
    let rest : distinct_after c.place_for.new.found.keys (drop (l.value-index + 1) vs) ≡ whole
    = ap (λ (ds : List Datum). distinct_after ds (drop (l.value-index + 1) vs)) found ∙ found_step l.found.keys vs l.value-index v whole c.loop-value-test.true c.value-item.is l.invariant.rest in
    record {
      rest = rest;
      places = ap (λ (ks : List ℕ). ks ++ places_of whole (drop (l.value-index + 1) vs)) c.in_ok-push-in-Some.ensures.items
          ∙ place_step whole vs l.places.items (places_of whole vs) l.value-index c.in-Some.place v c.loop-value-test.true c.value-item.is some
          (place_of_all c.place_for.new.found.keys vs whole (l.value-index + 1) c.in-Some.place v place rest) l.invariant.places;
      few = few;
    }
