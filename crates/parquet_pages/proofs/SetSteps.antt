-- A set of data in order of first appearance: its words, and the steps of the loop that fills it.
use Rattle.std.proofs.Common.{◌≡◌, ℕ, suc, ◌+◌, ◌<◌, Bool, true, false, ◌||◌, not, cond, ltb, List, [], ◌∷◌, ◌++◌, length, get_or, drop, refl, sym, ap, ◌∙◌, arith, inl, inr, Option, Some, None, option_map, is_some, append_assoc}
use Rattle.std.proofs.lemmas.Bool.{cases_Bool}
use Rattle.std.proofs.lemmas.Bool.Decides.{nat_tests}
use Rattle.std.proofs.lemmas.List.{length-append, at_drop_more}
use Rattle.std.specs.List.{position, position_or_len, list_any}
use Rattle.std.specs.Ordering.{is_eq}
use Rattle.row_base.specs.declared.row.Datum.{Datum}
use Rattle.row_base.specs.RowOrder.{datum_cmp}
use Rattle.parquet_pages.specs.Places.{is_null, place_of, with_value, distinct_after, places_of}
use Rattle.parquet_pages.proofs.Distinct.{longer}
use Rattle.parquet_pages.proofs.FirstPlaces.{push_old}
use Rattle.parquet_pages.proofs.Same.{derived_eq, same_test}

-- ---- the words of the set

first_place : (b : Bool) (n l : ℕ) → cond (ltb (cond b 0 (1 + n)) (suc l)) (Some (cond b 0 (1 + n))) None ≡ cond b (Some 0) (option_map suc (cond (ltb n l) (Some n) None))
first_place true n l = let yes : ltb 0 (suc l) ≡ true = grind (arith, nat_tests) in rw yes refl
first_place false n l = elim (cases_Bool (ltb n l)) [
  | inl t ↦ let yes : ltb (1 + n) (suc l) ≡ true = grind (arith, nat_tests) in let same : 1 + n ≡ suc n = omega arith in rw (t, yes, same) refl
  | inr f ↦ let not_yet : ltb (1 + n) (suc l) ≡ false = grind (arith, nat_tests) in rw (f, not_yet) refl
]

negated : (b : Bool) (n : ℕ) → cond (not b) (1 + n) 0 ≡ cond b 0 (1 + n)
negated true n = refl
negated false n = refl

pub place_is : (found : List Datum) (q : Datum) → position (derived_eq q) found ≡ place_of found q
place_is [] q = refl
place_is (v ∷ found) q =
    let n = position_or_len (derived_eq q) found in
    let front : position_or_len (derived_eq q) (v ∷ found) ≡ cond (derived_eq q v) 0 (1 + n) = negated (derived_eq q v) n in
    ap (λ k. cond (ltb k (suc (length found))) (Some k) None) front ∙ first_place (derived_eq q v) n (length found)
    ∙ ap (λ o. cond (derived_eq q v) (Some 0) (option_map suc o)) (place_is found q) ∙ ap (λ b. cond b (Some 0) (option_map suc (place_of found q))) (same_test q v)

pub any_is : (found : List Datum) (q : Datum) → place_of found q ≡ None → list_any (derived_eq q) found ≡ false
any_is [] q e = refl
any_is (v ∷ found) q e = elim (cases_Bool (is_eq (datum_cmp v q))) [
  | inl t ↦ let found_it : ◌≡◌ {A = Option ℕ} (Some 0) None = rw t at e in absurd cc
  | inr f ↦
      let later : option_map suc (place_of found q) ≡ None = rw f at e in
      rw (same_test q v, f) (any_is found q (none_of (place_of found q) later))
]
  where
    none_of : (o : Option ℕ) → option_map suc o ≡ None → o ≡ None
    none_of (Some k) e = absurd cc
    none_of None e = refl

-- ---- steps of the loop

-- a place stays when further values come
pub place_stays : (found vs : List Datum) (q : Datum) (k : ℕ) → place_of found q ≡ Some k → place_of (distinct_after found vs) q ≡ Some k
place_stays found [] q k e = e
place_stays found (v ∷ vs) q k e = place_stays (with_value found v) vs q k (by_test (is_null v || is_some (place_of found v)))
  where
    by_test : (b : Bool) → place_of (cond b found (found ++ v ∷ [])) q ≡ Some k
    by_test true = e
    by_test false = push_old found v q k e

-- a value that is there, or a new one, put behind
pub old_with : (found : List Datum) (v : Datum) (k : ℕ) → is_null v ≡ false → place_of found v ≡ Some k → with_value found v ≡ found
old_with found v k some e = rw (some, e) refl

pub new_with : (found : List Datum) (v : Datum) → is_null v ≡ false → place_of found v ≡ None → with_value found v ≡ found ++ v ∷ []
new_with found v some e = rw (some, e) refl

pub null_with : (found : List Datum) (v : Datum) → is_null v ≡ true → with_value found v ≡ found
null_with found v none = rw none refl

-- the values so far
pub found_step : (found values : List Datum) (i : ℕ) (v : Datum) (whole : List Datum) → i < length values → v ≡ get_or values i v
    → distinct_after found (drop i values) ≡ whole → distinct_after (with_value found v) (drop (i + 1) values) ≡ whole
found_step found values i v whole lt here so_far =
    ap (λ d. distinct_after (with_value found d) (drop (i + 1) values)) here ∙ sym (at_drop_more (distinct_after found) values i v lt) ∙ so_far

-- the places so far: a null has none, another value its own
pub null_step : (whole values : List Datum) (places all : List ℕ) (i : ℕ) (v : Datum) → i < length values → v ≡ get_or values i v → is_null v ≡ true
    → places ++ places_of whole (drop i values) ≡ all → places ++ places_of whole (drop (i + 1) values) ≡ all
null_step whole values places all i v lt here none so_far =
    let first : places_of whole (v ∷ drop (i + 1) values) ≡ places_of whole (drop (i + 1) values) = rw none refl in
    ap (λ (ks : List ℕ). places ++ ks) (sym first ∙ ap (λ d. places_of whole (d ∷ drop (i + 1) values)) here ∙ sym (at_drop_more (places_of whole) values i v lt)) ∙ so_far

pub place_step : (whole values : List Datum) (places all : List ℕ) (i k : ℕ) (v : Datum) → i < length values → v ≡ get_or values i v → is_null v ≡ false
    → place_of whole v ≡ Some k → places ++ places_of whole (drop i values) ≡ all → (places ++ k ∷ []) ++ places_of whole (drop (i + 1) values) ≡ all
place_step whole values places all i k v lt here some place so_far =
    let first : places_of whole (v ∷ drop (i + 1) values) ≡ k ∷ places_of whole (drop (i + 1) values) = rw (some, place) refl in
    append_assoc places (k ∷ []) (places_of whole (drop (i + 1) values))
    ∙ ap (λ (ks : List ℕ). places ++ ks) (sym first ∙ ap (λ d. places_of whole (d ∷ drop (i + 1) values)) here ∙ sym (at_drop_more (places_of whole) values i v lt)) ∙ so_far

-- the place among those so far is the one among all
pub place_of_all : (found values whole : List Datum) (i k : ℕ) (v : Datum) → place_of found v ≡ Some k → distinct_after found (drop i values) ≡ whole → place_of whole v ≡ Some k
place_of_all found values whole i k v e so_far = ap (λ (ds : List Datum). place_of ds v) (sym so_far) ∙ place_stays found (drop i values) v k e

-- a further one where there are so many: there are too many
pub too_many : (found values : List Datum) (i most : ℕ) (v : Datum) (whole : List Datum) → i < length values → v ≡ get_or values i v → is_null v ≡ false
    → place_of found v ≡ None → length found ≡ most → distinct_after found (drop i values) ≡ whole → most < length whole
too_many found values i most v whole lt here some none full so_far =
    let all : distinct_after (found ++ v ∷ []) (drop (i + 1) values) ≡ whole
    = ap (λ (ds : List Datum). distinct_after ds (drop (i + 1) values)) (sym (new_with found v some none)) ∙ found_step found values i v whole lt here so_far in
    omega (arith, full, ap length all, longer (found ++ v ∷ []) (drop (i + 1) values), length-append found (v ∷ []))
