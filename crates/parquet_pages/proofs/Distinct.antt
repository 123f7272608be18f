-- Places of values among distinct ones.
use Rattle.std.proofs.Common.{◌≡◌, ℕ, zero, suc, ◌<◌, ◌≤◌, Bool, true, false, ◌||◌, cond, List, [], ◌∷◌, ◌++◌, length, get_or, refl, arith, inl, inr, Option, Some, None, option_map, is_some, unwrap_or}
use Rattle.std.proofs.lemmas.Bool.{cases_Bool}
use Rattle.std.proofs.lemmas.List.{length-append}
use Rattle.std.specs.Cmp.{Equal-is}
use Rattle.std.specs.List.{All}
use Rattle.std.specs.Ordering.{is_eq}
use Rattle.row_base.specs.declared.row.Datum.{Datum}
use Rattle.row_base.specs.RowOrder.{datum_cmp}
use Rattle.row_base.proofs.RowOrder.{datum_apart}
use Rattle.parquet_pages.proofs.Chains.{map_some}
use Rattle.parquet_pages.specs.Places.{is_null, place_of, with_value, distinct_after, places_of, can_place}

-- equal by the order is equal
pub same_datum : (v q : Datum) → is_eq (datum_cmp v q) ≡ true → v ≡ q
same_datum v q e = datum_apart v q ((Equal-is (datum_cmp v q)).0 e)

-- the place of one more value
unfoldable pub last_place : ℕ → Datum → Datum → Option ℕ
last_place n v q = cond (is_eq (datum_cmp v q)) (Some n) None

unfoldable pub or_last : Option ℕ → Option ℕ → Option ℕ
or_last (Some k) o = Some k
or_last None o = o

pub place_of-push : (found : List Datum) (v q : Datum) → place_of (found ++ v ∷ []) q ≡ or_last (place_of found q) (last_place (length found) v q)
unfolding last_place or_last
place_of-push [] v q = elim (cases_Bool (is_eq (datum_cmp v q))) [
  | inl t ↦ rw t refl
  | inr f ↦ rw f refl
]
place_of-push (w ∷ found) v q = elim (cases_Bool (is_eq (datum_cmp w q))) [
  | inl t ↦ rw t refl
  | inr f ↦ rw (f, place_of-push found v q) (further (place_of found q) (is_eq (datum_cmp v q)) (length found))
]
  where
    further : (o : Option ℕ) (b : Bool) (n : ℕ) → option_map suc (or_last o (cond b (Some n) None)) ≡ or_last (option_map suc o) (cond b (Some (suc n)) None)
    further (Some k) b n = refl
    further None true n = refl
    further None false n = refl

-- a place is within the list
pub place_of-lt : (found : List Datum) (v : Datum) (k : ℕ) → place_of found v ≡ Some k → k < length found
place_of-lt [] v k e = absurd cc
place_of-lt (w ∷ found) v k e = elim (cases_Bool (is_eq (datum_cmp w v))) [
  | inl t ↦ let first : ◌≡◌ {A = Option ℕ} (Some 0) (Some k) = rw t at e in
      let zero_is : 0 ≡ k = cc in omega (arith, zero_is)
  | inr f ↦
      let p = map_some suc (place_of found v) k (rw f at e) in
      omega (arith, place_of-lt found v p.0 p.1, p.2)
]

-- ---- how many distinct values there are

pub longer : (found vs : List Datum) → length found ≤ length (distinct_after found vs)
longer found [] = omega arith
longer found (v ∷ vs) = omega (arith, longer (with_value found v) vs, one_longer found v)
  where
    one_longer : (found : List Datum) (v : Datum) → length found ≤ length (with_value found v)
    one_longer found v = by_test (is_null v || is_some (place_of found v)) found v
      where
        by_test : (b : Bool) (found : List Datum) (v : Datum) → length found ≤ length (cond b found (found ++ v ∷ []))
        by_test true found v = omega arith
        by_test false found v = omega (arith, length-append found (v ∷ []))

-- ---- places of values

few_more : (b : Bool) (places : List ℕ) (p n : ℕ) → length places ≤ n → length (cond b places (p ∷ places)) ≤ suc n
few_more true places p n le = omega arith
few_more false places p n le = omega arith

pub places_few : (dictionary vs : List Datum) → length (places_of dictionary vs) ≤ length vs
places_few dictionary [] = omega arith
places_few dictionary (v ∷ vs) = few_more (is_null v) (places_of dictionary vs) (unwrap_or (place_of dictionary v) 0) (length vs) (places_few dictionary vs)

-- each place is below a number
abbrev pub AllBelow : ℕ → List ℕ → Type 0
AllBelow n places = (k : ℕ) → k < length places → get_or places k 0 < n

below_first : (n p : ℕ) (places : List ℕ) → p < n → AllBelow n places → AllBelow n (p ∷ places)
below_first n p places lt rest zero k = lt
below_first n p places lt rest (suc i) k = rest i (omega (arith, k))

below_more : (b : Bool) (o : Option ℕ) (optional : Bool) (n : ℕ) (places : List ℕ) → cond b optional (is_some o) ≡ true
    → ((p : ℕ) → o ≡ Some p → p < n) → AllBelow n places → AllBelow n (cond b places (unwrap_or o 0 ∷ places))
below_more true o optional n places test within rest = rest
below_more false None optional n places test within rest = absurd cc
below_more false (Some p) optional n places test within rest = below_first n p places (within p refl) rest

pub places_within : (dictionary : List Datum) (optional : Bool) (vs : List Datum) → All (λ v. can_place dictionary optional v ≡ true) vs
    → AllBelow (length dictionary) (places_of dictionary vs)
places_within dictionary optional [] all k lt = absurd (omega (arith, lt))
places_within dictionary optional (v ∷ vs) all k lt =
    below_more (is_null v) (place_of dictionary v) optional (length dictionary) (places_of dictionary vs) (all 0 v (omega arith))
    (λ p e. place_of-lt dictionary v p e) (places_within dictionary optional vs (λ i d le. all (suc i) d (omega (arith, le)))) k lt
