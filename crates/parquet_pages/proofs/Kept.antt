-- The values that aren't null, and their levels.
use Rattle.std.proofs.Common.{◌≡◌, ℕ, suc, Bool, true, false, cond, List, [], ◌∷◌, length, refl, sym, ap, ◌∙◌, arith, inl, inr, Option, Some, None, is_some, unwrap_or}
use Rattle.std.specs.List.{All, slice_get}
use Rattle.std.specs.Ordering.{is_eq}
use Rattle.std.proofs.lemmas.Bool.{cases_Bool}
use Rattle.row_base.specs.declared.row.Datum.{Datum}
use Rattle.row_base.specs.declared.row.Datum.TheVariants as datum
use Rattle.row_base.specs.RowOrder.{datum_cmp}
use Rattle.parquet_pages.specs.Levels.{there, spread}
use Rattle.parquet_pages.specs.Places.{is_null, place_of, can_place, places_of, values_at}
use Rattle.parquet_pages.specs.Written.{levels_of}
use Rattle.parquet_pages.proofs.Chains.{map_some}
use Rattle.parquet_pages.proofs.Distinct.{same_datum}

unfoldable pub kept : List Datum → List Datum
kept [] = []
kept (v ∷ vs) = cond (is_null v) (kept vs) (v ∷ kept vs)

pub null_is : (v : Datum) → is_null v ≡ true → v ≡ datum.Null
null_is datum.Null e = refl
null_is (datum.Long n) e = absurd cc
null_is (datum.Integer n) e = absurd cc
null_is (datum.Boolean b) e = absurd cc
null_is (datum.Text t) e = absurd cc
null_is (datum.Date n) e = absurd cc

pub first_of : (P : Datum → Type 0) (v : Datum) (vs : List Datum) → All P (v ∷ vs) → P v
first_of P v vs all = all 0 v (omega arith)

pub others_of : (P : Datum → Type 0) (v : Datum) (vs : List Datum) → All P (v ∷ vs) → All P vs
others_of P v vs all = λ i d lt. all (suc i) d (omega (arith, lt))

pub there-kept : (vs : List Datum) → there (levels_of vs) ≡ length (kept vs)
unfolding kept
there-kept [] = refl
there-kept (v ∷ vs) = step (is_null v) v (levels_of vs) (kept vs) (there-kept vs)
  where
    step : (b : Bool) (v : Datum) (levels : List ℕ) (ks : List Datum) → there levels ≡ length ks → there (cond b 0 1 ∷ levels) ≡ length (cond b ks (v ∷ ks))
    step true v levels ks e = omega (arith, e)
    step false v levels ks e = omega (arith, e)

spread_null : (levels : List ℕ) (vs : List Datum) → spread (0 ∷ levels) vs ≡ datum.Null ∷ spread levels vs
spread_null levels [] = refl
spread_null levels (v ∷ vs) = refl

pub spread-kept : (vs : List Datum) → spread (levels_of vs) (kept vs) ≡ vs
unfolding kept
spread-kept [] = refl
spread-kept (v ∷ vs) = step (is_null v) refl (spread-kept vs)
  where
    step : (b : Bool) → is_null v ≡ b → spread (levels_of vs) (kept vs) ≡ vs → spread (cond b 0 1 ∷ levels_of vs) (cond b (kept vs) (v ∷ kept vs)) ≡ v ∷ vs
    step true n e = spread_null (levels_of vs) (kept vs) ∙ ap (λ ds. datum.Null ∷ ds) e ∙ ap (λ d. d ∷ vs) (sym (null_is v n))
    step false n e = ap (λ ds. v ∷ ds) e

-- where none is null, all are kept
pub kept_all : (vs : List Datum) → All (λ v. is_null v ≡ false) vs → kept vs ≡ vs
unfolding kept
kept_all [] all = refl
kept_all (v ∷ vs) all =
    let none : is_null v ≡ false = first_of (λ d. is_null d ≡ false) v vs all in
    let rest : kept vs ≡ vs = kept_all vs (others_of (λ d. is_null d ≡ false) v vs all) in
    rw (none, rest) refl

pub null_cases : (v : Datum) (vs : List Datum) → is_null v ≡ true → kept (v ∷ vs) ≡ kept vs
unfolding kept
null_cases v vs n = rw n refl

pub kept_cases : (v : Datum) (vs : List Datum) → is_null v ≡ false → kept (v ∷ vs) ≡ v ∷ kept vs
unfolding kept
kept_cases v vs n = rw n refl

-- ---- places

pub length-places_of : (known vs : List Datum) → length (places_of known vs) ≡ length (kept vs)
unfolding kept
length-places_of known [] = refl
length-places_of known (v ∷ vs) = step (is_null v) (unwrap_or (place_of known v) 0) v (places_of known vs) (kept vs) (length-places_of known vs)
  where
    step : (b : Bool) (p : ℕ) (v : Datum) (places : List ℕ) (ks : List Datum) → length places ≡ length ks → length (cond b places (p ∷ places)) ≡ length (cond b ks (v ∷ ks))
    step true p v places ks e = e
    step false p v places ks e = ap suc e

-- what stands at the place of a value is the value
pub place_get : (known : List Datum) (v : Datum) (p : ℕ) → place_of known v ≡ Some p → slice_get known p ≡ Some v
place_get [] v p e = absurd cc
place_get (w ∷ known) v p e = elim (cases_Bool (is_eq (datum_cmp w v))) [
  | inl t ↦
      let first : ◌≡◌ {A = Option ℕ} (Some 0) (Some p) = rw t at e in
      let zero_is : 0 ≡ p = cc in
      ap (slice_get (w ∷ known)) (sym zero_is) ∙ ap Some (same_datum w v t)
  | inr f ↦
      let q = map_some suc (place_of known v) p (rw f at e) in
      ap (slice_get (w ∷ known)) (sym q.2) ∙ place_get known v q.0 q.1
]

-- a place that a value has
has_place : (o : Option ℕ) → is_some o ≡ true → o ≡ Some (unwrap_or o 0)
has_place (Some p) h = refl
has_place None h = absurd cc

pub values_back : (known : List Datum) (optional : Bool) (vs : List Datum) → All (λ v. can_place known optional v ≡ true) vs
    → values_at known (places_of known vs) ≡ Some (kept vs)
unfolding kept
values_back known optional [] all = refl
values_back known optional (v ∷ vs) all = step (is_null v) (first_of (λ d. can_place known optional d ≡ true) v vs all) (values_back known optional vs (others_of (λ d. can_place known optional d ≡ true) v vs all))
  where
    step : (b : Bool) → cond b optional (is_some (place_of known v)) ≡ true → values_at known (places_of known vs) ≡ Some (kept vs)
        → values_at known (cond b (places_of known vs) (unwrap_or (place_of known v) 0 ∷ places_of known vs)) ≡ Some (cond b (kept vs) (v ∷ kept vs))
    step true placed e = e
    step false placed e =
        let here : slice_get known (unwrap_or (place_of known v) 0) ≡ Some v = place_get known v (unwrap_or (place_of known v) 0) (has_place (place_of known v) placed) in
        rw (here, e) refl
