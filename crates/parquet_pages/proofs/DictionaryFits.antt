-- The values of a chunk have places in its dictionary, and the dictionary's values are those of the chunk.
use Rattle.std.proofs.Common.{◌≡◌, ℕ, zero, suc, ◌+◌, ◌<◌, ◌≤◌, Bool, true, false, cond, List, [], ◌∷◌, length, get_or, refl, sym, ap, subst, arith, Option, Some, None, option_map, is_some, IfSome}
use Rattle.std.specs.List.{All, slice_get}
use Rattle.std.specs.Ordering.{is_eq}
use Rattle.row_base.specs.declared.row.Datum.{Datum}
use Rattle.row_base.specs.declared.row.Datum.TheVariants as datum
use Rattle.row_base.specs.declared.row.Kind.{Kind}
use Rattle.row_base.specs.RowOrder.{datum_cmp}
use Rattle.parquet_pages.specs.declared.dictionary.Indexed.{Indexed}
use Rattle.parquet_pages.specs.Places.{is_null, present, place_of, can_place, dictionary_of}
use Rattle.parquet_pages.specs.Written.{CanStand}
use Rattle.parquet_pages.specs.Grammar.{Has, IsDictionaryOf, DictionariesFit}
use Rattle.parquet_pages.proofs.Distinct.{place_of-lt}
use Rattle.parquet_pages.proofs.Kept.{null_is, place_get}
use Rattle.parquet_pages.proofs.Same.{itself}
use Rattle.parquet_pages.proofs.FirstPlaces.{has_place, pays_found}

-- a value at a place is among the values
has_at : (vs : List Datum) (i : ℕ) (d : Datum) → i < length vs → Has vs (get_or vs i d)
has_at [] i d lt = absurd (omega (arith, lt))
has_at (v ∷ vs) zero d lt = ap is_some (first (place_of vs v))
  where
    first : (o : Option ℕ) → cond (is_eq (datum_cmp v v)) (Some 0) (option_map suc o) ≡ Some 0
    first o = rw (itself v) refl
has_at (v ∷ vs) (suc i) d lt = later (is_eq (datum_cmp v (get_or vs i d))) (place_of vs (get_or vs i d)) (has_at vs i d (omega (arith, lt)))
  where
    later : (b : Bool) (o : Option ℕ) → is_some o ≡ true → is_some (cond b (Some 0) (option_map suc o)) ≡ true
    later true o h = refl
    later false (Some k) h = refl
    later false None h = absurd cc

get_at : (vs : List Datum) (i : ℕ) (v d : Datum) → slice_get vs i ≡ Some v → get_or vs i d ≡ v
get_at [] i v d e = absurd cc
get_at (w ∷ vs) zero v d e = cc
get_at (w ∷ vs) (suc i) v d e = get_at vs i v d e

-- what holds of each value holds of each value of the dictionary, and none of them is null
pub dictionary_keeps : (P : Datum → Type 0) (vs dictionary : List Datum) → IsDictionaryOf vs dictionary → All P vs → All (λ v. P v × (is_null v ≡ false)) dictionary
dictionary_keeps P vs dictionary is all = λ i d lt. of_value (get_or dictionary i d) (is.only (get_or dictionary i d) (has_at dictionary i d lt))
  where
    of_value : (v : Datum) → (is_null v ≡ false) × Has vs v → P v × (is_null v ≡ false)
    of_value v (some, h) =
        let p = has_place vs v h in
        let here : get_or vs p.0 v ≡ v = get_at vs p.0 v v (place_get vs v p.0 p.1) in
        (subst P here (all p.0 v (place_of-lt vs v p.0 p.1)), some)

stands_apart : (k : Kind) (o : Bool) (v : Datum) → CanStand k o v → is_null v ≡ false → CanStand k false v
stands_apart k o datum.Null stand some = absurd cc
stands_apart k o (datum.Long n) stand some = stand
stands_apart k o (datum.Integer n) stand some = stand
stands_apart k o (datum.Boolean b) stand some = stand
stands_apart k o (datum.Text t) stand some = stand
stands_apart k o (datum.Date n) stand some = stand

-- each value can be placed
pub placed_all : (k : Kind) (o : Bool) (vs dictionary : List Datum) → IsDictionaryOf vs dictionary → All (CanStand k o) vs → All (λ v. can_place dictionary o v ≡ true) vs
placed_all k o vs dictionary is stand = λ i d lt. of_value (get_or vs i d) (stand i d lt) (has_at vs i d lt)
  where
    of_value : (v : Datum) → CanStand k o v → Has vs v → can_place dictionary o v ≡ true
    of_value v stands h = by_null (is_null v) refl
      where
        by_null : (b : Bool) → is_null v ≡ b → cond b o (is_some (place_of dictionary v)) ≡ true
        by_null true null = subst (CanStand k o) (null_is v null) stands
        by_null false some = is.all v some h

pub stand_all : (k : Kind) (o : Bool) (vs dictionary : List Datum) → IsDictionaryOf vs dictionary → All (CanStand k o) vs → All (CanStand k false) dictionary
stand_all k o vs dictionary is stand = λ i d lt.
    let p = dictionary_keeps (CanStand k o) vs dictionary is stand i d lt in
    stands_apart k o (get_or dictionary i d) p.0 p.1

present_few : (vs : List Datum) → present vs ≤ length vs
present_few [] = omega arith
present_few (v ∷ vs) = step (is_null v) (present vs) (length vs) (present_few vs)
  where
    step : (b : Bool) (p n : ℕ) → p ≤ n → cond b 0 1 + p ≤ suc n
    step true p n le = omega arith
    step false p n le = omega arith

pub dictionaries_fit_all : DictionariesFit
dictionaries_fit_all k o vs dictionary e stand =
    let p = pays_found k vs dictionary e in
    (placed_all k o vs dictionary p.1 stand, stand_all k o vs dictionary p.1 stand, omega (arith, p.2, present_few vs))

-- the same of what a call returned
pub placed_found : (k : Kind) (vs : List Datum) (found : Option Indexed) → option_map (λ i. i.dictionary) found ≡ dictionary_of k vs
    → IfSome found (λ i. (o : Bool) → All (CanStand k o) vs → All (λ v. can_place i.dictionary o v ≡ true) vs)
placed_found k vs (Some i) is = λ o stand. (dictionaries_fit_all k o vs i.dictionary (sym is) stand).0
placed_found k vs None is = tt

pub stand_found : (k : Kind) (vs : List Datum) (found : Option Indexed) → option_map (λ i. i.dictionary) found ≡ dictionary_of k vs
    → All (CanStand k true) vs → IfSome found (λ i. All (CanStand k false) i.dictionary)
stand_found k vs (Some i) is stand = (dictionaries_fit_all k true vs i.dictionary (sym is) stand).1
stand_found k vs None is stand = tt
