-- What is written, piece by piece.
use Rattle.std.proofs.Common.{◌≡◌, ℕ, zero, suc, ◌+◌, ◌<◌, Bool, true, false, List, [], ◌∷◌, ◌++◌, length, take, drop, cond, unwrap_or, Option, Some, None, refl, sym, ap, ◌∙◌, arith, append_assoc, append-nil, length-append}
use Rattle.std.proofs.lemmas.List.Elements.{All-take, All-drop}
use Rattle.row_base.specs.declared.row.Datum.{Datum}
use Rattle.row_base.specs.declared.schema.Column.{Column}
use Rattle.row_base.specs.Schema.{TableSchema}
use Rattle.parquet_meta.specs.declared.meta.RowGroup.{RowGroup}
use Rattle.parquet_pages.specs.Places.{is_null, present, place_of, places_of, can_place}
use Rattle.parquet_plain.specs.Written.{page_of, pages_of, parts_of, page_values_most, AreIn, ArePlaces, group_text, groups_text, group_entry, group_entries, groups_of, group_rows_most}
use Rattle.parquet_plain.proofs.Parts.{parts_none, parts_more}

-- ---- pages

pub AreIn-take : (o : Option (List Datum)) (nullable : Bool) (n : ℕ) (vs : List Datum) → AreIn o nullable vs → AreIn o nullable (take n vs)
AreIn-take None nullable n vs h = tt
AreIn-take (Some ds) nullable n vs h = All-take (λ v. can_place ds nullable v ≡ true) n vs h

pub AreIn-drop : (o : Option (List Datum)) (nullable : Bool) (n : ℕ) (vs : List Datum) → AreIn o nullable vs → AreIn o nullable (drop n vs)
AreIn-drop None nullable n vs h = tt
AreIn-drop (Some ds) nullable n vs h = All-drop (λ v. can_place ds nullable v ≡ true) n vs h

-- the places of the first values, and those of the values behind them
places_first : (ds : List Datum) (n : ℕ) (vs : List Datum) → take (present (take n vs)) (places_of ds vs) ≡ places_of ds (take n vs)
places_first ds zero vs = refl
places_first ds (suc n) [] = refl
places_first ds (suc n) (v ∷ vs) = by_null (is_null v) (unwrap_or (place_of ds v) 0) (present (take n vs)) (places_of ds vs) (places_of ds (take n vs)) (places_first ds n vs)
  where
    by_null : (b : Bool) (p k : ℕ) (all first : List ℕ) → take k all ≡ first
        → take (cond b 0 1 + k) (cond b all (p ∷ all)) ≡ cond b first (p ∷ first)
    by_null true p k all first e = let same : 0 + k ≡ k = omega arith in ap (λ n. take n all) same ∙ e
    by_null false p k all first e = let more : 1 + k ≡ suc k = omega arith in ap (λ n. take n (p ∷ all)) more ∙ ap (λ (ps : List ℕ). p ∷ ps) e

places_later : (ds : List Datum) (n : ℕ) (vs : List Datum) → drop (present (take n vs)) (places_of ds vs) ≡ places_of ds (drop n vs)
places_later ds zero vs = refl
places_later ds (suc n) [] = refl
places_later ds (suc n) (v ∷ vs) = by_null (is_null v) (unwrap_or (place_of ds v) 0) (present (take n vs)) (places_of ds vs) (places_of ds (drop n vs)) (places_later ds n vs)
  where
    by_null : (b : Bool) (p k : ℕ) (all later : List ℕ) → drop k all ≡ later → drop (cond b 0 1 + k) (cond b all (p ∷ all)) ≡ later
    by_null true p k all later e = let same : 0 + k ≡ k = omega arith in ap (λ n. drop n all) same ∙ e
    by_null false p k all later e = let more : 1 + k ≡ suc k = omega arith in ap (λ n. drop n (p ∷ all)) more ∙ e

pub ArePlaces-take : (o : Option (List Datum)) (n : ℕ) (vs page : List Datum) (places here : List ℕ) → page ≡ take n vs → here ≡ take (present page) places
    → ArePlaces o vs places → ArePlaces o page here
ArePlaces-take None n vs page places here first e h = tt
ArePlaces-take (Some ds) n vs page places here first e h =
    e ∙ ap (λ (k : List Datum). take (present k) places) first ∙ ap (take (present (take n vs))) h ∙ places_first ds n vs ∙ ap (places_of ds) (sym first)

pub ArePlaces-drop : (o : Option (List Datum)) (n : ℕ) (vs page later : List Datum) (places behind : List ℕ) → page ≡ take n vs → later ≡ drop n vs
    → behind ≡ drop (present page) places → ArePlaces o vs places → ArePlaces o later behind
ArePlaces-drop None n vs page later places behind first rest e h = tt
ArePlaces-drop (Some ds) n vs page later places behind first rest e h =
    e ∙ ap (λ (k : List Datum). drop (present k) places) first ∙ ap (drop (present (take n vs))) h ∙ places_later ds n vs ∙ ap (places_of ds) (sym rest)

-- a page is written, and the pages of the values behind it are left
pub pages_step : (c : Column) (dictionary : Option (List Datum)) (old new : List ℕ) (rest page later : List Datum) → page ≡ take page_values_most rest → later ≡ drop page_values_most rest → 0 < length rest → new ≡ old ++ page_of c dictionary page
    → new ++ pages_of c dictionary (parts_of page_values_most later) ≡ old ++ pages_of c dictionary (parts_of page_values_most rest)
unfolding pages_of
pages_step c dictionary old new rest page later first behind some e =
    ap (λ t. t ++ pages_of c dictionary (parts_of page_values_most later)) e
    ∙ append_assoc old (page_of c dictionary page) (pages_of c dictionary (parts_of page_values_most later))
    ∙ ap (λ p. old ++ (page_of c dictionary p ++ pages_of c dictionary (parts_of page_values_most later))) first
    ∙ ap (λ r. old ++ (page_of c dictionary (take page_values_most rest) ++ pages_of c dictionary (parts_of page_values_most r))) behind
    ∙ ap (λ ps. old ++ pages_of c dictionary ps) (sym (parts_more page_values_most rest (omega arith) some))

pub pages_done : (c : Column) (dictionary : Option (List Datum)) (rest : List Datum) (old : List ℕ) → length rest ≡ 0
    → old ≡ old ++ pages_of c dictionary (parts_of page_values_most rest)
unfolding pages_of
pages_done c dictionary rest old e =
    sym (ap (λ ps. old ++ pages_of c dictionary ps) (parts_none page_values_most rest e) ∙ append-nil old)

-- ---- groups

pub groups_step : (s : TableSchema) (old new : List ℕ) (rest group later : List (List Datum)) → group ≡ take group_rows_most rest → later ≡ drop group_rows_most rest → 0 < length rest → new ≡ old ++ group_text s group
    → new ++ groups_text s (groups_of later) ≡ old ++ groups_text s (groups_of rest)
unfolding groups_text
groups_step s old new rest group later first behind some e =
    ap (λ t. t ++ groups_text s (groups_of later)) e
    ∙ append_assoc old (group_text s group) (groups_text s (groups_of later))
    ∙ ap (λ g. old ++ (group_text s g ++ groups_text s (groups_of later))) first
    ∙ ap (λ r. old ++ (group_text s (take group_rows_most rest) ++ groups_text s (groups_of r))) behind
    ∙ ap (λ gs. old ++ groups_text s gs) (sym (parts_more group_rows_most rest (omega arith) some))

pub groups_done : (s : TableSchema) (rest : List (List Datum)) (old : List ℕ) → length rest ≡ 0 → old ≡ old ++ groups_text s (groups_of rest)
unfolding groups_text
groups_done s rest old e = sym (ap (λ gs. old ++ groups_text s gs) (parts_none group_rows_most rest e) ∙ append-nil old)

pub entries_step : (s : TableSchema) (told more : List RowGroup) (old new : List ℕ) (rest group later : List (List Datum)) → group ≡ take group_rows_most rest → later ≡ drop group_rows_most rest → 0 < length rest → new ≡ old ++ group_text s group → more ≡ told ++ group_entry s (length old) group ∷ []
    → more ++ group_entries s (length new) (groups_of later) ≡ told ++ group_entries s (length old) (groups_of rest)
unfolding group_entries
entries_step s told more old new rest group later first behind some e m =
    let long : length new ≡ length old + length (group_text s group) = ap length e ∙ length-append old (group_text s group) in
    ap (λ x. x ++ group_entries s (length new) (groups_of later)) m
    ∙ append_assoc told (group_entry s (length old) group ∷ []) (group_entries s (length new) (groups_of later))
    ∙ ap (λ k. told ++ (group_entry s (length old) group ∷ group_entries s k (groups_of later))) long
    ∙ ap (λ g. told ++ (group_entry s (length old) g ∷ group_entries s (length old + length (group_text s g)) (groups_of later))) first
    ∙ ap (λ r. told ++ (group_entry s (length old) (take group_rows_most rest) ∷ group_entries s (length old + length (group_text s (take group_rows_most rest))) (groups_of r))) behind
    ∙ ap (λ gs. told ++ group_entries s (length old) gs) (sym (parts_more group_rows_most rest (omega arith) some))

pub entries_done : (s : TableSchema) (rest : List (List Datum)) (told : List RowGroup) (at : ℕ) → length rest ≡ 0 → told ≡ told ++ group_entries s at (groups_of rest)
unfolding group_entries
entries_done s rest told at e = sym (ap (λ gs. told ++ group_entries s at gs) (parts_none group_rows_most rest e) ∙ append-nil told)
