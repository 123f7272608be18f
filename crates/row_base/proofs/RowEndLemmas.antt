-- Rows, cut at their ends.
use Rattle.std.proofs.Common.{◌≡◌, ◌≢◌, ℕ, zero, suc, ◌+◌, ◌-◌, ◌<◌, ◌≤◌, List, [], ◌∷◌, ◌++◌, length, take, drop, get_or, map, refl, sym, ◌∙◌, ap, subst, arith, length-append, length-drop, length-take, zero-add, add-zero, append_assoc, Some, None}
use Rattle.std.proofs.lemmas.List.{take-append-le, drop-append-le, drop-drop, drop-take, take-take, take_all}
use Rattle.std.proofs.Math.Seq.{take-add}
use Rattle.std.specs.Prelude.{slice_get}
use Rattle.row_base.specs.RowEnds.{rows_from, AreEnds, place_of_row}

-- no end is past the last
pub ends_le : (at : ℕ) (es : List ℕ) (most : ℕ) → AreEnds at es most → at ≤ most
ends_le at [] most e = omega (arith, e)
ends_le at (e ∷ es) most (h, t) = omega (arith, h, ends_le e es most t)

pub ends_push : (at : ℕ) (es : List ℕ) (most more : ℕ) → AreEnds at es most → most ≤ more → AreEnds at (es ++ more ∷ []) more
ends_push at [] most more e le = (omega (arith, e, le), refl)
ends_push at (e ∷ es) most more (h, t) le = (h, ends_push e es most more t le)

pub length_rows_from : {A : Type 0} (at : ℕ) (es : List ℕ) (rest : List A) → length (rows_from at es rest) ≡ length es
length_rows_from at [] rest = refl
length_rows_from at (e ∷ es) rest = ap suc (length_rows_from e es (drop (e - at) rest))

-- one row more
pub rows_push : {A : Type 0} (at : ℕ) (es : List ℕ) (rest row : List A) (last : ℕ) → AreEnds at es (at + length rest) → last ≡ at + length rest + length row
    → rows_from at (es ++ last ∷ []) (rest ++ row) ≡ rows_from at es rest ++ row ∷ []
rows_push at [] [] row last e end = rw (take_all (last - at) row (omega (arith, end))) refl
rows_push at [] (x ∷ rest) row last e end = absurd (omega (arith, e))
rows_push at (e ∷ es) rest row last (h, t) end =
    let le : e - at ≤ length rest = omega (arith, h, ends_le e es (at + length rest) t) in
    let short : e + length (drop (e - at) rest) ≡ at + length rest = omega (arith, le, h, length-drop (e - at) rest) in
    let later = rows_push e es (drop (e - at) rest) row last (subst (AreEnds e es) (sym short) t) (omega (arith, end, short)) in
    rw (take-append-le (e - at) rest row le, drop-append-le (e - at) rest row le, later) refl

-- the same, as a push leaves the fields
pub ends_after : {A : Type 0} (es : List ℕ) (rest row : List A) (last : ℕ) → AreEnds 0 es (length rest) → last ≡ length (rest ++ row)
    → AreEnds 0 (es ++ last ∷ []) (length (rest ++ row))
ends_after es rest row last e end = rw (end) (ends_push 0 es (length rest) (length (rest ++ row)) e (omega (arith, length-append rest row)))

pub rows_after : {A : Type 0} (es : List ℕ) (rest row : List A) (last : ℕ) → AreEnds 0 es (length rest) → last ≡ length (rest ++ row)
    → rows_from 0 (es ++ last ∷ []) (rest ++ row) ≡ rows_from 0 es rest ++ row ∷ []
rows_after es rest row last e end =
    rows_push 0 es rest row last (rw (zero-add (length rest)) e) (omega (arith, end, length-append rest row))

pub ends_take : (n at : ℕ) (es : List ℕ) (most : ℕ) → n ≤ length es → AreEnds at es most → AreEnds at (take n es) (place_of_row at es n)
ends_take zero at es most le e = refl
ends_take (suc n) at [] most le e = absurd (omega (arith, le))
ends_take (suc n) at (e ∷ es) most le (h, t) = (h, ends_take n e es most (omega (arith, le)) t)

pub ends_drop : (n at : ℕ) (es : List ℕ) (most : ℕ) → n ≤ length es → AreEnds at es most → AreEnds (place_of_row at es n) (drop n es) most
ends_drop zero at es most le e = e
ends_drop (suc n) at [] most le e = absurd (omega (arith, le))
ends_drop (suc n) at (e ∷ es) most le (h, t) = ends_drop n e es most (omega (arith, le)) t

-- a place is between the first and the last
pub place_from : (n at : ℕ) (es : List ℕ) (most : ℕ) → n ≤ length es → AreEnds at es most → at ≤ place_of_row at es n
place_from n at es most le e = ends_le at (take n es) (place_of_row at es n) (ends_take n at es most le e)

pub place_to : (n at : ℕ) (es : List ℕ) (most : ℕ) → n ≤ length es → AreEnds at es most → place_of_row at es n ≤ most
place_to n at es most le e = ends_le (place_of_row at es n) (drop n es) most (ends_drop n at es most le e)

-- the rows from a number on
pub rows_drop : {A : Type 0} (n at : ℕ) (es : List ℕ) (rest : List A) (most : ℕ) → n ≤ length es → AreEnds at es most
    → drop n (rows_from at es rest) ≡ rows_from (place_of_row at es n) (drop n es) (drop (place_of_row at es n - at) rest)
rows_drop zero at es rest most le e = let none : at - at ≡ 0 = omega arith in rw none refl
rows_drop (suc n) at [] rest most le e = absurd (omega (arith, le))
rows_drop {A = A} (suc n) at (e ∷ es) rest most le (h, t) =
    let p = place_of_row e es n in
    let low : e ≤ p = place_from n e es most (omega (arith, le)) t in
    let same : (e - at) + (p - e) ≡ p - at = omega (arith, h, low) in
    rows_drop n e es (drop (e - at) rest) most (omega (arith, le)) t
    ∙ ap (λ (xs : List A). rows_from p (drop n es) xs) (drop-drop (p - e) (e - at) rest ∙ ap (λ k. drop k rest) same)

-- the first rows
pub rows_take : {A : Type 0} (n at : ℕ) (es : List ℕ) (rest : List A) (most : ℕ) → n ≤ length es → AreEnds at es most
    → take n (rows_from at es rest) ≡ rows_from at (take n es) (take (place_of_row at es n - at) rest)
rows_take zero at es rest most le e = refl
rows_take (suc n) at [] rest most le e = absurd (omega (arith, le))
rows_take {A = A} (suc n) at (e ∷ es) rest most le (h, t) =
    let p = place_of_row e es n in
    let low : e ≤ p = place_from n e es most (omega (arith, le)) t in
    let same : (e - at) + (p - e) ≡ p - at = omega (arith, h, low) in
    let here : take (e - at) rest ≡ take (e - at) (take (p - at) rest) = sym (take-take (e - at) (p - at) rest (omega (arith, same))) in
    let later : take (p - e) (drop (e - at) rest) ≡ drop (e - at) (take (p - at) rest)
    = sym (drop-take (e - at) (p - e) rest) ∙ ap (λ k. drop (e - at) (take k rest)) same in
    rw (rows_take n e es (drop (e - at) rest) most (omega (arith, le)) t, later, here) refl

-- a row by its number
pub row_get : {A : Type 0} (i at : ℕ) (es : List ℕ) (rest : List A) (most : ℕ) → i < length es → AreEnds at es most
    → slice_get (rows_from at es rest) i ≡ Some (take (get_or es i 0 - place_of_row at es i) (drop (place_of_row at es i - at) rest))
row_get zero at [] rest most lt e = absurd (omega (arith, lt))
row_get zero at (e ∷ es) rest most lt (h, t) = let none : at - at ≡ 0 = omega arith in rw none refl
row_get (suc i) at [] rest most lt e = absurd (omega (arith, lt))
row_get {A = A} (suc i) at (e ∷ es) rest most lt (h, t) =
    let p = place_of_row e es i in
    let low : e ≤ p = place_from i e es most (omega (arith, lt)) t in
    let same : (e - at) + (p - e) ≡ p - at = omega (arith, h, low) in
    row_get i e es (drop (e - at) rest) most (omega (arith, lt)) t
    ∙ ap (λ (xs : List A). Some (take (get_or es i 0 - p) xs)) (drop-drop (p - e) (e - at) rest ∙ ap (λ k. drop k rest) same)

-- rows whose ends are each so much further on
pub rows_by : {A : Type 0} (by at : ℕ) (es : List ℕ) (rest : List A) → rows_from (by + at) (map (λ e. by + e) es) rest ≡ rows_from at es rest
rows_by by at [] rest = refl
rows_by by at (e ∷ es) rest =
    let same : by + e - (by + at) ≡ e - at = omega arith in
    rw (same, rows_by by e es (drop (e - at) rest)) refl

pub ends_by : (by at : ℕ) (es : List ℕ) (most : ℕ) → AreEnds at es most → AreEnds (by + at) (map (λ e. by + e) es) (by + most)
ends_by by at [] most e = omega (arith, e)
ends_by by at (e ∷ es) most (h, t) = (omega (arith, h), ends_by by e es most t)

pub ends_append : (at : ℕ) (es fs : List ℕ) (mid most : ℕ) → AreEnds at es mid → AreEnds mid fs most → AreEnds at (es ++ fs) most
ends_append at [] fs mid most e f = rw e f
ends_append at (e ∷ es) fs mid most (h, t) f = (h, ends_append e es fs mid most t f)

-- rows, and others behind them
pub rows_append : {A : Type 0} (at : ℕ) (es fs : List ℕ) (rest more : List A) → AreEnds at es (at + length rest)
    → rows_from at (es ++ fs) (rest ++ more) ≡ rows_from at es rest ++ rows_from (at + length rest) fs more
rows_append at [] fs [] more e = let same : at + 0 ≡ at = omega arith in rw same refl
rows_append at [] fs (x ∷ rest) more e = absurd (omega (arith, e))
rows_append at (e ∷ es) fs rest more (h, t) =
    let le : e - at ≤ length rest = omega (arith, h, ends_le e es (at + length rest) t) in
    let short : e + length (drop (e - at) rest) ≡ at + length rest = omega (arith, le, h, length-drop (e - at) rest) in
    let later = rows_append e es fs (drop (e - at) rest) more (subst (AreEnds e es) (sym short) t) in
    rw (take-append-le (e - at) rest more le, drop-append-le (e - at) rest more le, later, short) refl

-- the row that comes first is within the data
pub first_within : {A : Type 0} (at e : ℕ) (es ends : List ℕ) (rest : List A) → AreEnds at ends (at + length rest) → ends ≡ e ∷ es → e - at ≤ length rest
first_within at e es ends rest h same =
    let both : AreEnds at (e ∷ es) (at + length rest) = subst (λ (xs : List ℕ). AreEnds at xs (at + length rest)) same h in
    omega (arith, both.0, ends_le e es (at + length rest) both.1)

pub place_up : (i at : ℕ) (es : List ℕ) (most : ℕ) → i < length es → AreEnds at es most → place_of_row at es i ≤ place_of_row at es (suc i)
place_up zero at [] most lt e = absurd (omega (arith, lt))
place_up zero at (e ∷ es) most lt (h, t) = h
place_up (suc i) at [] most lt e = absurd (omega (arith, lt))
place_up (suc i) at (e ∷ es) most lt (h, t) = place_up i e es most (omega (arith, lt)) t

pub place_before : (n at : ℕ) (es : List ℕ) → n ≢ 0 → place_of_row at es n ≡ get_or es (n - 1) 0
place_before zero at es some = absurd (some refl)
place_before (suc n) at es some = let same : suc n - 1 ≡ n = omega arith in rw same refl

pub count_within : {A : Type 0} (n at : ℕ) (es : List ℕ) (rest : List A) (now : List (List A)) → n ≤ length now → rows_from at es rest ≡ now → n ≤ length es
count_within n at es rest now le same = omega (arith, le, length_rows_from at es rest, ap length same)

-- no end is past the last, by its number
pub ends_each : (at : ℕ) (es : List ℕ) (most : ℕ) → AreEnds at es most → (k d : ℕ) → k < length es → get_or es k d ≤ most
ends_each at [] most e k d lt = absurd (omega (arith, lt))
ends_each at (e ∷ es) most (h, t) zero d lt = ends_le e es most t
ends_each at (e ∷ es) most (h, t) (suc k) d lt = ends_each e es most t k d (omega (arith, lt))

no_row : {X : Type 0} (xs : List X) (i : ℕ) → length xs ≤ i → slice_get xs i ≡ None
no_row [] i le = refl
no_row (x ∷ xs) zero le = absurd (omega (arith, le))
no_row (x ∷ xs) (suc i) le = no_row xs i (omega (arith, le))

pub row_past : {A : Type 0} (i at : ℕ) (es : List ℕ) (rest : List A) → length es ≤ i → slice_get (rows_from at es rest) i ≡ None
row_past i at es rest le = no_row (rows_from at es rest) i (omega (arith, le, length_rows_from at es rest))

-- what the ends of the first rows and of the later ones are ends of
pub ends_front : {A : Type 0} (n at : ℕ) (es : List ℕ) (rest : List A) (place : ℕ) → n ≤ length es → AreEnds at es (at + length rest) → place ≡ place_of_row at es n
    → at ≤ place → place ≤ at + length rest → AreEnds at (take n es) (at + length (take (place - at) rest))
ends_front n at es rest place le e same low high =
    let size : at + length (take (place - at) rest) ≡ place_of_row at es n = omega (arith, length-take (place - at) rest, low, high, same) in
    subst (AreEnds at (take n es)) (sym size) (ends_take n at es (at + length rest) le e)

pub ends_back : {A : Type 0} (n at : ℕ) (es : List ℕ) (rest : List A) (place : ℕ) → n ≤ length es → AreEnds at es (at + length rest) → place ≡ place_of_row at es n
    → at ≤ place → place ≤ at + length rest → AreEnds place (drop n es) (place + length (drop (place - at) rest))
ends_back n at es rest place le e same low high =
    let size : place + length (drop (place - at) rest) ≡ at + length rest = omega (arith, length-drop (place - at) rest, low, high) in
    subst (AreEnds place (drop n es)) (sym size) (rw same (ends_drop n at es (at + length rest) le e))

-- rows, and others behind them, as an append leaves the fields
pub ends_joined : {A : Type 0} (es fs : List ℕ) (rest more : List A) (by : ℕ) → AreEnds 0 es (length rest) → AreEnds 0 fs (length more) → by ≡ length rest
    → AreEnds 0 (es ++ map (λ e. by + e) fs) (length (rest ++ more))
ends_joined es fs rest more by e f same =
    let later : AreEnds by (map (λ e. by + e) fs) (by + length more) = rw (add-zero by) at (ends_by by 0 fs (length more) f) in
    let size : length (rest ++ more) ≡ by + length more = omega (arith, same, length-append rest more) in
    rw size (ends_append 0 es (map (λ e. by + e) fs) by (by + length more) (rw same e) later)

pub rows_joined : {A : Type 0} (es fs : List ℕ) (rest more : List A) (by : ℕ) → AreEnds 0 es (length rest) → by ≡ length rest
    → rows_from 0 (es ++ map (λ e. by + e) fs) (rest ++ more) ≡ rows_from 0 es rest ++ rows_from 0 fs more
rows_joined {A = A} es fs rest more by e same =
    let from : 0 + length rest ≡ by + 0 = omega (arith, same) in
    rows_append 0 es (map (λ e. by + e) fs) rest more (rw (zero-add (length rest)) e)
    ∙ ap (λ k. rows_from 0 es rest ++ rows_from k (map (λ e. by + e) fs) more) from
    ∙ ap (λ (xs : List (List A)). rows_from 0 es rest ++ xs) (rows_by by 0 fs more)

-- ---- rows that are handed out

pub moved_more : {A : Type 0} (n : ℕ) (front rest left row after : List A) → row ≡ front ++ take n rest → left ≡ drop n rest → after ≡ row ++ take 1 left
    → after ≡ front ++ take (n + 1) rest
moved_more n front rest left row after so_far at more =
    more ∙ rw (so_far, at) refl ∙ append_assoc front (take n rest) (take 1 (drop n rest)) ∙ rw (take-add n 1 rest) refl

pub left_more : {A : Type 0} (n : ℕ) (rest left after : List A) → left ≡ drop n rest → after ≡ drop 1 left → after ≡ drop (n + 1) rest
left_more n rest left after at more = more ∙ rw at refl ∙ drop-drop 1 n rest

-- the row that comes first, and what is left behind it
pub record FirstRow {A : Type 0} (at e : ℕ) (ends : List ℕ) (rest : List A) : Type 0 where
  pub up : at ≤ e
  pub later : AreEnds e (drop 1 ends) (e + length (drop (e - at) rest))
  pub rows : rows_from at ends rest ≡ take (e - at) rest ∷ rows_from e (drop 1 ends) (drop (e - at) rest)

pub first_row : {A : Type 0} (at e : ℕ) (ends : List ℕ) (rest : List A) → slice_get ends 0 ≡ Some e → AreEnds at ends (at + length rest) → FirstRow at e ends rest
first_row at e [] rest first h = absurd cc
first_row at e (x ∷ es) rest first h = subst (λ k. FirstRow at k (x ∷ es) rest) (inside first) (by h)
  where
    inside : Some x ≡ Some e → x ≡ e
    inside same = cc

    by : AreEnds at (x ∷ es) (at + length rest) → FirstRow at x (x ∷ es) rest
    by (up, later) =
        let le : x - at ≤ length rest = omega (arith, up, ends_le x es (at + length rest) later) in
        let short : x + length (drop (x - at) rest) ≡ at + length rest = omega (arith, le, up, length-drop (x - at) rest) in
        record { up = up; later = subst (AreEnds x es) (sym short) later; rows = refl }
