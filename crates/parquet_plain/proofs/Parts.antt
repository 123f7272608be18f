-- Parts of a list.
use Rattle.std.proofs.Common.{◌≡◌, ℕ, zero, suc, ◌<◌, ◌≤◌, List, [], ◌∷◌, length, take, drop, min, refl, sym, ap, ◌∙◌, arith}
use Rattle.std.proofs.Common.{length-drop, Bool, true, false, ◌==◌}
use Rattle.std.proofs.lemmas.Bool.{true≢false, eqb-true}
use Rattle.parquet_plain.specs.Written.{parts_in, parts_of}

-- a bound above the number of elements is none
parts_bound : {A : Type 0} (size m n : ℕ) (xs : List A) → 0 < size → length xs ≤ m → length xs ≤ n → parts_in size m xs ≡ parts_in size n xs
unfolding parts_in
parts_bound size zero zero xs some a b = refl
parts_bound size zero (suc n) [] some a b = refl
parts_bound size zero (suc n) (x ∷ xs) some a b = absurd (omega arith)
parts_bound size (suc m) zero [] some a b = refl
parts_bound size (suc m) zero (x ∷ xs) some a b = absurd (omega arith)
parts_bound size (suc m) (suc n) [] some a b = refl
parts_bound size (suc m) (suc n) (x ∷ xs) some a b =
    ap (λ r. take size (x ∷ xs) ∷ r)
    (parts_bound size m n (drop size (x ∷ xs)) some (omega (arith, length-drop size (x ∷ xs))) (omega (arith, length-drop size (x ∷ xs))))

pub parts_none : {A : Type 0} (size : ℕ) (xs : List A) → length xs ≡ 0 → parts_of size xs ≡ []
unfolding parts_of parts_in
parts_none size [] e = refl
parts_none size (x ∷ xs) e = absurd (omega arith)

-- the first part, and the parts of what is behind it
pub parts_more : {A : Type 0} (size : ℕ) (xs : List A) → 0 < size → 0 < length xs → parts_of size xs ≡ take size xs ∷ parts_of size (drop size xs)
unfolding parts_of parts_in
parts_more size [] some e = absurd (omega arith)
parts_more size (x ∷ xs) some e =
    ap (λ r. take size (x ∷ xs) ∷ r)
    (parts_bound size (length xs) (length (drop size (x ∷ xs))) (drop size (x ∷ xs)) some (omega (arith, length-drop size (x ∷ xs))) (omega arith))

pub take_min : {A : Type 0} (size : ℕ) (xs : List A) → take (min (length xs) size) xs ≡ take size xs
take_min zero xs = let e : min (length xs) 0 ≡ 0 = omega arith in ap (λ n. take n xs) e
take_min (suc size) [] = let e : min 0 (suc size) ≡ 0 = omega arith in ap (λ n. take n []) e
take_min (suc size) (x ∷ xs) =
    let e : min (suc (length xs)) (suc size) ≡ suc (min (length xs) size) = omega arith in
    ap (λ n. take n (x ∷ xs)) e ∙ ap (λ r. x ∷ r) (take_min size xs)

pub drop_min : {A : Type 0} (size : ℕ) (xs : List A) → drop (min (length xs) size) xs ≡ drop size xs
drop_min zero xs = let e : min (length xs) 0 ≡ 0 = omega arith in ap (λ n. drop n xs) e
drop_min (suc size) [] = let e : min 0 (suc size) ≡ 0 = omega arith in ap (λ n. drop n []) e
drop_min (suc size) (x ∷ xs) =
    let e : min (suc (length xs)) (suc size) ≡ suc (min (length xs) size) = omega arith in
    ap (λ n. drop n (x ∷ xs)) e ∙ drop_min size xs

pub some_left : {A : Type 0} (b : Bool) (xs : List A) → b ≡ (length xs == 0) → b ≡ false → 0 < length xs
some_left b [] e f = absurd (true≢false (sym e ∙ f))
some_left b (x ∷ xs) e f = omega arith

pub none_left : {A : Type 0} (b : Bool) (xs : List A) → b ≡ (length xs == 0) → b ≡ true → length xs ≡ 0
none_left b xs e f = eqb-true (length xs) 0 (sym e ∙ f)

pub take_length : {A : Type 0} (xs : List A) → take (length xs) xs ≡ xs
take_length [] = refl
take_length (x ∷ xs) = ap (λ r. x ∷ r) (take_length xs)
