-- Runs of bytes, and tests.
use Rattle.std.proofs.Common.{◌≡◌, ℕ, suc, ◌+◌, ◌<◌, Bool, true, false, cond, List, [], ◌∷◌, ◌++◌, length, take, Option, Some, None, refl, arith, inl, inr}
use Rattle.std.specs.Prelude.{◌==◌, ◌||◌, ◌&&◌, ◌⊎◌, not}
use Rattle.std.specs.List.{prefix_len}
use Rattle.std.specs.Str.{all_ascii_digits}
use Rattle.std.proofs.lemmas.Bool.Decides.{nat_tests}
use Rattle.script_tokens.specs.Words.{is_letter, is_word_byte, is_digit, is_boundary}
use Rattle.row_base.specs.Readings.{◌>>=◌}

pub some_is : {A : Type 0} (x y : A) → Some x ≡ Some y → x ≡ y
some_is x y e = cc

pub bind_some : {A B : Type 0} (o : Option A) (f : A → Option B) (y : B) → (o >>= f) ≡ Some y → (x : A) × (o ≡ Some x) × (f x ≡ Some y)
bind_some (Some x) f y e = (x, refl, e)
bind_some None f y e = absurd cc

pub cond_some : {A : Type 0} (c : Bool) (x y : Option A) (z : A) → cond c x y ≡ Some z → ((c ≡ true) × (x ≡ Some z)) ⊎ ((c ≡ false) × (y ≡ Some z))
cond_some true x y z h = inl (refl, h)
cond_some false x y z h = inr (refl, h)

pub guarded : {A : Type 0} (c : Bool) (x : Option A) (z : A) → cond c x None ≡ Some z → (c ≡ true) × (x ≡ Some z)
guarded true x z h = (refl, h)
guarded false x z h = absurd cc

pub and_true : (x y : Bool) → (x && y) ≡ true → (x ≡ true) × (y ≡ true)
and_true true y h = (refl, h)
and_true false y h = absurd cc

pub or_false : (x y : Bool) → (x || y) ≡ false → (x ≡ false) × (y ≡ false)
or_false false y h = (refl, h)
or_false true y h = absurd cc

pub not_true : (x : Bool) → not x ≡ true → x ≡ false
not_true false h = refl
not_true true h = absurd cc

pub Bool_tells : (c : Bool) → (c ≡ true) ⊎ (c ≡ false)
Bool_tells true = inl refl
Bool_tells false = inr refl

pub one_add : (n : ℕ) → 1 + n ≡ suc n
one_add n = omega arith

cond_suc : (c : Bool) (m n : ℕ) → cond c (1 + m) 0 ≡ suc n → (c ≡ true) × (m ≡ n)
cond_suc true m n h = (refl, omega arith)
cond_suc false m n h = absurd (omega arith)

-- a run that all of w is goes on to its end, where none begins behind it
pub runs : (p : ℕ → Bool) (w rest : List ℕ) → prefix_len p w ≡ length w → prefix_len p rest ≡ 0 → prefix_len p (w ++ rest) ≡ length w
runs p [] rest h g = g
runs p (b ∷ w) rest h g =
    let k = cond_suc (p b) (prefix_len p w) (length w) h in
    rw k.0 (omega (arith, runs p w rest k.1 g))

pub first_of_run : (p : ℕ → Bool) (b : ℕ) (w : List ℕ) → prefix_len p (b ∷ w) ≡ length (b ∷ w) → p b ≡ true
first_of_run p b w h = (cond_suc (p b) (prefix_len p w) (length w) h).0

pub run_is_run : (p : ℕ → Bool) (bs : List ℕ) → prefix_len p (take (prefix_len p bs) bs) ≡ length (take (prefix_len p bs) bs)
run_is_run p [] = refl
run_is_run p (b ∷ bs) = elim (Bool_tells (p b)) [
  | inl h ↦ rw (h, one_add (prefix_len p bs)) (rw h (omega (arith, run_is_run p bs)))
  | inr h ↦ rw h refl
]

pub begins_run : (p : ℕ → Bool) (b : ℕ) (bs : List ℕ) → p b ≡ true → 0 < prefix_len p (b ∷ bs)
begins_run p b bs h = rw h (omega arith)

gap_parts : (b : ℕ) → not (is_word_byte b || (b == 39)) ≡ true → (is_word_byte b ≡ false) × (is_digit b ≡ false) × ((b == 39) ≡ false)
gap_parts b h =
    let k = or_false (is_word_byte b) (b == 39) (not_true _ h) in
    let d = or_false (is_letter b) (is_digit b) k.0 in
    (k.0, d.1, k.1)

pub gap_no_word : (bs : List ℕ) → is_boundary bs ≡ true → prefix_len is_word_byte bs ≡ 0
gap_no_word [] h = refl
gap_no_word (b ∷ bs) h = rw (gap_parts b h).0 refl

pub gap_no_digit : (bs : List ℕ) → is_boundary bs ≡ true → prefix_len is_digit bs ≡ 0
gap_no_digit [] h = refl
gap_no_digit (b ∷ bs) h = rw (gap_parts b h).1 refl

pub run_of_digits : (bs : List ℕ) → prefix_len is_digit bs ≡ length bs → all_ascii_digits bs ≡ true
run_of_digits [] h = refl
run_of_digits (b ∷ bs) h =
    let k = cond_suc (is_digit b) (prefix_len is_digit bs) (length bs) h in
    rw k.0 (run_of_digits bs k.1)

pub letter_no_space : (b : ℕ) → is_letter b ≡ true → (b == 32) ≡ false
letter_no_space b h = grind (arith, nat_tests)

pub digit_no_space : (b : ℕ) → is_digit b ≡ true → (b == 32) ≡ false
digit_no_space b h = grind (arith, nat_tests)

pub digit_no_letter : (b : ℕ) → is_digit b ≡ true → is_letter b ≡ false
digit_no_letter b h = grind (arith, nat_tests)
