-- The lines of a text, one after another.
use Rattle.std.proofs.Common.{◌≡◌, ℕ, ◌+◌, ◌<◌, ◌≤◌, ◌==◌, Bool, true, false, cond, nat_lt, List, [], ◌∷◌, length, take, drop, Some, None, refl, subst, arith}
use Rattle.std.specs.List.{position, position_or_len}
use Rattle.std.proofs.lemmas.Bool.{ltb-true, ltb-false}
use Rattle.std.proofs.lemmas.List.Sums.{fails_before_first}
use Rattle.std.proofs.lemmas.List.Splits.{slice_split_none, slice_split_first}
use Rattle.json_lines.specs.Lines.{lines}

abbrev is_end : ℕ → Bool
is_end b = b == 10

some_of : {A : Type 0} (b : Bool) (x y : A) → Some y ≡ cond b (Some x) None → (b ≡ true) × (x ≡ y)
some_of true x y e = (refl, cc)
some_of false x y e = cc

none_of : {A : Type 0} (b : Bool) (x : A) → None ≡ cond b (Some x) None → b ≡ false
none_of true x e = cc
none_of false x e = refl

pub lines_at : (at : ℕ) (text : List ℕ) → Some at ≡ position is_end text → lines text ≡ take at text ∷ lines (drop (at + 1) text)
lines_at at text e =
    let p = some_of (nat_lt (position_or_len is_end text) (length text)) (position_or_len is_end text) at e in
    let within : position_or_len is_end text < length text = ltb-true (position_or_len is_end text) (length text) p.0 in
    let P : ℕ → Type 0 = λ n. lines text ≡ take n text ∷ lines (drop (n + 1) text) in
    subst P p.1 (slice_split_first is_end text 0 within)

pub lines_none : (text : List ℕ) → None ≡ position is_end text → lines text ≡ text ∷ []
lines_none text e =
    let far : length text ≤ position_or_len is_end text = ltb-false (position_or_len is_end text) (length text) (none_of (nat_lt (position_or_len is_end text) (length text)) (position_or_len is_end text) e) in
    slice_split_none is_end text (λ k d within. fails_before_first is_end text k d (omega arith))
