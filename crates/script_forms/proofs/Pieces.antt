-- The first line of some bytes.
use Rattle.std.proofs.Common.{◌≡◌, ℕ, suc, ◌+◌, ◌<◌, List, [], ◌∷◌, length, take, drop, refl, ap, arith, inl, inr}
use Rattle.std.specs.List.{prefix_len}
use Rattle.std.proofs.lemmas.Bool.Decides.{eqb_tells}
use Rattle.script_forms.specs.Scripts.{cons_first, pieces, is_inside}

one_add : (n : ℕ) → 1 + n ≡ suc n
one_add n = omega arith

inside : (b : ℕ) (bs : List ℕ) → (0 < length bs → pieces bs ≡ take (prefix_len is_inside bs) bs ∷ pieces (drop 1 (drop (prefix_len is_inside bs) bs))) → cons_first b (pieces bs) ≡ (b ∷ take (prefix_len is_inside bs) bs) ∷ pieces (drop 1 (drop (prefix_len is_inside bs) bs))
unfolding pieces
inside b [] h = refl
inside b (c ∷ bs) h = ap (cons_first b) (h (omega arith))

pub cut : (bs : List ℕ) → 0 < length bs → pieces bs ≡ take (prefix_len is_inside bs) bs ∷ pieces (drop 1 (drop (prefix_len is_inside bs) bs))
unfolding pieces
cut [] lt = absurd (omega arith)
cut (b ∷ bs) lt = elim (eqb_tells b 10) [
  | inl h ↦ rw h.0 refl
  | inr h ↦ rw (h.0, one_add (prefix_len is_inside bs)) (inside b bs (cut bs))
]

pub no_pieces : (bs : List ℕ) → length bs ≡ 0 → pieces bs ≡ []
unfolding pieces
no_pieces [] h = refl
no_pieces (b ∷ bs) h = absurd (omega arith)
