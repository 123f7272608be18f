-- Steps of a cut, over any list seen by a function.
use Rattle.std.proofs.Common.{◌≡◌, ℕ, ◌<◌, ◌≤◌, ◌+◌, Bool, true, false, List, [], ◌∷◌, ◌++◌, map, length, take, drop, get_or, refl, sym, ap, ◌∙◌, arith}
use Rattle.std.proofs.lemmas.List.{drop_more, map_more, drop_all}
use Rattle.row_base.specs.declared.row.Datum.{Datum}
use Rattle.write_files.specs.Pieces.{cut, cut_after, row_size, rows_size}

module _ {A Y : Type 0} (f : Y → A) (goes : List A → A → Bool) where
  goes_by : (b : Bool) (part : List A) (x : A) (xs : List A) → goes part x ≡ b → b ≡ true → cut_after goes part (x ∷ xs) ≡ cut_after goes (part ++ x ∷ []) xs
  unfolding cut_after
  goes_by b part x xs e t = rw (e ∙ t) refl

  stops_by : (part : List A) (x : A) (xs : List A) → goes part x ≡ false → cut_after goes part (x ∷ xs) ≡ part ∷ cut goes (x ∷ xs)
  unfolding cut_after cut
  stops_by part x xs e = rw e refl

  -- an element that goes with those before it
  pub more : (ys : List Y) (i : ℕ) (d : Y) → i < length ys → goes (map f (take i ys)) (f (get_or ys i d)) ≡ true
      → cut_after goes (map f (take (i + 1) ys)) (map f (drop (i + 1) ys)) ≡ cut_after goes (map f (take i ys)) (map f (drop i ys))
  more ys i d lt e =
      ap (λ p. cut_after goes p (map f (drop (i + 1) ys))) (map_more f ys i d lt)
      ∙ sym (goes_by true (map f (take i ys)) (f (get_or ys i d)) (map f (drop (i + 1) ys)) e refl)
      ∙ ap (λ l. cut_after goes (map f (take i ys)) (map f l)) (sym (drop_more ys i d lt))

  -- one that doesn't
  pub stop : (ys : List Y) (i : ℕ) (d : Y) → i < length ys → goes (map f (take i ys)) (f (get_or ys i d)) ≡ false
      → cut_after goes (map f (take i ys)) (map f (drop i ys)) ≡ map f (take i ys) ∷ cut goes (map f (drop i ys))
  stop ys i d lt e =
      ap (λ l. cut_after goes (map f (take i ys)) (map f l)) (drop_more ys i d lt)
      ∙ stops_by (map f (take i ys)) (f (get_or ys i d)) (map f (drop (i + 1) ys)) e
      ∙ ap (λ l. map f (take i ys) ∷ cut goes (map f l)) (sym (drop_more ys i d lt))

  -- there is none left
  pub ends : (ys : List Y) (i : ℕ) → length ys ≤ i → cut_after goes (map f (take i ys)) (map f (drop i ys)) ≡ map f (take i ys) ∷ cut goes (map f (drop i ys))
  unfolding cut_after cut
  ends ys i le = rw (drop_all i ys le) refl

  -- the first
  pub begins : (ys : List Y) → 0 < length ys → cut_after goes (map f (take 1 ys)) (map f (drop 1 ys)) ≡ cut goes (map f ys)
  unfolding cut
  begins [] lt = absurd (omega arith)
  begins (y ∷ ys) lt = refl

pub rows_size_push : (rows : List (List Datum)) (r : List Datum) → rows_size (rows ++ r ∷ []) ≡ rows_size rows + row_size r
rows_size_push [] r = omega arith
rows_size_push (x ∷ xs) r = omega (arith, rows_size_push xs r)
