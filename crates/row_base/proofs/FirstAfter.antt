-- The first element that is wrong after those before it: a loop's steps, and what it says.
use Rattle.std.proofs.Common.{◌≡◌, ℕ, zero, suc, ◌+◌, ◌<◌, ◌≤◌, Bool, true, false, cond, List, [], ◌∷◌, ◌++◌, length, get_or, take, drop, Some, None, refl, sym, ◌∙◌, ap, subst, arith, append-nil, append_assoc, length-append, add-zero, zero-add}
use Rattle.std.proofs.lemmas.List.{drop_more, take_more, drop_all, length-take-le}
use Rattle.row_base.specs.Schema.{first_after, IsFirstWrong}

pub inside : {A : Type 0} {x y : A} → Some x ≡ Some y → x ≡ y
inside e = cc

module _ {A : Type 0} (wrong : List A → A → Bool) where
  -- the loop goes on
  pub first_after-more : (xs : List A) (i : ℕ) (d : A) → i < length xs → wrong (take i xs) (get_or xs i d) ≡ false
      → first_after wrong (take i xs) (drop i xs) ≡ first_after wrong (take (i + 1) xs) (drop (i + 1) xs)
  first_after-more xs i d h right =
      ap (first_after wrong (take i xs)) (drop_more xs i d h)
      ∙ ap (λ b. cond b (Some (length (take i xs), get_or xs i d)) (first_after wrong (take i xs ++ get_or xs i d ∷ []) (drop (i + 1) xs))) right
      ∙ ap (λ before. first_after wrong before (drop (i + 1) xs)) (sym (take_more xs i d h))

  -- the loop ends here
  pub first_after-here : (xs : List A) (i : ℕ) (d : A) → i < length xs → wrong (take i xs) (get_or xs i d) ≡ true
      → first_after wrong (take i xs) (drop i xs) ≡ Some (i, get_or xs i d)
  first_after-here xs i d h bad =
      ap (first_after wrong (take i xs)) (drop_more xs i d h)
      ∙ ap (λ b. cond b (Some (length (take i xs), get_or xs i d)) (first_after wrong (take i xs ++ get_or xs i d ∷ []) (drop (i + 1) xs))) bad
      ∙ ap (λ n. Some (n, get_or xs i d)) (length-take-le i xs (omega arith))

  -- the loop finds none
  pub first_after-end : (xs : List A) (i : ℕ) → length xs ≤ i → first_after wrong (take i xs) (drop i xs) ≡ None
  first_after-end xs i h = ap (first_after wrong (take i xs)) (drop_all i xs h)

  -- none is wrong exactly where each is right after those before it
  pub first_after-None : (before xs : List A) → first_after wrong before xs ≡ None → (i : ℕ) (d : A) → i < length xs → wrong (before ++ take i xs) (get_or xs i d) ≡ false
  first_after-None before [] e i d h = absurd (omega arith)
  first_after-None before (x ∷ xs) e i d h = by (wrong before x) refl e (first_after-None (before ++ x ∷ []) xs) i h
    where
      by : (b : Bool) → wrong before x ≡ b → cond b (Some (length before, x)) (first_after wrong (before ++ x ∷ []) xs) ≡ None
          → (first_after wrong (before ++ x ∷ []) xs ≡ None → (i : ℕ) (d : A) → i < length xs → wrong ((before ++ x ∷ []) ++ take i xs) (get_or xs i d) ≡ false)
          → (i : ℕ) → i < suc (length xs) → wrong (before ++ take i (x ∷ xs)) (get_or (x ∷ xs) i d) ≡ false
      by true r q rest i h = cc
      by false r q rest zero h = ap (λ ys. wrong ys x) (append-nil before) ∙ r
      by false r q rest (suc j) h = ap (λ ys. wrong ys (get_or xs j d)) (sym (append_assoc before (x ∷ []) (take j xs))) ∙ rest q j d (omega arith)

  pub first_after-none : (before xs : List A) → ((i : ℕ) (d : A) → i < length xs → wrong (before ++ take i xs) (get_or xs i d) ≡ false) → first_after wrong before xs ≡ None
  first_after-none before [] right = refl
  first_after-none before (x ∷ xs) right =
      let here : wrong before x ≡ false = ap (λ ys. wrong ys x) (sym (append-nil before)) ∙ right 0 x (omega arith) in
      let rest = first_after-none (before ++ x ∷ []) xs (λ i d h. ap (λ ys. wrong ys (get_or xs i d)) (append_assoc before (x ∷ []) (take i xs)) ∙ right (suc i) d (omega arith)) in
      ap (λ b. cond b (Some (length before, x)) (first_after wrong (before ++ x ∷ []) xs)) here ∙ rest

  -- what is found is the first that is wrong
  record Found (before xs : List A) (k : ℕ) (x : A) : Type 0 where
    place : ℕ
    at : k ≡ length before + place
    within : place < length xs
    is : (d : A) → get_or xs place d ≡ x
    here : wrong (before ++ take place xs) x ≡ true
    right : (j : ℕ) (d : A) → j < place → wrong (before ++ take j xs) (get_or xs j d) ≡ false

  first_after-Some : (before xs : List A) (k : ℕ) (x : A) → first_after wrong before xs ≡ Some (k, x) → Found before xs k x
  first_after-Some before [] k x e = cc
  first_after-Some before (y ∷ xs) k x e = by (wrong before y) refl e (first_after-Some (before ++ y ∷ []) xs k x)
    where
      by : (b : Bool) → wrong before y ≡ b → cond b (Some (length before, y)) (first_after wrong (before ++ y ∷ []) xs) ≡ Some (k, x)
          → (first_after wrong (before ++ y ∷ []) xs ≡ Some (k, x) → Found (before ++ y ∷ []) xs k x) → Found before (y ∷ xs) k x
      by true r e rest =
          let pair : ◌≡◌ {A = ℕ × A} (length before, y) (k, x) = inside e in
          let same : y ≡ x = ap (λ (p : ℕ × A). p.1) pair in
          let at : length before ≡ k = ap (λ (p : ℕ × A). p.0) pair in
          record {
            place = 0;
            at = sym at ∙ sym (add-zero (length before));
            within = omega arith;
            is = λ d. same;
            here = ap (λ ys. wrong ys x) (append-nil before) ∙ ap (wrong before) (sym same) ∙ r;
            right = λ j d h. absurd (omega arith);
          }
      by false r e rest =
          let f = rest e in
          record {
            place = suc f.place;
            at = f.at ∙ ap (λ n. n + f.place) (length-append before (y ∷ [])) ∙ omega arith;
            within = omega (arith, f.within);
            is = f.is;
            here = ap (λ ys. wrong ys x) (sym (append_assoc before (y ∷ []) (take f.place xs))) ∙ f.here;
            right = earlier f;
          }
        where
          earlier : (f : Found (before ++ y ∷ []) xs k x) → (j : ℕ) (d : A) → j < suc f.place → wrong (before ++ take j (y ∷ xs)) (get_or (y ∷ xs) j d) ≡ false
          earlier f zero d h = ap (λ ys. wrong ys y) (append-nil before) ∙ r
          earlier f (suc i) d h = ap (λ ys. wrong ys (get_or xs i d)) (sym (append_assoc before (y ∷ []) (take i xs))) ∙ f.right i d (omega arith)

  pub first_wrong : (xs : List A) (k : ℕ) (x : A) → first_after wrong [] xs ≡ Some (k, x) → IsFirstWrong wrong xs k × ((d : A) → get_or xs k d ≡ x)
  first_wrong xs k x e =
      let f = first_after-Some [] xs k x e in
      let at : f.place ≡ k = sym (f.at ∙ zero-add f.place) in (
        record {
          within = subst (λ n. n < length xs) at f.within;
          here = λ d. ap (λ n. wrong (take n xs) (get_or xs n d)) (sym at) ∙ ap (wrong (take f.place xs)) (f.is d) ∙ f.here;
          before = λ j d h. f.right j d (omega (arith, at));
        },
        λ d. ap (λ n. get_or xs n d) (sym at) ∙ f.is d,
      )
