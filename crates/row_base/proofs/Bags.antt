-- Counts in bags: of `++`, of filters and of `without`. Each lemma is about any values whose equality a test
-- decides; the row forms at the end are the same at `row_eq`.
use Rattle.std.proofs.Common.{◌≡◌, ℕ, ◌+◌, ◌-◌, Bool, true, false, not, cond, List, [], ◌∷◌, ◌++◌, refl, sym, ◌∙◌, ap, arith}
use Rattle.std.specs.Bool.{Decides}
use Rattle.std.specs.List.{filter}
use Rattle.std.proofs.lemmas.Bool.{true≢false}
use Rattle.row_base.specs.declared.row.Datum.{Datum}
use Rattle.row_base.specs.RowOrder.{row_eq}
use Rattle.row_base.specs.Bags.{count_in, SameBag, IsSubBag, without_one, without_bag, others, count_of, without}
use Rattle.row_base.proofs.RowOrder.{row_decides}

module _ {A : Type 0} (same : A → A → Bool) where
  pub count_in-append : (x : A) (xs ys : List A) → count_in same x (xs ++ ys) ≡ count_in same x xs + count_in same x ys
  count_in-append x [] ys = omega arith
  count_in-append x (z ∷ xs) ys = omega (arith, count_in-append x xs ys)

  -- what passes and what fails are all together
  pub count_in-split : (test : A → Bool) (x : A) (xs : List A) → count_in same x xs ≡ count_in same x (filter test xs) + count_in same x (others test xs)
  count_in-split test x [] = omega arith
  count_in-split test x (y ∷ xs) = by (test y) (count_in-split test x xs)
    where
      by : (b : Bool) → count_in same x xs ≡ count_in same x (filter test xs) + count_in same x (others test xs)
          → cond (same x y) 1 0 + count_in same x xs ≡ count_in same x (cond b (y ∷ filter test xs) (filter test xs)) + count_in same x (cond (not b) (y ∷ others test xs) (others test xs))
      by true rest = omega arith
      by false rest = omega arith

  -- a filter keeps at most what there was
  pub IsSubBag-filter : (test : A → Bool) (xs : List A) → IsSubBag same (filter test xs) xs
  IsSubBag-filter test xs x = omega (arith, count_in-split test x xs)

  pub SameBag-refl : (xs : List A) → SameBag same xs xs
  SameBag-refl xs x = refl

  pub SameBag-sym : (xs ys : List A) → SameBag same xs ys → SameBag same ys xs
  SameBag-sym xs ys h x = sym (h x)

  pub SameBag-trans : (xs ys zs : List A) → SameBag same xs ys → SameBag same ys zs → SameBag same xs zs
  SameBag-trans xs ys zs h k x = h x ∙ k x

  pub SameBag-append : (xs ys zs ws : List A) → SameBag same xs ys → SameBag same zs ws → SameBag same (xs ++ zs) (ys ++ ws)
  SameBag-append xs ys zs ws h k x = omega (arith, h x, k x, count_in-append x xs zs, count_in-append x ys ws)

  -- the order of a sum does not matter
  pub SameBag-append_comm : (xs ys : List A) → SameBag same (xs ++ ys) (ys ++ xs)
  SameBag-append_comm xs ys x = omega (arith, count_in-append x xs ys, count_in-append x ys xs)

  pub IsSubBag-append_left : (xs ys : List A) → IsSubBag same xs (xs ++ ys)
  IsSubBag-append_left xs ys x = omega (arith, count_in-append x xs ys)

  pub IsSubBag-append_right : (xs ys : List A) → IsSubBag same ys (xs ++ ys)
  IsSubBag-append_right xs ys x = omega (arith, count_in-append x xs ys)

  pub IsSubBag-trans : (xs ys zs : List A) → IsSubBag same xs ys → IsSubBag same ys zs → IsSubBag same xs zs
  IsSubBag-trans xs ys zs h k x = omega (arith, h x, k x)

  module _ (decides : (x y : A) → Decides (same x y) (x ≡ y)) where
    self : (x : A) → same x x ≡ true
    self x = (decides x x).1 refl

    -- a value that passes is kept as often as it was
    pub count_in-filter : (test : A → Bool) (x : A) (xs : List A) → test x ≡ true → count_in same x (filter test xs) ≡ count_in same x xs
    count_in-filter test x [] holds = refl
    count_in-filter test x (y ∷ xs) holds = by (test y) refl (same x y) refl (count_in-filter test x xs holds)
      where
        by : (b : Bool) → test y ≡ b → (c : Bool) → same x y ≡ c → count_in same x (filter test xs) ≡ count_in same x xs
            → count_in same x (cond b (y ∷ filter test xs) (filter test xs)) ≡ cond c 1 0 + count_in same x xs
        by true e c f rest = ap (λ d. cond d 1 0 + count_in same x (filter test xs)) f ∙ ap (λ n. cond c 1 0 + n) rest
        by false e true f rest = absurd (true≢false (sym holds ∙ ap test ((decides x y).0 f) ∙ e))
        by false e false f rest = rest ∙ omega arith

    -- and one that fails is not there
    pub count_in-filter_no : (test : A → Bool) (x : A) (xs : List A) → test x ≡ false → count_in same x (filter test xs) ≡ 0
    count_in-filter_no test x [] fails = refl
    count_in-filter_no test x (y ∷ xs) fails = by (test y) refl (same x y) refl (count_in-filter_no test x xs fails)
      where
        by : (b : Bool) → test y ≡ b → (c : Bool) → same x y ≡ c → count_in same x (filter test xs) ≡ 0
            → count_in same x (cond b (y ∷ filter test xs) (filter test xs)) ≡ 0
        by false e c f rest = rest
        by true e true f rest = absurd (true≢false (sym e ∙ ap test (sym ((decides x y).0 f)) ∙ fails))
        by true e false f rest = ap (λ d. cond d 1 0 + count_in same x (filter test xs)) f ∙ omega (arith, rest)

    pub count_in-others : (test : A → Bool) (x : A) (xs : List A) → test x ≡ false → count_in same x (others test xs) ≡ count_in same x xs
    count_in-others test x xs fails = count_in-filter (λ y. not (test y)) x xs (ap not fails)

    pub count_in-others_no : (test : A → Bool) (x : A) (xs : List A) → test x ≡ true → count_in same x (others test xs) ≡ 0
    count_in-others_no test x xs holds = count_in-filter_no (λ y. not (test y)) x xs (ap not holds)

    -- a filter of one bag is one bag
    pub SameBag-filter : (test : A → Bool) (xs ys : List A) → SameBag same xs ys → SameBag same (filter test xs) (filter test ys)
    SameBag-filter test xs ys h x = by (test x) refl
      where
        by : (b : Bool) → test x ≡ b → count_in same x (filter test xs) ≡ count_in same x (filter test ys)
        by true e = count_in-filter test x xs e ∙ h x ∙ sym (count_in-filter test x ys e)
        by false e = count_in-filter_no test x xs e ∙ sym (count_in-filter_no test x ys e)

    -- one value taken away
    pub count_in-without_one : (x y : A) (xs : List A) → count_in same x (without_one same y xs) ≡ count_in same x xs - cond (same x y) 1 0
    count_in-without_one x y [] = omega arith
    count_in-without_one x y (z ∷ xs) = by (same y z) refl (count_in-without_one x y xs)
      where
        equal : same y z ≡ true → ◌≡◌ {A = ℕ} (cond (same x y) 1 0) (cond (same x z) 1 0)
        equal e = let one : A → ℕ = λ w. cond (same x w) 1 0 in ap one ((decides y z).0 e)

        apart : (c : Bool) → same x z ≡ c → (d : Bool) → same x y ≡ d → same y z ≡ false → count_in same x (without_one same y xs) ≡ count_in same x xs - cond d 1 0
            → cond c 1 0 + count_in same x (without_one same y xs) ≡ cond c 1 0 + count_in same x xs - cond d 1 0
        apart true f true g e rest = absurd (true≢false (sym ((decides y z).1 (sym ((decides x y).0 g) ∙ (decides x z).0 f)) ∙ e))
        apart true f false g e rest = omega arith
        apart false f true g e rest = omega arith
        apart false f false g e rest = omega arith

        by : (b : Bool) → same y z ≡ b → count_in same x (without_one same y xs) ≡ count_in same x xs - cond (same x y) 1 0
            → count_in same x (cond b xs (z ∷ without_one same y xs)) ≡ cond (same x z) 1 0 + count_in same x xs - cond (same x y) 1 0
        by true e rest = omega (arith, equal e)
        by false e rest = apart (same x z) refl (same x y) refl e rest

    -- a bag taken away
    pub count_in-without : (x : A) (xs ys : List A) → count_in same x (without_bag same xs ys) ≡ count_in same x xs - count_in same x ys
    count_in-without x xs [] = omega arith
    count_in-without x xs (y ∷ ys) = omega (arith, count_in-without x (without_one same y xs) ys, count_in-without_one x y xs)

    pub SameBag-without : (xs ys zs ws : List A) → SameBag same xs ys → SameBag same zs ws → SameBag same (without_bag same xs zs) (without_bag same ys ws)
    SameBag-without xs ys zs ws h k x = omega (arith, h x, k x, count_in-without x xs zs, count_in-without x ys ws)

    -- what is contained can be taken away and put back
    pub SameBag-without_append : (xs ys : List A) → IsSubBag same ys xs → SameBag same (without_bag same xs ys ++ ys) xs
    SameBag-without_append xs ys h x = omega (arith, h x, count_in-append x (without_bag same xs ys) ys, count_in-without x xs ys)

-- ---- rows

pub count_of-append : (x : List Datum) (xs ys : List (List Datum)) → count_of x (xs ++ ys) ≡ count_of x xs + count_of x ys
count_of-append = count_in-append row_eq

pub count_of-filter : (test : List Datum → Bool) (x : List Datum) (xs : List (List Datum)) → test x ≡ true → count_of x (filter test xs) ≡ count_of x xs
count_of-filter = count_in-filter row_eq row_decides

pub count_of-filter_no : (test : List Datum → Bool) (x : List Datum) (xs : List (List Datum)) → test x ≡ false → count_of x (filter test xs) ≡ 0
count_of-filter_no = count_in-filter_no row_eq row_decides

pub count_of-others : (test : List Datum → Bool) (x : List Datum) (xs : List (List Datum)) → test x ≡ false → count_of x (others test xs) ≡ count_of x xs
count_of-others = count_in-others row_eq row_decides

pub count_of-others_no : (test : List Datum → Bool) (x : List Datum) (xs : List (List Datum)) → test x ≡ true → count_of x (others test xs) ≡ 0
count_of-others_no = count_in-others_no row_eq row_decides

pub count_of-without : (x : List Datum) (xs ys : List (List Datum)) → count_of x (without xs ys) ≡ count_of x xs - count_of x ys
count_of-without = count_in-without row_eq row_decides
