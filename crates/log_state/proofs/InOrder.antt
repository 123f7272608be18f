-- Parts that were picked of what is kept and put in order.
use Rattle.std.proofs.Common.{◌≡◌, ◌<◌, ◌+◌, ℕ, zero, suc, Bool, true, false, List, [], ◌∷◌, length, get_or, map, Option, Some, None, option_and_then, ◌⊎◌, inl, inr, refl, sym, ap, ◌∙◌, subst, arith}
use Rattle.std.specs.Cmp.{IsEquivalence}
use Rattle.std.specs.Cmp.Lexicographic.{slice_cmp}
use Rattle.std.specs.declared.cmp.Ordering.{Ordering}
use Rattle.std.specs.declared.cmp.Ordering.TheVariants.{Less, Equal, Greater}
use Rattle.std.specs.List.{AllByRecursion, Contains, IsDistinct, cons_option, filter_map}
use Rattle.std.specs.List.Sorted.{IsPermutation, IsSortedBy, IsSortedByKey, IsStrictlySortedBy}
use Rattle.std.specs.Map.{keys_of}
use Rattle.std.specs.Ordering.{is_lt, nat_cmp, is_eq, ordering_reverse}
use Rattle.std.specs.Str.{bytes_eq}
use Rattle.std.proofs.lemmas.Cmp.{nat_list_cmp_total}
use Rattle.std.proofs.lemmas.List.{get_or-map, length-map}
use Rattle.std.proofs.lemmas.List.Elements.{All-from_recursion, Contains-get_or, Contains-append_right, recursion_from_All}
use Rattle.std.proofs.lemmas.List.MinMax.{ranks_by}
use Rattle.std.proofs.lemmas.List.Sorted.{Contains-permutation, IsPermutation-map, IsPermutation-sym, sorted_far}
use Rattle.std.proofs.lemmas.Map.Keys.{IsDistinct-IsPermutation}
use Rattle.std.proofs.lemmas.Map.Text.{is_eq-slice_cmp}
use Rattle.std.proofs.lemmas.Map.Views.{Contains-from_lookup, lookup-from_Contains}
use Rattle.std.proofs.lemmas.Slice.Eq.{bytes_eq-Decides}
use Rattle.log_state.specs.Table.{found}
use Rattle.log_state.specs.Listed.{Lists, IsUnderItsOwn, part_at, values_in}

abbrev order : List ℕ → List ℕ → Ordering
order = slice_cmp nat_cmp

-- ---- texts

same : (x y : List ℕ) → bytes_eq x y ≡ true → x ≡ y
same x y e = (bytes_eq-Decides x y).0 e

itself : (x : List ℕ) → bytes_eq x x ≡ true
itself x = (bytes_eq-Decides x x).1 refl

pub turned : (x y : List ℕ) → bytes_eq x y ≡ bytes_eq y x
turned x y = by (bytes_eq x y) (bytes_eq y x) refl refl
  where
    by : (b c : Bool) → bytes_eq x y ≡ b → bytes_eq y x ≡ c → b ≡ c
    by true true e f = refl
    by false false e f = refl
    by true false e f = sym (itself x) ∙ ap (λ z. bytes_eq z x) (same x y e) ∙ f
    by false true e f = sym e ∙ ap (λ z. bytes_eq z y) (sym (same y x f)) ∙ itself y

alike : IsEquivalence bytes_eq
alike = record { refl = itself; symm = turned; congr = λ x y z e. ap (λ w. bytes_eq w z) (same x y e) }

-- ---- elements

module _ {X : Type 0} where
  pub first : (x : X) (xs : List X) → Contains (x ∷ xs) x
  first x xs = Contains-get_or (x ∷ xs) 0 x (omega arith)

  pub later : (x y : X) (xs : List X) → Contains xs y → Contains (x ∷ xs) y
  later x y xs h = Contains-append_right (x ∷ []) xs y h

  pub none : (x : X) → Contains [] x → ⊥
  none x h = omega (arith, h.1)

  pub first_or : (x y : X) (xs : List X) → Contains (x ∷ xs) y → (x ≡ y) ⊎ Contains xs y
  first_or x y xs h = by h.0 h.1 h.2
    where
      by : (k : ℕ) → k < length (x ∷ xs) → get_or (x ∷ xs) k y ≡ y → (x ≡ y) ⊎ Contains xs y
      by zero below at = inl at
      by (suc k) below at = inr (k, omega (arith, below), at)

-- ---- what is picked

module _ {V A : Type 0} (part : V → Option A) (text : A → List ℕ) where
  -- what is picked of an entry is among all that are picked
  picked : (e : List ℕ × V) (a : A) (es : List (List ℕ × V)) → Contains es e → part e.1 ≡ Some a → Contains (filter_map part (values_in es)) a
  picked e a [] h is = absurd (none e h)
  picked e a (x ∷ es) h is = by (part x.1) refl (first_or x e es h) (λ g. picked e a es g is)
    where
      by : (o : Option A) → part x.1 ≡ o → (x ≡ e) ⊎ Contains es e → (Contains es e → Contains (filter_map part (values_in es)) a) → Contains (cons_option o (filter_map part (values_in es))) a
      by None at (inl here) rest = let bad : None ≡ Some a = sym at ∙ ap (λ p. part p.1) here ∙ is in cc
      by None at (inr there) rest = rest there
      by (Some b) at (inl here) rest =
          let one : Some b ≡ Some a = sym at ∙ ap (λ p. part p.1) here ∙ is in
          let it : b ≡ a = cc in
          subst (λ c. Contains (b ∷ filter_map part (values_in es)) c) it (first b (filter_map part (values_in es)))
      by (Some b) at (inr there) rest = later b a (filter_map part (values_in es)) (rest there)

  -- and there is an entry of each
  pub record Source (es : List (List ℕ × V)) (a : A) : Type 0 where
    pub entry : List ℕ × V
    pub among : Contains es entry
    pub is : part entry.1 ≡ Some a

  source : (a : A) (es : List (List ℕ × V)) → Contains (filter_map part (values_in es)) a → Source es a
  source a [] h = absurd (none a h)
  source a (x ∷ es) h = by (part x.1) refl h (source a es)
    where
      further : Source es a → Source (x ∷ es) a
      further s = record { entry = s.entry; among = later x s.entry es s.among; is = s.is }

      at_first : (b : A) → part x.1 ≡ Some b → (b ≡ a) ⊎ Contains (filter_map part (values_in es)) a → (Contains (filter_map part (values_in es)) a → Source es a) → Source (x ∷ es) a
      at_first b at (inl here) rest = record { entry = x; among = first x es; is = at ∙ ap Some here }
      at_first b at (inr there) rest = further (rest there)

      by : (o : Option A) → part x.1 ≡ o → Contains (cons_option o (filter_map part (values_in es))) a → (Contains (filter_map part (values_in es)) a → Source es a) → Source (x ∷ es) a
      by None at c rest = further (rest c)
      by (Some b) at c rest = at_first b at (first_or b a (filter_map part (values_in es)) c) rest

  -- each part has the text of its entry
  abbrev Own : List (List ℕ × V) → Type 0
  Own es = (e : List ℕ × V) (a : A) → Contains es e → part e.1 ≡ Some a → text a ≡ e.0

  others : (k : List ℕ) (es : List (List ℕ × V)) → Own es → AllByRecursion (λ y. bytes_eq k y ≡ false) (keys_of es) → AllByRecursion (λ y. bytes_eq k y ≡ false) (map text (filter_map part (values_in es)))
  others k [] own all = tt
  others k (x ∷ es) own all = by (part x.1) refl (others k es (λ e a h. own e a (later x e es h)) all.1)
    where
      by : (o : Option A) → part x.1 ≡ o → AllByRecursion (λ y. bytes_eq k y ≡ false) (map text (filter_map part (values_in es)))
          → AllByRecursion (λ y. bytes_eq k y ≡ false) (map text (cons_option o (filter_map part (values_in es))))
      by None at rest = rest
      by (Some b) at rest = (ap (bytes_eq k) (own x b (first x es) at) ∙ all.0, rest)

  apart : (es : List (List ℕ × V)) → Own es → IsDistinct bytes_eq (keys_of es) → IsDistinct bytes_eq (map text (filter_map part (values_in es)))
  unfolding IsDistinct
  apart [] own d = tt
  apart (x ∷ es) own d = by (part x.1) refl (apart es (λ e a h. own e a (later x e es h)) d.1)
    where
      by : (o : Option A) → part x.1 ≡ o → IsDistinct bytes_eq (map text (filter_map part (values_in es))) → IsDistinct bytes_eq (map text (cons_option o (filter_map part (values_in es))))
      by None at rest = rest
      by (Some b) at rest =
          let own_rest : Own es = λ e a h. own e a (later x e es h) in
          let all = others x.0 es own_rest d.0 in
          (subst (λ k. AllByRecursion (λ y. bytes_eq k y ≡ false) (map text (filter_map part (values_in es)))) (sym (own x b (first x es) at)) all, rest)

-- ---- in order

-- of two texts that differ the one that isn't after the other is before it
pub before : (p q : List ℕ) → bytes_eq p q ≡ false → is_lt (order q p) ≡ false → order p q ≡ Less
before p q apart not_less = by (order p q) refl
  where
    by : (o : Ordering) → order p q ≡ o → o ≡ Less
    by Less e = refl
    by Equal e = let bad : true ≡ false = sym (ap is_eq e) ∙ is_eq-slice_cmp p q ∙ apart in cc
    by Greater e = let bad : true ≡ false = sym (ap is_lt (nat_list_cmp_total.antisymm q p ∙ ap ordering_reverse e)) ∙ not_less in cc

strict : (ks : List (List ℕ)) → IsSortedBy (λ x y. is_lt (order x y)) ks → IsDistinct bytes_eq ks → IsStrictlySortedBy order ks
unfolding IsDistinct IsStrictlySortedBy
strict [] up d = tt
strict (k ∷ ks) up d =
    let weak = ranks_by nat_list_cmp_total (λ x. x) in
    let rest : IsSortedBy (λ x y. is_lt (order x y)) ks = λ j e low high. sorted_far (λ x y. is_lt (order x y)) weak (k ∷ ks) up (suc j) (suc (j + 1)) e (omega arith) (omega (arith, high)) in (
      recursion_from_All (λ y. order k y ≡ Less) ks (λ j e inside.
          before k (get_or ks j e) (All-from_recursion (λ y. bytes_eq k y ≡ false) ks d.0 j e inside) (sorted_far (λ x y. is_lt (order x y)) weak (k ∷ ks) up zero (suc j) e (omega arith) (omega (arith, inside)))),
      strict ks rest d.1,
    )

pub sorted_map : {X Y : Type 0} (f : X → Y) (lt : Y → Y → Bool) (xs : List X) → IsSortedBy (λ a b. lt (f a) (f b)) xs → IsSortedBy lt (map f xs)
sorted_map f lt [] up k d low high = absurd (omega (arith, high))
sorted_map f lt (x ∷ xs) up k d low high =
    let long : k + 1 < length (x ∷ xs) = omega (arith, high, length-map (x ∷ xs) f) in
    rw (get_or-map f (x ∷ xs) (k + 1) x d long, get_or-map f (x ∷ xs) k x d (omega (arith, long))) (up k x low long)

-- parts that were picked of entries with distinct names, in order
pub lists : {V A : Type 0} (part : V → Option A) (text : A → List ℕ) (es : List (List ℕ × V)) (out sorted : List A) → IsDistinct bytes_eq (keys_of es) → IsUnderItsOwn text part es
    → out ≡ filter_map part (values_in es) → IsPermutation out sorted → IsSortedByKey text order sorted → Lists text (part_at part es) sorted
lists {V} {A} part text es out sorted distinct own is moved up = record {
  order = strict (map text sorted) (sorted_map text (λ x y. is_lt (order x y)) sorted up)
      (IsDistinct-IsPermutation bytes_eq turned (map text out) (map text sorted) (IsPermutation-map text out sorted moved) (subst (λ l. IsDistinct bytes_eq (map text l)) (sym is) (apart part text es own_entries distinct)));
  each = λ a. (there a, back a);
}
  where
    at_entry : (e : List ℕ × V) → Contains es e → found es e.0 ≡ Some e.1
    at_entry e h = lookup-from_Contains alike e.0 e.1 es distinct h

    own_entries : Own part text es
    own_entries e a h at = own e.0 a (ap (option_and_then part) (at_entry e h) ∙ at)

    there : (a : A) → Contains sorted a → part_at part es (text a) ≡ Some a
    there a h =
        let s = source part text a es (subst (λ l. Contains l a) is (Contains-permutation sorted out a (IsPermutation-sym out sorted moved) h)) in
        ap (part_at part es) (own_entries s.entry a s.among s.is) ∙ ap (option_and_then part) (at_entry s.entry s.among) ∙ s.is

    from_found : (a : A) (o : Option V) → found es (text a) ≡ o → option_and_then part o ≡ Some a → Contains sorted a
    from_found a None at h = absurd cc
    from_found a (Some v) at h =
        let among = Contains-from_lookup same (text a) v es at in
        Contains-permutation out sorted a moved (subst (λ l. Contains l a) (sym is) (picked part text (text a, v) a es among h))

    back : (a : A) → part_at part es (text a) ≡ Some a → Contains sorted a
    back a h = from_found a (found es (text a)) refl h

-- where each that is kept is a part
pub whole_lists : {A : Type 0} (text : A → List ℕ) (es : List (List ℕ × A)) (values : List A) → Lists text (part_at (λ a. Some a) es) values → Lists text (found es) values
whole_lists {A} text es values l = record { order = l.order; each = λ v. (λ h. sym (whole (text v)) ∙ (l.each v).0 h, λ h. (l.each v).1 (whole (text v) ∙ h)) }
  where
    by : (o : Option A) → option_and_then (λ a. Some a) o ≡ o
    by None = refl
    by (Some a) = refl

    whole : (name : List ℕ) → part_at (λ a. Some a) es name ≡ found es name
    whole name = by (found es name)
