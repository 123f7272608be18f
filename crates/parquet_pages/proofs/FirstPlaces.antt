-- The distinct values are a dictionary: each value once, in order of first appearance.
use Rattle.std.proofs.Common.{◌≡◌, ◌⊎◌, ℕ, zero, suc, ◌*◌, ◌<◌, ◌≤◌, Bool, true, false, ◌||◌, cond, List, [], ◌∷◌, ◌++◌, length, refl, sym, ap, subst, ◌∙◌, arith, inl, inr, append_assoc, Option, Some, None, is_some}
use Rattle.std.specs.List.{slice_get}
use Rattle.std.specs.Ordering.{is_eq}
use Rattle.std.proofs.lemmas.Bool.{cases_Bool, or_cases, or_parts, leb-true, leb-false}
use Rattle.std.proofs.lemmas.List.{append-nil}
use Rattle.row_base.specs.declared.row.Datum.{Datum}
use Rattle.row_base.specs.declared.row.Kind.{Kind}
use Rattle.row_base.specs.RowOrder.{datum_cmp}
use Rattle.parquet_pages.specs.Places.{is_null, present, place_of, with_value, distinct_after, is_boolean, pays, dictionary_of}
use Rattle.parquet_pages.specs.Grammar.{Has, IsDictionaryOf}
use Rattle.parquet_pages.proofs.Chains.{inside, test_some}
use Rattle.parquet_pages.proofs.Same.{itself}
use Rattle.parquet_pages.proofs.Distinct.{same_datum, place_of-push, last_place, or_last, place_of-lt}

-- a place is there, or it isn't
place_cases : (o : Option ℕ) → ((k : ℕ) × (o ≡ Some k)) ⊎ (o ≡ None)
place_cases (Some k) = inl (k, refl)
place_cases None = inr refl

has_from : (vs : List Datum) (q : Datum) (k : ℕ) → place_of vs q ≡ Some k → Has vs q
has_from vs q k e = ap is_some e

pub has_place : (vs : List Datum) (q : Datum) → Has vs q → (k : ℕ) × (place_of vs q ≡ Some k)
has_place vs q h = by_place (place_of vs q) h
  where
    by_place : (o : Option ℕ) → is_some o ≡ true → (k : ℕ) × (o ≡ Some k)
    by_place (Some k) e = (k, refl)
    by_place None e = absurd cc

-- one value more: what was there stays at its place
pub push_old : (vs : List Datum) (v q : Datum) (k : ℕ) → place_of vs q ≡ Some k → place_of (vs ++ v ∷ []) q ≡ Some k
unfolding or_last
push_old vs v q k e = place_of-push vs v q ∙ (rw e refl)

push_new : (vs : List Datum) (v q : Datum) → place_of vs q ≡ None → place_of (vs ++ v ∷ []) q ≡ last_place (length vs) v q
unfolding or_last
push_new vs v q e = place_of-push vs v q ∙ (rw e refl)

pub push_itself : (vs : List Datum) (v : Datum) → place_of vs v ≡ None → place_of (vs ++ v ∷ []) v ≡ Some (length vs)
unfolding last_place
push_itself vs v e = push_new vs v v e ∙ (rw (itself v) refl)

-- a value among one more is among the others, or it is the new one, at the end
push_cases : (vs : List Datum) (v q : Datum) (k : ℕ) → place_of (vs ++ v ∷ []) q ≡ Some k → (place_of vs q ≡ Some k) ⊎ ((v ≡ q) × (k ≡ length vs) × (place_of vs q ≡ None))
unfolding last_place
push_cases vs v q k e = elim (place_cases (place_of vs q)) [
  | inl (j, here) ↦ inl (here ∙ sym (push_old vs v q j here) ∙ e)
  | inr none ↦
      let p = test_some (is_eq (datum_cmp v q)) (Some (length vs)) k (sym (push_new vs v q none) ∙ e) in
      inr (same_datum v q p.0, sym (inside (length vs) k p.1), none)
]

get_push : (vs : List Datum) (v w : Datum) (i : ℕ) → slice_get (vs ++ v ∷ []) i ≡ Some w → (slice_get vs i ≡ Some w) ⊎ ((i ≡ length vs) × (v ≡ w))
get_push [] v w zero e = inr (refl, inside v w e)
get_push [] v w (suc i) e = absurd cc
get_push (x ∷ vs) v w zero e = inl e
get_push (x ∷ vs) v w (suc i) e = elim (get_push vs v w i e) [
  | inl here ↦ inl here
  | inr (end, same) ↦ inr (ap suc end, same)
]

has_push : (vs : List Datum) (v q : Datum) → Has vs q → Has (vs ++ v ∷ []) q
has_push vs v q h = let p = has_place vs q h in has_from (vs ++ v ∷ []) q p.0 (push_old vs v q p.0 p.1)

has_last : (vs : List Datum) (v : Datum) → Has (vs ++ v ∷ []) v
has_last vs v = elim (place_cases (place_of vs v)) [
  | inl (k, here) ↦ has_from (vs ++ v ∷ []) v k (push_old vs v v k here)
  | inr none ↦ has_from (vs ++ v ∷ []) v (length vs) (push_itself vs v none)
]

-- a value that is null or was there changes nothing
stays : (before found : List Datum) (v : Datum) → IsDictionaryOf before found → (is_null v ≡ true) ⊎ Has found v → IsDictionaryOf (before ++ v ∷ []) found
stays before found v d old = record {
  all = λ q some h. all q some (has_place (before ++ v ∷ []) q h);
  only = λ q h. ((d.only q h).0, has_push before v q (d.only q h).1);
  once = d.once;
  order = λ a b i j m n ia jb ma nb lt. d.order a b i j m n ia jb (back a i m ia ma) (back b j n jb nb) lt;
}
  where
    again : (q : Datum) → is_null q ≡ false → v ≡ q → (is_null v ≡ true) ⊎ Has found v → Has found q
    again q some same (inl null) = let h : is_null q ≡ true = ap is_null (sym same) ∙ null in absurd cc
    again q some same (inr h) = subst (Has found) same h

    all : (q : Datum) → is_null q ≡ false → ((k : ℕ) × (place_of (before ++ v ∷ []) q ≡ Some k)) → Has found q
    all q some (k, here) = elim (push_cases before v q k here) [
      | inl there ↦ d.all q some (has_from before q k there)
      | inr (same, end, none) ↦ again q some same old
    ]

    back : (q : Datum) (i m : ℕ) → place_of found q ≡ Some i → place_of (before ++ v ∷ []) q ≡ Some m → place_of before q ≡ Some m
    back q i m here there =
        let p = has_place before q (d.only q (has_from found q i here)).1 in
        p.1 ∙ sym (push_old before v q p.0 p.1) ∙ there

-- a new value goes behind the others
grows : (before found : List Datum) (v : Datum) → IsDictionaryOf before found → is_null v ≡ false → place_of found v ≡ None → IsDictionaryOf (before ++ v ∷ []) (found ++ v ∷ [])
grows before found v d some none = record {
  all = λ q there h. all q there (has_place (before ++ v ∷ []) q h);
  only = λ q h. only q (has_place (found ++ v ∷ []) q h);
  once = λ i w here. once i w (get_push found v w i here);
  order = λ a b i j m n ia jb ma nb lt. order a b i j m n (push_cases found v a i ia) (push_cases found v b j jb) ma nb lt;
}
  where
    all : (q : Datum) → is_null q ≡ false → ((k : ℕ) × (place_of (before ++ v ∷ []) q ≡ Some k)) → Has (found ++ v ∷ []) q
    all q there (k, here) = elim (push_cases before v q k here) [
      | inl old ↦ has_push found v q (d.all q there (has_from before q k old))
      | inr (same, end, new) ↦ subst (Has (found ++ v ∷ [])) same (has_last found v)
    ]

    only : (q : Datum) → ((k : ℕ) × (place_of (found ++ v ∷ []) q ≡ Some k)) → (is_null q ≡ false) × Has (before ++ v ∷ []) q
    only q (k, here) = elim (push_cases found v q k here) [
      | inl old ↦ ((d.only q (has_from found q k old)).0, has_push before v q (d.only q (has_from found q k old)).1)
      | inr (same, end, new) ↦ (ap is_null (sym same) ∙ some, subst (Has (before ++ v ∷ [])) same (has_last before v))
    ]

    once : (i : ℕ) (w : Datum) → (slice_get found i ≡ Some w) ⊎ ((i ≡ length found) × (v ≡ w)) → place_of (found ++ v ∷ []) w ≡ Some i
    once i w (inl old) = push_old found v w i (d.once i w old)
    once i w (inr (end, same)) = ap (place_of (found ++ v ∷ [])) (sym same) ∙ push_itself found v none ∙ ap Some (sym end)

    back : (q : Datum) (i m : ℕ) → place_of found q ≡ Some i → place_of (before ++ v ∷ []) q ≡ Some m → place_of before q ≡ Some m
    back q i m here there =
        let p = has_place before q (d.only q (has_from found q i here)).1 in
        p.1 ∙ sym (push_old before v q p.0 p.1) ∙ there

    fresh : (o : Option ℕ) → place_of before v ≡ o → place_of before v ≡ None
    fresh (Some k) here = let h = has_place found v (d.all v some (has_from before v k here)) in absurd (differ (place_of found v) h.0 h.1 none)
      where
        differ : (o : Option ℕ) (k : ℕ) → o ≡ Some k → o ≡ None → ⊥
        differ o k e f = cc
    fresh None here = here

    order : (a b : Datum) (i j m n : ℕ) → (place_of found a ≡ Some i) ⊎ ((v ≡ a) × (i ≡ length found) × (place_of found a ≡ None))
        → (place_of found b ≡ Some j) ⊎ ((v ≡ b) × (j ≡ length found) × (place_of found b ≡ None))
        → place_of (before ++ v ∷ []) a ≡ Some m → place_of (before ++ v ∷ []) b ≡ Some n → i < j → m < n
    order a b i j m n (inl ia) (inl jb) ma nb lt = d.order a b i j m n ia jb (back a i m ia ma) (back b j n jb nb) lt
    order a b i j m n (inr (same, end, new)) (inl jb) ma nb lt = absurd (omega (arith, lt, end, place_of-lt found b j jb))
    order a b i j m n (inr (same, end, new)) (inr (same', end', new')) ma nb lt = absurd (omega (arith, lt, end, end'))
    order a b i j m n (inl ia) (inr (same, end, new)) ma nb lt =
        let last : place_of (before ++ v ∷ []) v ≡ Some (length before) = push_itself before v (fresh (place_of before v) refl) in
        let here : length before ≡ n = inside (length before) n (sym last ∙ ap (place_of (before ++ v ∷ [])) same ∙ nb) in
        omega (arith, place_of-lt before a m (back a i m ia ma), here)

with_next : (before found : List Datum) (v : Datum) → IsDictionaryOf before found → IsDictionaryOf (before ++ v ∷ []) (with_value found v)
with_next before found v d = by_test (is_null v || is_some (place_of found v)) refl
  where
    by_test : (b : Bool) → is_null v || is_some (place_of found v) ≡ b → IsDictionaryOf (before ++ v ∷ []) (cond b found (found ++ v ∷ []))
    by_test true e = stays before found v d (or_cases (is_null v) (is_some (place_of found v)) e)
    by_test false e =
        let p = or_parts (is_null v) (is_some (place_of found v)) e in
        grows before found v d p.0 (none_from (place_of found v) p.1)
      where
        none_from : (o : Option ℕ) → is_some o ≡ false → o ≡ None
        none_from (Some k) e = absurd cc
        none_from None e = refl

distinct_from : (before found vs : List Datum) → IsDictionaryOf before found → IsDictionaryOf (before ++ vs) (distinct_after found vs)
distinct_from before found [] d = subst (λ (xs : List Datum). IsDictionaryOf xs found) (sym (append-nil before)) d
distinct_from before found (v ∷ vs) d =
    subst (λ (xs : List Datum). IsDictionaryOf xs (distinct_after (with_value found v) vs)) (append_assoc before (v ∷ []) vs)
    (distinct_from (before ++ v ∷ []) (with_value found v) vs (with_next before found v d))

pub distinct_is : (vs : List Datum) → IsDictionaryOf vs (distinct_after [] vs)
distinct_is vs = distinct_from [] [] vs (record {
  all = λ v some h. h;
  only = λ v h. absurd cc;
  once = λ i v e. absurd cc;
  order = λ a b i j m n ia jb ma nb lt. absurd cc;
})

pub pays_found : (k : Kind) (vs dictionary : List Datum) → dictionary_of k vs ≡ Some dictionary
    → (is_boolean k ≡ false) × IsDictionaryOf vs dictionary × (2 * length dictionary ≤ present vs)
unfolding dictionary_of
pays_found k vs dictionary e = elim (cases_Bool (is_boolean k)) [
  | inl t ↦ let never : ◌≡◌ {A = Option (List Datum)} None (Some dictionary) = rw t at e in absurd cc
  | inr f ↦
      let found = distinct_after [] vs in
      let p = test_some (pays found vs) (Some found) dictionary (rw f at e) in
      let same : found ≡ dictionary = inside found dictionary p.1 in
      (f, subst (IsDictionaryOf vs) same (distinct_is vs), subst (λ (d : List Datum). 2 * length d ≤ present vs) same (leb-true (2 * length found) (present vs) p.0))
]

pub pays_not : (k : Kind) (vs : List Datum) → dictionary_of k vs ≡ None
    → (is_boolean k ≡ true) ⊎ ((dictionary : List Datum) × IsDictionaryOf vs dictionary × (present vs < 2 * length dictionary))
unfolding dictionary_of
pays_not k vs e = elim (cases_Bool (is_boolean k)) [
  | inl t ↦ inl t
  | inr f ↦
      let found = distinct_after [] vs in
      let small : pays found vs ≡ false = not_paid (pays found vs) found (rw f at e) in
      inr (found, distinct_is vs, leb-false (2 * length found) (present vs) small)
]
  where
    not_paid : (b : Bool) (found : List Datum) → ◌≡◌ {A = Option (List Datum)} (cond b (Some found) None) None → b ≡ false
    not_paid true found e = absurd cc
    not_paid false found e = refl
