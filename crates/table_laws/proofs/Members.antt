-- The members of a store: which there are after an object was put or removed, and which a listing names.
use Rattle.std.proofs.Common.{◌≡◌, ◌⊎◌, inl, inr, ℕ, Bool, true, false, List, [], ◌∷◌, refl, sym, ◌∙◌, ap}
use Rattle.std.specs.Prelude.{Option, Some, None, if◌then◌else◌, nat_eq}
use Rattle.std.specs.List.{starts_with}
use Rattle.std.specs.Str.{bytes_eq}
use Rattle.std.specs.Ordering.{nat_cmp, match_ordering, is_eq}
use Rattle.std.specs.declared.cmp.Ordering.{Ordering}
use Rattle.std.specs.declared.cmp.Ordering.TheVariants.{Less, Equal, Greater}
use Rattle.std.specs.Cmp.Lexicographic.{slice_cmp}
use Rattle.std.proofs.lemmas.Cmp.{nat_list_eq_equiv}
use Rattle.std.proofs.lemmas.Map.Text.{is_eq-slice_cmp}
use Rattle.std.proofs.lemmas.Slice.Eq.{bytes_eq-Decides}
use Rattle.edge_api.specs.declared.call.Object.{Object}
use Rattle.edge_api.specs.Journal.{Objects, object_at, with_object, without_object, listing}
use Rattle.table_laws.proofs.Lawful.{IsListed}

-- an object stands under this name
abbrev pub IsIn : Objects → List ℕ → Object → Type 0
IsIn [] n o = ⊥
IsIn (x ∷ os) n o = ((x.0 ≡ n) × (x.1 ≡ o)) ⊎ IsIn os n o

apart : (a n : List ℕ) → bytes_eq a n ≡ false → a ≡ n → ⊥
apart a n e same = let bad : true ≡ false = sym ((bytes_eq-Decides a n).1 same) ∙ e in cc

none_if : (b : Bool) (o : Object) (r : Option Object) → (if b then Some o else r) ≡ None → (b ≡ false) × (r ≡ None)
none_if true o r h = cc
none_if false o r h = (refl, h)

equal_is : (name key : List ℕ) → slice_cmp nat_cmp name key ≡ Equal → key ≡ name
equal_is name key h = (bytes_eq-Decides key name).0 (sym (is_eq-slice_cmp name key ∙ nat_list_eq_equiv.symm name key) ∙ ap is_eq h)

pub is_in : (os : Objects) (n : List ℕ) (o : Object) → object_at os n ≡ Some o → IsIn os n o
is_in [] n o h = cc
is_in (x ∷ os) n o h = by (bytes_eq x.0 n) refl (is_in os n o) h
  where
    by : (b : Bool) → bytes_eq x.0 n ≡ b → (object_at os n ≡ Some o → IsIn os n o) → (if b then Some x.1 else object_at os n) ≡ Some o → IsIn (x ∷ os) n o
    by true e rest h = inl ((bytes_eq-Decides x.0 n).0 e, cc)
    by false e rest h = inr (rest h)

pub listed_in : (os : Objects) (prefix n : List ℕ) (a : ℕ) → IsListed (listing os prefix) n a → (o : Object) × IsIn os n o × (o.put_at ≡ a)
listed_in [] prefix n a h = absurd h
listed_in (x ∷ os) prefix n a h = by (starts_with nat_eq x.0 prefix) (listed_in os prefix n a) h
  where
    by : (b : Bool) → (IsListed (listing os prefix) n a → (o : Object) × IsIn os n o × (o.put_at ≡ a))
        → IsListed (if b then record { name = x.0; put_at = x.1.put_at } ∷ listing os prefix else listing os prefix) n a → (o : Object) × IsIn (x ∷ os) n o × (o.put_at ≡ a)
    by true rest (inl two) = (x.1, inl (two.0, refl), two.1)
    by true rest (inr h) = let r = rest h in (r.0, inr r.1, r.2)
    by false rest h = let r = rest h in (r.0, inr r.1, r.2)

pub in_with : (os : Objects) (name : List ℕ) (o : Object) (n : List ℕ) (p : Object) → IsIn (with_object os name o) n p → ((n ≡ name) × (p ≡ o)) ⊎ IsIn os n p
in_with [] name o n p (inl two) = inl (sym two.0, sym two.1)
in_with [] name o n p (inr h) = absurd h
in_with (x ∷ os) name o n p h = by (slice_cmp nat_cmp name x.0) refl (in_with os name o n p) h
  where
    by : (r : Ordering) → slice_cmp nat_cmp name x.0 ≡ r → (IsIn (with_object os name o) n p → ((n ≡ name) × (p ≡ o)) ⊎ IsIn os n p)
        → IsIn (match_ordering r ((name, o) ∷ x ∷ os) ((x.0, o) ∷ os) (x ∷ with_object os name o)) n p → ((n ≡ name) × (p ≡ o)) ⊎ IsIn (x ∷ os) n p
    by Less e rest (inl two) = inl (sym two.0, sym two.1)
    by Less e rest (inr h) = inr h
    by Equal e rest (inl two) = inl (sym two.0 ∙ equal_is name x.0 e, sym two.1)
    by Equal e rest (inr h) = inr (inr h)
    by Greater e rest (inl two) = inr (inl two)
    by Greater e rest (inr h) = elim (rest h) [ inl new ↦ inl new | inr old ↦ inr (inr old) ]

pub none_with : (os : Objects) (name : List ℕ) (o : Object) (n : List ℕ) → object_at (with_object os name o) n ≡ None → (object_at os n ≡ None) × (name ≡ n → ⊥)
none_with [] name o n h = (refl, apart name n (none_if (bytes_eq name n) o None h).0)
none_with (x ∷ os) name o n h = by (slice_cmp nat_cmp name x.0) refl (none_with os name o n) h
  where
    both : bytes_eq x.0 n ≡ false → object_at os n ≡ None → object_at (x ∷ os) n ≡ None
    both e is = ap (λ (b : Bool). if b then Some x.1 else object_at os n) e ∙ is

    by : (r : Ordering) → slice_cmp nat_cmp name x.0 ≡ r → (object_at (with_object os name o) n ≡ None → (object_at os n ≡ None) × (name ≡ n → ⊥))
        → object_at (match_ordering r ((name, o) ∷ x ∷ os) ((x.0, o) ∷ os) (x ∷ with_object os name o)) n ≡ None → (object_at (x ∷ os) n ≡ None) × (name ≡ n → ⊥)
    by Less e rest h = let two = none_if (bytes_eq name n) o (object_at (x ∷ os) n) h in (two.1, apart name n two.0)
    by Equal e rest h =
        let two = none_if (bytes_eq x.0 n) o (object_at os n) h in
        (both two.0 two.1, λ same. apart x.0 n two.0 (equal_is name x.0 e ∙ same))
    by Greater e rest h =
        let two = none_if (bytes_eq x.0 n) x.1 (object_at (with_object os name o) n) h in
        let r = rest two.1 in
        (both two.0 r.0, r.1)

pub in_without : (os : Objects) (name n : List ℕ) (p : Object) → IsIn (without_object os name) n p → IsIn os n p
in_without [] name n p h = h
in_without (x ∷ os) name n p h = by (bytes_eq x.0 name) (in_without os name n p) h
  where
    by : (b : Bool) → (IsIn (without_object os name) n p → IsIn os n p) → IsIn (if b then without_object os name else x ∷ without_object os name) n p → IsIn (x ∷ os) n p
    by true rest h = inr (rest h)
    by false rest (inl two) = inl two
    by false rest (inr h) = inr (rest h)

pub none_without : (os : Objects) (name n : List ℕ) → object_at (without_object os name) n ≡ None → (object_at os n ≡ None) ⊎ (name ≡ n)
none_without [] name n h = inl refl
none_without (x ∷ os) name n h = by (bytes_eq x.0 name) refl (none_without os name n) h
  where
    other : (b : Bool) → bytes_eq x.0 n ≡ b → x.0 ≡ name → (object_at os n ≡ None) ⊎ (name ≡ n) → (object_at (x ∷ os) n ≡ None) ⊎ (name ≡ n)
    other true e same h = inr (sym same ∙ (bytes_eq-Decides x.0 n).0 e)
    other false e same (inl h) = inl (ap (λ (b : Bool). if b then Some x.1 else object_at os n) e ∙ h)
    other false e same (inr h) = inr h

    on : bytes_eq x.0 n ≡ false → (object_at os n ≡ None) ⊎ (name ≡ n) → (object_at (x ∷ os) n ≡ None) ⊎ (name ≡ n)
    on e (inl h) = inl (ap (λ (b : Bool). if b then Some x.1 else object_at os n) e ∙ h)
    on e (inr h) = inr h

    by : (b : Bool) → bytes_eq x.0 name ≡ b → (object_at (without_object os name) n ≡ None → (object_at os n ≡ None) ⊎ (name ≡ n))
        → object_at (if b then without_object os name else x ∷ without_object os name) n ≡ None → (object_at (x ∷ os) n ≡ None) ⊎ (name ≡ n)
    by true e rest h = other (bytes_eq x.0 n) refl ((bytes_eq-Decides x.0 name).0 e) (rest h)
    by false e rest h = let two = none_if (bytes_eq x.0 n) x.1 (object_at (without_object os name) n) h in on two.0 (rest two.1)
