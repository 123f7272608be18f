-- The map of objects by their names is the objects of the definitions.
use Rattle.std.proofs.Common.{◌≡◌, ℕ, Bool, true, false, List, [], ◌∷◌, ◌++◌, refl, sym, ◌∙◌, ap, append-nil, arith}
use Rattle.std.specs.Prelude.{None, nat_eq}
use Rattle.std.specs.declared.cmp.Ordering.TheVariants.{Less}
use Rattle.std.specs.List.{AllByRecursion, starts_with}
use Rattle.std.specs.List.Sorted.{IsStrictlySortedBy}
use Rattle.std.specs.Map.{lookup, remove_entry, keys_of}
use Rattle.std.specs.BTreeMap.{is_at}
use Rattle.std.specs.BTreeMap.Range.{entries_between}
use Rattle.std.specs.declared.ops.Bound.TheVariants.{Included, Unbounded}
use Rattle.std.proofs.lemmas.Map.Keys.{sorted_head, sorted_tail}
use Rattle.std.specs.Ordering.{nat_cmp, is_le}
use Rattle.std.specs.Cmp.Lexicographic.{slice_cmp}
use Rattle.std.specs.Str.{bytes_eq}
use Rattle.std.proofs.lemmas.Map.Text.{is_eq-slice_cmp}
use Rattle.std.proofs.lemmas.Cmp.{nat_list_eq_equiv}
use Rattle.std.proofs.lemmas.Bool.Decides.{nat_tests}
use Rattle.edge_api.specs.declared.call.Object.{Object}
use Rattle.edge_api.specs.declared.call.Listed.{Listed}
use Rattle.edge_api.specs.Journal.{Objects, object_at, without_object, listing}

abbrev Named : List ℕ → List ℕ → Bool
Named name = is_at (slice_cmp nat_cmp name)

same_test : (name key : List ℕ) → Named name key ≡ bytes_eq key name
same_test name key = is_eq-slice_cmp name key ∙ nat_list_eq_equiv.symm name key

-- what the map finds
pub lookup-object_at : (os : Objects) (name : List ℕ) → lookup (Named name) os ≡ object_at os name
lookup-object_at [] name = refl
lookup-object_at (o ∷ os) name = rw (same_test name o.0, lookup-object_at os name) refl

-- what the map takes out
without_none : (os : Objects) (name : List ℕ) → lookup (Named name) os ≡ None → without_object os name ≡ os
without_none [] name e = refl
without_none (o ∷ os) name e = by (bytes_eq o.0 name) refl (without_none os name)
  where
    by : (b : Bool) → bytes_eq o.0 name ≡ b → (lookup (Named name) os ≡ None → without_object os name ≡ os) → without_object (o ∷ os) name ≡ o ∷ os
    by true is rest = let found = rw (same_test name o.0 ∙ is) at e in cc
    by false is rest = rw is (ap (λ (l : Objects). o ∷ l) (rest (rw (same_test name o.0 ∙ is) at e)))

without-removed : (os : Objects) (name : List ℕ) → without_object os name ≡ without_object (remove_entry (Named name) os) name
without-removed [] name = refl
without-removed (o ∷ os) name = by (bytes_eq o.0 name) refl (without-removed os name)
  where
    by : (b : Bool) → bytes_eq o.0 name ≡ b → without_object os name ≡ without_object (remove_entry (Named name) os) name
        → without_object (o ∷ os) name ≡ without_object (remove_entry (Named name) (o ∷ os)) name
    by true is rest = rw (same_test name o.0 ∙ is, is) refl
    by false is rest = rw (same_test name o.0 ∙ is, is) (ap (λ (l : Objects). o ∷ l) rest)

pub removed : (os : Objects) (name : List ℕ) → lookup (Named name) (remove_entry (Named name) os) ≡ None → remove_entry (Named name) os ≡ without_object os name
removed os name gone = sym (without-removed os name ∙ without_none (remove_entry (Named name) os) name gone)

-- a name that begins with the prefix isn't below it
begins_from : (p k : List ℕ) → starts_with nat_eq k p ≡ true → is_le (slice_cmp nat_cmp p k) ≡ true
begins_from [] [] h = refl
begins_from [] (y ∷ k) h = refl
begins_from (x ∷ p) [] h = cc
begins_from (x ∷ p) (y ∷ k) h = grind (arith, nat_tests, begins_from p k)

-- of the names from the prefix on, those that begin with it come first
begins_first : (p j k : List ℕ) → is_le (slice_cmp nat_cmp p j) ≡ true → slice_cmp nat_cmp j k ≡ Less → starts_with nat_eq j p ≡ false → starts_with nat_eq k p ≡ false
begins_first [] j k le lt h = absurd (grind arith)
begins_first (x ∷ p) [] k le lt h = cc
begins_first (x ∷ p) (y ∷ j) [] le lt h = cc
begins_first (x ∷ p) (y ∷ j) (z ∷ k) le lt h = grind (arith, nat_tests, begins_first p j k)

-- in order, and none is below the prefix
abbrev pub StandsFrom : List ℕ → Objects → Type 0
StandsFrom p [] = Unit {0}
StandsFrom p (o ∷ os) = (is_le (slice_cmp nat_cmp p o.0) ≡ true) × AllByRecursion (λ k. slice_cmp nat_cmp o.0 k ≡ Less) (keys_of os) × StandsFrom p os

abbrev pub from_prefix : List ℕ → Objects → Objects
from_prefix p os = entries_between (slice_cmp nat_cmp) (Included p) Unbounded os

kept_below : (p j : List ℕ) (os : Objects) → AllByRecursion (λ k. slice_cmp nat_cmp j k ≡ Less) (keys_of os) → AllByRecursion (λ k. slice_cmp nat_cmp j k ≡ Less) (keys_of (from_prefix p os))
kept_below p j [] h = tt
kept_below p j (o ∷ os) h = by (is_le (slice_cmp nat_cmp p o.0)) refl (kept_below p j os h.1)
  where
    by : (b : Bool) → is_le (slice_cmp nat_cmp p o.0) ≡ b → AllByRecursion (λ k. slice_cmp nat_cmp j k ≡ Less) (keys_of (from_prefix p os))
        → AllByRecursion (λ k. slice_cmp nat_cmp j k ≡ Less) (keys_of (from_prefix p (o ∷ os)))
    by true is rest = rw is (h.0, rest)
    by false is rest = rw is rest

pub stands_from : (p : List ℕ) (os : Objects) → IsStrictlySortedBy (slice_cmp nat_cmp) (keys_of os) → StandsFrom p (from_prefix p os)
stands_from p [] h = tt
stands_from p (o ∷ os) h =
    by (is_le (slice_cmp nat_cmp p o.0)) refl (kept_below p o.0 os (sorted_head (slice_cmp nat_cmp) o.0 (keys_of os) h)) (stands_from p os (sorted_tail (slice_cmp nat_cmp) o.0 (keys_of os) h))
  where
    by : (b : Bool) → is_le (slice_cmp nat_cmp p o.0) ≡ b → AllByRecursion (λ k. slice_cmp nat_cmp o.0 k ≡ Less) (keys_of (from_prefix p os)) → StandsFrom p (from_prefix p os) → StandsFrom p (from_prefix p (o ∷ os))
    by true is above rest = rw is (is, above, rest)
    by false is above rest = rw is rest

-- the names below the prefix don't begin with it
pub listing-from_prefix : (p : List ℕ) (os : Objects) → listing (from_prefix p os) p ≡ listing os p
listing-from_prefix p [] = refl
listing-from_prefix p (o ∷ os) = by (is_le (slice_cmp nat_cmp p o.0)) refl (starts_with nat_eq o.0 p) refl (begins_from p o.0) (listing-from_prefix p os)
  where
    by : (b : Bool) → is_le (slice_cmp nat_cmp p o.0) ≡ b → (c : Bool) → starts_with nat_eq o.0 p ≡ c → (starts_with nat_eq o.0 p ≡ true → is_le (slice_cmp nat_cmp p o.0) ≡ true)
        → listing (from_prefix p os) p ≡ listing os p → listing (from_prefix p (o ∷ os)) p ≡ listing (o ∷ os) p
    by true is true begins above rest = rw (is, begins) (ap (λ (l : List Listed). record { name = o.0; put_at = o.1.put_at } ∷ l) rest)
    by true is false begins above rest = rw (is, begins) rest
    by false is true begins above rest = let no = above begins in cc
    by false is false begins above rest = rw (is, begins) rest

none_above : (p j : List ℕ) (os : Objects) → is_le (slice_cmp nat_cmp p j) ≡ true → starts_with nat_eq j p ≡ false → AllByRecursion (λ k. slice_cmp nat_cmp j k ≡ Less) (keys_of os) → listing os p ≡ []
none_above p j [] le ne h = refl
none_above p j (o ∷ os) le ne h = rw (begins_first p j o.0 le h.0 ne) (none_above p j os le ne h.1)

-- after the first name that doesn't begin with the prefix no name does
pub listing_ends : (p : List ℕ) (o : List ℕ × Object) (os : Objects) → StandsFrom p (o ∷ os) → starts_with nat_eq o.0 p ≡ false → listing (o ∷ os) p ≡ []
listing_ends p o os h ne = rw ne (none_above p o.0 os h.0 ne h.1)

-- nothing more is listed
pub listed_all : (items rest all : List Listed) → items ++ rest ≡ all → rest ≡ [] → items ≡ all
listed_all items rest all h e = sym (append-nil items) ∙ ap (λ (l : List Listed). items ++ l) (sym e) ∙ h
