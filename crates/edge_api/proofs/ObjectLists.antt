-- A list of objects, changed in place.
use Rattle.std.proofs.Common.{◌≡◌, ◌<◌, ◌+◌, ℕ, Bool, true, false, not, List, [], ◌∷◌, ◌++◌, refl, sym, ◌∙◌, ap, take, drop, length, get_or, set, add-one}
use Rattle.std.specs.declared.cmp.Ordering.TheVariants.{Equal}
use Rattle.std.specs.List.{filter}
use Rattle.std.specs.Ordering.{nat_cmp}
use Rattle.std.specs.Cmp.Lexicographic.{slice_cmp}
use Rattle.std.specs.Str.{bytes_eq}
use Rattle.std.proofs.lemmas.List.{take-append-drop, take-set, drop-set}
use Rattle.std.proofs.lemmas.Map.Lookups.{exact_bytes}
use Rattle.std.proofs.Math.Seq.{drop-cons}
use Rattle.edge_api.specs.declared.call.Object.{Object}
use Rattle.edge_api.specs.Journal.{Objects, with_object, without_object}

set_parts : (os : Objects) (i : ℕ) (o : List ℕ × Object) → i < length os → set os i o ≡ take i os ++ o ∷ drop (i + 1) os
set_parts os i o within = sym (take-append-drop i (set os i o)) ∙ ap (λ (l : Objects). l ++ drop i (set os i o)) (take-set os i o) ∙ ap (λ (l : Objects). take i os ++ l) (drop-set os i o within)

-- an object under a name that is there takes its place
pub with_object-there : (os : Objects) (name : List ℕ) (o : Object) (i : ℕ) (there : List ℕ × Object) → i < length os → there ≡ get_or os i there → slice_cmp nat_cmp name there.0 ≡ Equal
    → with_object os name o ≡ take i os ++ with_object (drop i os) name o → with_object os name o ≡ set os i (name, o)
with_object-there os name o i there within is equal split =
    let here : drop i os ≡ there ∷ drop (i + 1) os = drop-cons os i there within ∙ rw (← is, add-one) refl in
    let front : with_object (there ∷ drop (i + 1) os) name o ≡ (name, o) ∷ drop (i + 1) os = rw (equal, exact_bytes name there.0 equal) refl in
    split ∙ ap (λ (l : Objects). take i os ++ with_object l name o) here ∙ ap (λ (l : Objects). take i os ++ l) front ∙ sym (set_parts os i (name, o) within)

pub filter-without : (os : Objects) (name : List ℕ) → filter (λ o. not (bytes_eq o.0 name)) os ≡ without_object os name
filter-without [] name = refl
filter-without (o ∷ os) name = by (bytes_eq o.0 name) refl (filter-without os name)
  where
    by : (b : Bool) → bytes_eq o.0 name ≡ b → filter (λ o. not (bytes_eq o.0 name)) os ≡ without_object os name → filter (λ o. not (bytes_eq o.0 name)) (o ∷ os) ≡ without_object (o ∷ os) name
    by true is rest = rw is rest
    by false is rest = rw is (ap (λ (l : Objects). o ∷ l) rest)
