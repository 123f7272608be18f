-- Maps that are written in byte order are read as they are.
use Rattle.std.proofs.Common.{◌≡◌, ℕ, List, [], ◌∷◌, ◌++◌, map, Option, Some, None, option_map, option_and_then, refl, sym, ap, ◌∙◌, subst, append_assoc}
use Rattle.std.specs.declared.cmp.Ordering.TheVariants.{Less, Greater}
use Rattle.std.specs.Ordering.{nat_cmp, ordering_reverse}
use Rattle.std.specs.Cmp.Lexicographic.{slice_cmp}
use Rattle.std.specs.List.{AllByRecursion}
use Rattle.std.specs.List.Sorted.{IsStrictlySortedBy}
use Rattle.std.proofs.lemmas.Cmp.{nat_list_cmp_total}
use Rattle.std.proofs.lemmas.List.{append-nil}
use Rattle.serde_json.specs.Data.{Data, string, Members, no_members, member, put}
use Rattle.serde_json.specs.View.{items_of}
use Rattle.json_lines.specs.declared.map.Entry.{Entry}
use Rattle.json_lines.specs.Kinds.{TextEntry, NullableEntry, text_or_null, entries_in, with_entry, texts_in, as_texts, as_text_map, nullables_in, as_nullable_map}
use Rattle.json_lines.specs.Written.{entries_data, text_or_null_data, texts_data, map_data, text_map_data, nullable_map_data}
use Rattle.log_actions.specs.Whole.{IsMap}
use Rattle.log_actions.proofs.Members.{ReadsAs}

-- in the order of the list
listed : {A : Type 0} → (A → Data) → List (Entry A) → Members
listed written [] = no_members
listed written (e ∷ es) = member e.name (written e.value) (listed written es)

Below : {A : Type 0} → List (Entry A) → Entry A → Type 0
Below [] y = Unit {0}
Below (x ∷ xs) y = (slice_cmp nat_cmp x.name y.name ≡ Less) × Below xs y

below_middle : {A : Type 0} (x : Entry A) (done : List (Entry A)) (y : Entry A) (more : List (Entry A)) → AllByRecursion (λ k. slice_cmp nat_cmp x.name k ≡ Less) (map (λ e. e.name) (done ++ y ∷ more)) → slice_cmp nat_cmp x.name y.name ≡ Less
below_middle x [] y more h = h.0
below_middle x (z ∷ done) y more h = below_middle x done y more h.1

below : {A : Type 0} (done : List (Entry A)) (y : Entry A) (more : List (Entry A)) → IsMap (done ++ y ∷ more) → Below done y
unfolding Below IsStrictlySortedBy
below [] y more h = tt
below (x ∷ done) y more h = (below_middle x done y more h.0, below done y more h.1)

put_last : {A : Type 0} (written : A → Data) (done : List (Entry A)) (y : Entry A) → Below done y → put y.name (written y.value) (listed written done) ≡ listed written (done ++ y ∷ [])
unfolding Below listed
put_last written [] y h = refl
put_last written (x ∷ done) y h =
    let above : slice_cmp nat_cmp y.name x.name ≡ Greater = nat_list_cmp_total.antisymm y.name x.name ∙ ap ordering_reverse h.0 in
    rw above (ap (member x.name (written x.value)) (put_last written done y h.1))

entries_listed : {A : Type 0} (written : A → Data) (done es : List (Entry A)) → IsMap (done ++ es) → entries_data written (listed written done) es ≡ listed written (done ++ es)
entries_listed written done [] h = ap (listed written) (sym (append-nil done))
entries_listed written done (e ∷ es) h =
    ap (λ ms. entries_data written ms es) (put_last written done e (below done e es h))
    ∙ entries_listed written (done ++ e ∷ []) es (subst IsMap (sym (append_assoc done (e ∷ []) es)) h)
    ∙ ap (listed written) (append_assoc done (e ∷ []) es)

entries_back : (es : List TextEntry) → entries_in (listed string es) ≡ Some es
unfolding listed
entries_back [] = refl
entries_back (e ∷ es) = ap (λ o. option_map (with_entry e.name (Some e.value)) o) (entries_back es)

pub map_back : (es : List TextEntry) → IsMap es → ReadsAs as_text_map (text_map_data es) es
unfolding as_text_map map_data listed
map_back es h = ap entries_in (entries_listed string [] es h) ∙ entries_back es

null_back : (t : Option (List ℕ)) → text_or_null (text_or_null_data t) ≡ Some t
null_back None = refl
null_back (Some t) = refl

nullables_back : (es : List NullableEntry) → nullables_in (listed text_or_null_data es) ≡ Some es
unfolding listed
nullables_back [] = refl
nullables_back (e ∷ es) =
    ap (λ o. option_and_then (λ t. option_map (λ fs. record { name = e.name; value = t } ∷ fs) (nullables_in (listed text_or_null_data es))) o) (null_back e.value)
    ∙ ap (λ o. option_map (λ fs. e ∷ fs) o) (nullables_back es)

pub values_back : (es : List NullableEntry) → IsMap es → ReadsAs as_nullable_map (nullable_map_data es) es
unfolding as_nullable_map map_data listed
values_back es h = ap nullables_in (entries_listed text_or_null_data [] es h) ∙ nullables_back es

items_back : (ts : List (List ℕ)) → texts_in (items_of (map string ts)) ≡ Some ts
items_back [] = refl
items_back (t ∷ ts) = ap (λ o. option_map (λ us. t ∷ us) o) (items_back ts)

pub texts_back : (ts : List (List ℕ)) → ReadsAs as_texts (texts_data ts) ts
unfolding as_texts
texts_back ts = items_back ts
