-- One more item or member is read.
use Rattle.std.proofs.Common.{◌≡◌, ℕ, List, [], ◌∷◌, ◌++◌, Option, Some, None, option_map, option_and_then, string_bytes, refl, ap, sym, ◌∙◌, append_assoc}
use Rattle.std.specs.Borrow.{Bor}
use Rattle.serde_json.specs.Data.{Data}
use Rattle.serde_json.specs.Find.{as_str}
use Rattle.serde_json.specs.View.{view, items_view, members_view}
use Rattle.serde_json.specs.declared.value.Value.{Value}
use Rattle.serde_json.proofs.Views.{Entry as Member}
use Rattle.json_lines.specs.Kinds.{TextEntry, NullableEntry, texts_in, text_or_null, entries_in, with_entry, nullables_in}

pub fuse : {A : Type 0} (xs : List A) (y : A) (o : Option (List A)) → option_map (λ ys. (xs ++ y ∷ []) ++ ys) o ≡ option_map (λ ys. xs ++ ys) (option_map (λ rest. y ∷ rest) o)
fuse xs y None = refl
fuse xs y (Some ys) = ap Some (append_assoc xs (y ∷ []) ys)

pub nothing_before : {A : Type 0} (o : Option (List A)) → option_map (λ ys. [] ++ ys) o ≡ o
nothing_before None = refl
nothing_before (Some ys) = refl

-- texts of a list
pub texts_more : (done : List (List ℕ)) (t : List ℕ) (v : Value) (vs : List Value) (whole : Option (List (List ℕ))) → as_str (view v) ≡ Some t
    → option_map (λ ts. done ++ ts) (texts_in (items_view (v ∷ vs))) ≡ whole → option_map (λ ts. (done ++ t ∷ []) ++ ts) (texts_in (items_view vs)) ≡ whole
texts_more done t v vs whole is h =
    fuse done t (texts_in (items_view vs)) ∙ ap (λ o. option_map (λ ts. done ++ ts) (option_and_then (λ t. option_map (λ ts. t ∷ ts) (texts_in (items_view vs))) o)) (sym is) ∙ h

pub texts_bad : (done : List (List ℕ)) (v : Value) (vs : List Value) (whole : Option (List (List ℕ))) → as_str (view v) ≡ None
    → option_map (λ ts. done ++ ts) (texts_in (items_view (v ∷ vs))) ≡ whole → whole ≡ None
texts_bad done v vs whole is h = sym h ∙ ap (λ o. option_map (λ ts. done ++ ts) (option_and_then (λ t. option_map (λ ts. t ∷ ts) (texts_in (items_view vs))) o)) is

-- members with a text or null
pub entries_bad : (done : List TextEntry) (e : Member) (es : List Member) (whole : Option (List TextEntry)) → text_or_null (view e.1) ≡ None
    → option_map (λ ys. done ++ ys) (entries_in (members_view (e ∷ es))) ≡ whole → whole ≡ None
entries_bad done e es whole is h = sym h ∙ ap (λ o. option_map (λ ys. done ++ ys) (option_and_then (λ t. option_map (with_entry (string_bytes e.0) t) (entries_in (members_view es))) o)) is

passes : (done : List TextEntry) (k : List ℕ) (o : Option (List TextEntry)) → option_map (λ ys. done ++ ys) (option_map (with_entry k None) o) ≡ option_map (λ ys. done ++ ys) o
passes done k None = refl
passes done k (Some ys) = refl

pub entries_null : (done : List TextEntry) (e : Member) (es : List Member) (whole : Option (List TextEntry)) → text_or_null (view e.1) ≡ Some None
    → option_map (λ ys. done ++ ys) (entries_in (members_view (e ∷ es))) ≡ whole → option_map (λ ys. done ++ ys) (entries_in (members_view es)) ≡ whole
entries_null done e es whole is h =
    sym (passes done (string_bytes e.0) (entries_in (members_view es)))
    ∙ ap (λ o. option_map (λ ys. done ++ ys) (option_and_then (λ t. option_map (with_entry (string_bytes e.0) t) (entries_in (members_view es))) o)) (sym is) ∙ h

pub entries_more : (done : List TextEntry) (p : TextEntry) (e : Member) (es : List Member) (whole : Option (List TextEntry)) → text_or_null (view e.1) ≡ Some (Some p.value) → p.name ≡ string_bytes e.0
    → option_map (λ ys. done ++ ys) (entries_in (members_view (e ∷ es))) ≡ whole → option_map (λ ys. (done ++ p ∷ []) ++ ys) (entries_in (members_view es)) ≡ whole
entries_more done p e es whole is named h =
    fuse done p (entries_in (members_view es))
    ∙ ap (λ k. option_map (λ ys. done ++ ys) (option_map (λ rest. record { name = k; value = p.value } ∷ rest) (entries_in (members_view es)))) named
    ∙ ap (λ o. option_map (λ ys. done ++ ys) (option_and_then (λ t. option_map (with_entry (string_bytes e.0) t) (entries_in (members_view es))) o)) (sym is) ∙ h

-- the same, where nulls stand among them
pub nullables_bad : (done : List NullableEntry) (e : Member) (es : List Member) (whole : Option (List NullableEntry)) → text_or_null (view e.1) ≡ None
    → option_map (λ ys. done ++ ys) (nullables_in (members_view (e ∷ es))) ≡ whole → whole ≡ None
nullables_bad done e es whole is h =
    sym h ∙ ap (λ o. option_map (λ ys. done ++ ys) (option_and_then (λ t. option_map (λ vs. record { name = string_bytes e.0; value = t } ∷ vs) (nullables_in (members_view es))) o)) is

pub nullables_more : (done : List NullableEntry) (p : NullableEntry) (e : Member) (es : List Member) (whole : Option (List NullableEntry)) → text_or_null (view e.1) ≡ Some p.value → p.name ≡ string_bytes e.0
    → option_map (λ ys. done ++ ys) (nullables_in (members_view (e ∷ es))) ≡ whole → option_map (λ ys. (done ++ p ∷ []) ++ ys) (nullables_in (members_view es)) ≡ whole
nullables_more done p e es whole is named h =
    fuse done p (nullables_in (members_view es))
    ∙ ap (λ k. option_map (λ ys. done ++ ys) (option_map (λ rest. record { name = k; value = p.value } ∷ rest) (nullables_in (members_view es)))) named
    ∙ ap (λ o. option_map (λ ys. done ++ ys) (option_and_then (λ t. option_map (λ vs. record { name = string_bytes e.0; value = t } ∷ vs) (nullables_in (members_view es))) o)) (sym is) ∙ h

-- the member that was found, as a list
abbrev pub listed : Option (Bor (List ℕ) × Bor Value) → List (List ℕ × Data)
listed None = []
listed (Some m) = (m.0.now, view m.1.now) ∷ []
