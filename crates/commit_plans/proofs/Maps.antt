-- The properties of a made table are a map, with a value for each key.
use Rattle.std.proofs.Common.{◌≡◌, ℕ, Bool, true, false, if◌then◌else◌, List, [], ◌∷◌, map, Option, Some, None, option_map, refl, sym, ap, ◌∙◌, subst}
use Rattle.std.specs.BTreeMap.{insert_entry}
use Rattle.std.specs.Cmp.Lexicographic.{slice_cmp}
use Rattle.std.specs.List.{AllByRecursion, IsDistinct}
use Rattle.std.specs.List.Sorted.{IsStrictlySortedBy}
use Rattle.std.specs.Map.{keys_of}
use Rattle.std.specs.Ordering.{is_eq, match_ordering, nat_cmp, ordering_reverse}
use Rattle.std.specs.Str.{bytes_eq}
use Rattle.std.specs.declared.cmp.Ordering.{Ordering}
use Rattle.std.specs.declared.cmp.Ordering.TheVariants.{Less, Equal, Greater}
use Rattle.std.proofs.lemmas.Cmp.{nat_list_cmp_total}
use Rattle.std.proofs.lemmas.Map.Text.{is_eq-slice_cmp}
use Rattle.std.proofs.lemmas.Slice.Eq.{bytes_eq-Decides}
use Rattle.log_actions.specs.Whole.{IsMap}
use Rattle.op_types.specs.declared.statement.Property.{Property}
use Rattle.table_rules.specs.Properties.{entry_of}
use Rattle.commit_plans.specs.Properties.{policy_key, policy_value, values_by_key, entry_in, made_properties, value_for, value_at}
use Rattle.commit_plans.specs.Laws.{PropertiesAreMade}

abbrev Pairs : Type 0
Pairs = List (List ℕ × List ℕ)

abbrev order : List ℕ → List ℕ → Ordering
order = slice_cmp nat_cmp

-- ---- order

-- a key below all and below one more is below all with this one
all_more : (x k v : List ℕ) (es : Pairs) → AllByRecursion (λ y. order x y ≡ Less) (keys_of es) → order x k ≡ Less → AllByRecursion (λ y. order x y ≡ Less) (keys_of (insert_entry order es k v))
all_more x k v [] all low = (low, tt)
all_more x k v (e ∷ es) all low = by (order k e.0) (all_more x k v es all.1 low)
  where
    by : (o : Ordering) → AllByRecursion (λ y. order x y ≡ Less) (keys_of (insert_entry order es k v))
        → AllByRecursion (λ y. order x y ≡ Less) (keys_of (match_ordering o ((k, v) ∷ e ∷ es) ((e.0, v) ∷ es) (e ∷ insert_entry order es k v)))
    by Less rest = (low, all)
    by Equal rest = all
    by Greater rest = (all.0, rest)

all_above : (k e : List ℕ) (es : Pairs) → order k e ≡ Less → AllByRecursion (λ y. order e y ≡ Less) (keys_of es) → AllByRecursion (λ y. order k y ≡ Less) (keys_of es)
all_above k e [] low all = tt
all_above k e (f ∷ fs) low all = (nat_list_cmp_total.trans k e f.0 low all.0, all_above k e fs low all.1)

stays_sorted : (k v : List ℕ) (es : Pairs) → IsStrictlySortedBy order (keys_of es) → IsStrictlySortedBy order (keys_of (insert_entry order es k v))
unfolding IsStrictlySortedBy
stays_sorted k v [] sorted = (tt, tt)
stays_sorted k v (e ∷ es) sorted = by (order k e.0) refl (stays_sorted k v es sorted.1)
  where
    by : (o : Ordering) → order k e.0 ≡ o → IsStrictlySortedBy order (keys_of (insert_entry order es k v))
        → IsStrictlySortedBy order (keys_of (match_ordering o ((k, v) ∷ e ∷ es) ((e.0, v) ∷ es) (e ∷ insert_entry order es k v)))
    by Less at rest = ((at, all_above k e.0 es at sorted.0), sorted)
    by Equal at rest = sorted
    by Greater at rest = (all_more e.0 k v es sorted.0 (nat_list_cmp_total.antisymm e.0 k ∙ ap ordering_reverse at), rest)

values_are_sorted : (ps : List Property) → IsStrictlySortedBy order (keys_of (values_by_key ps))
unfolding values_by_key IsStrictlySortedBy
values_are_sorted [] = (tt, tt)
values_are_sorted (p ∷ ps) = stays_sorted p.key p.value (values_by_key ps) (values_are_sorted ps)

same_names : (es : Pairs) → keys_of es ≡ map (λ e. e.name) (map entry_in es)
same_names [] = refl
same_names (e ∷ es) = ap (λ (l : List (List ℕ)). e.0 ∷ l) (same_names es)

is_map : (ps : List Property) → IsMap (made_properties ps)
unfolding made_properties
is_map ps = subst (IsStrictlySortedBy order) (same_names (values_by_key ps)) (values_are_sorted ps)

-- ---- values

abbrev found : List ℕ → Pairs → Option (List ℕ)
found q es = value_at q (map entry_in es)

found_first : (q k v : List ℕ) (es : Pairs) → found q ((k, v) ∷ es) ≡ (if bytes_eq k q then Some v else found q es)
unfolding entry_of
found_first q k v es = by (bytes_eq k q)
  where
    by : (b : Bool) → option_map (λ e. e.value) (if b then Some (entry_in (k, v)) else entry_of q (map entry_in es)) ≡ (if b then Some v else found q es)
    by true = refl
    by false = refl

same : (k l : List ℕ) → bytes_eq k l ≡ true → k ≡ l
same k l e = (bytes_eq-Decides k l).0 e

found_at : (o : Ordering) (q k l t u : List ℕ) (es more : Pairs) → is_eq o ≡ bytes_eq k l → found q more ≡ (if bytes_eq k q then Some t else found q es)
    → found q (match_ordering o ((k, t) ∷ (l, u) ∷ es) ((l, t) ∷ es) ((l, u) ∷ more)) ≡ (if bytes_eq k q then Some t else found q ((l, u) ∷ es))
found_at Less q k l t u es more e rest = found_first q k t ((l, u) ∷ es)
found_at Equal q k l t u es more e rest =
    subst (λ n. found q ((l, t) ∷ es) ≡ (if bytes_eq n q then Some t else found q ((l, u) ∷ es))) (sym (same k l (sym e)))
    (found_first q l t es ∙ by (bytes_eq l q) ∙ ap (λ x. if bytes_eq l q then Some t else x) (sym (found_first q l u es)))
  where
    by : (b : Bool) → (if b then Some t else found q es) ≡ (if b then Some t else (if b then Some u else found q es))
    by true = refl
    by false = refl
found_at Greater q k l t u es more e rest =
    found_first q l u more ∙ ap (λ x. if bytes_eq l q then Some u else x) rest ∙ by (bytes_eq l q) (bytes_eq k q) refl refl
    ∙ ap (λ x. if bytes_eq k q then Some t else x) (sym (found_first q l u es))
  where
    by : (a b : Bool) → bytes_eq l q ≡ a → bytes_eq k q ≡ b → (if a then Some u else (if b then Some t else found q es)) ≡ (if b then Some t else (if a then Some u else found q es))
    by true true x y =
        let one : bytes_eq k l ≡ true = (bytes_eq-Decides k l).1 (same k q y ∙ sym (same l q x)) in
        let bad : false ≡ true = e ∙ one in
        absurd cc
    by true false x y = refl
    by false true x y = refl
    by false false x y = refl

found_insert : (q k t : List ℕ) (es : Pairs) → found q (insert_entry order es k t) ≡ (if bytes_eq k q then Some t else found q es)
found_insert q k t [] = found_first q k t []
found_insert q k t (e ∷ es) = found_at (order k e.0) q k e.0 t e.1 es (insert_entry order es k t) (is_eq-slice_cmp k e.0) (found_insert q k t es)

value : (key : List ℕ) (ps : List Property) → found key (values_by_key ps) ≡ value_for key ps
unfolding values_by_key entry_of
value key [] = found_first key policy_key policy_value [] ∙ by (bytes_eq policy_key key)
  where
    by : (b : Bool) → (if b then Some policy_value else found key []) ≡ (if b then Some policy_value else None)
    by true = refl
    by false = refl
value key (p ∷ ps) = found_insert key p.key p.value (values_by_key ps) ∙ ap (λ x. if bytes_eq p.key key then Some p.value else x) (value key ps)

itself : (k : List ℕ) → bytes_eq k k ≡ true
itself k = (bytes_eq-Decides k k).1 refl

-- what a statement gives the keys of some of its properties stays behind one with another key
behind_other : (q : Property) (all ps : List Property) → AllByRecursion (λ y. bytes_eq q.key y ≡ false) (map (λ p. p.key) ps)
    → AllByRecursion (λ p. value_for p.key all ≡ Some p.value) ps → AllByRecursion (λ p. value_for p.key (q ∷ all) ≡ Some p.value) ps
behind_other q all [] other is = tt
behind_other q all (p ∷ ps) other is = (ap (λ b. if b then Some q.value else value_for p.key all) other.0 ∙ is.0, behind_other q all ps other.1 is.1)

each_given : (ps : List Property) → IsDistinct bytes_eq (map (λ p. p.key) ps) → AllByRecursion (λ p. value_for p.key ps ≡ Some p.value) ps
unfolding IsDistinct
each_given [] distinct = tt
each_given (p ∷ ps) distinct = (ap (λ b. if b then Some p.value else value_for p.key ps) (itself p.key), behind_other p ps ps distinct.0 (each_given ps distinct.1))

each_found : (all ps : List Property) → AllByRecursion (λ p. value_for p.key all ≡ Some p.value) ps → AllByRecursion (λ p. value_at p.key (made_properties all) ≡ Some p.value) ps
unfolding made_properties
each_found all [] is = tt
each_found all (p ∷ ps) is = (value p.key all ∙ is.0, each_found all ps is.1)

policy_given : (ps : List Property) → AllByRecursion (λ p. bytes_eq p.key policy_key ≡ true → p.value ≡ policy_value) ps → value_for policy_key ps ≡ Some policy_value
policy_given [] all = ap (λ b. if b then Some policy_value else None) (itself policy_key)
policy_given (p ∷ ps) all = by (bytes_eq p.key policy_key) all.0 (policy_given ps all.1)
  where
    by : (b : Bool) → (b ≡ true → p.value ≡ policy_value) → value_for policy_key ps ≡ Some policy_value → (if b then Some p.value else value_for policy_key ps) ≡ Some policy_value
    by true is rest = ap Some (is refl)
    by false is rest = rest

pub are_made : PropertiesAreMade
unfolding made_properties
are_made ps = record {
  order = is_map ps;
  value = λ key. value key ps;
  each = λ distinct. each_found ps ps (each_given ps distinct);
  policy = λ all. value policy_key ps ∙ policy_given ps all;
}
