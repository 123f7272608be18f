-- A row matches a source row where it has no null in its key and their keys are equal.
use Rattle.std.proofs.Common.{◌≡◌, ℕ, Bool, true, false, not, ◌&&◌, ◌||◌, List, [], ◌∷◌, refl, sym, ap, ◌∙◌, inl, inr}
use Rattle.std.specs.Prelude.{if◌then◌else◌}
use Rattle.std.specs.declared.cmp.Ordering.{Ordering}
use Rattle.std.specs.declared.cmp.Ordering.TheVariants.{Less, Equal, Greater}
use Rattle.std.specs.Ordering.{is_eq, ordering_then, ordering_reverse}
use Rattle.std.proofs.lemmas.Bool.{cases_Bool}
use Rattle.row_base.specs.RowOrder.{datum_cmp, row_cmp, row_eq}
use Rattle.row_base.specs.RowOrderLaws.{datum_cmp_total, row_cmp_total}
use Rattle.row_base.specs.declared.row.Datum.{Datum}
use Rattle.row_base.specs.declared.row.Datum.TheVariants.{Null, Long, Integer, Boolean, Text, Date}
use Rattle.predicates.specs.Truths.{cell, is_null, compared, certain}
use Rattle.predicates.specs.declared.pred.Op.TheVariants as op
use Rattle.predicates.specs.declared.truth.Truth.TheVariants.{Unknown}
use Rattle.dml_ops.specs.Changes.{is_yes}
use Rattle.merge_op.specs.Found.{has_key}
use Rattle.merge_op.specs.Matches.{is_match, key_data, has_null}

then_eq : (r s : Ordering) → is_eq (ordering_then r s) ≡ (is_eq r && is_eq s)
then_eq Less s = refl
then_eq Equal s = refl
then_eq Greater s = refl

reversed : (r : Ordering) → is_eq (ordering_reverse r) ≡ is_eq r
reversed Less = refl
reversed Equal = refl
reversed Greater = refl

turned : (a b : Datum) → is_eq (datum_cmp a b) ≡ is_eq (datum_cmp b a)
turned a b = ap is_eq (datum_cmp_total.antisymm a b) ∙ reversed (datum_cmp b a)

pub rows_turned : (a b : List Datum) → row_eq a b ≡ row_eq b a
rows_turned a b = ap is_eq (row_cmp_total.antisymm a b) ∙ reversed (row_cmp b a)

yes_certain : (t : Bool) → is_yes (certain t) ≡ t
yes_certain true = refl
yes_certain false = refl

beside_null : (a : Datum) → is_null a ≡ false → is_eq (datum_cmp Null a) ≡ false
beside_null Null e = absurd cc
beside_null (Long n) e = refl
beside_null (Integer n) e = refl
beside_null (Boolean b) e = refl
beside_null (Text t) e = refl
beside_null (Date n) e = refl

-- a comparison, by whether its sides are null
abbrev equal_by : (n m t : Bool) → Bool
equal_by n m t = is_yes (if n then Unknown else (if m then Unknown else certain t))

one_column : (a b : Datum) → is_null a ≡ false → is_yes (compared op.Eq a b) ≡ is_eq (datum_cmp b a)
one_column a b e = elim (cases_Bool (is_null b)) [
  | inl f ↦ ap (λ (n : Bool). equal_by n (is_null b) (is_eq (datum_cmp a b))) e ∙ ap (λ (m : Bool). equal_by false m (is_eq (datum_cmp a b))) f ∙ sym (null_apart a b e f)
  | inr f ↦ ap (λ (n : Bool). equal_by n (is_null b) (is_eq (datum_cmp a b))) e ∙ ap (λ (m : Bool). equal_by false m (is_eq (datum_cmp a b))) f ∙ yes_certain (is_eq (datum_cmp a b)) ∙ turned a b
]
  where
    null_apart : (a b : Datum) → is_null a ≡ false → is_null b ≡ true → is_eq (datum_cmp b a) ≡ false
    null_apart a Null e f = beside_null a e
    null_apart a (Long n) e f = absurd cc
    null_apart a (Integer n) e f = absurd cc
    null_apart a (Boolean b) e f = absurd cc
    null_apart a (Text t) e f = absurd cc
    null_apart a (Date n) e f = absurd cc

neither : (a b : Bool) → a || b ≡ false → (a ≡ false) × (b ≡ false)
neither false b e = (refl, e)
neither true b e = absurd cc

-- without a null in the key
pub match_is : (keys : List ℕ) (x s : List Datum) → has_null keys x ≡ false → is_match keys x s ≡ row_eq (key_data keys s) (key_data keys x)
match_is [] x s e = refl
match_is (c ∷ cs) x s e =
    let h = neither (is_null (cell x c)) (has_null cs x) e in
    let first = is_eq (datum_cmp (cell s c) (cell x c)) in
    ap (λ (t : Bool). t && is_match cs x s) (one_column (cell x c) (cell s c) h.0) ∙ ap (λ (t : Bool). first && t) (match_is cs x s h.1)
    ∙ sym (then_eq (datum_cmp (cell s c) (cell x c)) (row_cmp (key_data cs s) (key_data cs x)))

and_false : (a : Bool) → (a && false) ≡ false
and_false true = refl
and_false false = refl

unknown_left : (a b : Datum) → is_null a ≡ true → is_yes (compared op.Eq a b) ≡ false
unknown_left a b e = ap (λ (n : Bool). equal_by n (is_null b) (is_eq (datum_cmp a b))) e

unknown_right : (a b : Datum) → is_null b ≡ true → is_yes (compared op.Eq a b) ≡ false
unknown_right a b e = ap (λ (m : Bool). equal_by (is_null a) m (is_eq (datum_cmp a b))) e ∙ either (is_null a)
  where
    either : (n : Bool) → equal_by n true (is_eq (datum_cmp a b)) ≡ false
    either true = refl
    either false = refl

-- with one nothing matches
pub null_matches : (keys : List ℕ) (x s : List Datum) → has_null keys x ≡ true → is_match keys x s ≡ false
null_matches [] x s e = absurd cc
null_matches (c ∷ cs) x s e = elim (cases_Bool (is_null (cell x c))) [
  | inl n ↦ ap (λ (t : Bool). t && is_match cs x s) (unknown_left (cell x c) (cell s c) n)
  | inr n ↦
      let more : has_null cs x ≡ true = sym (ap (λ (t : Bool). t || has_null cs x) n) ∙ e in
      ap (λ (t : Bool). is_yes (compared op.Eq (cell x c) (cell s c)) && t) (null_matches cs x s more) ∙ and_false (is_yes (compared op.Eq (cell x c) (cell s c)))
]

pub null_source : (keys : List ℕ) (x s : List Datum) → has_null keys s ≡ true → is_match keys x s ≡ false
null_source [] x s e = absurd cc
null_source (c ∷ cs) x s e = elim (cases_Bool (is_null (cell s c))) [
  | inl n ↦ ap (λ (t : Bool). t && is_match cs x s) (unknown_right (cell x c) (cell s c) n)
  | inr n ↦
      let more : has_null cs s ≡ true = sym (ap (λ (t : Bool). t || has_null cs s) n) ∙ e in
      ap (λ (t : Bool). is_yes (compared op.Eq (cell x c) (cell s c)) && t) (null_source cs x s more) ∙ and_false (is_yes (compared op.Eq (cell x c) (cell s c)))
]

pub match_has : (keys : List ℕ) (x s : List Datum) → is_match keys x s ≡ has_key keys (key_data keys s) x
match_has keys x s = elim (cases_Bool (has_null keys x)) [
  | inl n ↦ null_matches keys x s n ∙ ap (λ (t : Bool). not t && row_eq (key_data keys x) (key_data keys s)) (sym n)
  | inr n ↦
      match_is keys x s n ∙ rows_turned (key_data keys s) (key_data keys x)
      ∙ ap (λ (t : Bool). not t && row_eq (key_data keys x) (key_data keys s)) (sym n)
]
