-- The map of the source's rows by their keys: how it is filled, what is found in it, and what is left in it.
use Rattle.std.proofs.Common.{◌≡◌, ℕ, Bool, true, false, cond, not, ◌&&◌, ◌||◌, ◌==◌, List, [], ◌∷◌, ◌++◌, length, refl, sym, ap, ◌∙◌, subst, inl, inr, append_assoc}
use Rattle.std.specs.Prelude.{Option, Some, None, IfSome, if◌then◌else◌, filter, is_some}
use Rattle.std.specs.BTreeMap.{BTreeMap, get}
use Rattle.std.specs.List.{list_any, list_all}
use Rattle.std.proofs.lemmas.Bool.{cases_Bool, eqb-true}
use Rattle.std.proofs.lemmas.List.Elements.{filter_agree}
use Rattle.row_base.specs.RowOrder.{row_cmp, row_eq}
use Rattle.row_base.specs.declared.row.Datum.{Datum}
use Rattle.row_base.proofs.RowOrder.{row_decides}
use Rattle.op_types.specs.declared.bound.MergeSpec.{MergeSpec}
use Rattle.op_types.specs.Bound.{is_merge_bound}
use Rattle.merge_op.specs.declared.keys.Found.{Found}
use Rattle.merge_op.specs.Found.{found_view, found_under, with_row, IsKeyed, NoneMet, is_met, met_by, has_key, is_left}
use Rattle.merge_op.specs.Matches.{is_match, matches, unmatched, key_data, has_null}
use Rattle.merge_op.specs.Merges.{first_of, match_of}
use Rattle.merge_op.proofs.Widths.{source_wide}
use Rattle.merge_op.proofs.KeyData.{match_is, match_has, null_matches, null_source}

abbrev Row : Type 0
Row = List Datum

-- what is found once all these rows are there too
abbrev pub with_all : Option (Row × Bool) → List Row → Option (Row × Bool)
with_all o [] = o
with_all o (s ∷ ss) = with_all (with_row o s) ss

stays : (s : Row) (ss : List Row) → with_all (Some (s, true)) ss ≡ Some (s, true)
stays s [] = refl
stays s (t ∷ ss) = stays s ss

pub first_is : (ss : List Row) → with_all None ss ≡ first_of ss
first_is [] = refl
first_is (s ∷ []) = refl
first_is (s ∷ t ∷ ss) = stays s ss

-- a row is put under its key
pub keyed_step : (keys : List ℕ) (row : Row) (rest : List Row) (m n : BTreeMap Row Found) (f : Found) (whole : Row → Option (Row × Bool))
    → ((q : Row) → get row_cmp n q ≡ cond (row_eq (key_data keys row) q) (Some f) (get row_cmp m q))
    → Some (f.row.now, f.several) ≡ with_row (found_view (get row_cmp m (key_data keys row))) row
    → ((q : Row) → with_all (found_view (get row_cmp m q)) (filter (λ s. row_eq (key_data keys s) q) (row ∷ rest)) ≡ whole q)
    → (q : Row) → with_all (found_view (get row_cmp n q)) (filter (λ s. row_eq (key_data keys s) q) rest) ≡ whole q
keyed_step keys row rest m n f whole updates made before q = by (row_eq (key_data keys row) q) refl (updates q) (before q)
  where
    more : List Row
    more = filter (λ s. row_eq (key_data keys s) q) rest

    by : (b : Bool) → row_eq (key_data keys row) q ≡ b → get row_cmp n q ≡ cond b (Some f) (get row_cmp m q)
        → with_all (found_view (get row_cmp m q)) (cond b (row ∷ filter (λ s. row_eq (key_data keys s) q) rest) (filter (λ s. row_eq (key_data keys s) q) rest)) ≡ whole q
        → with_all (found_view (get row_cmp n q)) (filter (λ s. row_eq (key_data keys s) q) rest) ≡ whole q
    by true e u h =
        ap (λ (o : Option Found). with_all (found_view o) (filter (λ s. row_eq (key_data keys s) q) rest)) u
        ∙ ap (λ (o : Option (Row × Bool)). with_all o (filter (λ s. row_eq (key_data keys s) q) rest)) made
        ∙ ap (λ (k : Row). with_all (with_row (found_view (get row_cmp m k)) row) (filter (λ s. row_eq (key_data keys s) q) rest)) ((row_decides (key_data keys row) q).0 e)
        ∙ h
    by false e u h = ap (λ (o : Option Found). with_all (found_view o) (filter (λ s. row_eq (key_data keys s) q) rest)) u ∙ h

pub keyed_row : (keys : List ℕ) (row key : Row) (left rest source : List Row) (m n : BTreeMap Row Found) (f : Found) → key ≡ key_data keys row → left ≡ row ∷ rest
    → ((q : Row) → get row_cmp n q ≡ cond (row_eq key q) (Some f) (get row_cmp m q))
    → Some (f.row.now, f.several) ≡ with_row (found_view (get row_cmp m key)) row
    → ((q : Row) → with_all (found_view (get row_cmp m q)) (filter (λ s. row_eq (key_data keys s) q) left) ≡ first_of (filter (λ s. row_eq (key_data keys s) q) source))
    → (q : Row) → with_all (found_view (get row_cmp n q)) (filter (λ s. row_eq (key_data keys s) q) rest) ≡ first_of (filter (λ s. row_eq (key_data keys s) q) source)
keyed_row keys row key left rest source m n f e at updates made before q =
    keyed_step keys row rest m n f (λ p. first_of (filter (λ s. row_eq (key_data keys s) p) source))
    (λ p. updates p ∙ ap (λ (k : Row). cond (row_eq k p) (Some f) (get row_cmp m p)) e)
    (made ∙ ap (λ (k : Row). with_row (found_view (get row_cmp m k)) row) e)
    (λ p. ap (λ (l : List Row). with_all (found_view (get row_cmp m p)) (filter (λ s. row_eq (key_data keys s) p) l)) (sym at) ∙ before p) q

-- one that no row of the table has
pub unmet_row : (row : Row) (m n : BTreeMap Row Found) (f : Found) → f.met ≡ false → ((q : Row) → get row_cmp n q ≡ cond (row_eq row q) (Some f) (get row_cmp m q)) → NoneMet m → NoneMet n
unmet_row row m n f none updates before q = ap is_met (updates q) ∙ by (row_eq row q)
  where
    by : (b : Bool) → is_met (cond b (Some f) (get row_cmp m q)) ≡ false
    by true = none
    by false = before q

-- ---- what is found

none_pass : (test : Row → Bool) (ss : List Row) → ((s : Row) → test s ≡ false) → filter test ss ≡ []
none_pass test [] h = refl
none_pass test (s ∷ ss) h = ap (λ (b : Bool). cond b (s ∷ filter test ss) (filter test ss)) (h s) ∙ none_pass test ss h

pub none_found : (keys : List ℕ) (source : List Row) (x : Row) → has_null keys x ≡ true → None ≡ first_of (matches keys source x)
none_found keys source x n = ap first_of (sym (none_pass (is_match keys x) source (λ s. null_matches keys x s n)))

pub key_found : (keys : List ℕ) (source : List Row) (m : BTreeMap Row Found) (x : Row) → has_null keys x ≡ false → IsKeyed keys source m
    → found_view (get row_cmp m (key_data keys x)) ≡ first_of (matches keys source x)
key_found keys source m x n keyed =
    keyed (key_data keys x) ∙ ap first_of (sym (filter_agree (is_match keys x) (λ s. row_eq (key_data keys s) (key_data keys x)) (λ s. match_is keys x s n) source))

found_match : (m : MergeSpec ℕ) (keyed : BTreeMap Row Found) (x : Row) → IsKeyed m.keys m.source keyed → found_view (found_under m.keys keyed x) ≡ match_of m x
found_match m keyed x is = elim (cases_Bool (has_null m.keys x)) [
  | inl n ↦ ap (λ (b : Bool). found_view (if b then None else get row_cmp keyed (key_data m.keys x))) n ∙ none_found m.keys m.source x n
  | inr n ↦ ap (λ (b : Bool). found_view (if b then None else get row_cmp keyed (key_data m.keys x))) n ∙ key_found m.keys m.source keyed x n is
]

pub match_found : (m : MergeSpec ℕ) (keyed : BTreeMap Row Found) (x : Row) (o : Option Found) → o ≡ found_under m.keys keyed x → IsKeyed m.keys m.source keyed → found_view o ≡ match_of m x
match_found m keyed x o e is = ap found_view e ∙ found_match m keyed x is

-- the first of some rows passes what all pass
pub first_passes : (P : Row → Bool) (test : Row → Bool) (source : List Row) → list_all P source ≡ true → IfSome (first_of (filter test source)) (λ f. P f.0 ≡ true)
first_passes P test [] all = tt
first_passes P test (s ∷ source) all = by (test s) (P s) refl all (first_passes P test source)
  where
    head_of : (ss : List Row) → P s ≡ true → IfSome (first_of (s ∷ ss)) (λ f. P f.0 ≡ true)
    head_of [] h = h
    head_of (t ∷ ss) h = h

    by : (b c : Bool) → P s ≡ c → (c && list_all P source) ≡ true → (list_all P source ≡ true → IfSome (first_of (filter test source)) (λ f. P f.0 ≡ true))
        → IfSome (first_of (cond b (s ∷ filter test source) (filter test source))) (λ f. P f.0 ≡ true)
    by true true e all rest = head_of (filter test source) e
    by false true e all rest = rest all
    by b false e all rest = absurd cc

pub found_wide : (m : MergeSpec ℕ) (row : Row) (o : Option Found) → found_view o ≡ match_of m row → is_merge_bound (length row) m ≡ true → IfSome o (λ f. length f.row.now ≡ length row)
found_wide m row None e bound = tt
found_wide m row (Some f) e bound =
    let all = first_passes (λ s. length s == length row) (is_match m.keys row) m.source (source_wide (length row) m bound) in
    let wide : (length f.row.now == length row) ≡ true = subst (λ (o : Option (Row × Bool)). IfSome o (λ f. (length f.0 == length row) ≡ true)) (sym e) all in
    eqb-true (length f.row.now) (length row) wide

pub match_wide : (m : MergeSpec ℕ) (keyed : BTreeMap Row Found) (x : Row) (o : Option Found) → o ≡ found_under m.keys keyed x → IsKeyed m.keys m.source keyed → is_merge_bound (length x) m ≡ true
    → IfSome o (λ f. length f.row.now ≡ length x)
match_wide m keyed x o e is bound = found_wide m x o (match_found m keyed x o e is) bound

-- ---- what is met

-- one more key, and further ones
pub met_step : (a b : Bool) (o : Option Found) → met_by a (met_by b o) ≡ met_by (b || a) o
met_step true true (Some f) = refl
met_step true true None = refl
met_step true false o = refl
met_step false true o = refl
met_step false false o = refl

same_view : (b : Bool) (o : Option Found) → found_view (met_by b o) ≡ found_view o
same_view true (Some f) = refl
same_view true None = refl
same_view false o = refl

pub still_keyed : (keys : List ℕ) (source : List Row) (m n : BTreeMap Row Found) (test : Row → Bool) → ((q : Row) → get row_cmp n q ≡ met_by (test q) (get row_cmp m q)) → IsKeyed keys source m → IsKeyed keys source n
still_keyed keys source m n test met keyed q = ap found_view (met q) ∙ same_view (test q) (get row_cmp m q) ∙ keyed q

-- ---- what is left

pub any_append : (test : Row → Bool) (xs ys : List Row) → list_any test (xs ++ ys) ≡ (list_any test xs || list_any test ys)
any_append test [] ys = refl
any_append test (x ∷ xs) ys = ap (λ (b : Bool). test x || b) (any_append test xs ys) ∙ grouped (test x) (list_any test xs) (list_any test ys)
  where
    grouped : (a b c : Bool) → (a || (b || c)) ≡ ((a || b) || c)
    grouped true b c = refl
    grouped false b c = refl

any_agree : (p q : Row → Bool) → ((x : Row) → p x ≡ q x) → (xs : List Row) → list_any p xs ≡ list_any q xs
any_agree p q h [] = refl
any_agree p q h (x ∷ xs) = ap (λ (b : Bool). b || list_any p xs) (h x) ∙ ap (λ (b : Bool). q x || b) (any_agree p q h xs)

none_any : (p : Row → Bool) → ((x : Row) → p x ≡ false) → (xs : List Row) → list_any p xs ≡ false
none_any p h [] = refl
none_any p h (x ∷ xs) = ap (λ (b : Bool). b || list_any p xs) (h x) ∙ none_any p h xs

-- a row that passes is found among these
there : (test : Row → Bool) (before rest : List Row) (s : Row) → test s ≡ true → is_some (first_of (filter test (before ++ s ∷ rest))) ≡ true
there test [] rest s e = ap (λ (b : Bool). is_some (first_of (cond b (s ∷ filter test rest) (filter test rest)))) e ∙ some (filter test rest)
  where
    some : (ss : List Row) → is_some (first_of (s ∷ ss)) ≡ true
    some [] = refl
    some (t ∷ ss) = refl
there test (x ∷ before) rest s e = by (test x) (there test before rest s e)
  where
    some : (ss : List Row) → is_some (first_of (x ∷ ss)) ≡ true
    some [] = refl
    some (t ∷ ss) = refl

    by : (b : Bool) → is_some (first_of (filter test (before ++ s ∷ rest))) ≡ true → is_some (first_of (cond b (x ∷ filter test (before ++ s ∷ rest)) (filter test (before ++ s ∷ rest)))) ≡ true
    by true h = some (filter test (before ++ s ∷ rest))
    by false h = h

viewed : (o : Option Found) → is_some (found_view o) ≡ is_some o
viewed (Some f) = refl
viewed None = refl

module _ (keys : List ℕ) (source rows : List Row) (m n : BTreeMap Row Found) (keyed : IsKeyed keys source m) (unmet : NoneMet m)
    (met : (q : Row) → get row_cmp n q ≡ met_by (list_any (has_key keys q) rows) (get row_cmp m q)) where
  one_left : (before rest : List Row) (s : Row) → source ≡ before ++ s ∷ rest → is_left keys n s ≡ not (list_any (λ x. is_match keys x s) rows)
  one_left before rest s at = elim (cases_Bool (has_null keys s)) [
    | inl e ↦
        ap (λ (b : Bool). b || not (is_met (get row_cmp n (key_data keys s)))) e
        ∙ ap not (sym (none_any (λ x. is_match keys x s) (λ x. null_source keys x s e) rows))
    | inr e ↦
        ap (λ (b : Bool). b || not (is_met (get row_cmp n (key_data keys s)))) e
        ∙ ap (λ (o : Option Found). not (is_met o)) (met (key_data keys s))
        ∙ ap not (by (list_any (has_key keys (key_data keys s)) rows) (get row_cmp m (key_data keys s)) stands (unmet (key_data keys s)))
        ∙ ap not (sym (any_agree (λ x. is_match keys x s) (has_key keys (key_data keys s)) (λ x. match_has keys x s) rows))
  ]
    where
      itself : row_eq (key_data keys s) (key_data keys s) ≡ true
      itself = (row_decides (key_data keys s) (key_data keys s)).1 refl

      stands : is_some (get row_cmp m (key_data keys s)) ≡ true
      stands =
          sym (viewed (get row_cmp m (key_data keys s))) ∙ ap is_some (keyed (key_data keys s))
          ∙ ap (λ (ss : List Row). is_some (first_of (filter (λ r. row_eq (key_data keys r) (key_data keys s)) ss))) at
          ∙ there (λ r. row_eq (key_data keys r) (key_data keys s)) before rest s itself

      by : (b : Bool) (o : Option Found) → is_some o ≡ true → is_met o ≡ false → is_met (met_by b o) ≡ b
      by true (Some f) e none = refl
      by true None e none = absurd cc
      by false o e none = none

  all_left : (before rest : List Row) → source ≡ before ++ rest → filter (is_left keys n) rest ≡ filter (λ s. not (list_any (λ x. is_match keys x s) rows)) rest
  all_left before [] at = refl
  all_left before (s ∷ rest) at =
      ap (λ (b : Bool). cond b (s ∷ filter (is_left keys n) rest) (filter (is_left keys n) rest)) (one_left before rest s at)
      ∙ ap (λ (l : List Row). cond (not (list_any (λ x. is_match keys x s) rows)) (s ∷ l) l)
      (all_left (before ++ s ∷ []) rest (at ∙ sym (append_assoc before (s ∷ []) rest)))

  pub left_is : filter (is_left keys n) source ≡ unmatched keys source rows
  left_is = all_left [] source refl
