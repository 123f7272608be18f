-- Lists are numbered one by one, and what holds of the width of each row or of each file's facts.
use Rattle.std.proofs.Common.{◌≡◌, ℕ, zero, suc, ◌+◌, Bool, true, List, [], ◌∷◌, ◌++◌, length, map, pos, refl, sym, ap, ◌∙◌, zero-add}
use Rattle.std.specs.Prelude.{◌==◌}
use Rattle.std.specs.List.{list_all, range_with_len}
use Rattle.std.proofs.lemmas.List.FromFn.{map-range_with_len_more}
use Rattle.row_base.specs.declared.row.Datum.{Datum}
use Rattle.row_base.specs.declared.row.Datum.TheVariants as datum
use Rattle.predicates.specs.declared.pred.Pred.{Pred}
use Rattle.predicates.specs.declared.pred.Pred.TheFolds.{fold-roll-Pred}
use Rattle.predicates.specs.declared.pred.Pred.TheOpen.{Pred-F}
use Rattle.predicates.specs.declared.pred.Pred.TheVariants as pred
use Rattle.op_types.specs.declared.bound.RowOp.{RowOp}
use Rattle.predicates.specs.Truths.{is_bound, bound_step}
use Rattle.op_types.specs.Bound.{is_row_op_bound}
use Rattle.prune.specs.declared.column.ColumnFacts.{ColumnFacts}
use Rattle.row_kernels.specs.Rows.{row_of, rows_of, key_rows}
use Rattle.row_kernels.specs.Files.{statistics_of, texts_of, facts_by}

-- ---- one more

numbered_more : {A : Type 0} (f : ℕ → A) (n : ℕ) (x : A) (xs : List A) → xs ≡ map f (range_with_len 0 n) → x ≡ f n
    → xs ++ x ∷ [] ≡ map f (range_with_len 0 (n + 1))
numbered_more f n x xs e r = rw (e, r) (sym (map-range_with_len_more f 0 n n (zero-add n)))

pub rows_more : (step n : ℕ) (row : List Datum) (rows : List (List Datum)) → rows ≡ rows_of step n → row ≡ row_of step n
    → rows ++ row ∷ [] ≡ rows_of step (n + 1)
unfolding rows_of
rows_more step n row rows e r = numbered_more (row_of step) n row rows e r

pub keys_more : (n : ℕ) (row : List Datum) (rows : List (List Datum)) → rows ≡ key_rows n → row ≡ datum.Long (pos n) ∷ []
    → rows ++ row ∷ [] ≡ key_rows (n + 1)
unfolding key_rows
keys_more n row rows e r = numbered_more (λ number. datum.Long (pos number) ∷ []) n row rows e r

pub texts_more : (n : ℕ) (text : List ℕ) (texts : List (List ℕ)) → texts ≡ texts_of n → text ≡ statistics_of n
    → texts ++ text ∷ [] ≡ texts_of (n + 1)
unfolding texts_of
texts_more n text texts e t = numbered_more statistics_of n text texts e t

-- ---- widths

all_numbered : {A : Type 0} (test : A → Bool) (f : ℕ → A) → ((n : ℕ) → test (f n) ≡ true) → (from count : ℕ) → list_all test (map f (range_with_len from count)) ≡ true
all_numbered test f each from zero = refl
all_numbered test f each from (suc count) = rw (each from) (all_numbered test f each (from + 1) count)

-- what holds of two data holds of each row
wide : (test : ℕ → Bool) → test 2 ≡ true → (step count : ℕ) → list_all (λ r. test (length r)) (rows_of step count) ≡ true
unfolding rows_of
wide test two step count = all_numbered (λ (r : List Datum). test (length r)) (row_of step) (λ n. two) 0 count

pub are_bound : (scope : Pred ℕ) (step count : ℕ) (rows : List (List Datum)) → is_bound 2 scope ≡ true → rows ≡ rows_of step count
    → list_all (λ r. is_bound (length r) scope) rows ≡ true
are_bound scope step count rows two e = rw e (wide (λ width. is_bound width scope) two step count)

pub ops_bound : (o : RowOp) (step count : ℕ) (rows : List (List Datum)) → is_row_op_bound 2 o ≡ true → rows ≡ rows_of step count
    → list_all (λ r. is_row_op_bound (length r) o) rows ≡ true
ops_bound o step count rows two e = rw e (wide (λ width. is_row_op_bound width o) two step count)

pub two_wide : (step count : ℕ) (rows : List (List Datum)) → rows ≡ rows_of step count → list_all (λ r. length r == 2) rows ≡ true
two_wide step count rows e = rw e (wide (λ width. width == 2) refl step count)

keys_wide : (count : ℕ) → list_all (λ r. length r == 1) (key_rows count) ≡ true
unfolding key_rows
keys_wide count = all_numbered (λ (r : List Datum). length r == 1) (λ n. datum.Long (pos n) ∷ []) (λ n. refl) 0 count

pub keys_bound : (count : ℕ) (places : List ℕ) (rows : List (List Datum)) → places ≡ 0 ∷ [] → rows ≡ key_rows count → is_bound 2 (pred.Keys places rows) ≡ true
keys_bound count places rows p e =
    ap (is_bound 2) (sym (pred.rolls-Keys places rows)) ∙ fold-roll-Pred ℕ Bool (bound_step 2) (Pred-F.Keys places rows) ∙ (rw (p, e) (keys_wide count))

-- of each file two columns are known
facts_width : (text : List ℕ) → length (facts_by text) ≡ 2
unfolding facts_by
facts_width text = refl

pub file_bound : (scope : Pred ℕ) (text : List ℕ) (facts : List ColumnFacts) → is_bound 2 scope ≡ true → facts ≡ facts_by text → is_bound (length facts) scope ≡ true
file_bound scope text facts two e = rw (e, facts_width text) two

bound_by : (scope : Pred ℕ) → is_bound 2 scope ≡ true → (texts : List (List ℕ)) → list_all (λ f. is_bound (length f) scope) (map facts_by texts) ≡ true
bound_by scope two [] = refl
bound_by scope two (text ∷ texts) = rw (facts_width text, two) (bound_by scope two texts)

pub facts_bound : (scope : Pred ℕ) (texts : List (List ℕ)) (facts : List (List ColumnFacts)) → is_bound 2 scope ≡ true → facts ≡ map facts_by texts
    → list_all (λ f. is_bound (length f) scope) facts ≡ true
facts_bound scope texts facts two e = rw e (bound_by scope two texts)
