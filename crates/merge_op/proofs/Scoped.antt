-- Rows outside the scope of a merge, and files that no clause changes, stay.
use Rattle.std.proofs.Common.{◌≡◌, ℕ, ◌+◌, Bool, true, false, cond, not, ◌&&◌, ◌||◌, List, [], ◌∷◌, ◌++◌, refl, sym, ap, ◌∙◌, arith, append_assoc}
use Rattle.std.specs.Prelude.{Option, Some, None, Ok, if◌then◌else◌, filter, is_some, option_map, unwrap_or}
use Rattle.std.specs.List.{list_any}
use Rattle.row_base.specs.Bags.{count_of, others}
use Rattle.row_base.specs.Schema.{TableSchema}
use Rattle.row_base.specs.declared.row.Datum.{Datum}
use Rattle.row_base.specs.declared.row.ScannedFile.{ScannedFile}
use Rattle.row_base.proofs.Bags.{count_of-append}
use Rattle.op_types.specs.declared.bound.BySource.{BySource}
use Rattle.op_types.specs.declared.bound.Change.{Change}
use Rattle.op_types.specs.declared.bound.MergeSpec.{MergeSpec}
use Rattle.dml_ops.specs.declared.fault.WrongRow.{WrongRow}
use Rattle.dml_ops.specs.Outcomes.{Outcome, given, wrong_of, lesser, lesser_by, rows_of, least_of}
use Rattle.dml_ops.proofs.Lesser.{lesser_none}
use Rattle.dml_ops.proofs.Bagged.{rows_of-append, least_of-append}
use Rattle.merge_op.specs.Matches.{is_match, unmatched}
use Rattle.merge_op.specs.Merges.{first_of, match_of, change_by, change_by_source, change_of, source_of, changed_to, merge_step, is_another, is_ambiguous, itself, least_where, rows_in, is_touched, added}
use Rattle.merge_op.specs.Operations.{passes_by_source, in_scope}
use Rattle.merge_op.proofs.Least.{itself_none}

abbrev Row : Type 0
Row = List Datum

neither : (a b : Bool) → a || b ≡ false → (a ≡ false) × (b ≡ false)
neither false b e = (refl, e)
neither true b e = absurd cc

none_kept : (test : Row → Bool) (ss : List Row) → list_any test ss ≡ false → filter test ss ≡ []
none_kept test [] e = refl
none_kept test (s ∷ ss) e =
    let h = neither (test s) (list_any test ss) e in
    ap (λ (b : Bool). cond b (s ∷ filter test ss) (filter test ss)) h.0 ∙ none_kept test ss h.1

module _ (schema : TableSchema) (m : MergeSpec ℕ) where
  step : Row → Outcome
  step = merge_step schema m

  -- ---- a row outside the scope

  not_named : (clause : Option (BySource ℕ)) (x : Row) → passes_by_source clause x ≡ false → change_by_source clause x ≡ None
  not_named None x e = refl
  not_named (Some b) x e = ap (λ (t : Bool). if t then Some b.change else None) e

  none_matches : (x : Row) → in_scope m x ≡ false → match_of m x ≡ None
  none_matches x e = ap first_of (none_kept (is_match m.keys x) m.source (neither (list_any (is_match m.keys x) m.source) (passes_by_source m.by_source x) e).0)

  pub outside : (x : Row) → in_scope m x ≡ false → change_of m x ≡ None
  outside x e =
      ap (change_by m x) (none_matches x e)
      ∙ not_named m.by_source x (neither (list_any (is_match m.keys x) m.source) (passes_by_source m.by_source x) e).1

  pub stays : (x : Row) → change_of m x ≡ None → merge_step schema m x ≡ Ok (x ∷ [])
  stays x e = ap (λ (c : Option (Change ℕ)). unwrap_or (option_map (changed_to schema x (source_of (match_of m x))) c) (Ok (x ∷ []))) e

  and_false : (a : Bool) → (a && false) ≡ false
  and_false true = refl
  and_false false = refl

  clear : (x : Row) → in_scope m x ≡ false → is_ambiguous m x ≡ false
  clear x e = ap (λ (o : Option (Row × Bool)). is_some m.matched && is_another o) (none_matches x e) ∙ and_false (is_some m.matched)

  -- the ambiguous rows are those of the scope
  pub ambiguous_inside : (xs : List Row) → least_where (is_ambiguous m) (filter (in_scope m) xs) ≡ least_where (is_ambiguous m) xs
  ambiguous_inside [] = refl
  ambiguous_inside (x ∷ xs) = by (in_scope m x) refl (ambiguous_inside xs)
    where
      by : (b : Bool) → in_scope m x ≡ b → least_where (is_ambiguous m) (filter (in_scope m) xs) ≡ least_where (is_ambiguous m) xs
          → least_where (is_ambiguous m) (cond b (x ∷ filter (in_scope m) xs) (filter (in_scope m) xs)) ≡ least_where (is_ambiguous m) (x ∷ xs)
      by true e h = ap (λ (o : Option Row). lesser_by itself (if is_ambiguous m x then Some x else None) o) h
      by false e h =
          h ∙ sym (itself_none (least_where (is_ambiguous m) xs))
          ∙ ap (λ (t : Bool). lesser_by itself (if t then Some x else None) (least_where (is_ambiguous m) xs)) (sym (clear x e))

  -- what comes of all rows is what comes of those of the scope, and the others
  pub split_rows : (xs : List Row) (y : Row) → count_of y (rows_of (merge_step schema m) xs) ≡ count_of y (others (in_scope m) xs) + count_of y (rows_of (merge_step schema m) (filter (in_scope m) xs))
  split_rows [] y = omega arith
  split_rows (x ∷ xs) y = by (in_scope m x) refl (split_rows xs y)
    where
      by : (b : Bool) → in_scope m x ≡ b
          → count_of y (rows_of (merge_step schema m) xs) ≡ count_of y (others (in_scope m) xs) + count_of y (rows_of (merge_step schema m) (filter (in_scope m) xs))
          → count_of y (given (merge_step schema m x) ++ rows_of (merge_step schema m) xs)
          ≡ count_of y (cond (not b) (x ∷ others (in_scope m) xs) (others (in_scope m) xs)) + count_of y (rows_of (merge_step schema m) (cond b (x ∷ filter (in_scope m) xs) (filter (in_scope m) xs)))
      by true e h =
          let a = count_of-append y (given (merge_step schema m x)) (rows_of (merge_step schema m) xs) in
          let c = count_of-append y (given (merge_step schema m x)) (rows_of (merge_step schema m) (filter (in_scope m) xs)) in
          omega arith
      by false e h =
          let a : count_of y (given (merge_step schema m x) ++ rows_of (merge_step schema m) xs) ≡ count_of y (x ∷ rows_of (merge_step schema m) xs)
          = ap (λ (o : Outcome). count_of y (given o ++ rows_of (merge_step schema m) xs)) (stays x (outside x e)) in
          omega (arith, a, h)

  pub split_least : (xs : List Row) → least_of (merge_step schema m) xs ≡ least_of (merge_step schema m) (filter (in_scope m) xs)
  split_least [] = refl
  split_least (x ∷ xs) = by (in_scope m x) refl (split_least xs)
    where
      by : (b : Bool) → in_scope m x ≡ b → least_of (merge_step schema m) xs ≡ least_of (merge_step schema m) (filter (in_scope m) xs)
          → lesser (wrong_of x (merge_step schema m x)) (least_of (merge_step schema m) xs) ≡ least_of (merge_step schema m) (cond b (x ∷ filter (in_scope m) xs) (filter (in_scope m) xs))
      by true e h = ap (λ (l : Option WrongRow). lesser (wrong_of x (merge_step schema m x)) l) h
      by false e h =
          ap (λ (o : Outcome). lesser (wrong_of x o) (least_of (merge_step schema m) xs)) (stays x (outside x e))
          ∙ lesser_none (least_of (merge_step schema m) xs) ∙ h

  -- ---- a file that no clause changes

  none_some : (o : Option (Change ℕ)) → is_some o ≡ false → o ≡ None
  none_some None e = refl
  none_some (Some c) e = absurd cc

  rows_stay : (rows : List Row) → list_any (λ x. is_some (change_of m x)) rows ≡ false → rows_of (merge_step schema m) rows ≡ rows
  rows_stay [] e = refl
  rows_stay (x ∷ rows) e =
      let h = neither (is_some (change_of m x)) (list_any (λ x. is_some (change_of m x)) rows) e in
      ap (λ (o : Outcome). given o ++ rows_of (merge_step schema m) rows) (stays x (none_some (change_of m x) h.0)) ∙ ap (λ (l : List Row). x ∷ l) (rows_stay rows h.1)

  none_wrong : (rows : List Row) → list_any (λ x. is_some (change_of m x)) rows ≡ false → least_of (merge_step schema m) rows ≡ None
  none_wrong [] e = refl
  none_wrong (x ∷ rows) e =
      let h = neither (is_some (change_of m x)) (list_any (λ x. is_some (change_of m x)) rows) e in
      ap (λ (o : Outcome). lesser (wrong_of x o) (least_of (merge_step schema m) rows)) (stays x (none_some (change_of m x) h.0))
      ∙ lesser_none (least_of (merge_step schema m) rows) ∙ none_wrong rows h.1

  abbrev touched : List ScannedFile → List ScannedFile
  touched fs = filter (is_touched m) fs

  abbrev left : List ScannedFile → List ScannedFile
  left fs = filter (λ f. not (is_touched m f)) fs

  pub files_rows : (fs : List ScannedFile) (y : Row) → count_of y (rows_of (merge_step schema m) (rows_in fs)) ≡ count_of y (rows_in (left fs)) + count_of y (rows_of (merge_step schema m) (rows_in (touched fs)))
  files_rows [] y = omega arith
  files_rows (f ∷ fs) y = by (is_touched m f) refl (files_rows fs y)
    where
      whole : count_of y (rows_of (merge_step schema m) (f.rows ++ rows_in fs)) ≡ count_of y (rows_of (merge_step schema m) f.rows) + count_of y (rows_of (merge_step schema m) (rows_in fs))
      whole = ap (count_of y) (rows_of-append (merge_step schema m) f.rows (rows_in fs)) ∙ count_of-append y (rows_of (merge_step schema m) f.rows) (rows_of (merge_step schema m) (rows_in fs))

      by : (b : Bool) → is_touched m f ≡ b → count_of y (rows_of (merge_step schema m) (rows_in fs)) ≡ count_of y (rows_in (left fs)) + count_of y (rows_of (merge_step schema m) (rows_in (touched fs)))
          → count_of y (rows_of (merge_step schema m) (f.rows ++ rows_in fs))
          ≡ count_of y (rows_in (cond (not b) (f ∷ left fs) (left fs))) + count_of y (rows_of (merge_step schema m) (rows_in (cond b (f ∷ touched fs) (touched fs))))
      by true e h =
          let a = ap (count_of y) (rows_of-append (merge_step schema m) f.rows (rows_in (touched fs))) in
          let c = count_of-append y (rows_of (merge_step schema m) f.rows) (rows_of (merge_step schema m) (rows_in (touched fs))) in
          let w = whole in
          omega (arith, a, c, h, w)
      by false e h =
          let a = ap (count_of y) (rows_stay f.rows e) in
          let c = count_of-append y f.rows (rows_in (left fs)) in
          let w = whole in
          omega (arith, a, c, h, w)

  pub files_least : (fs : List ScannedFile) → least_of (merge_step schema m) (rows_in fs) ≡ least_of (merge_step schema m) (rows_in (touched fs))
  files_least [] = refl
  files_least (f ∷ fs) = least_of-append (merge_step schema m) f.rows (rows_in fs) ∙ by (is_touched m f) refl (files_least fs)
    where
      by : (b : Bool) → is_touched m f ≡ b → least_of (merge_step schema m) (rows_in fs) ≡ least_of (merge_step schema m) (rows_in (touched fs))
          → lesser (least_of (merge_step schema m) f.rows) (least_of (merge_step schema m) (rows_in fs)) ≡ least_of (merge_step schema m) (rows_in (cond b (f ∷ touched fs) (touched fs)))
      by true e h =
          ap (λ (l : Option WrongRow). lesser (least_of (merge_step schema m) f.rows) l) h
          ∙ sym (least_of-append (merge_step schema m) f.rows (rows_in (touched fs)))
      by false e h =
          ap (λ (l : Option WrongRow). lesser l (least_of (merge_step schema m) (rows_in fs))) (none_wrong f.rows e)
          ∙ lesser_none (least_of (merge_step schema m) (rows_in fs)) ∙ h

-- ---- the rows that are added

module _ (m : MergeSpec ℕ) where
  not_there : (test : Row → Bool) (before rest : List Row) (s : Row) → list_any test (before ++ s ∷ rest) ≡ false → test s ≡ false
  not_there test [] rest s e = (neither (test s) (list_any test rest) e).0
  not_there test (x ∷ before) rest s e = not_there test before rest s (neither (test x) (list_any test (before ++ s ∷ rest)) e).1

  any_inside : (before rest : List Row) (s : Row) → m.source ≡ before ++ s ∷ rest → (rows : List Row)
      → list_any (λ x. is_match m.keys x s) (filter (in_scope m) rows) ≡ list_any (λ x. is_match m.keys x s) rows
  any_inside before rest s at [] = refl
  any_inside before rest s at (x ∷ rows) = by (in_scope m x) refl (any_inside before rest s at rows)
    where
      by : (b : Bool) → in_scope m x ≡ b → list_any (λ x. is_match m.keys x s) (filter (in_scope m) rows) ≡ list_any (λ x. is_match m.keys x s) rows → list_any (λ x. is_match m.keys x s) (cond b (x ∷ filter (in_scope m) rows) (filter (in_scope m) rows)) ≡ (is_match m.keys x s || list_any (λ x. is_match m.keys x s) rows)
      by true e h = ap (λ (t : Bool). is_match m.keys x s || t) h
      by false e h =
          let none = (neither (list_any (is_match m.keys x) m.source) (passes_by_source m.by_source x) e).0 in
          let apart = not_there (is_match m.keys x) before rest s (sym (ap (list_any (is_match m.keys x)) at) ∙ none) in
          h ∙ ap (λ (t : Bool). t || list_any (λ x. is_match m.keys x s) rows) (sym apart)

  left_inside : (rows before rest : List Row) → m.source ≡ before ++ rest → unmatched m.keys rest (filter (in_scope m) rows) ≡ unmatched m.keys rest rows
  left_inside rows before [] at = refl
  left_inside rows before (s ∷ rest) at =
      let more = unmatched m.keys rest (filter (in_scope m) rows) in
      ap (λ (t : Bool). cond (not t) (s ∷ more) more) (any_inside before rest s at rows)
      ∙ ap (λ (l : List Row). cond (not (list_any (λ x. is_match m.keys x s) rows)) (s ∷ l) l)
      (left_inside rows (before ++ s ∷ []) rest (at ∙ sym (append_assoc before (s ∷ []) rest)))

  pub added_inside : (rows : List Row) → added m (filter (in_scope m) rows) ≡ added m rows
  added_inside rows = ap (λ (l : List Row). if m.insert then l else []) (left_inside rows [] m.source refl)
