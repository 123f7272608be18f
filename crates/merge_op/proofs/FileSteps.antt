-- A file more of those that are gone over.
use Rattle.std.proofs.Common.{◌≡◌, ℕ, ◌+◌, ◌<◌, Bool, true, false, cond, ◌&&◌, List, [], ◌∷◌, ◌++◌, length, get_or, drop, map, refl, sym, ap, ◌∙◌, append_assoc}
use Rattle.std.specs.Prelude.{Option, filter, if◌then◌else◌}
use Rattle.std.specs.List.{list_all, list_any}
use Rattle.std.proofs.lemmas.List.{at_drop_more}
use Rattle.row_base.specs.declared.row.Datum.{Datum}
use Rattle.row_base.specs.declared.row.ScannedFile.{ScannedFile}
use Rattle.dml_ops.specs.declared.fault.WrongRow.{WrongRow}
use Rattle.dml_ops.specs.Outcomes.{Outcome, lesser, rows_of, least_of}
use Rattle.dml_ops.proofs.Bagged.{rows_of-append, least_of-append}
use Rattle.dml_ops.proofs.Lesser.{lesser_assoc, lesser_none}
use Rattle.merge_op.specs.declared.keys.Found.{Found}
use Rattle.merge_op.specs.Found.{met_by}
use Rattle.merge_op.specs.Merges.{rows_in}
use Rattle.merge_op.proofs.Keyings.{any_append, met_step}

abbrev Row : Type 0
Row = List Datum

pub at_file : (files : List ScannedFile) (i : ℕ) (file : ScannedFile) → i < length files → file ≡ get_or files i file → drop i files ≡ file ∷ drop (i + 1) files
at_file files i file lt is = at_drop_more (λ (l : List ScannedFile). l) files i file lt ∙ ap (λ (f : ScannedFile). f ∷ drop (i + 1) files) (sym is)

second : (a b : Bool) → (a && b) ≡ true → b ≡ true
second true b e = e
second false b e = absurd cc

first : (a b : Bool) → (a && b) ≡ true → a ≡ true
first true b e = refl
first false b e = absurd cc

pub later_files : (P : ScannedFile → Bool) (file : ScannedFile) (left rest : List ScannedFile) → left ≡ file ∷ rest → list_all P left ≡ true → list_all P rest ≡ true
later_files P file left rest at all = second (P file) (list_all P rest) (sym (ap (list_all P) at) ∙ all)

pub this_file : (P : ScannedFile → Bool) (file : ScannedFile) (left rest : List ScannedFile) → left ≡ file ∷ rest → list_all P left ≡ true → P file ≡ true
this_file P file left rest at all = first (P file) (list_all P rest) (sym (ap (list_all P) at) ∙ all)

module _ (t : ScannedFile → Bool) (file : ScannedFile) (left rest : List ScannedFile) (at : left ≡ file ∷ rest) where
  pub removed_step : (before after total : List (List ℕ)) → after ≡ before ++ (if t file then file.path ∷ [] else [])
      → before ++ map (λ f. f.path) (filter t left) ≡ total → after ++ map (λ f. f.path) (filter t rest) ≡ total
  removed_step before after total put so_far =
      ap (λ (l : List (List ℕ)). l ++ map (λ f. f.path) (filter t rest)) put
      ∙ append_assoc before (if t file then file.path ∷ [] else []) (map (λ f. f.path) (filter t rest))
      ∙ ap (λ (l : List (List ℕ)). before ++ l) (by (t file))
      ∙ ap (λ (l : List ScannedFile). before ++ map (λ f. f.path) (filter t l)) (sym at) ∙ so_far
    where
      by : (b : Bool) → (if b then file.path ∷ [] else []) ++ map (λ f. f.path) (filter t rest) ≡ map (λ f. f.path) (cond b (file ∷ filter t rest) (filter t rest))
      by true = refl
      by false = refl

  module _ (f : Row → Outcome) where
    pub rows_file : (before after total : List Row) → after ≡ before ++ rows_of f (if t file then file.rows else [])
        → before ++ rows_of f (rows_in (filter t left)) ≡ total → after ++ rows_of f (rows_in (filter t rest)) ≡ total
    rows_file before after total put so_far =
        ap (λ (l : List Row). l ++ rows_of f (rows_in (filter t rest))) put
        ∙ append_assoc before (rows_of f (if t file then file.rows else [])) (rows_of f (rows_in (filter t rest)))
        ∙ ap (λ (l : List Row). before ++ l) (by (t file))
        ∙ ap (λ (l : List ScannedFile). before ++ rows_of f (rows_in (filter t l))) (sym at) ∙ so_far
      where
        by : (b : Bool) → rows_of f (if b then file.rows else []) ++ rows_of f (rows_in (filter t rest)) ≡ rows_of f (rows_in (cond b (file ∷ filter t rest) (filter t rest)))
        by true = sym (rows_of-append f file.rows (rows_in (filter t rest)))
        by false = refl

    pub least_file : (before after total : Option WrongRow) → after ≡ lesser before (least_of f (if t file then file.rows else []))
        → lesser before (least_of f (rows_in (filter t left))) ≡ total → lesser after (least_of f (rows_in (filter t rest))) ≡ total
    least_file before after total put so_far =
        ap (λ (l : Option WrongRow). lesser l (least_of f (rows_in (filter t rest)))) put
        ∙ lesser_assoc before (least_of f (if t file then file.rows else [])) (least_of f (rows_in (filter t rest)))
        ∙ ap (λ (l : Option WrongRow). lesser before l) (by (t file))
        ∙ ap (λ (l : List ScannedFile). lesser before (least_of f (rows_in (filter t l)))) (sym at) ∙ so_far
      where
        by : (b : Bool) → lesser (least_of f (if b then file.rows else [])) (least_of f (rows_in (filter t rest))) ≡ least_of f (rows_in (cond b (file ∷ filter t rest) (filter t rest)))
        by true = sym (least_of-append f file.rows (rows_in (filter t rest)))
        by false = lesser_none (least_of f (rows_in (filter t rest)))

-- keys are met, of which this is what stands under one
pub met_row : (test : Row → Bool) (row : Row) (left rest : List Row) (before after : Option Found) (total : Option Found) → left ≡ row ∷ rest
    → after ≡ met_by (test row) before → met_by (list_any test left) before ≡ total → met_by (list_any test rest) after ≡ total
met_row test row left rest before after total at put so_far =
    ap (λ (o : Option Found). met_by (list_any test rest) o) put ∙ met_step (list_any test rest) (test row) before
    ∙ ap (λ (l : List Row). met_by (list_any test l) before) (sym at) ∙ so_far

pub met_file : (test : Row → Bool) (file : ScannedFile) (left rest : List ScannedFile) (before after : Option Found) (total : Option Found) → left ≡ file ∷ rest
    → after ≡ met_by (list_any test file.rows) before → met_by (list_any test (rows_in left)) before ≡ total
    → met_by (list_any test (rows_in rest)) after ≡ total
met_file test file left rest before after total at put so_far =
    ap (λ (o : Option Found). met_by (list_any test (rows_in rest)) o) put ∙ met_step (list_any test (rows_in rest)) (list_any test file.rows) before
    ∙ ap (λ (b : Bool). met_by b before) (sym (any_append test file.rows (rows_in rest)))
    ∙ ap (λ (l : List ScannedFile). met_by (list_any test (rows_in l)) before) (sym at) ∙ so_far
