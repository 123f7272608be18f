-- A merge that is bound for a width is bound for rows of that width, and its keys are columns of them.
use Rattle.std.proofs.Common.{◌≡◌, ℕ, ◌==◌, Bool, true, false, ◌&&◌, List, [], ◌∷◌, length, refl, ap, ◌∙◌}
use Rattle.std.specs.Prelude.{nat_lt}
use Rattle.std.specs.List.{list_all}
use Rattle.std.proofs.lemmas.Bool.{eqb-true}
use Rattle.row_base.specs.declared.row.Datum.{Datum}
use Rattle.row_base.specs.declared.row.ScannedFile.{ScannedFile}
use Rattle.op_types.specs.declared.bound.MergeSpec.{MergeSpec}
use Rattle.op_types.specs.Bound.{is_merge_bound, is_matched_bound, is_by_source_bound}

both : (a b : Bool) → (a && b) ≡ true → (a ≡ true) × (b ≡ true)
both true b e = (refl, e)
both false b e = absurd cc

-- what holds of the width holds of each row
of_rows : (P : ℕ → Bool) (width : ℕ) (rows : List (List Datum)) → P width ≡ true → list_all (λ r. length r == width) rows ≡ true → list_all (λ r. P (length r)) rows ≡ true
of_rows P width [] holds wide = refl
of_rows P width (x ∷ rows) holds wide =
    let h = both (length x == width) (list_all (λ r. length r == width) rows) wide in
    let same : length x ≡ width = eqb-true (length x) width h.0 in
    ap (λ (n : ℕ). P n && list_all (λ r. P (length r)) rows) same
    ∙ ap (λ (b : Bool). b && list_all (λ r. P (length r)) rows) holds ∙ of_rows P width rows holds h.1

of_files : (P : ℕ → Bool) (width : ℕ) (files : List ScannedFile) → P width ≡ true → list_all (λ f. list_all (λ r. length r == width) f.rows) files ≡ true
    → list_all (λ f. list_all (λ r. P (length r)) f.rows) files ≡ true
of_files P width [] holds wide = refl
of_files P width (f ∷ files) holds wide =
    let h = both (list_all (λ r. length r == width) f.rows) (list_all (λ f. list_all (λ r. length r == width) f.rows) files) wide in
    ap (λ (b : Bool). b && list_all (λ f. list_all (λ r. P (length r)) f.rows) files) (of_rows P width f.rows holds h.0) ∙ of_files P width files holds h.1

parts : (a b c d : Bool) → (a && b && c && d) ≡ true → (a ≡ true) × (b ≡ true)
parts true true c d e = (refl, refl)
parts true false c d e = absurd cc
parts false b c d e = absurd cc

pub keys_within : (width : ℕ) (m : MergeSpec ℕ) → is_merge_bound width m ≡ true → list_all (λ c. nat_lt c width) m.keys ≡ true
keys_within width m e =
    (parts (list_all (λ c. nat_lt c width) m.keys) (list_all (λ s. length s == width) m.source) (is_matched_bound width m.matched) (is_by_source_bound width m.by_source) e).0

pub source_wide : (width : ℕ) (m : MergeSpec ℕ) → is_merge_bound width m ≡ true → list_all (λ s. length s == width) m.source ≡ true
source_wide width m e =
    (parts (list_all (λ c. nat_lt c width) m.keys) (list_all (λ s. length s == width) m.source) (is_matched_bound width m.matched) (is_by_source_bound width m.by_source) e).1

pub files_bound : (width : ℕ) (m : MergeSpec ℕ) (files : List ScannedFile) → is_merge_bound width m ≡ true
    → list_all (λ f. list_all (λ r. length r == width) f.rows) files ≡ true → list_all (λ f. list_all (λ r. is_merge_bound (length r) m) f.rows) files ≡ true
files_bound width m files bound wide = of_files (λ n. is_merge_bound n m) width files bound wide

pub source_keyed : (width : ℕ) (m : MergeSpec ℕ) → is_merge_bound width m ≡ true → list_all (λ s. list_all (λ c. nat_lt c (length s)) m.keys) m.source ≡ true
source_keyed width m bound = of_rows (λ n. list_all (λ c. nat_lt c n) m.keys) width m.source (keys_within width m bound) (source_wide width m bound)
