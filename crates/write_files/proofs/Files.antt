-- New files and their adds.
use Rattle.std.proofs.Common.{◌≡◌, Bool, ℕ, suc, ◌+◌, List, [], ◌∷◌, ◌++◌, length, refl, sym, subst, ap, ◌∙◌, arith, append_assoc}
use Rattle.std.specs.List.{All, AllByRecursion}
use Rattle.std.proofs.lemmas.List.Elements.{All-from_recursion, recursion_from_All}
use Rattle.edge_api.specs.declared.call.Tag.{Tag}
use Rattle.row_base.specs.declared.row.Datum.{Datum}
use Rattle.row_base.specs.Schema.{TableSchema, FitsSchema}
use Rattle.schema_text.specs.PartitionWritten.{HasText}
use Rattle.write_files.specs.Pieces.{pieces_of}
use Rattle.write_files.specs.Files.{CanBeWritten, files_from, adds_from}
use Rattle.write_files.proofs.Parts.{Within, each_row, each_within, each_both, each_weaker}

-- the rows of each file can be written
pub can_be_written : (s : TableSchema) (rows : List (List Datum)) (pieces : List (List (List Datum))) → pieces ≡ pieces_of s rows
    → All (FitsSchema s) rows → All (λ r. All HasText r) rows → All (CanBeWritten s) pieces
can_be_written s rows pieces e fits texts =
    subst (All (CanBeWritten s)) (sym e) (All-from_recursion (CanBeWritten s) (pieces_of s rows)
    (each_weaker (λ p. Within p × (AllByRecursion (FitsSchema s) p × AllByRecursion (λ r. All HasText r) p)) (CanBeWritten s)
    (λ p h. record { few = omega (arith, h.0.1); fits = All-from_recursion (FitsSchema s) p h.1.0; texts = All-from_recursion (λ r. All HasText r) p h.1.1 })
    (pieces_of s rows)
    (each_both Within (λ p. AllByRecursion (FitsSchema s) p × AllByRecursion (λ r. All HasText r) p) (pieces_of s rows) (each_within s rows)
    (each_both (AllByRecursion (FitsSchema s)) (AllByRecursion (λ r. All HasText r)) (pieces_of s rows)
    (each_row (FitsSchema s) s rows (recursion_from_All (FitsSchema s) rows fits)) (each_row (λ r. All HasText r) s rows (recursion_from_All (λ r. All HasText r) rows texts))))))

pub files_length : (s : TableSchema) (tag : Tag) (start part : ℕ) (pieces : List (List (List Datum))) → length (files_from s tag start part pieces) ≡ length pieces
files_length s tag start part [] = refl
files_length s tag start part (p ∷ ps) = ap suc (files_length s tag start (part + 1) ps)

pub adds_length : (s : TableSchema) (tag : Tag) (start : ℕ) (change : Bool) (part : ℕ) (pieces : List (List (List Datum))) → length (adds_from s tag start change part pieces) ≡ length pieces
adds_length s tag start change part [] = refl
adds_length s tag start change part (p ∷ ps) = ap suc (adds_length s tag start change (part + 1) ps)

-- a loop's step: of one more part, what is made goes behind the others
pub part_step : {A P : Type 0} (from : ℕ → List P → List A) (one : ℕ → P → A) → ((n : ℕ) (p : P) (ps : List P) → from n (p ∷ ps) ≡ one n p ∷ from (n + 1) ps)
    → (old new : List A) (x : A) (first k l part : ℕ) (p : P) (rest next : List P) → rest ≡ p ∷ next → part ≡ first + k → l ≡ k + 1 → x ≡ one part p → new ≡ old ++ x ∷ []
    → new ++ from (first + l) next ≡ old ++ from (first + k) rest
part_step from one is old new x first k l part p rest next r at more made pushed =
    let later : first + l ≡ part + 1 = omega (arith, at, more) in
    ap (λ n. new ++ from n next) later
    ∙ ap (λ o. o ++ from (part + 1) next) pushed
    ∙ append_assoc old (x ∷ []) (from (part + 1) next)
    ∙ ap (λ y. old ++ y ∷ from (part + 1) next) made
    ∙ ap (λ o. old ++ o) (sym (is part p next))
    ∙ ap (λ n. old ++ from n (p ∷ next)) at
    ∙ ap (λ o. old ++ from (first + k) o) (sym r)
