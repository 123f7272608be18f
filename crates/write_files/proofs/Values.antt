-- Rows of one partition have one list of partition values, and files of different parts have different names.
use Rattle.std.proofs.Common.{◌≡◌, ℕ, zero, suc, ◌<◌, ◌≤◌, ◌+◌, ◌==◌, ◌||◌, Bool, true, false, cond, List, [], ◌∷◌, map, length, get_or, refl, sym, subst, ap, ◌∙◌, arith}
use Rattle.std.specs.BTreeMap.{insert_entry}
use Rattle.std.specs.Cmp.Lexicographic.{slice_cmp}
use Rattle.std.specs.Ordering.{nat_cmp}
use Rattle.std.specs.List.{All, AllByRecursion, list_any}
use Rattle.std.specs.Prelude.{Ok}
use Rattle.std.proofs.lemmas.List.Elements.{All-from_recursion, recursion_from_All}
use Rattle.std.proofs.lemmas.Bool.{true≢false, eqb-true}
use Rattle.edge_api.specs.declared.call.Tag.{Tag}
use Rattle.row_base.specs.declared.limits.TheConstants.{MAX_OBJECT_BYTES}
use Rattle.row_base.specs.declared.row.Datum.{Datum}
use Rattle.row_base.specs.declared.schema.Column.{Column}
use Rattle.row_base.specs.Schema.{TableSchema, FitsSchema}
use Rattle.schema_text.specs.PartitionWritten as written
use Rattle.table_rules.specs.Names.{data_text}
use Rattle.table_rules.specs.Told.{DataDiffer}
use Rattle.parquet_plain.specs.Reading.{file_rows}
use Rattle.parquet_plain.specs.ReadBack.{Returns, nulled, FilesReadBack}
use Rattle.parquet_plain.specs.Written.{file_text}
use Rattle.call_phases.specs.declared.puts.File.{File}
use Rattle.write_files.specs.Order.{datum_at, values_of}
use Rattle.write_files.specs.Pieces.{first_row, pieces_of}
use Rattle.write_files.specs.Files.{files_from}
use Rattle.write_files.specs.Laws.{IsWithin, FilesAreWithin, ValuesAreOne, NamesDiffer, FilesAreRead}
use Rattle.write_files.proofs.Parts.{AreOne, Within, each_one, each_row, each_within, each_both, each_weaker}
use Rattle.write_files.proofs.Files.{files_length}

-- ---- partition values

other : (b r : Bool) → b ≡ false → (b || r) ≡ true → r ≡ true
other true r e t = absurd (true≢false e)
other false r e t = t

-- equal values at the places of a list, at a place that is among them
at_place : (ps : List ℕ) (a b : List Datum) (place : ℕ) → map (datum_at a) ps ≡ map (datum_at b) ps → list_any (λ p. p == place) ps ≡ true → datum_at a place ≡ datum_at b place
at_place [] a b place e t = absurd (true≢false (sym t))
at_place (p ∷ ps) a b place e t = by (p == place) refl (at_place ps a b place cc)
  where
    by : (h : Bool) → h ≡ (p == place) → (list_any (λ q. q == place) ps ≡ true → datum_at a place ≡ datum_at b place) → datum_at a place ≡ datum_at b place
    by true h rest = let same : p ≡ place = eqb-true p place (sym h) in subst (λ k. datum_at a k ≡ datum_at b k) same cc
    by false h rest = rest (other (p == place) (list_any (λ q. q == place) ps) (sym h) t)

texts_same : (ps : List ℕ) (a b : List Datum) → map (datum_at a) ps ≡ map (datum_at b) ps → (place : ℕ) (cs : List Column) (ts : written.Texts)
    → written.texts_from ps a place cs ts ≡ written.texts_from ps b place cs ts
texts_same ps a b e place [] ts = refl
texts_same ps a b e place (c ∷ cs) ts = by (list_any (λ p. p == place) ps) refl (texts_same ps a b e (place + 1) cs)
  where
    by : (h : Bool) → h ≡ list_any (λ p. p == place) ps
        → ((us : written.Texts) → written.texts_from ps a (place + 1) cs us ≡ written.texts_from ps b (place + 1) cs us)
        → written.texts_from ps a (place + 1) cs (cond h (insert_entry (slice_cmp nat_cmp) ts c.name (written.datum_text (datum_at a place))) ts)
        ≡ written.texts_from ps b (place + 1) cs (cond h (insert_entry (slice_cmp nat_cmp) ts c.name (written.datum_text (datum_at b place))) ts)
    by true h rest =
        rest (insert_entry (slice_cmp nat_cmp) ts c.name (written.datum_text (datum_at a place)))
        ∙ ap (λ d. written.texts_from ps b (place + 1) cs (insert_entry (slice_cmp nat_cmp) ts c.name (written.datum_text d))) (at_place ps a b place e (sym h))
    by false h rest = rest ts

pub same_partition : (s : TableSchema) (a b : List Datum) → values_of s a ≡ values_of s b → written.partition_values s a ≡ written.partition_values s b
unfolding Rattle.schema_text.specs.PartitionWritten.partition_values
same_partition s a b e = ap written.values_of (texts_same s.partition a b e 0 s.columns [])

pub values_one : ValuesAreOne
values_one s rows tag start change part =
    All-from_recursion (λ p. All (λ r. written.partition_values s r ≡ written.partition_values s (first_row p)) p) (pieces_of s rows)
    (each_weaker (AreOne s) (λ p. All (λ r. written.partition_values s r ≡ written.partition_values s (first_row p)) p)
    (λ p one. All-from_recursion (λ r. written.partition_values s r ≡ written.partition_values s (first_row p)) p
    (each_weaker (λ r. values_of s r ≡ values_of s (first_row p)) (λ r. written.partition_values s r ≡ written.partition_values s (first_row p))
    (λ r e. same_partition s r (first_row p) e) p one.1))
    (pieces_of s rows) (each_one s rows))

-- ---- limits

pub files_within : FilesAreWithin
files_within s rows =
    All-from_recursion IsWithin (pieces_of s rows)
    (each_weaker Within IsWithin (λ p w. record { some = w.0; few = w.1; small = w.2 }) (pieces_of s rows) (each_within s rows))

-- ---- names

name_at : (s : TableSchema) (tag : Tag) (start part : ℕ) (pieces : List (List (List Datum))) (i : ℕ) (d : File) → i < length pieces
    → (get_or (files_from s tag start part pieces) i d).name ≡ data_text tag start (part + i)
name_at s tag start part [] i d lt = absurd (omega (arith, lt))
name_at s tag start part (p ∷ ps) zero d lt = let e : part ≡ part + 0 = omega arith in ap (data_text tag start) e
name_at s tag start part (p ∷ ps) (suc i) d lt =
    let e : part + 1 + i ≡ part + suc i = omega arith in
    name_at s tag start (part + 1) ps i d (omega (arith, lt)) ∙ ap (data_text tag start) e

pub names_differ : DataDiffer → NamesDiffer
names_differ differ s tag start first pieces is_tag few i j d lt within same =
    let long = files_length s tag start first pieces in
    let parts = (differ tag tag start start (first + i) (first + j) is_tag is_tag (omega (arith, lt, within, few, long)) (omega (arith, within, few, long))
    (sym (name_at s tag start first pieces i d (omega (arith, lt, within, long))) ∙ same ∙ name_at s tag start first pieces j d (omega (arith, within, long)))).2 in
    absurd (omega (arith, parts, lt))

-- ---- reading back

pub files_read : FilesReadBack → FilesAreRead
files_read back s rows schema names fits returns =
    let Read : List (List Datum) → Type 0 = λ p. length (file_text s p) ≤ MAX_OBJECT_BYTES → file_rows s (file_text s p) ≡ Ok (map (nulled s) p) in
    All-from_recursion Read (pieces_of s rows)
    (each_weaker (λ p. Within p × (AllByRecursion (FitsSchema s) p × AllByRecursion (Returns s) p)) Read
    (λ p h short. back s p schema names (All-from_recursion (FitsSchema s) p h.1.0) (All-from_recursion (Returns s) p h.1.1) (omega (arith, h.0.1)) short)
    (pieces_of s rows)
    (each_both Within (λ p. AllByRecursion (FitsSchema s) p × AllByRecursion (Returns s) p) (pieces_of s rows) (each_within s rows)
    (each_both (AllByRecursion (FitsSchema s)) (AllByRecursion (Returns s)) (pieces_of s rows)
    (each_row (FitsSchema s) s rows (recursion_from_All (FitsSchema s) rows fits)) (each_row (Returns s) s rows (recursion_from_All (Returns s) rows returns)))))
