-- Groups that are written stand where they are written.
use Rattle.std.proofs.Common.{◌≡◌, ◌≢◌, ℕ, suc, ◌+◌, ◌<◌, Bool, true, false, if◌then◌else◌, List, [], ◌∷◌, ◌++◌, length, get_or, Option, Some, None, refl, sym, ap, ◌∙◌, subst, arith, append_assoc}
use Rattle.std.specs.List.{AllPairs, find}
use Rattle.std.specs.Cmp.Lexicographic.{bytes_decides}
use Rattle.std.proofs.lemmas.Bool.{false_from_ne_true}
use Rattle.std.proofs.lemmas.List.{length-map}
use Rattle.row_base.specs.declared.row.Datum.{Datum}
use Rattle.row_base.specs.declared.row.Datum.TheVariants as datum
use Rattle.row_base.specs.declared.schema.Column.{Column}
use Rattle.parquet_meta.specs.declared.meta.ColumnChunk.{ColumnChunk}
use Rattle.parquet_meta.specs.declared.meta.SchemaElement.{SchemaElement}
use Rattle.parquet_pages.specs.Places.{dictionary_of}
use Rattle.parquet_pages.specs.ReadBack.{StandsIn}
use Rattle.parquet_plain.specs.declared.source.Leaf.{Leaf}
use Rattle.parquet_plain.specs.declared.source.Source.TheVariants as source
use Rattle.parquet_plain.specs.Tree.{same_name, is_partition, is_optional, leaf_at, leaf_from, source_by, sources_from}
use Rattle.parquet_plain.specs.Reading.{is_chunk_of}
use Rattle.parquet_plain.specs.Written.{chunk_text, chunk_entry, chunk_entry_by, column_values, chunks_text, chunk_entries, repetition_of, element_of, elements_from}
use Rattle.parquet_plain.specs.Grammar.{IsChunk, HasValues, HaveValues}
use Rattle.parquet_plain.proofs.ChunkBack.{Small, stands_first, stands_second, IsLeafOf, Whole, entry_back}
use Rattle.parquet_plain.proofs.Steps.{if_at, unless_at}

-- ---- names

same : (q : List ℕ) → same_name q q ≡ true
same q = (bytes_decides q q).1 refl

differ : (k q : List ℕ) → k ≢ q → same_name k q ≡ false
differ k q apart = false_from_ne_true (same_name k q) (λ e. apart ((bytes_decides k q).0 e))

-- none of the columns has this name
abbrev pub Without : List ℕ → List Column → Type 0
Without q [] = Unit {0}
Without q (c ∷ cs) = (c.name ≢ q) × Without q cs

-- the columns have different names
abbrev pub Apart : List Column → Type 0
Apart [] = Unit {0}
Apart (c ∷ cs) = Without c.name cs × Apart cs

without_from : (q : List ℕ) (cs : List Column) → ((j : ℕ) (d : Column) → j < length cs → (get_or cs j d).name ≢ q) → Without q cs
without_from q [] h = tt
without_from q (c ∷ cs) h = (h 0 c (omega arith), without_from q cs (λ j d within. h (suc j) d (omega arith)))

pub apart_from : (cs : List Column) → AllPairs (λ c d. c.name ≢ d.name) cs → Apart cs
apart_from [] h = tt
apart_from (c ∷ cs) h = (
  without_from c.name cs (λ j d within is. h 0 (suc j) d (omega arith) (omega arith) (sym is)),
  apart_from cs (λ i j d before within. h (suc i) (suc j) d (omega arith) (omega arith)),
)

-- no element, and no chunk, has this name
abbrev pub NoLeaf : List ℕ → List SchemaElement → Type 0
NoLeaf q [] = Unit {0}
NoLeaf q (e ∷ es) = (same_name e.name q ≡ false) × NoLeaf q es

abbrev pub NoChunk : List ℕ → List ColumnChunk → Type 0
NoChunk q [] = Unit {0}
NoChunk q (c ∷ cs) = (is_chunk_of q c ≡ false) × NoChunk q cs

abbrev pub NewLeaves : List Column → List SchemaElement → Type 0
NewLeaves [] es = Unit {0}
NewLeaves (c ∷ cs) es = NoLeaf c.name es × NewLeaves cs es

abbrev pub NewChunks : List Column → List ColumnChunk → Type 0
NewChunks [] ks = Unit {0}
NewChunks (c ∷ cs) ks = NoChunk c.name ks × NewChunks cs ks

no_leaf_more : (q : List ℕ) (es : List SchemaElement) (e : SchemaElement) → NoLeaf q es → same_name e.name q ≡ false → NoLeaf q (es ++ e ∷ [])
no_leaf_more q [] e h f = (f, tt)
no_leaf_more q (x ∷ es) e h f = (h.0, no_leaf_more q es e h.1 f)

no_chunk_more : (q : List ℕ) (ks : List ColumnChunk) (k : ColumnChunk) → NoChunk q ks → is_chunk_of q k ≡ false → NoChunk q (ks ++ k ∷ [])
no_chunk_more q [] k h f = (f, tt)
no_chunk_more q (x ∷ ks) k h f = (h.0, no_chunk_more q ks k h.1 f)

pub leaves_more : (cs : List Column) (es : List SchemaElement) (c : Column) → NewLeaves cs es → Without c.name cs → NewLeaves cs (es ++ element_of c ∷ [])
leaves_more [] es c h w = tt
leaves_more (d ∷ cs) es c h w = (no_leaf_more d.name es (element_of c) h.0 (differ c.name d.name (λ e. w.0 (sym e))), leaves_more cs es c h.1 w.1)

not_of : (c : Column) (values : List Datum) (at : ℕ) (q : List ℕ) → c.name ≢ q → is_chunk_of q (chunk_entry c values at) ≡ false
unfolding chunk_entry chunk_entry_by
not_of c values at q apart = differ c.name q apart

is_of : (c : Column) (values : List Datum) (at : ℕ) → is_chunk_of c.name (chunk_entry c values at) ≡ true
unfolding chunk_entry chunk_entry_by
is_of c values at = same c.name

chunks_more : (cs : List Column) (ks : List ColumnChunk) (c : Column) (values : List Datum) (at : ℕ) → NewChunks cs ks → Without c.name cs → NewChunks cs (ks ++ chunk_entry c values at ∷ [])
chunks_more [] ks c values at h w = tt
chunks_more (d ∷ cs) ks c values at h w =
    (no_chunk_more d.name ks (chunk_entry c values at) h.0 (not_of c values at d.name (λ e. w.0 (sym e))), chunks_more cs ks c values at h.1 w.1)

find_at : (q : List ℕ) (before later : List ColumnChunk) (k : ColumnChunk) → NoChunk q before → is_chunk_of q k ≡ true → find (is_chunk_of q) (before ++ k ∷ later) ≡ Some k
find_at q [] later k h e = if_at (is_chunk_of q k) (Some k) (find (is_chunk_of q) later) e
find_at q (x ∷ before) later k h e =
    unless_at (is_chunk_of q x) (Some x) (find (is_chunk_of q) (before ++ k ∷ later)) h.0 ∙ find_at q before later k h.1 e

pub leaf_is : (c : Column) (p : ℕ) (before later : List SchemaElement) → NoLeaf c.name before
    → leaf_from c p (before ++ element_of c ∷ later) ≡ Some (leaf_at c (p + length before) (element_of c))
leaf_is c p [] later h =
    let e : p ≡ p + 0 = omega arith in
    if_at (same_name c.name c.name) (Some (leaf_at c p (element_of c))) (leaf_from c (p + 1) later) (same c.name) ∙ ap (λ n. Some (leaf_at c n (element_of c))) e
leaf_is c p (x ∷ before) later h =
    let e : (p + 1) + length before ≡ p + suc (length before) = omega arith in
    unless_at (same_name x.name c.name) (Some (leaf_at c p x)) (leaf_from c (p + 1) (before ++ element_of c ∷ later)) h.0
    ∙ leaf_is c (p + 1) before later h.1 ∙ ap (λ n. Some (leaf_at c n (element_of c))) e

optional_is : (b : Bool) → is_optional (Some (repetition_of b)) ≡ b
optional_is true = refl
optional_is false = refl

leaf_of : (c : Column) (place : ℕ) → IsLeafOf c (leaf_at c place (element_of c))
leaf_of c place = record { name = refl; kind = refl; optional = optional_is c.nullable; nullable = refl }

-- ---- the columns of a group

-- the values of each column that is written can be written and read back
abbrev pub FitFrom : List ℕ → List (List Datum) → ℕ → List Column → Type 0
FitFrom partition rows place [] = Unit {0}
FitFrom partition rows place (c ∷ cs) =
    (is_partition partition place ≡ false → Whole c (dictionary_of c.kind (column_values place rows)) (column_values place rows)) × FitFrom partition rows (place + 1) cs

-- the values of the columns that are written; a partition column has none
abbrev pub columns_from : List ℕ → List (List Datum) → ℕ → List Column → List (List Datum)
columns_from partition rows place [] = []
columns_from partition rows place (c ∷ cs) = (if is_partition partition place then [] else column_values place rows) ∷ columns_from partition rows (place + 1) cs

-- ---- where the leaves and the chunks of the columns from a place on stand
record Stood (file : List ℕ) (leaves before rest : List SchemaElement) (chunks told others : List ColumnChunk) (at : ℕ) (text : List ℕ) (cs : List Column) : Type 0 where
  leaves_are : leaves ≡ before ++ rest
  chunks_are : chunks ≡ told ++ others
  new_leaves : NewLeaves cs before
  new_chunks : NewChunks cs told
  some : 0 < at
  stands : StandsIn file at text

column_back : (file : List ℕ) (rows : List (List Datum)) (leaves before rest : List SchemaElement) (chunks told others : List ColumnChunk) (at place : ℕ) (later : List ℕ) (c : Column) (cs : List Column) → Small file
    → Whole c (dictionary_of c.kind (column_values place rows)) (column_values place rows)
    → Stood file leaves before (element_of c ∷ rest) chunks told (chunk_entry c (column_values place rows) at ∷ others) at (chunk_text c (column_values place rows) ++ later) (c ∷ cs)
    → (l : Leaf) × (leaf_from c 0 leaves ≡ Some l) × IsChunk l (length rows) chunks file (column_values place rows)
unfolding chunk_text chunk_entry
column_back file rows leaves before rest chunks told others at place later c cs small w s =
    let values = column_values place rows in
    let l = leaf_at c (0 + length before) (element_of c) in
    let named = ap (λ ks. find (is_chunk_of c.name) ks) s.chunks_are ∙ find_at c.name told others (chunk_entry c values at) s.new_chunks.0 (is_of c values at) in (
      l,
      ap (leaf_from c 0) s.leaves_are ∙ leaf_is c 0 before rest s.new_leaves.0,
      subst (λ n. IsChunk l n chunks file values) (length-map rows (λ (r : List Datum). get_or r place datum.Null))
          (entry_back c l file (dictionary_of c.kind values) values at chunks (leaf_of c (0 + length before)) s.some small w
          (stands_first file at (chunk_text c values) later s.stands) named),
    )

pub some_inside : (x l : Leaf) → Some x ≡ Some l → x ≡ l
some_inside x l e = cc

held : (c : Column) (n : ℕ) (chunks : List ColumnChunk) (file : List ℕ) (values : List Datum) (l : Leaf) (o : Option Leaf) → o ≡ Some l → IsChunk l n chunks file values
    → HasValues (source_by c o) n chunks file values
held c n chunks file values l None e h = absurd (let k : ◌≡◌ {A = Option Leaf} None (Some l) = e in cc)
held c n chunks file values l (Some x) e h = subst (λ y. IsChunk y n chunks file values) (sym (some_inside x l e)) h

columns_back : (file : List ℕ) (partition : List ℕ) (rows : List (List Datum)) (leaves before : List SchemaElement) (chunks told : List ColumnChunk) (at place : ℕ) (cs : List Column) → Small file
    → Apart cs → FitFrom partition rows place cs
    → Stood file leaves before (elements_from partition place cs) chunks told (chunk_entries partition rows at place cs) at (chunks_text partition rows place cs) cs
    → HaveValues (sources_from partition leaves place cs) (length rows) chunks file (columns_from partition rows place cs)
columns_back file partition rows leaves before chunks told at place [] small apart fit s = refl
columns_back file partition rows leaves before chunks told at place (c ∷ cs) small apart fit s =
    by (is_partition partition place) refl s
    (λ before told at stood. columns_back file partition rows leaves before chunks told at (place + 1) cs small apart.1 fit.1 stood)
  where
    values : List Datum
    values = column_values place rows

    by : (b : Bool) → is_partition partition place ≡ b
        → Stood file leaves before (if b then elements_from partition (place + 1) cs else element_of c ∷ elements_from partition (place + 1) cs)
        chunks told (if b then chunk_entries partition rows at (place + 1) cs else chunk_entry c values at ∷ chunk_entries partition rows (at + length (chunk_text c values)) (place + 1) cs)
        at (if b then chunks_text partition rows (place + 1) cs else chunk_text c values ++ chunks_text partition rows (place + 1) cs) (c ∷ cs)
        → ((before : List SchemaElement) (told : List ColumnChunk) (at : ℕ)
        → Stood file leaves before (elements_from partition (place + 1) cs) chunks told (chunk_entries partition rows at (place + 1) cs) at (chunks_text partition rows (place + 1) cs) cs
        → HaveValues (sources_from partition leaves (place + 1) cs) (length rows) chunks file (columns_from partition rows (place + 1) cs))
        → HaveValues ((if b then source.Nulls else source_by c (leaf_from c 0 leaves)) ∷ sources_from partition leaves (place + 1) cs) (length rows) chunks file
        ((if b then [] else values) ∷ columns_from partition rows (place + 1) cs)
    by true is t others =
        let rest = others before told at (record { leaves_are = t.leaves_are; chunks_are = t.chunks_are; new_leaves = t.new_leaves.1; new_chunks = t.new_chunks.1; some = t.some; stands = t.stands }) in
        ([], columns_from partition rows (place + 1) cs, refl, rest, refl)
    by false is t others =
        let later = chunks_text partition rows (place + 1) cs in
        let entry = chunk_entry c values at in
        let p = column_back file rows leaves before (elements_from partition (place + 1) cs) chunks told (chunk_entries partition rows (at + length (chunk_text c values)) (place + 1) cs) at place later c cs small (fit.0 is) t in
        let rest = others (before ++ element_of c ∷ []) (told ++ entry ∷ []) (at + length (chunk_text c values)) (record {
          leaves_are = t.leaves_are ∙ sym (append_assoc before (element_of c ∷ []) (elements_from partition (place + 1) cs));
          chunks_are = t.chunks_are ∙ sym (append_assoc told (entry ∷ []) (chunk_entries partition rows (at + length (chunk_text c values)) (place + 1) cs));
          new_leaves = leaves_more cs before c t.new_leaves.1 apart.0;
          new_chunks = chunks_more cs told c values at t.new_chunks.1 apart.0;
          some = omega (arith, t.some);
          stands = stands_second file at (chunk_text c values) later t.stands;
        }) in (
          values,
          columns_from partition rows (place + 1) cs,
          held c (length rows) chunks file values p.0 (leaf_from c 0 leaves) p.1 p.2,
          rest,
          refl,
        )

-- the columns of a group that is written hold what was written
pub group_columns : (file : List ℕ) (partition : List ℕ) (rows : List (List Datum)) (at : ℕ) (cs : List Column) → Small file → 0 < at → Apart cs → FitFrom partition rows 0 cs
    → StandsIn file at (chunks_text partition rows 0 cs)
    → HaveValues (sources_from partition (elements_from partition 0 cs) 0 cs) (length rows) (chunk_entries partition rows at 0 cs) file (columns_from partition rows 0 cs)
group_columns file partition rows at cs small some apart fit s =
    columns_back file partition rows (elements_from partition 0 cs) [] (chunk_entries partition rows at 0 cs) [] at 0 cs small apart fit (record {
      leaves_are = refl;
      chunks_are = refl;
      new_leaves = no_leaves cs;
      new_chunks = no_chunks cs;
      some = some;
      stands = s;
    })
  where
    no_leaves : (ds : List Column) → NewLeaves ds []
    no_leaves [] = tt
    no_leaves (d ∷ ds) = (tt, no_leaves ds)

    no_chunks : (ds : List Column) → NewChunks ds []
    no_chunks [] = tt
    no_chunks (d ∷ ds) = (tt, no_chunks ds)
