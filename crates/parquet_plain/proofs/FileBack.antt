-- A file that is written holds the rows that were written, with null in the partition columns.
use Rattle.std.proofs.Common.{◌≡◌, ℕ, zero, suc, ◌+◌, ◌%◌, ◌^◌, ◌<◌, ◌≤◌, Bool, true, false, ◌||◌, if◌then◌else◌, List, [], ◌∷◌, ◌++◌, length, map, drop, get_or, codes, Option, Some, None, is_some, Ok, pos, refl, sym, ap, ◌∙◌, subst, arith, append_assoc, append-nil, length-append}
use Rattle.std.specs.Int.{w32, to_le_bytes}
use Rattle.std.specs.List.{All}
use Rattle.std.proofs.lemmas.List.{length-map, length-take}
use Rattle.std.proofs.lemmas.Str.{IsUtf8-from_ascii}
use Rattle.std.proofs.lemmas.List.Elements.{All-map, All-append, All-take, All-drop}
use Rattle.row_base.specs.declared.limits.TheConstants.{MAX_FILE_ROWS, MAX_OBJECT_BYTES}
use Rattle.row_base.specs.declared.row.Datum.{Datum}
use Rattle.row_base.specs.declared.row.Datum.TheVariants as datum
use Rattle.row_base.specs.declared.row.Kind.{Kind}
use Rattle.row_base.specs.declared.row.Kind.TheVariants as kind
use Rattle.row_base.specs.declared.schema.Column.{Column}
use Rattle.row_base.specs.Schema.{TableSchema, IsSchema, FitsSchema}
use Rattle.parquet_meta.specs.Footer.{footer_of}
use Rattle.parquet_meta.specs.Laws.{IsNarrow, IfThere, AllFit, IsShort, IsText, FitsChunk, FitsGroup, FitsElement, FitsFile}
use Rattle.parquet_meta.specs.Written.{footer_text}
use Rattle.parquet_meta.proofs.SpelledWritten.{footers_read_back}
use Rattle.parquet_pages.specs.Places.{is_null, place_of, with_value, distinct_after, dictionary_of, pays, is_boolean}
use Rattle.parquet_pages.specs.Written.{CanStand}
use Rattle.parquet_pages.specs.ReadBack.{CanReturn, StandsIn}
use Rattle.parquet_plain.specs.Tree.{physical_of, is_partition, sources_from}
use Rattle.parquet_plain.specs.Reading.{file_rows}
use Rattle.parquet_plain.specs.Written.{parts_in, parts_of, page_values_most, group_rows_most, front_of, pages_of, chunk_text_by, chunk_text, chunk_entry_by, chunk_entry, column_values, chunks_text, chunk_entries, group_text, group_entry, groups_text, group_entries, converted_of, encodings_of, place_if, repetition_of, element_of, elements_from, elements_of, root_of, magic, groups_of, meta_of, length_bytes, ended, file_text}
use Rattle.parquet_plain.specs.Grammar.{AreGroups}
use Rattle.parquet_plain.specs.ReadBack.{nulled, Returns, FilesReadBack}
use Rattle.parquet_plain.proofs.ChunkBack.{Small, stands_first, stands_second, stands_within, Whole, DictionaryBack, IsFew, EachIs, joined, parts_each, parts_joined}
use Rattle.parquet_plain.proofs.Dictionaries.{values_placed, dictionary_stands, all_may_stand}
use Rattle.parquet_plain.proofs.FilesRead.{file_only}
use Rattle.parquet_plain.proofs.GroupBack.{Apart, apart_from, FitFrom, columns_from, group_columns}
use Rattle.parquet_plain.proofs.HeadsRead.{footer_only}
use Rattle.parquet_plain.proofs.Standing.{column_stands}
use Rattle.parquet_plain.proofs.TreeBack.{rows_back, tree_back, leaves_few}

-- ---- dictionaries

put_kept : (P : Datum → Type 0) (b : Bool) (found : List Datum) (v : Datum) → All P found → P v → All P (if b then found else found ++ v ∷ [])
put_kept P true found v h p = h
put_kept P false found v h p = All-append P found (v ∷ []) h (one P v p)
  where
    one : (P : Datum → Type 0) (v : Datum) → P v → All P (v ∷ [])
    one P v p zero d within = p
    one P v p (suc i) d within = absurd (omega arith)

all_kept : (P : Datum → Type 0) (found vs : List Datum) → All P found → All P vs → All P (distinct_after found vs)
all_kept P found [] h w = h
all_kept P found (v ∷ vs) h w =
    all_kept P (with_value found v) vs (put_kept P (is_null v || is_some (place_of found v)) found v h (w 0 v (omega arith))) (λ i d within. w (suc i) d (omega arith))

put_few : (b : Bool) (found : List Datum) (v : Datum) → length (if b then found else found ++ v ∷ []) ≤ length found + 1
put_few true found v = omega arith
put_few false found v = omega (arith, length-append found (v ∷ []))

all_few : (found vs : List Datum) → length (distinct_after found vs) ≤ length found + length vs
all_few found [] = omega arith
all_few found (v ∷ vs) = omega (arith, all_few (with_value found v) vs, put_few (is_null v || is_some (place_of found v)) found v)

back_by : (a b : Bool) (ds : List Datum) → All CanReturn ds → DictionaryBack (if a then None else (if b then Some ds else None))
back_by true b ds h = tt
back_by false true ds h = h
back_by false false ds h = tt

few_by : (a b : Bool) (ds : List Datum) → length ds ≤ 67108864 → IsFew (if a then None else (if b then Some ds else None))
few_by true b ds h = tt
few_by false true ds h = h
few_by false false ds h = tt

none_back : All CanReturn []
none_back i d within = absurd (omega arith)

whole : (c : Column) (vs : List Datum) → length vs ≤ group_rows_most → All (CanStand c.kind c.nullable) vs → All CanReturn vs → Whole c (dictionary_of c.kind vs) vs
unfolding dictionary_of
whole c vs few stand back = record {
  stand = stand;
  back = back;
  placed = values_placed c.kind c.nullable vs stand;
  dictionary = dictionary_stands c.kind vs (all_may_stand c.kind c.nullable vs stand);
  dictionary_back = back_by (is_boolean c.kind) (pays (distinct_after [] vs) vs) (distinct_after [] vs) (all_kept CanReturn [] vs none_back back);
  few = few_by (is_boolean c.kind) (pays (distinct_after [] vs) vs) (distinct_after [] vs) (omega (arith, all_few [] vs, few));
}

-- ---- groups

-- rows of a group that can be written and read back
record GroupFits (s : TableSchema) (rows : List (List Datum)) : Type 0 where
  few : length rows ≤ group_rows_most
  fits : All (FitsSchema s) rows
  back : All (Returns s) rows

get_past : (before later : List Column) (e d : Column) → get_or (before ++ e ∷ later) (length before) d ≡ e
get_past [] later e d = refl
get_past (x ∷ before) later e d = get_past before later e d

column_returns : (s : TableSchema) (k : ℕ) (rows : List (List Datum)) → is_partition s.partition k ≡ false → GroupFits s rows → All CanReturn (column_values k rows)
column_returns s k rows written g = All-map CanReturn (λ r. get_or r k datum.Null) rows (λ i r here. g.back i r here k written)

fit_from : (s : TableSchema) (rows : List (List Datum)) (before cs : List Column) → GroupFits s rows → s.columns ≡ before ++ cs → FitFrom s.partition rows (length before) cs
fit_from s rows before [] g e = tt
fit_from s rows before (c ∷ cs) g e =
    let within : length before < length s.columns = omega (arith, ap length e ∙ length-append before (c ∷ cs)) in
    let is : c ≡ get_or s.columns (length before) c = sym (ap (λ xs. get_or xs (length before) c) e ∙ get_past before cs c c) in
    let n : length (column_values (length before) rows) ≡ length rows = length-map rows (λ (r : List Datum). get_or r (length before) datum.Null) in (
      (λ written. whole c (column_values (length before) rows) (omega (arith, n, g.few)) (column_stands s (length before) c rows within is g.fits) (column_returns s (length before) rows written g)),
      subst (λ n. FitFrom s.partition rows n cs) (length-append before (c ∷ [])) (fit_from s rows (before ++ c ∷ []) cs g (e ∙ sym (append_assoc before (c ∷ []) cs))),
    )

map-append : (f : List Datum → List Datum) (xs ys : List (List Datum)) → map f (xs ++ ys) ≡ map f xs ++ map f ys
map-append f [] ys = refl
map-append f (x ∷ xs) ys = ap (λ zs. f x ∷ zs) (map-append f xs ys)

groups_back : (s : TableSchema) (file : List ℕ) (gs : List (List (List Datum))) (at : ℕ) → Small file → 0 < at → Apart s.columns → EachIs (GroupFits s) gs → StandsIn file at (groups_text s gs)
    → AreGroups (sources_from s.partition (elements_from s.partition 0 s.columns) 0 s.columns) file (group_entries s at gs) (map (nulled s) (joined gs))
unfolding groups_text group_text group_entries group_entry
groups_back s file [] at small some apart each t = refl
groups_back s file (g ∷ gs) at small some apart each t = (
  map (nulled s) g,
  map (nulled s) (joined gs),
  record {
    count = length g;
    columns = columns_from s.partition g 0 s.columns;
    counted = refl;
    held = group_columns file s.partition g at s.columns small some apart (fit_from s g [] s.columns each.0 refl) (stands_first file at (group_text s g) (groups_text s gs) t);
    beside = sym (rows_back s.partition g s.columns);
  },
  groups_back s file gs (at + length (group_text s g)) small (omega (arith, some)) apart each.1 (stands_second file at (group_text s g) (groups_text s gs) t),
  map-append (nulled s) g (joined gs),
)

-- ---- the footer's numbers and texts

narrow : (n : ℕ) → n < 2 ^ 63 → IsNarrow (pos n)
narrow n small = omega (arith, small)

kind_narrow : (k : Kind) → IsNarrow (physical_of k)
kind_narrow kind.Long = narrow 2 (omega arith)
kind_narrow kind.Integer = narrow 1 (omega arith)
kind_narrow kind.Boolean = narrow 0 (omega arith)
kind_narrow kind.String = narrow 6 (omega arith)
kind_narrow kind.Date = narrow 1 (omega arith)

repetition_narrow : (b : Bool) → IsNarrow (repetition_of b)
repetition_narrow true = narrow 1 (omega arith)
repetition_narrow false = narrow 0 (omega arith)

converted_narrow : (k : Kind) → IfThere IsNarrow (converted_of k)
converted_narrow kind.Long = tt
converted_narrow kind.Integer = tt
converted_narrow kind.Boolean = tt
converted_narrow kind.String = narrow 0 (omega arith)
converted_narrow kind.Date = narrow 6 (omega arith)

-- the names of columns are texts
abbrev pub AreNamed : List Column → Type 0
AreNamed [] = Unit {0}
AreNamed (c ∷ cs) = IsText c.name × AreNamed cs

element_fits : (c : Column) → IsText c.name → FitsElement (element_of c)
element_fits c name = record {
  physical_type = kind_narrow c.kind;
  repetition_type = repetition_narrow c.nullable;
  name = name;
  num_children = tt;
  converted_type = converted_narrow c.kind;
}

elements_fit : (partition : List ℕ) (place : ℕ) (cs : List Column) → AreNamed cs → AllFit FitsElement (elements_from partition place cs)
unfolding AllFit
elements_fit partition place [] h = tt
elements_fit partition place (c ∷ cs) h = by (is_partition partition place) (elements_fit partition (place + 1) cs h.1)
  where
    by : (b : Bool) → AllFit FitsElement (elements_from partition (place + 1) cs)
        → AllFit FitsElement (if b then elements_from partition (place + 1) cs else element_of c ∷ elements_from partition (place + 1) cs)
    by true rest = rest
    by false rest = (element_fits c h.0, rest)

schema_ascii : (i : ℕ) → get_or (codes "schema") i 0 < 128
schema_ascii zero = omega arith
schema_ascii (suc zero) = omega arith
schema_ascii (suc (suc zero)) = omega arith
schema_ascii (suc (suc (suc zero))) = omega arith
schema_ascii (suc (suc (suc (suc zero)))) = omega arith
schema_ascii (suc (suc (suc (suc (suc zero))))) = omega arith
schema_ascii (suc (suc (suc (suc (suc (suc i)))))) = omega arith

encodings_fit : (d : Option (List Datum)) → IsShort IsNarrow (encodings_of d)
unfolding AllFit
encodings_fit None = record { few = omega arith; each = (narrow 0 (omega arith), (narrow 3 (omega arith), tt)) }
encodings_fit (Some ds) = record { few = omega arith; each = (narrow 0 (omega arith), (narrow 3 (omega arith), (narrow 8 (omega arith), tt))) }

place_fits : (at : ℕ) (d : Option (List Datum)) → at < 2 ^ 63 → IfThere IsNarrow (place_if (pos at) d)
place_fits at None small = tt
place_fits at (Some ds) small = narrow at small

chunk_fits_by : (c : Column) (d : Option (List Datum)) (values : List Datum) (file : List ℕ) (at : ℕ) → IsText c.name → Small file → length values ≤ group_rows_most → StandsIn file at (chunk_text_by c d values)
    → FitsChunk (chunk_entry_by c d values at)
unfolding chunk_entry_by chunk_text_by AllFit
chunk_fits_by c d values file at name small few s =
    let text = chunk_text_by c d values in
    let end = stands_within file at text s in
    let front : at + length (front_of c d) ≤ length file = stands_within file at (front_of c d) (stands_first file at (front_of c d) (pages_of c d (parts_of page_values_most values)) s) in
    record {
      file_path = tt;
      file_offset = narrow 0 (omega arith);
      meta_data = record {
        physical_type = kind_narrow c.kind;
        encodings = encodings_fit d;
        path_in_schema = record { few = omega arith; each = (name, tt) };
        codec = narrow 0 (omega arith);
        num_values = narrow (length values) (omega (arith, few));
        total_uncompressed_size = narrow (length text) (omega (arith, end, small));
        total_compressed_size = narrow (length text) (omega (arith, end, small));
        data_page_offset = narrow (at + length (front_of c d)) (omega (arith, front, small));
        dictionary_page_offset = place_fits at d (omega (arith, end, small));
      };
    }

chunks_fit : (file : List ℕ) (partition : List ℕ) (rows : List (List Datum)) (at place : ℕ) (cs : List Column) → AreNamed cs → Small file → length rows ≤ group_rows_most
    → StandsIn file at (chunks_text partition rows place cs) → AllFit FitsChunk (chunk_entries partition rows at place cs)
unfolding AllFit chunk_text chunk_entry
chunks_fit file partition rows at place [] named small few s = tt
chunks_fit file partition rows at place (c ∷ cs) named small few s =
    by (is_partition partition place) s (λ at t. chunks_fit file partition rows at (place + 1) cs named.1 small few t)
  where
    values : List Datum
    values = column_values place rows

    by : (b : Bool) → StandsIn file at (if b then chunks_text partition rows (place + 1) cs else chunk_text c values ++ chunks_text partition rows (place + 1) cs)
        → ((at : ℕ) → StandsIn file at (chunks_text partition rows (place + 1) cs) → AllFit FitsChunk (chunk_entries partition rows at (place + 1) cs))
        → AllFit FitsChunk (if b then chunk_entries partition rows at (place + 1) cs
        else chunk_entry c values at ∷ chunk_entries partition rows (at + length (chunk_text c values)) (place + 1) cs)
    by true t others = others at t
    by false t others =
        let n : length values ≡ length rows = length-map rows (λ (r : List Datum). get_or r place datum.Null) in (
          chunk_fits_by c (dictionary_of c.kind values) values file at named.0 small (omega (arith, n, few))
              (stands_first file at (chunk_text c values) (chunks_text partition rows (place + 1) cs) t),
          others (at + length (chunk_text c values)) (stands_second file at (chunk_text c values) (chunks_text partition rows (place + 1) cs) t),
        )

few_entries : (partition : List ℕ) (rows : List (List Datum)) (at place : ℕ) (cs : List Column) → length (chunk_entries partition rows at place cs) ≤ length cs
few_entries partition rows at place [] = omega arith
few_entries partition rows at place (c ∷ cs) = by (is_partition partition place) (λ at. few_entries partition rows at (place + 1) cs)
  where
    by : (b : Bool) → ((at : ℕ) → length (chunk_entries partition rows at (place + 1) cs) ≤ length cs)
        → length (if b then chunk_entries partition rows at (place + 1) cs
        else chunk_entry c (column_values place rows) at ∷ chunk_entries partition rows (at + length (chunk_text c (column_values place rows))) (place + 1) cs) ≤ length (c ∷ cs)
    by true n = omega (arith, n at)
    by false n = omega (arith, n (at + length (chunk_text c (column_values place rows))))

groups_fit : (s : TableSchema) (file : List ℕ) (gs : List (List (List Datum))) (at : ℕ) → length s.columns ≤ 64 → AreNamed s.columns → Small file → EachIs (GroupFits s) gs
    → StandsIn file at (groups_text s gs) → AllFit FitsGroup (group_entries s at gs)
unfolding AllFit groups_text group_text group_entries group_entry
groups_fit s file [] at few named small each t = tt
groups_fit s file (g ∷ gs) at few named small each t =
    let here = stands_first file at (group_text s g) (groups_text s gs) t in (
      record {
        columns = record {
          few = omega (arith, few, few_entries s.partition g at 0 s.columns);
          each = chunks_fit file s.partition g at 0 s.columns named small each.0.few here;
        };
        total_byte_size = narrow (length (group_text s g)) (omega (arith, stands_within file at (group_text s g) here, small));
        num_rows = narrow (length g) (omega (arith, each.0.few));
      },
      groups_fit s file gs (at + length (group_text s g)) few named small each.1 (stands_second file at (group_text s g) (groups_text s gs) t),
    )

length-group_entries : (s : TableSchema) (at : ℕ) (gs : List (List (List Datum))) → length (group_entries s at gs) ≡ length gs
unfolding group_entries
length-group_entries s at [] = refl
length-group_entries s at (g ∷ gs) = let n = length-group_entries s (at + length (group_text s g)) gs in omega (arith, n)

few_parts : {A : Type 0} (size most : ℕ) (xs : List A) → length (parts_in size most xs) ≤ most
unfolding parts_in
few_parts size zero xs = omega arith
few_parts size (suc most) [] = omega arith
few_parts size (suc most) (x ∷ xs) = let n = few_parts size most (drop size (x ∷ xs)) in omega (arith, n)

few_groups : (rows : List (List Datum)) → length (groups_of rows) ≤ length rows
unfolding parts_of
few_groups rows = few_parts group_rows_most (length rows) rows

-- ---- the file

record RowsFit (s : TableSchema) (rows : List (List Datum)) : Type 0 where
  fits : All (FitsSchema s) rows
  back : All (Returns s) rows

all_fit : (s : TableSchema) (rows : List (List Datum)) → RowsFit s rows → EachIs (GroupFits s) (groups_of rows)
unfolding parts_of
all_fit s rows h =
    parts_each (RowsFit s) (GroupFits s) group_rows_most
    (λ rs k. record {
      few = omega (arith, length-take group_rows_most rs);
      fits = All-take (FitsSchema s) group_rows_most rs k.fits;
      back = All-take (Returns s) group_rows_most rs k.back;
    })
    (λ rs k. record {
      fits = All-drop (FitsSchema s) group_rows_most rs k.fits;
      back = All-drop (Returns s) group_rows_most rs k.back;
    })
    (length rows) rows h

all_joined : (rows : List (List Datum)) → joined (groups_of rows) ≡ rows
unfolding parts_of
all_joined rows = parts_joined group_rows_most (omega arith) (length rows) rows (omega arith)

modulo : (n : ℕ) → n < 2 ^ 32 → n % 2 ^ 32 ≡ n
modulo n small = omega (arith, small)

whole_file : (s : TableSchema) (rows : List (List Datum)) → List ℕ
whole_file s rows =
    let footer = footer_text (meta_of s rows) ++ [] in
    codes "PAR1" ++ (groups_text s (groups_of rows) ++ (footer ++ (to_le_bytes w32 (length footer) ++ codes "PAR1")))

file_is : (s : TableSchema) (rows : List (List Datum)) → length (footer_text (meta_of s rows)) < 2 ^ 32 → file_text s rows ≡ whole_file s rows
unfolding file_text whole_file
file_is s rows small =
    let footer = footer_text (meta_of s rows) in
    let groups = groups_text s (groups_of rows) in
    ap (λ n. codes "PAR1" ++ (groups ++ (footer ++ (to_le_bytes w32 n ++ codes "PAR1")))) (modulo (length footer) small)
    ∙ ap (λ f. codes "PAR1" ++ (groups ++ (f ++ (to_le_bytes w32 (length f) ++ codes "PAR1")))) (sym (append-nil footer))

-- what stands behind the first magic
stands_all : (s : TableSchema) (rows : List (List Datum)) → StandsIn (file_text s rows) 0 (magic ++ (groups_text s (groups_of rows) ++ ended (footer_text (meta_of s rows))))
unfolding file_text
stands_all s rows = record {
  front = [];
  rest = [];
  whole = sym (append-nil (magic ++ (groups_text s (groups_of rows) ++ ended (footer_text (meta_of s rows)))));
  begins = refl;
}

footer_small : (s : TableSchema) (rows : List (List Datum)) → Small (file_text s rows) → length (footer_text (meta_of s rows)) < 2 ^ 32
footer_small s rows small =
    let footer = footer_text (meta_of s rows) in
    let behind = stands_second (file_text s rows) 0 magic (groups_text s (groups_of rows) ++ ended footer) (stands_all s rows) in
    let last = stands_second (file_text s rows) (0 + length magic) (groups_text s (groups_of rows)) (ended footer) behind in
    let end = stands_within (file_text s rows) ((0 + length magic) + length (groups_text s (groups_of rows))) footer
    (stands_first (file_text s rows) ((0 + length magic) + length (groups_text s (groups_of rows))) footer (length_bytes (length footer) ++ magic) last) in
    omega (arith, end, small)

meta_fits : (s : TableSchema) (rows : List (List Datum)) → length s.columns ≤ 64 → AreNamed s.columns → RowsFit s rows → length rows ≤ MAX_FILE_ROWS → Small (file_text s rows)
    → StandsIn (file_text s rows) 4 (groups_text s (groups_of rows)) → FitsFile (meta_of s rows)
unfolding meta_of elements_of AllFit
meta_fits s rows few named fit short small t = record {
  version = narrow 1 (omega arith);
  schema = record {
    few = omega (arith, leaves_few s.partition s.columns few);
    each = (root_fits (length (elements_from s.partition 0 s.columns)) (leaves_few s.partition s.columns few), elements_fit s.partition 0 s.columns named);
  };
  num_rows = narrow (length rows) (omega (arith, short));
  row_groups = record {
    few = omega (arith, length-group_entries s 4 (groups_of rows), few_groups rows, short);
    each = groups_fit s (file_text s rows) (groups_of rows) 4 few named small (all_fit s rows fit) t;
  };
}
  where
    root_fits : (n : ℕ) → n ≤ 64 → FitsElement (root_of (pos n))
    root_fits n low = record {
      physical_type = tt;
      repetition_type = tt;
      name = record { short = omega arith; utf8 = IsUtf8-from_ascii (codes "schema") schema_ascii };
      num_children = narrow n (omega (arith, low));
      converted_type = tt;
    }

-- a file that is written is read as its rows, with null in the partition columns
pub file_back : (s : TableSchema) (rows : List (List Datum)) → IsSchema s → AreNamed s.columns → All (FitsSchema s) rows → All (Returns s) rows → length rows ≤ MAX_FILE_ROWS
    → length (file_text s rows) ≤ MAX_OBJECT_BYTES → file_rows s (file_text s rows) ≡ Ok (map (nulled s) rows)
unfolding whole_file meta_of
file_back s rows schema named fits back short small =
    let file = file_text s rows in
    let cs = sources_from s.partition (elements_from s.partition 0 s.columns) 0 s.columns in
    let apart = apart_from s.columns schema.names in
    let fit : RowsFit s rows = record { fits = fits; back = back } in
    let behind = stands_second file 0 magic (groups_text s (groups_of rows) ++ ended (footer_text (meta_of s rows))) (stands_all s rows) in
    let t = stands_first file 4 (groups_text s (groups_of rows)) (ended (footer_text (meta_of s rows))) behind in
    let is = file_is s rows (footer_small s rows small) in
    let footer : footer_of file ≡ Ok (meta_of s rows)
    = ap footer_of is ∙ footers_read_back (meta_of s rows) (groups_text s (groups_of rows)) [] (meta_fits s rows schema.most named fit short small t) (omega (arith, ap length is, small)) in
    let groups : AreGroups cs file (group_entries s 4 (groups_of rows)) (map (nulled s) rows)
    = subst (λ rs. AreGroups cs file (group_entries s 4 (groups_of rows)) (map (nulled s) rs)) (all_joined rows)
    (groups_back s file (groups_of rows) 4 small (omega arith) apart (all_fit s rows fit) t) in
    file_only s file (map (nulled s) rows) (record {
      meta = meta_of s rows;
      leaves = elements_from s.partition 0 s.columns;
      footer = footer_only file (meta_of s rows) footer;
      tree = tree_back s schema.most apart;
      groups = groups;
      few = omega (arith, length-map rows (nulled s), short);
    })

named_from : (cs : List Column) → All (λ c. IsText c.name) cs → AreNamed cs
named_from [] h = tt
named_from (c ∷ cs) h = (h 0 c (omega arith), named_from cs (λ i d within. h (suc i) d (omega arith)))

pub files_read_back : FilesReadBack
files_read_back s rows schema named fits back short small = file_back s rows schema (named_from s.columns named) fits back short small
