-- Chunks, columns and groups of rows are read where they stand, and only there.
use Rattle.std.proofs.Common.{◌≡◌, ℕ, ◌+◌, ◌≤◌, ◌==◌, true, false, nat_lt, not, ◌&&◌, if◌then◌else◌, List, [], ◌∷◌, ◌++◌, length, Option, Some, None, is_some, Ok, Err, ℤ, pos, negsuc, refl, sym, ap, ◌∙◌, subst, arith, append_assoc, append-nil, length-append}
use Rattle.std.specs.Prelude.{unsigned_abs, replicate, drop}
use Rattle.std.specs.Ordering.{int_eq}
use Rattle.std.specs.List.{find}
use Rattle.std.proofs.lemmas.Bool.{ltb-false, le-ltb, eqb-true, eq-eqb, and_parts, and_from}
use Rattle.std.proofs.lemmas.List.{length-replicate}
use Rattle.row_base.specs.declared.limits.TheConstants.{MAX_FILE_ROWS}
use Rattle.row_base.specs.declared.row.Datum.{Datum}
use Rattle.parquet_meta.specs.declared.fault.FileFault.TheVariants as faults
use Rattle.parquet_meta.specs.declared.meta.ColumnChunk.{ColumnChunk}
use Rattle.parquet_meta.specs.declared.meta.RowGroup.{RowGroup}
use Rattle.row_base.specs.Faults.{◌>>=◌}
use Rattle.parquet_pages.proofs.PagesRead.{number_same, same_number}
use Rattle.parquet_plain.specs.declared.chunk.Span.{Span}
use Rattle.parquet_plain.specs.declared.source.Leaf.{Leaf}
use Rattle.parquet_plain.specs.declared.source.Source.{Source}
use Rattle.parquet_plain.specs.declared.source.Source.TheVariants as source
use Rattle.parquet_plain.specs.Tree.{physical_of}
use Rattle.parquet_plain.specs.Reading.{is_chunk_of, has_natural_numbers, first_byte, codec_fault, is_whole, span_of, chunk_values, leaf_values_by, leaf_values, source_values, columns_values, with_column, with_columns, side_by_side, rows_of, group_rows, with_groups}
use Rattle.parquet_plain.specs.Grammar.{IsChunk, HasValues, HaveValues, IsGroup, AreGroups}
use Rattle.parquet_plain.proofs.WalkRead.{chunk_found, chunk_only}
use Rattle.parquet_plain.proofs.Steps.{bind_ok, bind_at, if_ok, unless_ok, if_at, unless_at, ok_inside, not_false, false_not, not_is_true, true_not}

-- ---- chunks

chunk_end : ColumnChunk → ℕ
chunk_end c = first_byte c.meta_data + unsigned_abs c.meta_data.total_compressed_size

none_of : {A : Type 0} (o : Option A) → is_some o ≡ false → o ≡ None
none_of None e = refl
none_of (Some x) e = absurd cc

some_of : {A : Type 0} (o : Option A) → o ≡ None → is_some o ≡ false
some_of o e = ap is_some e

record Spanned (l : Leaf) (rows size : ℕ) (c : ColumnChunk) (span : Span) : Type 0 where
  typed : c.meta_data.physical_type ≡ physical_of l.kind
  uncompressed : c.meta_data.codec ≡ pos 0
  here : c.file_path ≡ None
  numbers : has_natural_numbers c ≡ true
  counted : unsigned_abs c.meta_data.num_values ≡ rows
  within : first_byte c.meta_data + unsigned_abs c.meta_data.total_compressed_size ≤ size
  is : span ≡ record { begins = first_byte c.meta_data; ends = first_byte c.meta_data + unsigned_abs c.meta_data.total_compressed_size }

whole_span : ColumnChunk → Span
whole_span c = record { begins = first_byte c.meta_data; ends = first_byte c.meta_data + unsigned_abs c.meta_data.total_compressed_size }

spanned : (l : Leaf) (rows size : ℕ) (c : ColumnChunk) (span : Span) → span_of l rows size c ≡ Ok span → Spanned l rows size c span
unfolding span_of whole_span
spanned l rows size c span e =
    let m = c.meta_data in
    let last = if is_whole rows size c then Ok (whole_span c) else Err (faults.Shape l.name) in
    let coded = if not (int_eq m.codec (pos 0)) then Err (codec_fault l.name m.codec) else last in
    let p = unless_ok (not (int_eq m.physical_type (physical_of l.kind))) coded (faults.Physical l.name) span e in
    let q = unless_ok (not (int_eq m.codec (pos 0))) last (codec_fault l.name m.codec) span p.1 in
    let r = if_ok (is_whole rows size c) (Ok (whole_span c)) (faults.Shape l.name) span q.1 in
    let far = nat_lt size (first_byte m + unsigned_abs m.total_compressed_size) in
    let w = and_parts (not (is_some c.file_path) && has_natural_numbers c) ((unsigned_abs m.num_values == rows) && not far) r.0 in
    let a = and_parts (not (is_some c.file_path)) (has_natural_numbers c) w.0 in
    let b = and_parts (unsigned_abs m.num_values == rows) (not far) w.1 in
    record {
      typed = same_number m.physical_type (physical_of l.kind) (not_false (int_eq m.physical_type (physical_of l.kind)) p.0);
      uncompressed = same_number m.codec (pos 0) (not_false (int_eq m.codec (pos 0)) q.0);
      here = none_of c.file_path (not_is_true (is_some c.file_path) a.0);
      numbers = a.1;
      counted = eqb-true (unsigned_abs m.num_values) rows b.0;
      within = ltb-false size (first_byte m + unsigned_abs m.total_compressed_size) (not_is_true far b.1);
      is = sym (ok_inside (whole_span c) span r.1);
    }

spans : (l : Leaf) (rows size : ℕ) (c : ColumnChunk) → c.meta_data.physical_type ≡ physical_of l.kind → c.meta_data.codec ≡ pos 0 → c.file_path ≡ None
    → has_natural_numbers c ≡ true → unsigned_abs c.meta_data.num_values ≡ rows → first_byte c.meta_data + unsigned_abs c.meta_data.total_compressed_size ≤ size
    → span_of l rows size c ≡ Ok (whole_span c)
unfolding span_of whole_span
spans l rows size c typed uncompressed here numbers counted within =
    let m = c.meta_data in
    let last = if is_whole rows size c then Ok (whole_span c) else Err (faults.Shape l.name) in
    let coded = if not (int_eq m.codec (pos 0)) then Err (codec_fault l.name m.codec) else last in
    let far = nat_lt size (first_byte m + unsigned_abs m.total_compressed_size) in
    unless_at (not (int_eq m.physical_type (physical_of l.kind))) (Err (faults.Physical l.name)) coded
    (false_not (int_eq m.physical_type (physical_of l.kind)) (number_same m.physical_type (physical_of l.kind) typed))
    ∙ unless_at (not (int_eq m.codec (pos 0))) (Err (codec_fault l.name m.codec)) last (false_not (int_eq m.codec (pos 0)) (number_same m.codec (pos 0) uncompressed))
    ∙ if_at (is_whole rows size c) (Ok (whole_span c)) (Err (faults.Shape l.name))
    (and_from (not (is_some c.file_path) && has_natural_numbers c) ((unsigned_abs m.num_values == rows) && not far)
    (and_from (not (is_some c.file_path)) (has_natural_numbers c) (true_not (is_some c.file_path) (some_of c.file_path here)) numbers)
    (and_from (unsigned_abs m.num_values == rows) (not far) (eq-eqb (unsigned_abs m.num_values) rows counted)
    (true_not far (le-ltb size (first_byte m + unsigned_abs m.total_compressed_size) within))))

leaf_found_by : (l : Leaf) (rows : ℕ) (chunks : List ColumnChunk) (file : List ℕ) (vs : List Datum) (o : Option ColumnChunk) → find (is_chunk_of l.name) chunks ≡ o
    → leaf_values_by l rows file o ≡ Ok vs → IsChunk l rows chunks file vs
leaf_found_by l rows chunks file vs None named e = absurd cc
leaf_found_by l rows chunks file vs (Some c) named e =
    let p = bind_ok (span_of l rows (length file) c) (λ span. chunk_values l rows span file) vs e in
    let s = spanned l rows (length file) c p.0 p.1 in
    let read = ap (λ (span : Span). chunk_values l rows span file) (sym s.is) ∙ p.2 in
    let whole : Span = record { begins = first_byte c.meta_data; ends = first_byte c.meta_data + unsigned_abs c.meta_data.total_compressed_size } in
    let f = chunk_found l rows whole file vs (omega arith) read in
    record {
      chunk = c;
      named = named;
      typed = s.typed;
      uncompressed = s.uncompressed;
      here = s.here;
      numbers = s.numbers;
      counted = s.counted;
      within = s.within;
      pages = f.0;
      complete = f.1;
    }

leaf_found : (l : Leaf) (rows : ℕ) (chunks : List ColumnChunk) (file : List ℕ) (vs : List Datum) → leaf_values l rows chunks file ≡ Ok vs → IsChunk l rows chunks file vs
unfolding leaf_values
leaf_found l rows chunks file vs e = leaf_found_by l rows chunks file vs (find (is_chunk_of l.name) chunks) refl e

leaf_only : (l : Leaf) (rows : ℕ) (chunks : List ColumnChunk) (file : List ℕ) (vs : List Datum) → IsChunk l rows chunks file vs → leaf_values l rows chunks file ≡ Ok vs
unfolding leaf_values whole_span
leaf_only l rows chunks file vs h =
    ap (leaf_values_by l rows file) h.named
    ∙ bind_at (span_of l rows (length file) h.chunk) (λ span. chunk_values l rows span file) (whole_span h.chunk)
    (spans l rows (length file) h.chunk h.typed h.uncompressed h.here h.numbers h.counted h.within)
    ∙ chunk_only l rows (whole_span h.chunk) file vs h.pages h.complete

-- ---- columns

lacking_ok : (name : List ℕ) (rows : ℕ) (vs : List Datum) → (if rows == 0 then Ok [] else Err (faults.Shape name)) ≡ Ok vs → (rows ≡ 0) × (vs ≡ [])
lacking_ok name rows vs e =
    let p = if_ok (rows == 0) (Ok []) (faults.Shape name) vs e in
    (eqb-true rows 0 p.0, sym (ok_inside [] vs p.1))

source_found : (c : Source) (rows : ℕ) (chunks : List ColumnChunk) (file : List ℕ) (vs : List Datum) → source_values c rows chunks file ≡ Ok vs → HasValues c rows chunks file vs
source_found source.Nulls rows chunks file vs e = sym (ok_inside [] vs e)
source_found (source.Lacking name) rows chunks file vs e = lacking_ok name rows vs e
source_found (source.Leaf l) rows chunks file vs e = leaf_found l rows chunks file vs e

source_only : (c : Source) (rows : ℕ) (chunks : List ColumnChunk) (file : List ℕ) (vs : List Datum) → HasValues c rows chunks file vs → source_values c rows chunks file ≡ Ok vs
source_only source.Nulls rows chunks file vs h = ap Ok (sym h)
source_only (source.Lacking name) rows chunks file vs h =
    if_at (rows == 0) (Ok []) (Err (faults.Shape name)) (eq-eqb rows 0 h.0) ∙ ap Ok (sym h.1)
source_only (source.Leaf l) rows chunks file vs h = leaf_only l rows chunks file vs h

columns_found : (cs : List Source) (rows : ℕ) (chunks : List ColumnChunk) (file : List ℕ) (vss : List (List Datum)) → columns_values cs rows chunks file ≡ Ok vss → HaveValues cs rows chunks file vss
columns_found [] rows chunks file vss e = sym (ok_inside [] vss e)
columns_found (c ∷ cs) rows chunks file vss e =
    let p = bind_ok (source_values c rows chunks file) (λ vs. columns_values cs rows chunks file >>= λ more. Ok (vs ∷ more)) vss e in
    let q = bind_ok (columns_values cs rows chunks file) (λ more. Ok (p.0 ∷ more)) vss p.2 in
    (p.0, q.0, source_found c rows chunks file p.0 p.1, columns_found cs rows chunks file q.0 q.1, sym (ok_inside (p.0 ∷ q.0) vss q.2))

columns_only : (cs : List Source) (rows : ℕ) (chunks : List ColumnChunk) (file : List ℕ) (vss : List (List Datum)) → HaveValues cs rows chunks file vss → columns_values cs rows chunks file ≡ Ok vss
columns_only [] rows chunks file vss h = ap Ok (sym h)
columns_only (c ∷ cs) rows chunks file vss h =
    bind_at (source_values c rows chunks file) (λ vs. columns_values cs rows chunks file >>= λ more. Ok (vs ∷ more)) h.0 (source_only c rows chunks file h.0 h.2)
    ∙ bind_at (columns_values cs rows chunks file) (λ more. Ok (h.0 ∷ more)) h.1 (columns_only cs rows chunks file h.1 h.3)
    ∙ ap Ok (sym h.4)

-- ---- groups

length-with_column : (rows : List (List Datum)) (vs : List Datum) → length (with_column rows vs) ≡ length rows
length-with_column [] vs = refl
length-with_column (r ∷ rows) vs = let n = length-with_column rows (drop 1 vs) in omega (arith, n)

length-with_columns : (vss : List (List Datum)) (rows : List (List Datum)) → length (with_columns rows vss) ≡ length rows
length-with_columns [] rows = refl
length-with_columns (vs ∷ vss) rows = length-with_columns vss (with_column rows vs) ∙ length-with_column rows vs

pub length-side_by_side : (count : ℕ) (columns : List (List Datum)) → length (side_by_side count columns) ≡ count
unfolding side_by_side
length-side_by_side count columns = length-with_columns columns (replicate count []) ∙ length-replicate count []

rows_found : (name : List ℕ) (before : ℕ) (z : ℤ) (n : ℕ) → rows_of name before z ≡ Ok n → (z ≡ pos n) × (before + n ≤ MAX_FILE_ROWS)
rows_found name before (pos m) n e =
    let p = unless_ok (nat_lt MAX_FILE_ROWS (before + m)) (Ok m) (faults.Shape name) n e in
    let same : m ≡ n = ok_inside m n p.1 in
    (ap pos same, subst (λ k. before + k ≤ MAX_FILE_ROWS) same (ltb-false MAX_FILE_ROWS (before + m) p.0))
rows_found name before (negsuc m) n e = absurd cc

rows_only : (name : List ℕ) (before : ℕ) (z : ℤ) (n : ℕ) → z ≡ pos n → before + n ≤ MAX_FILE_ROWS → rows_of name before z ≡ Ok n
rows_only name before z n e few =
    ap (rows_of name before) e ∙ unless_at (nat_lt MAX_FILE_ROWS (before + n)) (Err (faults.Shape name)) (Ok n) (le-ltb MAX_FILE_ROWS (before + n) few)

group_found : (name : List ℕ) (cs : List Source) (file : List ℕ) (before : ℕ) (g : RowGroup) (rows : List (List Datum)) → group_rows name cs file before g ≡ Ok rows
    → IsGroup cs file g rows × (before + length rows ≤ MAX_FILE_ROWS)
unfolding group_rows
group_found name cs file before g rows e =
    let p = bind_ok (rows_of name before g.num_rows) (λ count. columns_values cs count g.columns file >>= λ columns. Ok (side_by_side count columns)) rows e in
    let q = bind_ok (columns_values cs p.0 g.columns file) (λ columns. Ok (side_by_side p.0 columns)) rows p.2 in
    let n = rows_found name before g.num_rows p.0 p.1 in
    let is : rows ≡ side_by_side p.0 q.0 = sym (ok_inside (side_by_side p.0 q.0) rows q.2) in
    let all : IsGroup cs file g rows = record {
      count = p.0;
      columns = q.0;
      counted = n.0;
      held = columns_found cs p.0 g.columns file q.0 q.1;
      beside = is;
    } in
    (all, omega (arith, n.1, ap length is ∙ length-side_by_side p.0 q.0))

group_only : (name : List ℕ) (cs : List Source) (file : List ℕ) (before : ℕ) (g : RowGroup) (rows : List (List Datum)) → IsGroup cs file g rows → before + length rows ≤ MAX_FILE_ROWS
    → group_rows name cs file before g ≡ Ok rows
unfolding group_rows
group_only name cs file before g rows h few =
    bind_at (rows_of name before g.num_rows) (λ count. columns_values cs count g.columns file >>= λ columns. Ok (side_by_side count columns)) h.count
    (rows_only name before g.num_rows h.count h.counted (omega (arith, few, ap length h.beside ∙ length-side_by_side h.count h.columns)))
    ∙ bind_at (columns_values cs h.count g.columns file) (λ columns. Ok (side_by_side h.count columns)) h.columns (columns_only cs h.count g.columns file h.columns h.held)
    ∙ ap Ok (sym h.beside)

pub groups_found : (name : List ℕ) (cs : List Source) (file : List ℕ) (before : List (List Datum)) (gs : List RowGroup) (rows : List (List Datum)) → length before ≤ MAX_FILE_ROWS
    → with_groups name cs file before gs ≡ Ok rows
    → (more : List (List Datum)) × AreGroups cs file gs more × (rows ≡ before ++ more) × (length rows ≤ MAX_FILE_ROWS)
groups_found name cs file before [] rows few e =
    let same : before ≡ rows = ok_inside before rows e in
    ([], refl, sym (append-nil before ∙ same), subst (λ rs. length rs ≤ MAX_FILE_ROWS) same few)
groups_found name cs file before (g ∷ gs) rows few e =
    let p = bind_ok (group_rows name cs file (length before) g) (λ more. with_groups name cs file (before ++ more) gs) rows e in
    let f = group_found name cs file (length before) g p.0 p.1 in
    let r = groups_found name cs file (before ++ p.0) gs rows (omega (arith, length-append before p.0, f.1)) p.2 in
    (p.0 ++ r.0, (p.0, r.0, f.0, r.1, refl), r.2 ∙ append_assoc before p.0 r.0, r.3)

pub groups_only : (name : List ℕ) (cs : List Source) (file : List ℕ) (before : List (List Datum)) (gs : List RowGroup) (rows : List (List Datum)) → AreGroups cs file gs rows
    → length before + length rows ≤ MAX_FILE_ROWS → with_groups name cs file before gs ≡ Ok (before ++ rows)
groups_only name cs file before [] rows h few = ap Ok (sym (ap (λ rs. before ++ rs) h ∙ append-nil before))
groups_only name cs file before (g ∷ gs) rows h few =
    let n : length rows ≡ length h.0 + length h.1 = ap length h.4 ∙ length-append h.0 h.1 in
    bind_at (group_rows name cs file (length before) g) (λ more. with_groups name cs file (before ++ more) gs) h.0
    (group_only name cs file (length before) g h.0 h.2 (omega (arith, few, n)))
    ∙ groups_only name cs file (before ++ h.0) gs h.1 h.3 (omega (arith, length-append before h.0, few, n))
    ∙ ap Ok (append_assoc before h.0 h.1 ∙ ap (λ rs. before ++ rs) (sym h.4))
