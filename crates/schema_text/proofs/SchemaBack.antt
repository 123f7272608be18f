-- The text that is written reads as its schema.
use Rattle.std.proofs.Common.{◌≡◌, ◌≤◌, ◌<◌, ℕ, ◌+◌, nat_lt, Bool, true, false, cond, ◌||◌, List, [], ◌∷◌, ◌++◌, length, Option, Some, None, option_and_then, Ok, refl, sym, ap, ◌∙◌, arith, append-nil, append_assoc, length-append}
use Rattle.std.specs.Option.{option_map, option_or}
use Rattle.std.proofs.lemmas.Bool.Decides.{nat_tests}
use Rattle.serde_json.specs.Data.{depth, items_depth}
use Rattle.serde_json.specs.Written.{has_float, items_have_float}
use Rattle.json_lines.specs.Kinds.{as_itself, present, needed}
use Rattle.json_lines.specs.Lines.{value_of_line, object_of_line}
use Rattle.row_base.specs.declared.limits.TheConstants.{MAX_COLUMNS}
use Rattle.row_base.specs.declared.row.Kind.{Kind}
use Rattle.row_base.specs.declared.row.Kind.TheVariants as kind
use Rattle.row_base.specs.declared.schema.Column.{Column}
use Rattle.row_base.specs.declared.schema.SchemaFault.TheVariants as schema
use Rattle.row_base.specs.Schema.{TableSchema, IsSchema, first_after, is_named, repeats_name, is_wrong_place, is_column_count}
use Rattle.row_base.proofs.SchemaLemmas.{schema_complete}
use Rattle.schema_text.specs.declared.field.Field.{Field}
use Rattle.row_base.specs.Faults.{◌>>=◌}
use Rattle.schema_text.specs.Fields.{kind_named, field_of, is_struct, struct_fields, fields_of_text}
use Rattle.schema_text.specs.Schema.{or_shape, shape_of, column_of, next_column, columns_from, places_in, schema_at, schema_by, schema_of}
use Rattle.schema_text.specs.SchemaWritten.{kind_text, field_data, fields_data, schema_data}

no_floats : (cs : List Column) → items_have_float (fields_data cs) ≡ false
no_floats [] = refl
no_floats (c ∷ cs) = no_floats cs

pub no_float : (cs : List Column) → has_float (schema_data cs) ≡ false
unfolding schema_data
no_float cs = ap (λ b. b || false) (no_floats cs)

fields_shallow : (cs : List Column) → items_depth (fields_data cs) ≤ 2
fields_shallow [] = omega arith
fields_shallow (c ∷ cs) = let rest = fields_shallow cs in omega arith

pub shallow : (cs : List Column) → depth (schema_data cs) ≤ 127
unfolding schema_data
shallow cs = let rest = fields_shallow cs in omega arith

-- the field that a column's data are
abbrev field_from : Column → Field
field_from c = record { name = c.name; kind = Some c.kind; nullable = c.nullable; has_invariant = false }

kind_back : (k : Kind) → kind_named (kind_text k) ≡ Some k
unfolding kind_named
kind_back kind.Long = refl
kind_back kind.Integer = refl
kind_back kind.Boolean = refl
kind_back kind.String = refl
kind_back kind.Date = refl

field_back : (c : Column) → field_of (field_data c) ≡ Some (field_from c)
unfolding field_of needed present
field_back c = ap (λ k. Some (record { name = c.name; kind = k; nullable = c.nullable; has_invariant = false })) (kind_back c.kind)

struct_back : (cs : List Column) → struct_fields (schema_data cs) ≡ Some (fields_data cs)
unfolding struct_fields is_struct schema_data needed present
struct_back cs = refl

text_back : (text : List ℕ) (cs : List Column) → value_of_line text ≡ Some (schema_data cs) → fields_of_text text ≡ Some (fields_data cs)
unfolding fields_of_text object_of_line schema_data
text_back text cs e = ap (λ o. option_and_then struct_fields (option_and_then as_itself o)) e ∙ struct_back cs

few_enough : (n : ℕ) → n < MAX_COLUMNS → nat_lt n MAX_COLUMNS ≡ true
few_enough n h = grind (arith, nat_tests)

column_back : (before : List Column) (c : Column) → is_named before c.name ≡ false → length before < MAX_COLUMNS → next_column before (field_data c) ≡ Ok c
unfolding next_column column_of
column_back before c own few = rw (field_back c, few_enough (length before) few, own) refl

none_here : {A : Type 0} (b : Bool) (x : A) (o : Option A) → cond b (Some x) o ≡ None → (b ≡ false) × (o ≡ None)
none_here true x o e = cc
none_here false x o e = (refl, e)

columns_back : (before cs : List Column) → first_after repeats_name before cs ≡ None → length before + length cs ≤ MAX_COLUMNS → columns_from before (fields_data cs) ≡ Ok (before ++ cs)
columns_back before [] e h = ap Ok (sym (append-nil before))
columns_back before (c ∷ cs) e h =
    let parts = none_here (repeats_name before c) (length before, c) (first_after repeats_name (before ++ c ∷ []) cs) e in
    let more : length (before ++ c ∷ []) ≡ length before + 1 = length-append before (c ∷ []) in
    ap (λ r. r >>= λ x. columns_from (before ++ x ∷ []) (fields_data cs)) (column_back before c parts.0 (omega arith))
    ∙ columns_back (before ++ c ∷ []) cs parts.1 (omega arith)
    ∙ ap Ok (append_assoc before (c ∷ []) cs)

-- columns that make a schema have names of their own
none_repeats : (b : Bool) (x : Option (ℕ × Column)) (y : Option (ℕ × ℕ))
    → cond b (option_or (option_map (λ t. schema.Twice t.0) x) (option_map (λ t. schema.Partition t.1) y)) (Some schema.Columns) ≡ None → x ≡ None
none_repeats true None y e = refl
none_repeats true (Some x) y e = cc
none_repeats false x y e = cc

pub schema_back : (text : List ℕ) (s : TableSchema) (names : List (List ℕ)) → value_of_line text ≡ Some (schema_data s.columns) → IsSchema s → places_in s.columns names ≡ Some s.partition
    → schema_of text names ≡ Ok s
unfolding schema_of schema_by
schema_back text s names e is places =
    let right = schema_complete s.columns s.partition is in
    let own = none_repeats (is_column_count (length s.columns)) (first_after repeats_name [] s.columns) (first_after (is_wrong_place (length s.columns)) [] s.partition) right in
    let most = is.most in
    ap (λ o. or_shape o >>= columns_from [] >>= schema_by names) (text_back text s.columns e)
    ∙ ap (λ r. r >>= schema_by names) (columns_back [] s.columns own (omega arith))
    ∙ ap (λ o. or_shape o >>= schema_at s.columns) places
    ∙ ap (λ f. shape_of f s) right
