-- The data that are read have texts: each date is a day of the years 1 to 9999.
use Rattle.std.proofs.Common.{◌≡◌, ℕ, ◌+◌, ◌==◌, Bool, true, false, if◌then◌else◌, nat_le, List, [], ◌∷◌, length, codes, Option, Some, None, option_map, option_and_then, Result, Ok, Err, ℤ, refl, sym, ap, ◌∙◌, subst}
use Rattle.std.specs.List.{list_any, All}
use Rattle.std.specs.Str.{bytes_eq}
use Rattle.std.proofs.lemmas.List.Elements.{All-cons, All-nil}
use Rattle.json_lines.specs.Kinds.{NullableEntry}
use Rattle.row_base.specs.declared.limits.TheConstants.{MAX_TEXT_BYTES}
use Rattle.row_base.specs.declared.row.Datum.{Datum}
use Rattle.row_base.specs.declared.row.Datum.TheVariants as datum
use Rattle.row_base.specs.declared.row.Kind.{Kind}
use Rattle.row_base.specs.declared.row.Kind.TheVariants as kind
use Rattle.row_base.specs.declared.schema.Column.{Column}
use Rattle.row_base.specs.Dates.{date_in}
use Rattle.row_base.specs.Schema.{TableSchema}
use Rattle.row_base.proofs.DateRange.{date_in_range}
use Rattle.schema_text.specs.declared.fault.SchemaTextFault.{SchemaTextFault}
use Rattle.row_base.specs.Faults.{◌>>=◌}
use Rattle.row_base.specs.Numbers.{long_in}
use Rattle.schema_text.specs.Partition.{if_i32, datum_of, datum_by, text_of, or_value, datum_in, cell, cells, partition_row}
use Rattle.schema_text.specs.PartitionWritten.{HasText}

of_date : (o : Option ℤ) (text : List ℕ) (d : Datum) → date_in text ≡ o → option_map datum.Date o ≡ Some d → HasText d
of_date None text d is e = cc
of_date (Some n) text d is e = let same : datum.Date n ≡ d = cc in subst HasText same (date_in_range text n is)

of_long : (o : Option ℤ) (d : Datum) → option_map datum.Long o ≡ Some d → HasText d
of_long None d e = cc
of_long (Some n) d e = let same : datum.Long n ≡ d = cc in subst HasText same tt

of_integer : (o : Option ℤ) (d : Datum) → option_map datum.Integer o ≡ Some d → HasText d
of_integer None d e = cc
of_integer (Some n) d e = let same : datum.Integer n ≡ d = cc in subst HasText same tt

of_either : (b : Bool) (x d : Datum) (o : Option Datum) → HasText x → (o ≡ Some d → HasText d) → (if b then Some x else o) ≡ Some d → HasText d
of_either true x d o h more e = let same : x ≡ d = cc in subst HasText same h
of_either false x d o h more e = more e

of_none : (d : Datum) → None ≡ Some d → HasText d
of_none d e = cc

of_kind : (k : Kind) (text : List ℕ) (d : Datum) → datum_of k text ≡ Some d → HasText d
of_kind kind.Long text d e = of_long (long_in text) d e
of_kind kind.Integer text d e = of_integer (option_and_then if_i32 (long_in text)) d e
of_kind kind.Boolean text d e =
    of_either (bytes_eq text (codes "true")) (datum.Boolean true) d _ tt
    (of_either (bytes_eq text (codes "false")) (datum.Boolean false) d None tt (of_none d)) e
of_kind kind.String text d e = of_either (nat_le (length text) MAX_TEXT_BYTES) (datum.Text text) d None tt (of_none d) e
of_kind kind.Date text d e = of_date (date_in text) text d refl e

of_text : (c : Column) (text : Option (List ℕ)) (d : Datum) → datum_by c text ≡ Some d → HasText d
of_text c None d e = of_either c.nullable datum.Null d None tt (of_none d) e
of_text c (Some text) d e = of_kind c.kind text d e

some_value : (name : List ℕ) (o : Option Datum) (d : Datum) → or_value name o ≡ Ok d → o ≡ Some d
some_value name None d e = cc
some_value name (Some x) d e = cc

inner : (r : Result Datum SchemaTextFault) (x d : Datum) → r ≡ Ok x → r ≡ Ok d → x ≡ d
inner r x d e f = cc

of_cell : (p : List ℕ) (values : List NullableEntry) (k : ℕ) (c : Column) (d : Datum) → cell p values k c ≡ Ok d → HasText d
unfolding datum_in
of_cell p values k c d e = by (list_any (λ n. n == k) p) refl
  where
    by : (b : Bool) → list_any (λ n. n == k) p ≡ b → HasText d
    by true is = let read : datum_in values c ≡ Ok d = sym (ap (λ b. if b then datum_in values c else Ok datum.Null) is) ∙ e in
        of_text c (text_of values c.name) d (some_value c.name (datum_by c (text_of values c.name)) d read)
    by false is =
        let null : datum.Null ≡ d = inner (cell p values k c) datum.Null d (ap (λ b. if b then datum_in values c else Ok datum.Null) is) e in
        subst HasText null tt

both : (r : Result Datum SchemaTextFault) (rs : Result (List Datum) SchemaTextFault) (ds : List Datum) → (r >>= λ d. rs >>= λ es. Ok (d ∷ es)) ≡ Ok ds
    → ((d : Datum) → r ≡ Ok d → HasText d) → ((es : List Datum) → rs ≡ Ok es → All HasText es) → All HasText ds
both (Err f) rs ds e first rest = cc
both (Ok d) (Err f) ds e first rest = cc
both (Ok d) (Ok es) ds e first rest = let same : d ∷ es ≡ ds = cc in subst (All HasText) same (All-cons HasText d es (first d refl) (rest es refl))

of_cells : (p : List ℕ) (values : List NullableEntry) (k : ℕ) (cs : List Column) (ds : List Datum) → cells p values k cs ≡ Ok ds → All HasText ds
of_cells p values k [] ds e = let same : [] ≡ ds = cc in subst (All HasText) same (All-nil HasText)
of_cells p values k (c ∷ cs) ds e = both (cell p values k c) (cells p values (k + 1) cs) ds e (of_cell p values k c) (of_cells p values (k + 1) cs)

pub row_has_texts : (s : TableSchema) (values : List NullableEntry) (row : List Datum) → partition_row s values ≡ Ok row → All HasText row
unfolding partition_row
row_has_texts s values row e = of_cells s.partition values 0 s.columns row e
