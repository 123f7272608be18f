-- What the reading of a schema gives is what its fields say, one after another; and its fault is the first by place.
use Rattle.std.proofs.Common.{◌≡◌, ◌≢◌, ℕ, ◌==◌, nat_lt, not, ◌&&◌, Bool, true, false, cond, List, [], ◌∷◌, ◌++◌, length, get_or, Option, Some, None, Result, Ok, Err, refl, sym, ◌∙◌, subst, arith, append-nil, append_assoc}
use Rattle.std.specs.List.{All}
use Rattle.std.specs.Cmp.Lexicographic.{pointwise, bytes_decides}
use Rattle.std.proofs.lemmas.Bool.{true≢false, false_from_ne_true, ltb-true, ltb-false}
use Rattle.std.proofs.lemmas.List.Folds.{list_any_none, list_any_at}
use Rattle.serde_json.specs.Data.{Data, Items, no_items, item}
use Rattle.row_base.specs.declared.limits.TheConstants.{MAX_COLUMNS}
use Rattle.row_base.specs.declared.row.Kind.{Kind}
use Rattle.row_base.specs.declared.schema.Column.{Column}
use Rattle.row_base.specs.declared.schema.SchemaFault.{SchemaFault}
use Rattle.row_base.specs.Schema.{TableSchema, is_named, schema_fault}
use Rattle.row_base.proofs.SchemaLemmas.{schema_complete}
use Rattle.schema_text.specs.declared.field.Field.{Field}
use Rattle.schema_text.specs.declared.fault.SchemaTextFault.{SchemaTextFault}
use Rattle.schema_text.specs.declared.fault.SchemaTextFault.TheVariants as faults
use Rattle.row_base.specs.Faults.{FaultOf, ◌>>=◌}
use Rattle.schema_text.specs.Faults.{is_memory}
use Rattle.schema_text.specs.Fields.{field_of, fields_of_text}
use Rattle.schema_text.specs.FirstFault.{items_list, HasShape, IsColumn, StandFor, nothing, next, IsFieldFault, IsFirstFieldFault, IsTextOf, IsFirstFault, no_struct, of_field, no_schema}
use Rattle.schema_text.specs.Schema.{or_shape, shape_of, column_of_kind, column_of, next_column, columns_from, places_in, schema_at, schema_by, schema_of}

-- what a reading of the field behind these columns says
abbrev SaysColumn : List Column → Data → Result Column SchemaTextFault → Type 0
SaysColumn before d (Ok c) = IsColumn before d c
SaysColumn before d (Err e) = IsFieldFault before d e

-- what a reading of fields says
abbrev SaysColumns : List Data → Result (List Column) SchemaTextFault → Type 0
SaysColumns ds (Ok cs) = StandFor ds cs
SaysColumns ds (Err e) = IsFirstFieldFault ds e

no_name : (before : List Column) (name : List ℕ) → is_named before name ≡ false → All (λ c. c.name ≢ name) before
no_name before name e i d h same =
    let hit = list_any_at (λ c. pointwise ◌==◌ c.name name) before i d h ((bytes_decides (get_or before i d).name name).1 same) in
    cc

own_name : (before : List Column) (name : List ℕ) → All (λ c. c.name ≢ name) before → is_named before name ≡ false
own_name before name apart = list_any_none (λ c. pointwise ◌==◌ c.name name) before
    (λ i d h. false_from_ne_true _ (λ hit. apart i d h ((bytes_decides (get_or before i d).name name).0 hit)))

inside : {A : Type 0} {x y : A} → Some x ≡ Some y → x ≡ y
inside e = cc

-- a field that has its shape, by its type and its invariant
shaped : (before : List Column) (d : Data) (f : Field) → HasShape before d f → (k : Option Kind) → f.kind ≡ k → (b : Bool) → f.has_invariant ≡ b
    → HasShape before d (record { name = f.name; kind = k; nullable = f.nullable; has_invariant = b })
shaped before d f shape k e b i =
    subst (λ k. HasShape before d (record { name = f.name; kind = k; nullable = f.nullable; has_invariant = b })) e
    (subst (λ b. HasShape before d (record { name = f.name; kind = f.kind; nullable = f.nullable; has_invariant = b })) i shape)

by_kind : (before : List Column) (d : Data) (f : Field) → HasShape before d f → (k : Option Kind) → f.kind ≡ k → (b : Bool) → f.has_invariant ≡ b
    → SaysColumn before d (column_of_kind f k)
by_kind before d f shape None e b i = (f.nullable, b, shaped before d f shape None e b i)
by_kind before d f shape (Some k) e true i = rw i (k, f.nullable, shaped before d f shape (Some k) e true i)
by_kind before d f shape (Some k) e false i = rw i (shaped before d f shape (Some k) e false i)

column_says : (before : List Column) (d : Data) (f : Field) → field_of d ≡ Some f → SaysColumn before d (column_of before f)
unfolding column_of
column_says before d f form = by (nat_lt (length before) MAX_COLUMNS) refl (is_named before f.name) refl
  where
    by : (a : Bool) → nat_lt (length before) MAX_COLUMNS ≡ a → (b : Bool) → is_named before f.name ≡ b
        → SaysColumn before d (cond (a && not b) (column_of_kind f f.kind) (Err faults.Shape))
    by true l true n = λ g shape.
        let same : g ≡ f = inside (sym shape.form ∙ form) in
        true≢false (sym n ∙ own_name before f.name (subst (λ (h : Field). All (λ c. c.name ≢ h.name) before) same shape.own_name))
    by true l false n = by_kind before d f (record { form = form; own_name = no_name before f.name n; few = ltb-true (length before) MAX_COLUMNS l }) f.kind refl f.has_invariant refl
    by false l b n = λ g shape.
        let few = shape.few in
        let many = ltb-false (length before) MAX_COLUMNS l in
        absurd (omega arith)

next_says : (before : List Column) (d : Data) → SaysColumn before d (next_column before d)
unfolding next_column
next_says before d = by (field_of d) refl
  where
    by : (o : Option Field) → field_of d ≡ o → SaysColumn before d (or_shape o >>= column_of before)
    by None e = λ f shape. let form = shape.form in cc
    by (Some f) e = column_says before d f e

-- one field more
one_more : (done : List Data) (before : List Column) (d : Data) (ds : Items) → StandFor done before
    → ((c : Column) → StandFor (done ++ d ∷ []) (before ++ c ∷ []) → SaysColumns ((done ++ d ∷ []) ++ items_list ds) (columns_from (before ++ c ∷ []) ds))
    → (r : Result Column SchemaTextFault) → SaysColumn before d r
    → SaysColumns (done ++ d ∷ items_list ds) (r >>= λ c. columns_from (before ++ c ∷ []) ds)
one_more done before d ds good rest (Err e) says =
    record { front = done; field = d; behind = items_list ds; columns = before; is = refl; good = good; wrong = says }
one_more done before d ds good rest (Ok c) says =
    subst (λ xs. SaysColumns xs (columns_from (before ++ c ∷ []) ds)) (append_assoc done (d ∷ []) (items_list ds))
    (rest c (next done before d c good says))

columns_say : (done : List Data) (before : List Column) (ds : Items) → StandFor done before → SaysColumns (done ++ items_list ds) (columns_from before ds)
columns_say done before no_items good = subst (λ ds. StandFor ds before) (sym (append-nil done)) good
columns_say done before (item d ds) good =
    one_more done before d ds good (λ c more. columns_say (done ++ d ∷ []) (before ++ c ∷ []) ds more) (next_column before d) (next_says before d)

-- what the reading of a whole text says
abbrev SaysText : List ℕ → List (List ℕ) → Result TableSchema SchemaTextFault → Type 0
SaysText text names (Ok s) = IsTextOf text names s
SaysText text names (Err e) = IsFirstFault text names e

by_fault : (text : List ℕ) (names : List (List ℕ)) (fields : Items) → fields_of_text text ≡ Some fields → (cs : List Column) → StandFor (items_list fields) cs
    → (ps : List ℕ) → places_in cs names ≡ Some ps → (x : Option SchemaFault) → schema_fault cs ps ≡ x → SaysText text names (shape_of x (record { columns = cs; partition = ps }))
by_fault text names fields are cs stand ps e None q = record { fields = fields; are = are; columns = stand; places = e }
by_fault text names fields are cs stand ps e (Some f) q = no_schema fields cs are stand (λ qs places is.
    let same : qs ≡ ps = inside (sym places ∙ e) in
    let none : schema_fault cs ps ≡ None = subst (λ xs. schema_fault cs xs ≡ None) same (schema_complete cs qs is) in
    cc)

by_places : (text : List ℕ) (names : List (List ℕ)) (fields : Items) → fields_of_text text ≡ Some fields → (cs : List Column) → StandFor (items_list fields) cs
    → (o : Option (List ℕ)) → places_in cs names ≡ o → SaysText text names (or_shape o >>= schema_at cs)
by_places text names fields are cs stand None e = no_schema fields cs are stand (λ ps places is. cc)
by_places text names fields are cs stand (Some ps) e = by_fault text names fields are cs stand ps e (schema_fault cs ps) refl

by_columns : (text : List ℕ) (names : List (List ℕ)) (fields : Items) → fields_of_text text ≡ Some fields
    → (r : Result (List Column) SchemaTextFault) → SaysColumns (items_list fields) r → SaysText text names (r >>= schema_by names)
unfolding schema_by
by_columns text names fields are (Err f) says = of_field fields f are says
by_columns text names fields are (Ok cs) says = by_places text names fields are cs says (places_in cs names) refl

by_fields : (text : List ℕ) (names : List (List ℕ)) (o : Option Items) → fields_of_text text ≡ o → SaysText text names (or_shape o >>= columns_from [] >>= schema_by names)
by_fields text names None e = no_struct e
by_fields text names (Some fields) e = by_columns text names fields e (columns_from [] fields) (columns_say [] [] fields nothing)

text_says : (text : List ℕ) (names : List (List ℕ)) → SaysText text names (schema_of text names)
unfolding schema_of
text_says text names = by_fields text names (fields_of_text text) refl

pub schema_read : (text : List ℕ) (names : List (List ℕ)) (s : TableSchema) → schema_of text names ≡ Ok s → IsTextOf text names s
schema_read text names s e = subst (SaysText text names) e (text_says text names)

pub first_fault : (text : List ℕ) (names : List (List ℕ)) (e : SchemaTextFault) → FaultOf is_memory e (schema_of text names) → e ≢ faults.NoMemory → IsFirstFault text names e
first_fault text names faults.Shape is other = subst (SaysText text names) is (text_says text names)
first_fault text names (faults.Kind name) is other = subst (SaysText text names) is (text_says text names)
first_fault text names (faults.Invariant name) is other = subst (SaysText text names) is (text_says text names)
first_fault text names (faults.Value name) is other = subst (SaysText text names) is (text_says text names)
first_fault text names faults.NoMemory is other = absurd (other refl)
