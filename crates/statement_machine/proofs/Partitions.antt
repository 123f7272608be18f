-- The text of a made table's schema says the schema again, with the names of its partition columns.
use Rattle.std.proofs.Common.{◌≡◌, ℕ, ◌+◌, ◌==◌, Bool, true, false, if◌then◌else◌, List, [], ◌∷◌, ◌++◌, length, Option, Some, None, Result, Ok, Err, refl, ap, subst}
use Rattle.std.specs.List.{list_any}
use Rattle.std.specs.Prelude.{slice_get, option_and_then, option_map}
use Rattle.row_base.specs.Faults.{◌>>=◌}
use Rattle.row_base.specs.Schema.{TableSchema}
use Rattle.row_base.specs.declared.row.Kind.{Kind}
use Rattle.row_base.specs.declared.schema.Column.{Column}
use Rattle.predicates.specs.Binding.{or_fault, found_in}
use Rattle.predicates.specs.declared.fault.BindFault.{BindFault}
use Rattle.predicates.specs.declared.fault.BindFault.TheVariants as fault
use Rattle.op_types.specs.declared.statement.Property.{Property}
use Rattle.schema_text.specs.Schema.{place_in, places_in, schema_of}
use Rattle.schema_text.specs.SchemaWritten.{schema_text}
use Rattle.statement_types.specs.declared.statement.TableSpec.{TableSpec}
use Rattle.statement_checks.specs.Names.{once, new_place_in}
use Rattle.statement_checks.specs.Properties.{properties_in}
use Rattle.statement_checks.specs.Tables.{columns_in, partition_place_in, partition_in, table_in}
use Rattle.statement_steps.specs.Answered.{SchemaReads}
use Rattle.statement_machine.proofs.Literals.{bind_ok, inside}

-- a test that would be a fault didn't hold
passed : (b : Bool) (f : BindFault) (x y : ℕ) → ◌≡◌ {A = Result ℕ BindFault} (if b then Err f else Ok x) (Ok y) → x ≡ y
passed true f x y e = absurd cc
passed false f x y e = inside x y e

found_at : (columns : List Column) (f : BindFault) (o : Option ℕ) (p : ℕ × Kind) → or_fault f (option_and_then (λ k. option_map (λ c. (k, c.kind)) (slice_get columns k)) o) ≡ Ok p → o ≡ Some p.0
found_at columns f None p e = absurd cc
found_at columns f (Some k) p e = by (slice_get columns k) e
  where
    by : (c : Option Column) → or_fault f (option_map (λ c. (k, c.kind)) c) ≡ Ok p → Some k ≡ Some p.0
    by None e = absurd cc
    by (Some c) e = ap (λ (q : ℕ × Kind). Some q.0) (inside (k, c.kind) p e)

place_found : (columns : List Column) (before : List ℕ) (name : List ℕ) (p : ℕ) → partition_place_in columns before name ≡ Ok p → place_in columns name ≡ Some p
unfolding place_in
place_found columns before name p e =
    let q = bind_ok (new_place_in columns before name) (λ q. if length before + 1 == length columns then Err fault.Count else Ok q) p e in
    let same = passed (length before + 1 == length columns) fault.Count q.0 p q.2 in
    let f = bind_ok (found_in columns name) (λ f. once (list_any (λ b. b == f.0) before) name >>= λ u. Ok f.0) q.0 q.1 in
    let o = bind_ok (once (list_any (λ b. b == f.0.0) before) name) (λ u. Ok f.0.0) q.0 f.2 in
    let is = found_at columns (fault.Column name) (place_in columns name) f.0 f.1 in
    subst (λ (n : ℕ). place_in columns name ≡ Some n) same (subst (λ (n : ℕ). place_in columns name ≡ Some n) (inside f.0.0 q.0 o.2) is)

places_found : (columns : List Column) (before : List ℕ) (names : List (List ℕ)) (ps : List ℕ) → partition_in columns before names ≡ Ok ps → places_in columns names ≡ Some ps
unfolding partition_in
places_found columns before [] ps e = ap (λ (x : List ℕ). Some x) (inside [] ps e)
places_found columns before (n ∷ ns) ps e =
    let p = bind_ok (partition_place_in columns before n) (λ p. partition_in columns (before ++ p ∷ []) ns >>= λ rest. Ok (p ∷ rest)) ps e in
    let q = bind_ok (partition_in columns (before ++ p.0 ∷ []) ns) (λ rest. Ok (p.0 ∷ rest)) ps p.2 in
    let first = place_found columns before n p.0 p.1 in
    let rest = places_found columns (before ++ p.0 ∷ []) ns q.0 q.1 in
    let all : places_in columns (n ∷ ns) ≡ Some (p.0 ∷ q.0) = rw (first, rest) refl in
    subst (λ (x : List ℕ). places_in columns (n ∷ ns) ≡ Some x) (inside (p.0 ∷ q.0) ps q.2) all

-- what the table's check says of its schema
table_says : (columns : List Column) (partition : List (List ℕ)) (properties : List Property) (schema : TableSchema) → table_in columns partition properties ≡ Ok schema
    → places_in schema.columns partition ≡ Some schema.partition
table_says columns partition properties schema e =
    let u = bind_ok (columns_in columns) (λ u. partition_in columns [] partition >>= λ ps. properties_in properties >>= λ v. Ok (record { columns = columns; partition = ps })) schema e in
    let ps = bind_ok (partition_in columns [] partition) (λ ps. properties_in properties >>= λ v. Ok (record { columns = columns; partition = ps })) schema u.2 in
    let v = bind_ok (properties_in properties) (λ v. Ok (record { columns = columns; partition = ps.0 })) schema ps.2 in
    let same : record { columns = columns; partition = ps.0 } ≡ schema = inside _ _ v.2 in
    subst (λ (s : TableSchema). places_in s.columns partition ≡ Some s.partition) same (places_found columns [] partition ps.0 ps.1)

pub reads_back : (spec : TableSpec) (schema : TableSchema) (text : List ℕ) → table_in spec.columns spec.partition spec.properties ≡ Ok schema → text ≡ schema_text schema.columns
    → ((names : List (List ℕ)) → places_in schema.columns names ≡ Some schema.partition → schema_of text names ≡ Ok schema) → SchemaReads spec schema
reads_back spec schema text made is back =
    subst (λ (t : List ℕ). schema_of t spec.partition ≡ Ok schema) is (back spec.partition (table_says spec.columns spec.partition spec.properties schema made))
