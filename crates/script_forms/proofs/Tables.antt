-- A table's form and the value of its shape give each other back.
use Rattle.std.proofs.Common.{◌≡◌, Bool, true, false, List, [], ◌∷◌, map, Option, Some, None, refl, ap, ◌∙◌, inl, inr}
use Rattle.std.specs.Prelude.{option_map}
use Rattle.row_base.specs.declared.row.Kind.{Kind}
use Rattle.row_base.specs.declared.row.Kind.TheVariants.{Long, Integer, Boolean, String, Date}
use Rattle.row_base.specs.declared.schema.Column.{Column}
use Rattle.op_types.specs.declared.statement.Property.{Property}
use Rattle.script_grammar.specs.Shape.{Value}
use Rattle.script_forms.specs.declared.table.TableForm.{TableForm}
use Rattle.script_forms.specs.Tables.{kind, kind_value, kind_of, nullable, nullable_value, nullable_of, column, column_value, column_of, property, property_value, property_of, table, table_value, table_of}

each_back : {A B : Type 0} (f : A → B) (g : B → A) → ((b : B) → f (g b) ≡ b) → (bs : List B) → map f (map g bs) ≡ bs
each_back f g back [] = refl
each_back f g back (b ∷ bs) = ap (λ x. x ∷ map f (map g bs)) (back b) ∙ ap (λ xs. b ∷ xs) (each_back f g back bs)

some_back : {A B : Type 0} (f : A → B) (g : B → A) → ((b : B) → f (g b) ≡ b) → (o : Option (List B)) → option_map (map f) (option_map (map g) o) ≡ o
some_back f g back None = refl
some_back f g back (Some bs) = ap (λ xs. Some xs) (each_back f g back bs)

kind_again : (k : Kind) → kind_of (kind_value k) ≡ k
kind_again Long = refl
kind_again Integer = refl
kind_again Boolean = refl
kind_again String = refl
kind_again Date = refl

kind_value_again : (v : Value kind) → kind_value (kind_of v) ≡ v
kind_value_again (inl u) = refl
kind_value_again (inr (inl u)) = refl
kind_value_again (inr (inr (inl u))) = refl
kind_value_again (inr (inr (inr (inl u)))) = refl
kind_value_again (inr (inr (inr (inr u)))) = refl

nullable_again : (b : Bool) → nullable_of (nullable_value b) ≡ b
nullable_again true = refl
nullable_again false = refl

nullable_value_again : (v : Value nullable) → nullable_value (nullable_of v) ≡ v
nullable_value_again None = refl
nullable_value_again (Some u) = refl

column_again : (c : Column) → column_of (column_value c) ≡ c
column_again c = rw (kind_again c.kind, nullable_again c.nullable) refl

column_value_again : (v : Value column) → column_value (column_of v) ≡ v
column_value_again v = rw (kind_value_again v.1.0, nullable_value_again v.1.1) refl

property_again : (p : Property) → property_of (property_value p) ≡ p
property_again p = refl

property_value_again : (v : Value property) → property_value (property_of v) ≡ v
property_value_again v = refl

pub table_again : (t : TableForm) → table_of (table_value t) ≡ t
table_again t = rw (each_back column_of column_value column_again t.columns, some_back property_of property_value property_again t.properties) refl

pub table_value_again : (v : Value table) → table_value (table_of v) ≡ v
table_value_again v = rw (each_back column_value column_of column_value_again v.0, some_back property_value property_of property_value_again v.1.1) refl
