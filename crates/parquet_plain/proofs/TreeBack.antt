-- The schema that is written is a tree of the table's columns, and the columns side by side are the rows.
use Rattle.std.proofs.Common.{◌≡◌, ℕ, ◌+◌, ◌≤◌, ◌==◌, ◌^◌, nat_lt, Bool, true, false, not, ◌&&◌, ◌||◌, if◌then◌else◌, List, [], ◌∷◌, ◌++◌, length, map, get_or, Option, Some, None, pos, refl, sym, ap, ◌∙◌, subst, arith, append_assoc, append-nil, length-append}
use Rattle.std.specs.Prelude.{replicate}
use Rattle.std.specs.List.{list_any}
use Rattle.std.proofs.lemmas.Bool.{eqb-true, lt-ltb}
use Rattle.row_base.specs.declared.row.Datum.{Datum}
use Rattle.row_base.specs.declared.row.Datum.TheVariants as datum
use Rattle.row_base.specs.declared.row.Kind.{Kind}
use Rattle.row_base.specs.declared.row.Kind.TheVariants as kind
use Rattle.row_base.specs.declared.schema.Column.{Column}
use Rattle.row_base.specs.Schema.{TableSchema}
use Rattle.parquet_meta.specs.declared.meta.SchemaElement.{SchemaElement}
use Rattle.parquet_pages.proofs.PagesRead.{number_same}
use Rattle.parquet_plain.specs.declared.source.Leaf.{Leaf}
use Rattle.parquet_plain.specs.declared.source.Source.{Source}
use Rattle.parquet_plain.specs.declared.source.Source.TheVariants as source
use Rattle.parquet_plain.specs.Tree.{physical_of, has_numbers_in_range, is_group, is_flat, has_type, is_partition, leaf_at, leaf_from, source_by, sources_from, is_other_type}
use Rattle.parquet_plain.specs.Reading.{with_column, with_columns, side_by_side}
use Rattle.parquet_plain.specs.Written.{column_values, element_of, repetition_of, elements_from, elements_of, root_of}
use Rattle.parquet_plain.specs.ReadBack.{nulled_from}
use Rattle.parquet_plain.specs.Grammar.{IsLeaf, AreLeaves, IsTree}
use Rattle.parquet_plain.proofs.GroupBack.{columns_from, Apart, NewLeaves, leaves_more, leaf_is, some_inside}

-- ---- rows

column_side : (g : List Datum → List Datum) (f : List Datum → Datum) (rows : List (List Datum)) → with_column (map g rows) (map f rows) ≡ map (λ r. g r ++ f r ∷ []) rows
column_side g f [] = refl
column_side g f (r ∷ rows) = ap (λ rs. (g r ++ f r ∷ []) ∷ rs) (column_side g f rows)

null_side : (g : List Datum → List Datum) (rows : List (List Datum)) → with_column (map g rows) [] ≡ map (λ r. g r ++ datum.Null ∷ []) rows
null_side g [] = refl
null_side g (r ∷ rows) = ap (λ rs. (g r ++ datum.Null ∷ []) ∷ rs) (null_side g rows)

map_same : (g h : List Datum → List Datum) (rows : List (List Datum)) → ((r : List Datum) → g r ≡ h r) → map g rows ≡ map h rows
map_same g h [] e = refl
map_same g h (r ∷ rows) e = ap (λ x. x ∷ map g rows) (e r) ∙ ap (λ rs. h r ∷ rs) (map_same g h rows e)

sides : (partition : List ℕ) (rows : List (List Datum)) (cs : List Column) (place : ℕ) (g : List Datum → List Datum)
    → with_columns (map g rows) (columns_from partition rows place cs) ≡ map (λ r. g r ++ nulled_from partition r place cs) rows
sides partition rows [] place g = map_same g (λ r. g r ++ []) rows (λ r. sym (append-nil (g r)))
sides partition rows (c ∷ cs) place g = by (is_partition partition place) (sides partition rows cs (place + 1))
  where
    by : (b : Bool) → ((h : List Datum → List Datum) → with_columns (map h rows) (columns_from partition rows (place + 1) cs) ≡ map (λ r. h r ++ nulled_from partition r (place + 1) cs) rows)
        → with_columns (with_column (map g rows) (if b then [] else column_values place rows)) (columns_from partition rows (place + 1) cs)
        ≡ map (λ r. g r ++ (if b then datum.Null else get_or r place datum.Null) ∷ nulled_from partition r (place + 1) cs) rows
    by true others =
        ap (λ rs. with_columns rs (columns_from partition rows (place + 1) cs)) (null_side g rows)
        ∙ others (λ r. g r ++ datum.Null ∷ [])
        ∙ map_same (λ r. (g r ++ datum.Null ∷ []) ++ nulled_from partition r (place + 1) cs) (λ r. g r ++ datum.Null ∷ nulled_from partition r (place + 1) cs) rows
        (λ r. append_assoc (g r) (datum.Null ∷ []) (nulled_from partition r (place + 1) cs))
    by false others =
        ap (λ rs. with_columns rs (columns_from partition rows (place + 1) cs)) (column_side g (λ r. get_or r place datum.Null) rows)
        ∙ others (λ r. g r ++ get_or r place datum.Null ∷ [])
        ∙ map_same (λ r. (g r ++ get_or r place datum.Null ∷ []) ++ nulled_from partition r (place + 1) cs) (λ r. g r ++ get_or r place datum.Null ∷ nulled_from partition r (place + 1) cs) rows
        (λ r. append_assoc (g r) (get_or r place datum.Null ∷ []) (nulled_from partition r (place + 1) cs))

abbrev no_data : List Datum → List Datum
no_data r = []

bare : (rows : List (List Datum)) → ◌≡◌ {A = List (List Datum)} (replicate (length rows) []) (map no_data rows)
bare [] = refl
bare (r ∷ rows) = ap (λ (rs : List (List Datum)). [] ∷ rs) (bare rows)

-- the columns that are written are side by side the rows, with null in the partition columns
pub rows_back : (partition : List ℕ) (rows : List (List Datum)) (cs : List Column)
    → side_by_side (length rows) (columns_from partition rows 0 cs) ≡ map (λ r. nulled_from partition r 0 cs) rows
unfolding side_by_side
rows_back partition rows cs =
    ap (λ rs. with_columns rs (columns_from partition rows 0 cs)) (bare rows) ∙ sides partition rows cs 0 no_data

-- ---- leaves

flat_element : (c : Column) → is_group (element_of c) ≡ false
flat_element c = refl

numbers_by : (k : Kind) (b : Bool) (name : List ℕ) → has_numbers_in_range (element_of (record { name = name; kind = k; nullable = b })) ≡ true
numbers_by kind.Long true name = refl
numbers_by kind.Long false name = refl
numbers_by kind.Integer true name = refl
numbers_by kind.Integer false name = refl
numbers_by kind.Boolean true name = refl
numbers_by kind.Boolean false name = refl
numbers_by kind.String true name = refl
numbers_by kind.String false name = refl
numbers_by kind.Date true name = refl
numbers_by kind.Date false name = refl

once_by : (b : Bool) → is_flat (Some (repetition_of b)) ≡ true
once_by true = refl
once_by false = refl

get_past : (before later : List SchemaElement) (e d : SchemaElement) → get_or (before ++ e ∷ later) (length before) d ≡ e
get_past [] later e d = refl
get_past (x ∷ before) later e d = get_past before later e d

-- the element at a leaf's place has the physical type of its kind
abbrev TypedAt : List SchemaElement → Leaf → Type 0
TypedAt leaves l = (d : SchemaElement) → has_type (get_or leaves l.place d).physical_type (physical_of l.kind) ≡ true

abbrev AllTyped : List SchemaElement → List Source → Type 0
AllTyped leaves [] = Unit {0}
AllTyped leaves (source.Nulls ∷ ss) = AllTyped leaves ss
AllTyped leaves (source.Lacking name ∷ ss) = AllTyped leaves ss
AllTyped leaves (source.Leaf l ∷ ss) = TypedAt leaves l × AllTyped leaves ss

record Stood (leaves before rest : List SchemaElement) (cs : List Column) : Type 0 where
  leaves_are : leaves ≡ before ++ rest
  new_leaves : NewLeaves cs before

typed_leaf : (leaves before rest : List SchemaElement) (c : Column) → leaves ≡ before ++ element_of c ∷ rest → TypedAt leaves (leaf_at c (0 + length before) (element_of c))
typed_leaf leaves before rest c e d =
    let n : 0 + length before ≡ length before = omega arith in
    ap (λ k. has_type (get_or leaves k d).physical_type (physical_of c.kind)) n
    ∙ ap (λ ls. has_type (get_or ls (length before) d).physical_type (physical_of c.kind)) e
    ∙ ap (λ x. has_type x.physical_type (physical_of c.kind)) (get_past before rest (element_of c) d)
    ∙ number_same (physical_of c.kind) (physical_of c.kind) refl

by_leaf : (leaves : List SchemaElement) (c : Column) (o : Option Leaf) (l : Leaf) (ss : List Source) → o ≡ Some l → TypedAt leaves l → AllTyped leaves ss → AllTyped leaves (source_by c o ∷ ss)
by_leaf leaves c None l ss e t rest = absurd (let k : ◌≡◌ {A = Option Leaf} None (Some l) = e in cc)
by_leaf leaves c (Some x) l ss e t rest = (subst (TypedAt leaves) (sym (some_inside x l e)) t, rest)

all_typed : (partition : List ℕ) (leaves before : List SchemaElement) (place : ℕ) (cs : List Column) → Apart cs → Stood leaves before (elements_from partition place cs) cs
    → AllTyped leaves (sources_from partition leaves place cs)
all_typed partition leaves before place [] apart s = tt
all_typed partition leaves before place (c ∷ cs) apart s =
    by (is_partition partition place) s (λ before stood. all_typed partition leaves before (place + 1) cs apart.1 stood)
  where
    by : (b : Bool) → Stood leaves before (if b then elements_from partition (place + 1) cs else element_of c ∷ elements_from partition (place + 1) cs) (c ∷ cs)
        → ((before : List SchemaElement) → Stood leaves before (elements_from partition (place + 1) cs) cs → AllTyped leaves (sources_from partition leaves (place + 1) cs))
        → AllTyped leaves ((if b then source.Nulls else source_by c (leaf_from c 0 leaves)) ∷ sources_from partition leaves (place + 1) cs)
    by true t others = others before (record { leaves_are = t.leaves_are; new_leaves = t.new_leaves.1 })
    by false t others =
        let l = leaf_at c (0 + length before) (element_of c) in
        by_leaf leaves c (leaf_from c 0 leaves) l (sources_from partition leaves (place + 1) cs)
        (ap (leaf_from c 0) t.leaves_are ∙ leaf_is c 0 before (elements_from partition (place + 1) cs) t.new_leaves.0)
        (typed_leaf leaves before (elements_from partition (place + 1) cs) c t.leaves_are)
        (others (before ++ element_of c ∷ []) (record {
          leaves_are = t.leaves_are ∙ sym (append_assoc before (element_of c ∷ []) (elements_from partition (place + 1) cs));
          new_leaves = leaves_more cs before c t.new_leaves.1 apart.0;
        }))

other_by : (b : Bool) (p k : ℕ) (h : Bool) → (p == k) ≡ b → (p ≡ k → h ≡ true) → (p == k) && not h ≡ false
other_by true p k h e f = let t = f (eqb-true p k e) in rw (e, t) refl
other_by false p k h e f = rw e refl

typed_all : (leaves : List SchemaElement) (ss : List Source) (k : ℕ) (e : SchemaElement) → get_or leaves k e ≡ e → AllTyped leaves ss → list_any (is_other_type k e) ss ≡ false
typed_all leaves [] k e same h = refl
typed_all leaves (source.Nulls ∷ ss) k e same h = typed_all leaves ss k e same h
typed_all leaves (source.Lacking name ∷ ss) k e same h = typed_all leaves ss k e same h
typed_all leaves (source.Leaf l ∷ ss) k e same h =
    let one = other_by (l.place == k) l.place k (has_type e.physical_type (physical_of l.kind)) refl
    (λ at. ap (λ x. has_type x.physical_type (physical_of l.kind)) (sym (ap (λ n. get_or leaves n e) at ∙ same)) ∙ h.0 e) in
    or_both ((l.place == k) && not (has_type e.physical_type (physical_of l.kind))) (list_any (is_other_type k e) ss) one (typed_all leaves ss k e same h.1)
  where
    or_both : (a b : Bool) → a ≡ false → b ≡ false → a || b ≡ false
    or_both a b e f = rw (e, f) refl

are_leaves : (partition : List ℕ) (leaves before : List SchemaElement) (sources : List Source) (place : ℕ) (cs : List Column) → AllTyped leaves sources
    → leaves ≡ before ++ elements_from partition place cs → AreLeaves sources (length before) (elements_from partition place cs)
are_leaves partition leaves before sources place [] typed e = tt
are_leaves partition leaves before sources place (c ∷ cs) typed e =
    by (is_partition partition place) e (λ before f. are_leaves partition leaves before sources (place + 1) cs typed f)
  where
    by : (b : Bool) → leaves ≡ before ++ (if b then elements_from partition (place + 1) cs else element_of c ∷ elements_from partition (place + 1) cs)
        → ((before : List SchemaElement) → leaves ≡ before ++ elements_from partition (place + 1) cs → AreLeaves sources (length before) (elements_from partition (place + 1) cs))
        → AreLeaves sources (length before) (if b then elements_from partition (place + 1) cs else element_of c ∷ elements_from partition (place + 1) cs)
    by true f others = others before f
    by false f others =
        let rest = elements_from partition (place + 1) cs in
        let leaf : IsLeaf sources (length before) (element_of c) = record {
          flat = refl;
          typed = typed_all leaves sources (length before) (element_of c)
              (ap (λ ls. get_or ls (length before) (element_of c)) f ∙ get_past before rest (element_of c) (element_of c)) typed;
          numbers = numbers_by c.kind c.nullable c.name;
          once = once_by c.nullable;
        } in (
          leaf,
          subst (λ n. AreLeaves sources n rest) (length-append before (element_of c ∷ []))
              (others (before ++ element_of c ∷ []) (f ∙ sym (append_assoc before (element_of c ∷ []) rest))),
        )

few_elements : (partition : List ℕ) (place : ℕ) (cs : List Column) → length (elements_from partition place cs) ≤ length cs
few_elements partition place [] = omega arith
few_elements partition place (c ∷ cs) = by (is_partition partition place) (few_elements partition (place + 1) cs)
  where
    by : (b : Bool) → length (elements_from partition (place + 1) cs) ≤ length cs
        → length (if b then elements_from partition (place + 1) cs else element_of c ∷ elements_from partition (place + 1) cs) ≤ length (c ∷ cs)
    by true n = omega (arith, n)
    by false n = omega (arith, n)

pub leaves_few : (partition : List ℕ) (cs : List Column) → length cs ≤ 64 → length (elements_from partition 0 cs) ≤ 64
leaves_few partition cs few = omega (arith, few, few_elements partition 0 cs)

-- the elements that are written are a tree
pub tree_back : (s : TableSchema) → length s.columns ≤ 64 → Apart s.columns
    → IsTree (sources_from s.partition (elements_from s.partition 0 s.columns) 0 s.columns) (elements_of s) (elements_from s.partition 0 s.columns)
unfolding elements_of
tree_back s few apart =
    let leaves = elements_from s.partition 0 s.columns in
    let typed = all_typed s.partition leaves [] 0 s.columns apart (record { leaves_are = refl; new_leaves = new s.columns }) in
    record {
      root = root_of (pos (length leaves));
      all = refl;
      numbers = in_range (length leaves) (leaves_few s.partition s.columns few);
      counted = refl;
      each = are_leaves s.partition leaves [] (sources_from s.partition leaves 0 s.columns) 0 s.columns typed refl;
    }
  where
    new : (ds : List Column) → NewLeaves ds []
    new [] = tt
    new (d ∷ ds) = (tt, new ds)

    in_range : (n : ℕ) → n ≤ 64 → has_numbers_in_range (root_of (pos n)) ≡ true
    in_range n small = let e : nat_lt n (2 ^ 31) ≡ true = lt-ltb n (2 ^ 31) (omega (arith, small)) in rw e refl
