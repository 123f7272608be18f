-- Files are read where they hold rows, and only there.
use Rattle.std.proofs.Common.{◌≡◌, ℕ, ◌+◌, ◌<◌, ◌≤◌, true, nat_lt, ◌&&◌, if◌then◌else◌, List, [], ◌∷◌, length, Ok, Err, refl, sym, ap, ◌∙◌, subst, arith}
use Rattle.std.specs.List.{list_any}
use Rattle.std.proofs.lemmas.Bool.{ltb-false, le-ltb, ltb-true, lt-ltb, and_parts, and_from}
use Rattle.row_base.specs.declared.row.Datum.{Datum}
use Rattle.row_base.specs.Schema.{TableSchema}
use Rattle.parquet_meta.specs.declared.fault.FileFault.TheVariants as faults
use Rattle.parquet_meta.specs.declared.meta.SchemaElement.{SchemaElement}
use Rattle.row_base.specs.Faults.{◌>>=◌}
use Rattle.parquet_meta.specs.Footer.{footer_of}
use Rattle.parquet_plain.specs.declared.source.Source.{Source}
use Rattle.parquet_plain.specs.Tree.{has_numbers_in_range, is_group, is_flat, is_other_type, is_leaf, children_of, sources_from, leaf_checked, leaves_checked, if_all, sources_in}
use Rattle.parquet_plain.specs.Reading.{with_groups, first_name, file_rows}
use Rattle.parquet_plain.specs.Grammar.{IsLeaf, AreLeaves, IsTree, AreGroups, FileRows, FilesAreRead, RowsAreOne}
use Rattle.parquet_plain.proofs.HeadsRead.{footer_found, footer_only}
use Rattle.parquet_plain.proofs.GroupsRead.{groups_found, groups_only}
use Rattle.parquet_plain.proofs.Steps.{bind_ok, bind_at, if_ok, unless_ok, if_at, unless_at, ok_inside}

-- ---- the tree

leaf_found : (cs : List Source) (children place : ℕ) (e : SchemaElement) → leaf_checked cs children place e ≡ Ok tt → IsLeaf cs place e × (place < children)
unfolding leaf_checked
leaf_found cs children place e h =
    let last = if is_leaf children place e then Ok tt else Err (faults.Shape e.name) in
    let p = unless_ok (is_group e) (if list_any (is_other_type place e) cs then Err (faults.Physical e.name) else last) faults.Nested tt h in
    let q = unless_ok (list_any (is_other_type place e) cs) last (faults.Physical e.name) tt p.1 in
    let r = if_ok (is_leaf children place e) (Ok tt) (faults.Shape e.name) tt q.1 in
    let a = and_parts (has_numbers_in_range e && is_flat e.repetition_type) (nat_lt place children) r.0 in
    let b = and_parts (has_numbers_in_range e) (is_flat e.repetition_type) a.0 in
    let leaf : IsLeaf cs place e = record { flat = p.0; typed = q.0; numbers = b.0; once = b.1 } in
    (leaf, ltb-true place children a.1)

leaf_only : (cs : List Source) (children place : ℕ) (e : SchemaElement) → IsLeaf cs place e → place < children → leaf_checked cs children place e ≡ Ok tt
unfolding leaf_checked
leaf_only cs children place e h within =
    let last = if is_leaf children place e then Ok tt else Err (faults.Shape e.name) in
    unless_at (is_group e) (Err faults.Nested) (if list_any (is_other_type place e) cs then Err (faults.Physical e.name) else last) h.flat
    ∙ unless_at (list_any (is_other_type place e) cs) (Err (faults.Physical e.name)) last h.typed
    ∙ if_at (is_leaf children place e) (Ok tt) (Err (faults.Shape e.name))
    (and_from (has_numbers_in_range e && is_flat e.repetition_type) (nat_lt place children)
    (and_from (has_numbers_in_range e) (is_flat e.repetition_type) h.numbers h.once) (lt-ltb place children within))

leaves_found : (cs : List Source) (children place : ℕ) (es : List SchemaElement) → place ≤ children → leaves_checked cs children place es ≡ Ok tt
    → AreLeaves cs place es × (place + length es ≤ children)
leaves_found cs children place [] few h = (tt, omega (arith, few))
leaves_found cs children place (e ∷ es) few h =
    let p = bind_ok (leaf_checked cs children place e) (λ _. leaves_checked cs children (place + 1) es) tt h in
    let q = leaf_found cs children place e p.1 in
    let r = leaves_found cs children (place + 1) es (omega (arith, q.1)) p.2 in
    ((q.0, r.0), omega (arith, r.1))

leaves_only : (cs : List Source) (children place : ℕ) (es : List SchemaElement) → AreLeaves cs place es → place + length es ≤ children → leaves_checked cs children place es ≡ Ok tt
leaves_only cs children place [] h few = refl
leaves_only cs children place (e ∷ es) h few =
    bind_at (leaf_checked cs children place e) (λ _. leaves_checked cs children (place + 1) es) tt (leaf_only cs children place e h.0 (omega (arith, few)))
    ∙ leaves_only cs children (place + 1) es h.1 (omega (arith, few))

record Treed (s : TableSchema) (elements : List SchemaElement) (cs : List Source) : Type 0 where
  leaves : List SchemaElement
  tree : IsTree (sources_from s.partition leaves 0 s.columns) elements leaves
  is : cs ≡ sources_from s.partition leaves 0 s.columns

tree_found : (s : TableSchema) (elements : List SchemaElement) (cs : List Source) → sources_in s elements ≡ Ok cs → Treed s elements cs
unfolding sources_in
tree_found s [] cs e = absurd cc
tree_found s (root ∷ leaves) cs e =
    let found = sources_from s.partition leaves 0 s.columns in
    let children = children_of root.num_children in
    let p = if_ok (has_numbers_in_range root) (if_all children root leaves found) (faults.Shape root.name) cs e in
    let q = bind_ok (leaves_checked found children 0 leaves) (λ _. if nat_lt (length leaves) children then Err (faults.Shape root.name) else Ok found) cs p.1 in
    let r = unless_ok (nat_lt (length leaves) children) (Ok found) (faults.Shape root.name) cs q.2 in
    let l = leaves_found found children 0 leaves (omega arith) q.1 in
    record {
      leaves = leaves;
      tree = record {
        root = root;
        all = refl;
        numbers = p.0;
        counted = omega (arith, l.1, ltb-false (length leaves) children r.0);
        each = l.0;
      };
      is = sym (ok_inside found cs r.1);
    }

tree_only_by : (s : TableSchema) (root : SchemaElement) (leaves : List SchemaElement) → has_numbers_in_range root ≡ true → children_of root.num_children ≡ length leaves
    → AreLeaves (sources_from s.partition leaves 0 s.columns) 0 leaves → sources_in s (root ∷ leaves) ≡ Ok (sources_from s.partition leaves 0 s.columns)
unfolding sources_in
tree_only_by s root leaves numbers counted each =
    let found = sources_from s.partition leaves 0 s.columns in
    let children = children_of root.num_children in
    if_at (has_numbers_in_range root) (if_all children root leaves found) (Err (faults.Shape root.name)) numbers
    ∙ bind_at (leaves_checked found children 0 leaves) (λ _. if nat_lt (length leaves) children then Err (faults.Shape root.name) else Ok found) tt
    (leaves_only found children 0 leaves each (omega (arith, counted)))
    ∙ unless_at (nat_lt (length leaves) children) (Err (faults.Shape root.name)) (Ok found) (le-ltb (length leaves) children (omega (arith, counted)))

tree_only : (s : TableSchema) (elements leaves : List SchemaElement) → IsTree (sources_from s.partition leaves 0 s.columns) elements leaves
    → sources_in s elements ≡ Ok (sources_from s.partition leaves 0 s.columns)
tree_only s elements leaves t = ap (sources_in s) t.all ∙ tree_only_by s t.root leaves t.numbers t.counted t.each

-- ---- the file

file_found : (s : TableSchema) (file : List ℕ) (rows : List (List Datum)) → file_rows s file ≡ Ok rows → FileRows s file rows
unfolding file_rows
file_found s file rows e =
    let name = first_name s.partition 0 s.columns in
    let p = bind_ok (footer_of file) (λ meta. sources_in s meta.schema >>= λ cs. with_groups name cs file [] meta.row_groups) rows e in
    let q = bind_ok (sources_in s p.0.schema) (λ cs. with_groups name cs file [] p.0.row_groups) rows p.2 in
    let t = tree_found s p.0.schema q.0 q.1 in
    let g = groups_found name q.0 file [] p.0.row_groups rows (omega arith) q.2 in
    record {
      meta = p.0;
      leaves = t.leaves;
      footer = footer_only file p.0 p.1;
      tree = t.tree;
      groups = subst (AreGroups (sources_from s.partition t.leaves 0 s.columns) file p.0.row_groups) (sym g.2) (subst (λ cs. AreGroups cs file p.0.row_groups g.0) t.is g.1);
      few = g.3;
    }

pub file_only : (s : TableSchema) (file : List ℕ) (rows : List (List Datum)) → FileRows s file rows → file_rows s file ≡ Ok rows
unfolding file_rows
file_only s file rows h =
    let name = first_name s.partition 0 s.columns in
    let cs = sources_from s.partition h.leaves 0 s.columns in
    bind_at (footer_of file) (λ meta. sources_in s meta.schema >>= λ cs. with_groups name cs file [] meta.row_groups) h.meta (footer_found file h.meta h.footer)
    ∙ bind_at (sources_in s h.meta.schema) (λ cs. with_groups name cs file [] h.meta.row_groups) cs (tree_only s h.meta.schema h.leaves h.tree)
    ∙ groups_only name cs file [] h.meta.row_groups rows h.groups (omega (arith, h.few))

pub files_are_read : FilesAreRead
files_are_read s file rows = (file_found s file rows, file_only s file rows)

pub rows_are_one : RowsAreOne
rows_are_one s file rows others h k = ok_inside rows others (sym (file_only s file rows h) ∙ file_only s file others k)
