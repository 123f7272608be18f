-- What the texts of commits say, and that an append clears every winner that reads.
use Rattle.std.proofs.Common.{◌≡◌, ℕ, suc, ◌==◌, Bool, true, false, List, [], ◌∷◌, map, sym, ap, ◌∙◌, arith}
use Rattle.std.specs.Prelude.{Option, Some, None, option_map, if◌then◌else◌}
use Rattle.std.proofs.lemmas.Bool.Decides.{nat_tests}
use Rattle.edge_api.specs.declared.call.Tag.{Tag}
use Rattle.table_rules.specs.Names.{data_text}
use Rattle.line_texts.specs.Texts.{columns_of_text, path_of_text, text_of_add}
use Rattle.line_texts.proofs.Laws.{path_reads_back}
use Rattle.snapshot_replay.specs.Table.{Commit, table_commit, append_commit}
use Rattle.statement_calls.specs.Texts.{read_commit}
use Rattle.table_changes.specs.Rows.{Row}
use Rattle.table_changes.specs.Table.{File, FileLine, MetaData}
use Rattle.table_changes.specs.Conflicts.{first_clash}
use Rattle.table_changes.specs.Operations.{reads_of}
use Rattle.table_changes.specs.Statements.{insert_of}
use Rattle.table_laws.specs.Commits.{line_of, info_of, protocol_of, meta_of}
use Rattle.table_laws.specs.Operations.{NoRow, passes, may}
use Rattle.table_laws.proofs.CommitEffects.{new_file, plan_of, said, Writes, level_in, judge_of}
use Rattle.table_laws.proofs.Sound.{none_picked}

later : (v : ℕ) → (suc v == 0) ≡ false
later v = grind (arith, nat_tests)

-- a commit above version 0 is an append
pub read_later : (v : ℕ) (text : List ℕ) → read_commit (suc v) text ≡ option_map append_commit (path_of_text text)
read_later v text = ap (λ (b : Bool). if b then option_map table_commit (columns_of_text text) else option_map append_commit (path_of_text text)) (later v)

-- the text of an append, whose file is whole, is read as the path of its file
pub append_writes : (tag : Tag) (start read : ℕ) (rows : List Row) (view : File → List Row) (fs : List File) (v : ℕ)
    → Writes (suc v) (text_of_add (data_text tag start 0)) (plan_of tag start read (insert_of NoRow rows) view fs (new_file tag start 0 ∷ []))
append_writes tag start read rows view fs v = record {
  back = λ whole. (
    append_commit (data_text tag start 0),
    read_later v (text_of_add (data_text tag start 0)) ∙ ap (option_map append_commit) (path_reads_back (data_text tag start 0) (whole.added).0),
    ap (λ (gone : List File). said true true gone (new_file tag start 0 ∷ [])) (sym (none_picked fs)),
  );
}

-- it has no columns
no_columns : (v : ℕ) (text : List ℕ) (t : Commit) → read_commit (suc v) text ≡ Some t → t.columns ≡ None
no_columns v text t reads = by (path_of_text text) (sym (read_later v text) ∙ reads)
  where
    same : (a b : Commit) → Some a ≡ Some b → a ≡ b
    same a b h = cc

    by : (o : Option (List ℕ)) → option_map append_commit o ≡ Some t → t.columns ≡ None
    by None h = cc
    by (Some path) h = sym (ap (λ (x : Commit). x.columns) (same (append_commit path) t h))

-- so an insert doesn't clash with it, at any level
pub append_clears : (meta : Option MetaData) (rows : List Row) (view : File → List Row) (fs : List File) (v : ℕ) (text : List ℕ) (t : Commit) → read_commit (suc v) text ≡ Some t → judge_of meta (insert_of NoRow rows) view fs t ≡ None
append_clears meta rows view fs v text t reads =
    let op = insert_of NoRow rows in
    let lines : List FileLine = map (line_of t.changes) t.lines in
    ap (λ (o : Option (List (List ℕ))). first_clash (reads_of passes may (level_in op meta) None view op fs) (record { info = Some (info_of t.blind); protocol = option_map protocol_of o; meta = option_map meta_of o; txns = []; lines = lines }))
    (no_columns v text t reads)
