-- What a commit says and what a statement loaded, in the terms of what was put.
use Rattle.std.proofs.Common.{◌≡◌, ℕ, zero, suc, Bool, true, false, not, List, [], ◌∷◌, map, refl, sym, ◌∙◌, ap}
use Rattle.std.specs.Prelude.{Option, Some, None, if◌then◌else◌, option_map, option_and_then}
use Rattle.std.specs.Str.{bytes_eq}
use Rattle.std.specs.Ordering.{is_lt, nat_cmp}
use Rattle.std.specs.Cmp.Lexicographic.{slice_cmp}
use Rattle.table_rules.specs.Names.{commit_text}
use Rattle.line_texts.specs.Texts.{columns_of_text}
use Rattle.snapshot_replay.specs.Table as log
use Rattle.statement_calls.specs.Texts.{read_commit, read_file}
use Rattle.table_changes.specs.Rows.{Row}
use Rattle.table_changes.specs.Table.{File, MetaData, Commit, newer, reconciled, without_path, placed}
use Rattle.table_changes.specs.Conflicts.{Reads, is_literal, first_clash}
use Rattle.table_changes.specs.Operations.{Operation, IsSound, Agree, got_files}
use Rattle.table_changes.proofs.Folded.{each_verdict_is_local}
use Rattle.table_laws.specs.Commits.{file_of, line_of, meta_of, changes_of, files_in, meta_in}
use Rattle.table_laws.specs.Operations.{Scope, passes, may}
use Rattle.table_laws.specs.History.{Put, or_none, or_nothing, commit_at, live_at, meta_at, rows_of}
use Rattle.table_laws.proofs.CommitEffects.{said, effect_of, Says, level_in, judge_of}
use Rattle.table_laws.proofs.Sessions.{LoadedTo}
use Rattle.table_laws.proofs.Lawful.{AllGot}
use Rattle.table_laws.proofs.Shown.{InPut}

-- reconciliation of a log's lines is that of what they say
without_said : (path : List ℕ) (fs : List log.Add) → map file_of (log.without_path fs path) ≡ without_path (map file_of fs) path
without_said path [] = refl
without_said path (a ∷ fs) = by (bytes_eq a.path path) (without_said path fs)
  where
    by : (b : Bool) → map file_of (log.without_path fs path) ≡ without_path (map file_of fs) path
        → map file_of (if b then log.without_path fs path else a ∷ log.without_path fs path) ≡ (if b then without_path (map file_of fs) path else file_of a ∷ without_path (map file_of fs) path)
    by true rest = rest
    by false rest = ap (λ (l : List File). file_of a ∷ l) rest

placed_said : (a : log.Add) (fs : List log.Add) → map file_of (log.placed a fs) ≡ placed (file_of a) (map file_of fs)
placed_said a [] = refl
placed_said a (b ∷ fs) = by (is_lt (slice_cmp nat_cmp b.path a.path)) (placed_said a fs)
  where
    by : (c : Bool) → map file_of (log.placed a fs) ≡ placed (file_of a) (map file_of fs)
        → map file_of (if c then b ∷ log.placed a fs else a ∷ b ∷ fs) ≡ (if c then file_of b ∷ placed (file_of a) (map file_of fs) else file_of a ∷ file_of b ∷ map file_of fs)
    by true rest = ap (λ (l : List File). file_of b ∷ l) rest
    by false rest = refl

reconciled_said : (changes : Bool) (fs : List log.Add) (ls : List log.Action) → map file_of (log.reconciled fs ls) ≡ reconciled (map file_of fs) (map (line_of changes) ls)
reconciled_said changes fs [] = refl
reconciled_said changes fs (log.Removes path ∷ ls) =
    reconciled_said changes (log.without_path fs path) ls ∙ ap (λ (l : List File). reconciled l (map (line_of changes) ls)) (without_said path fs)
reconciled_said changes fs (log.Adds a ∷ ls) =
    reconciled_said changes (log.placed a (log.without_path fs a.path)) ls
    ∙ ap (λ (l : List File). reconciled l (map (line_of changes) ls)) (placed_said a (log.without_path fs a.path) ∙ ap (λ (l : List File). placed (file_of a) l) (without_said a.path fs))

newer_said : (old new : Option (List (List ℕ))) → option_map meta_of (log.newer old new) ≡ newer (option_map meta_of old) (option_map meta_of new)
newer_said old None = refl
newer_said old (Some columns) = refl

newest_said : (new : Option (List (List ℕ))) → option_map meta_of (log.newer None new) ≡ option_map meta_of new
newest_said None = refl
newest_said (Some columns) = refl

-- a table that was loaded has columns, since version 0 has
pub loaded_columns : (G : List ℕ → List ℕ → Type 0) (v : ℕ) (s : log.Snapshot) → LoadedTo G (suc v) s → (columns : List (List ℕ)) × (s.columns ≡ Some columns)
loaded_columns G zero s h =
    let first = table_columns h.1 h.2 h.5 in
    (first.0, ap (λ (x : log.Snapshot). x.columns) (h.6 ∙ ap (λ (r : log.Snapshot). log.applied r h.2) h.3) ∙ ap (λ (o : Option (List (List ℕ))). log.newer None o) first.1)
  where
    made : (o : Option (List (List ℕ))) (t : log.Commit) → option_map log.table_commit o ≡ Some t → (columns : List (List ℕ)) × (t.columns ≡ Some columns)
    made None t h = cc
    made (Some columns) t h = (columns, sym (ap (λ (x : log.Commit). x.columns) (same (log.table_commit columns) t h)))
      where
        same : (a b : log.Commit) → Some a ≡ Some b → a ≡ b
        same a b h = cc

    table_columns : (text : List ℕ) (t : log.Commit) → read_commit 0 text ≡ Some t → (columns : List (List ℕ)) × (t.columns ≡ Some columns)
    table_columns text t h = made (columns_of_text text) t h
loaded_columns G (suc v) s h =
    let rest = loaded_columns G v h.0 h.3 in
    let now = still rest.0 (h.2).columns in
    (now.0, ap (λ (x : log.Snapshot). x.columns) h.6 ∙ ap (λ (o : Option (List (List ℕ))). log.newer o (h.2).columns) rest.1 ∙ now.1)
  where
    still : (old : List (List ℕ)) (new : Option (List (List ℕ))) → (columns : List (List ℕ)) × (log.newer (Some old) new ≡ Some columns)
    still old None = (old, refl)
    still old (Some columns) = (columns, refl)

module _ (ps : List Put) where
  pub file_is : (at : Option MetaData) (a : File) (body : List ℕ) (found : List Row) → InPut ps a.name body → read_file body ≡ Some found → found ≡ rows_of ps at a
  file_is at a body found h reads = sym (ap (λ (o : Option (List ℕ)). or_none (option_and_then read_file o)) h ∙ ap or_none reads)

  pub commit_is : (v : ℕ) (text : List ℕ) (t : log.Commit) → InPut ps (commit_text v) text → read_commit v text ≡ Some t → commit_at ps v ≡ changes_of t
  commit_is v text t h reads = ap (λ (o : Option (List ℕ)). or_nothing (option_and_then (read_commit v) o)) h ∙ ap or_nothing reads

  pub said_is : (v : ℕ) (text : List ℕ) (said : Commit) → InPut ps (commit_text v) text → Says v text said → commit_at ps v ≡ said
  said_is v text said h says = commit_is v text says.0 h says.1 ∙ says.2

  -- the table that was loaded is that of its version
  pub loaded_files : (v : ℕ) (s : log.Snapshot) → LoadedTo (InPut ps) (suc v) s → files_in s ≡ live_at ps v
  loaded_files zero s h =
      ap files_in (h.6 ∙ ap (λ (r : log.Snapshot). log.applied r h.2) h.3) ∙ reconciled_said (h.2).changes [] (h.2).lines
      ∙ ap (λ (t : Commit). reconciled [] t.lines) (sym (commit_is 0 h.1 h.2 h.4 h.5))
  loaded_files (suc v) s h =
      ap files_in h.6 ∙ reconciled_said (h.2).changes (h.0).files (h.2).lines
      ∙ ap (λ (l : List File). reconciled l (map (line_of (h.2).changes) (h.2).lines)) (loaded_files v h.0 h.3)
      ∙ ap (λ (t : Commit). reconciled (live_at ps v) t.lines) (sym (commit_is (suc v) h.1 h.2 h.4 h.5))

  pub loaded_meta : (v : ℕ) (s : log.Snapshot) → LoadedTo (InPut ps) (suc v) s → meta_in s ≡ meta_at ps v
  loaded_meta zero s h =
      ap meta_in (h.6 ∙ ap (λ (r : log.Snapshot). log.applied r h.2) h.3) ∙ newest_said (h.2).columns
      ∙ ap (λ (t : Commit). t.meta) (sym (commit_is 0 h.1 h.2 h.4 h.5))
  loaded_meta (suc v) s h =
      ap meta_in h.6 ∙ newer_said (h.0).columns (h.2).columns
      ∙ ap (λ (m : Option MetaData). newer m (option_map meta_of (h.2).columns)) (loaded_meta v h.0 h.3)
      ∙ ap (λ (t : Commit). newer (meta_at ps v) t.meta) (sym (commit_is (suc v) h.1 h.2 h.4 h.5))

  -- the rows of files that were got are those put
  pub got_agree : (at : Option MetaData) (view : File → List Row) (fs : List File) → AllGot (InPut ps) view fs → Agree view (rows_of ps at) fs
  got_agree at view [] h = tt
  got_agree at view (a ∷ fs) h = (file_is at a h.0.0 (view a) h.0.1 h.0.2, got_agree at view fs h.1)

  -- so what an operation takes out and writes, and what it is checked against
  module _ (at : Option MetaData) (op : Operation Scope) (sound : IsSound passes may op) (view : File → List Row) (fs : List File) (files : AllGot (InPut ps) view (got_files op fs)) where
    agree : Agree view (rows_of ps at) (got_files op fs)
    agree = got_agree at view (got_files op fs) files

    pub same_written : op.writes view fs ≡ op.writes (rows_of ps at) fs
    same_written = (sound.local view (rows_of ps at) fs agree).0

    pub same_effect : (added : List File) → effect_of op view fs added ≡ effect_of op (rows_of ps at) fs added
    same_effect added =
        ap (λ (gone : List File). said (is_literal op.kind) (not op.moves) gone added)
        (sound.local view (rows_of ps at) fs agree).1

    pub same_judge : (meta : Option MetaData) (t : log.Commit) → judge_of meta op view fs t ≡ judge_of meta op (rows_of ps at) fs t
    same_judge meta t = ap (λ (r : Reads). first_clash r (changes_of t)) (each_verdict_is_local Scope passes may op sound (level_in op meta) None view (rows_of ps at) fs agree).0
