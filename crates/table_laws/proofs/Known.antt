-- What is known stays known.
use Rattle.std.proofs.Common.{◌≡◌, ℕ, zero, suc, List, [], ◌∷◌, ◌++◌}
use Rattle.std.specs.Prelude.{Option, Some, None}
use Rattle.edge_api.specs.declared.call.Tag.{Tag}
use Rattle.row_base.specs.declared.row.ScannedFile.{ScannedFile}
use Rattle.snapshot_replay.specs.Table.{Commit, Snapshot}
use Rattle.statement_calls.specs.declared.finish.Kept.{Kept}
use Rattle.statement_calls.specs.Texts.{read_file}
use Rattle.table_changes.specs.Rows.{Row}
use Rattle.table_changes.specs.Table.{File}
use Rattle.table_changes.specs.Conflicts.{Clash}
use Rattle.table_changes.specs.Operations.{Operation}
use Rattle.table_laws.specs.Operations.{Scope}
use Rattle.table_laws.proofs.Sessions.{LoadedTo, KnownKept}
use Rattle.table_laws.proofs.Lawful.{AllGot, AllScanned, AllParts, Cleared, Knows}

module _ (G H : List ℕ → List ℕ → Type 0) (more : (n b : List ℕ) → G n b → H n b) where
  pub loaded_more : (v : ℕ) (s : Snapshot) → LoadedTo G v s → LoadedTo H v s
  loaded_more zero s h = h
  loaded_more (suc v) s h = (h.0, h.1, h.2, loaded_more v h.0 h.3, more _ _ h.4, h.5, h.6)

  pub kept_more : (kept : Option Kept) → KnownKept G kept → KnownKept H kept
  kept_more None h = h
  kept_more (Some k) h = loaded_more k.versions k.state h

  pub got_more : (view : File → List Row) (fs : List File) → AllGot G view fs → AllGot H view fs
  got_more view [] h = tt
  got_more view (a ∷ fs) h = ((h.0.0, more a.name h.0.0 h.0.1, h.0.2), got_more view fs h.1)

  pub scanned_more : (ps : List (List ℕ)) (fs : List ScannedFile) → AllScanned G ps fs → AllScanned H ps fs
  scanned_more [] [] h = tt
  scanned_more [] (f ∷ fs) h = absurd h
  scanned_more (p ∷ ps) [] h = absurd h
  scanned_more (p ∷ ps) (f ∷ fs) h = ((h.0.0, more p h.0.0 h.0.1, h.0.2), scanned_more ps fs h.1)

  pub parts_more : (tag : Tag) (start part : ℕ) (fs : List File) (rows : List Row) → AllParts G tag start part fs rows → AllParts H tag start part fs rows
  parts_more tag start part [] rows h = h
  parts_more tag start part (f ∷ fs) rows h =
      let p = h.3 in
      (h.0, h.1, h.2, record { small = p.small; is = p.is; body = p.body; known = more _ _ p.known; reads = p.reads }, parts_more tag start (suc part) fs h.1 h.4)

  pub cleared_more : (judge : Commit → Option Clash) (k : ℕ) → Cleared G judge k → Cleared H judge k
  cleared_more judge k h = (h.0, more _ _ h.1, h.2)

-- one file more
pub scanned_push : (G : List ℕ → List ℕ → Type 0) (ps : List (List ℕ)) (fs : List ScannedFile) (p : List ℕ) (f : ScannedFile) → AllScanned G ps fs → (body : List ℕ) × G p body × (read_file body ≡ Some f.rows) → AllScanned G (ps ++ p ∷ []) (fs ++ f ∷ [])
scanned_push G [] [] p f h one = (one, tt)
scanned_push G [] (g ∷ fs) p f h one = absurd h
scanned_push G (q ∷ ps) [] p f h one = absurd h
scanned_push G (q ∷ ps) (g ∷ fs) p f h one = (h.0, scanned_push G ps fs p f h.1 one)

pub knows_more : (tag : Tag) (op : Operation Scope) (start read : ℕ) (s : Snapshot) (view : File → List Row) (added : List File) (G S H T : List ℕ → List ℕ → Type 0) (version : ℕ)
    → ((n b : List ℕ) → G n b → H n b) → ((n b : List ℕ) → S n b → T n b)
    → Knows tag op start read s view added G S version → Knows tag op start read s view added H T version
knows_more tag op start read s view added G S H T version more stored k = record {
  below = k.below;
  loaded = loaded_more G H more (suc read) s k.loaded;
  files = got_more G H more view _ k.files;
  new = k.new;
  written = k.written;
  parts = parts_more S T stored tag start 0 added k.new k.parts;
  previous = (k.previous.0, more _ _ k.previous.1);
  clear = λ n from to. cleared_more G H more _ n (k.clear n from to);
}
