-- What one commit says, of each thing: its newest action on a path, its metadata, an application's number and its own time.
-- Below Replay; nothing above the crate cites it.
-- The laws over a commit's actions (log_state) and over what it says (table_files) meet here.
use Rattle.std.proofs.Common.{◌≡◌, ℕ, Bool, true, false, List, [], ◌∷◌, refl, sym, ◌∙◌, ap}
use Rattle.std.specs.Prelude.{Option, Some, None, if◌then◌else◌, option_map, option_and_then}
use Rattle.std.specs.Str.{bytes_eq}
use Rattle.log_actions.specs.declared.action.AddFile.{AddFile}
use Rattle.log_actions.specs.declared.action.CommitInfo.{CommitInfo}
use Rattle.log_actions.specs.declared.action.Txn.{Txn as TxnAction}
use Rattle.log_actions.specs.declared.action.Action.{Action}
use Rattle.log_actions.specs.declared.action.Action.TheVariants.{Protocol, Meta, Add, Remove, Txn, Info, Checkpoint, Sidecar, Ignored}
use Rattle.log_state.specs.Newest.{newer, newest, metadata_in, txn_on, action_on, added_by, live_by}
use Rattle.log_state.specs.Stamps.{first_info, stamp_in, if_stamp}
use Rattle.log_state.proofs.Newer.{newer_none}
use Rattle.table_files.specs.Files.{File, file_in}
use Rattle.table_files.specs.Commits.{commit_of}
use Rattle.table_changes.specs.Table.{without_path, placed, reconciled, file_at, number_in}
use Rattle.table_changes.proofs.Files.{same_path, is_before, file_at-placed, file_at-without}
use Rattle.log_laws.specs.Replay.{stamp_said}
use Rattle.log_laws.proofs.Ordered.{file_at-without_same}

-- the file of a path behind an action, if there is one, on it
abbrev pub behind : Option File → Option Action → Option File
behind old None = old
behind old (Some a) = option_map file_in (added_by a)

pub behind_newer : (old : Option File) (a b : Option Action) → behind (behind old a) b ≡ behind old (newer a b)
behind_newer old a None = refl
behind_newer old a (Some x) = refl

pub live_newer : (a b : Option Action) → option_map file_in (live_by (newer a b)) ≡ behind (option_map file_in (live_by a)) b
live_newer a None = refl
live_newer a (Some x) = refl

-- a file in its place is found under its path
placed_there : (p : List ℕ) (a : File) (fs : List File) → bytes_eq a.path p ≡ true → file_at p fs ≡ None → file_at p (placed a fs) ≡ Some a
placed_there p a [] is none = ap (λ (c : Bool). if c then Some a else None) is
placed_there p a (b ∷ fs) is none = by (is_before b a) (λ n. placed_there p a fs is n)
  where
    differ : (c : Bool) → bytes_eq b.path p ≡ c → (if c then Some b else file_at p fs) ≡ None → (file_at p fs ≡ None → file_at p (placed a fs) ≡ Some a) → file_at p (b ∷ placed a fs) ≡ Some a
    differ true e h rest = cc
    differ false e h rest = ap (λ (c : Bool). if c then Some b else file_at p (placed a fs)) e ∙ rest h

    by : (less : Bool) → (file_at p fs ≡ None → file_at p (placed a fs) ≡ Some a) → file_at p (if less then b ∷ placed a fs else a ∷ b ∷ fs) ≡ Some a
    by true rest = differ (bytes_eq b.path p) refl none rest
    by false rest = ap (λ (c : Bool). if c then Some a else file_at p (b ∷ fs)) is

added : (p : List ℕ) (f : AddFile) (fs : List File) → file_at p (placed (file_in f) (without_path fs f.path)) ≡ behind (file_at p fs) (action_on p (Add f))
added p f fs = by (bytes_eq f.path p) refl
  where
    by : (b : Bool) → bytes_eq f.path p ≡ b → file_at p (placed (file_in f) (without_path fs f.path)) ≡ behind (file_at p fs) (if b then Some (Add f) else None)
    by true e = placed_there p (file_in f) (without_path fs f.path) e (ap (λ (q : List ℕ). file_at q (without_path fs f.path)) (sym (same_path f.path p e)) ∙ file_at-without_same f.path fs)
    by false e = file_at-placed p (file_in f) (without_path fs f.path) e ∙ file_at-without p f.path fs e

removed : (p q : List ℕ) (a : Action) (fs : List File) → added_by a ≡ None → file_at p (without_path fs q) ≡ behind (file_at p fs) (if bytes_eq q p then Some a else None)
removed p q a fs none = by (bytes_eq q p) refl
  where
    by : (b : Bool) → bytes_eq q p ≡ b → file_at p (without_path fs q) ≡ behind (file_at p fs) (if b then Some a else None)
    by true e = ap (λ (n : List ℕ). file_at n (without_path fs q)) (sym (same_path q p e)) ∙ file_at-without_same q fs ∙ sym (ap (option_map file_in) none)
    by false e = file_at-without p q fs e

-- the file of a path after a commit is that of its newest action on the path
pub file_after : (p : List ℕ) (all : List Action) (fs : List File) → file_at p (reconciled fs (commit_of all).lines) ≡ behind (file_at p fs) (newest (action_on p) all)
unfolding newest
file_after p [] fs = refl
file_after p (Protocol x ∷ more) fs = file_after p more fs ∙ behind_newer (file_at p fs) None (newest (action_on p) more)
file_after p (Meta x ∷ more) fs = file_after p more fs ∙ behind_newer (file_at p fs) None (newest (action_on p) more)
file_after p (Add f ∷ more) fs =
    file_after p more (placed (file_in f) (without_path fs f.path))
    ∙ ap (λ (o : Option File). behind o (newest (action_on p) more)) (added p f fs)
    ∙ behind_newer (file_at p fs) (action_on p (Add f)) (newest (action_on p) more)
file_after p (Remove f ∷ more) fs =
    file_after p more (without_path fs f.path)
    ∙ ap (λ (o : Option File). behind o (newest (action_on p) more)) (removed p f.path (Remove f) fs refl)
    ∙ behind_newer (file_at p fs) (action_on p (Remove f)) (newest (action_on p) more)
file_after p (Txn x ∷ more) fs = file_after p more fs ∙ behind_newer (file_at p fs) None (newest (action_on p) more)
file_after p (Info x ∷ more) fs = file_after p more fs ∙ behind_newer (file_at p fs) None (newest (action_on p) more)
file_after p (Checkpoint x ∷ more) fs = file_after p more fs ∙ behind_newer (file_at p fs) None (newest (action_on p) more)
file_after p (Sidecar x ∷ more) fs = file_after p more fs ∙ behind_newer (file_at p fs) None (newest (action_on p) more)
file_after p (Ignored ∷ more) fs = file_after p more fs ∙ behind_newer (file_at p fs) None (newest (action_on p) more)

-- its metadata
pub meta_said : (all : List Action) → (commit_of all).meta ≡ newest metadata_in all
unfolding newest
meta_said [] = refl
meta_said (Protocol x ∷ more) = meta_said more ∙ sym (newer_none (newest metadata_in more))
meta_said (Meta x ∷ more) = ap (newer (Some x)) (meta_said more)
meta_said (Add x ∷ more) = meta_said more ∙ sym (newer_none (newest metadata_in more))
meta_said (Remove x ∷ more) = meta_said more ∙ sym (newer_none (newest metadata_in more))
meta_said (Txn x ∷ more) = meta_said more ∙ sym (newer_none (newest metadata_in more))
meta_said (Info x ∷ more) = meta_said more ∙ sym (newer_none (newest metadata_in more))
meta_said (Checkpoint x ∷ more) = meta_said more ∙ sym (newer_none (newest metadata_in more))
meta_said (Sidecar x ∷ more) = meta_said more ∙ sym (newer_none (newest metadata_in more))
meta_said (Ignored ∷ more) = meta_said more ∙ sym (newer_none (newest metadata_in more))

-- an application's number
abbrev pub number_of : Option TxnAction → Option ℕ
number_of o = option_map (λ x. x.version) o

pub number_newer : (a b : Option TxnAction) → number_of (newer a b) ≡ newer (number_of a) (number_of b)
number_newer a None = refl
number_newer a (Some x) = refl

pub number_said : (app : List ℕ) (all : List Action) → number_in app (commit_of all).txns ≡ number_of (newest (txn_on app) all)
unfolding newest
number_said app [] = refl
number_said app (Protocol x ∷ more) = number_said app more ∙ ap number_of (sym (newer_none (newest (txn_on app) more)))
number_said app (Meta x ∷ more) = number_said app more ∙ ap number_of (sym (newer_none (newest (txn_on app) more)))
number_said app (Add x ∷ more) = number_said app more ∙ ap number_of (sym (newer_none (newest (txn_on app) more)))
number_said app (Remove x ∷ more) = number_said app more ∙ ap number_of (sym (newer_none (newest (txn_on app) more)))
number_said app (Txn x ∷ more) = by (bytes_eq x.app_id app) (number_said app more)
  where
    by : (b : Bool) → number_in app (commit_of more).txns ≡ number_of (newest (txn_on app) more)
        → newer (if b then Some x.version else None) (number_in app (commit_of more).txns) ≡ number_of (newer (if b then Some x else None) (newest (txn_on app) more))
    by true rest = ap (newer (Some x.version)) rest ∙ sym (number_newer (Some x) (newest (txn_on app) more))
    by false rest = ap (newer None) rest ∙ sym (number_newer None (newest (txn_on app) more))
number_said app (Info x ∷ more) = number_said app more ∙ ap number_of (sym (newer_none (newest (txn_on app) more)))
number_said app (Checkpoint x ∷ more) = number_said app more ∙ ap number_of (sym (newer_none (newest (txn_on app) more)))
number_said app (Sidecar x ∷ more) = number_said app more ∙ ap number_of (sym (newer_none (newest (txn_on app) more)))
number_said app (Ignored ∷ more) = number_said app more ∙ ap number_of (sym (newer_none (newest (txn_on app) more)))

-- what it says about itself, and when it was made
info_said : (all : List Action) → (commit_of all).info ≡ first_info all
unfolding first_info
info_said [] = refl
info_said (Protocol x ∷ more) = info_said more
info_said (Meta x ∷ more) = info_said more
info_said (Add x ∷ more) = info_said more
info_said (Remove x ∷ more) = info_said more
info_said (Txn x ∷ more) = info_said more
info_said (Info x ∷ more) = refl
info_said (Checkpoint x ∷ more) = info_said more
info_said (Sidecar x ∷ more) = info_said more
info_said (Ignored ∷ more) = info_said more

pub time_said : (all : List Action) → stamp_said (commit_of all) ≡ stamp_in all
unfolding stamp_in
time_said all = ap (λ (o : Option CommitInfo). option_and_then if_stamp (option_and_then (λ i. i.timestamp) o)) (info_said all)
