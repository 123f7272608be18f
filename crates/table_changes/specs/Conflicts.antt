-- When a commit that won stands against an operation.
use Rattle.std.specs.Prelude.{ℕ, Bool, true, false, not, ◌&&◌, ◌||◌, if◌then◌else◌, List, [], ◌∷◌, Option, Some, None, option_map}
use Rattle.table_changes.specs.Table.{File, FileLine, Removes, Adds, Level, Serializable, WriteSerializable, Commit, is_blind, has_path, number_in}

-- what a statement looks at in a winner's lines: one that makes a table at any winner; an insert of literal rows at the applications of
-- transactions; a change of the table's settings at no file; one that changes rows at new files that may match its scope and at removes of
-- files that it got or takes out; one that adds rows by those that it reads at new files that may match and at removes of files that it got;
-- and one that rewrites files at removes of those
pub data LooksAt : Type 0 where
  Makes : LooksAt
  Literal : LooksAt
  Settings : LooksAt
  Scans : LooksAt
  Selects : LooksAt
  Rewrites : LooksAt

abbrev pub is_making : LooksAt → Bool
is_making Makes = true
is_making k = false

abbrev pub is_literal : LooksAt → Bool
is_literal Literal = true
is_literal k = false

abbrev pub is_scan : LooksAt → Bool
is_scan Scans = true
is_scan Selects = true
is_scan k = false

-- whether it may take files out
abbrev pub may_remove : LooksAt → Bool
may_remove Makes = false
may_remove Literal = false
may_remove Settings = false
may_remove Scans = true
may_remove Selects = false
may_remove Rewrites = true

-- whether it may set the table's metadata. Of those that read rows a check of them does, which changes none
abbrev pub may_set : LooksAt → Bool
may_set Makes = true
may_set Literal = false
may_set Settings = true
may_set Scans = true
may_set Selects = false
may_set Rewrites = false

pub data Clash : Type 0 where
  Protocol : Clash
  Metadata : Clash
  Append : List ℕ → Clash
  DeleteRead : List ℕ → Clash
  DeleteDelete : List ℕ → Clash
  Transaction : List ℕ → Clash

-- what a winner is checked against
pub record Reads : Type 0 where
  pub level : Level
  pub kind : LooksAt
  pub may : File → Bool
  pub got : List (List ℕ)
  pub removed : List (List ℕ)
  pub app : Option (List ℕ)

-- the first file that changes rows and may match
abbrev pub first_match : (File → Bool) → List FileLine → Option (List ℕ)
first_match may [] = None
first_match may (Removes t changes ∷ ls) = first_match may ls
first_match may (Adds a changes ∷ ls) = if changes && may a then Some a.path else first_match may ls

-- the first path taken out that is one of these
abbrev pub first_removed : List (List ℕ) → List FileLine → Option (List ℕ)
first_removed ps [] = None
first_removed ps (Removes t changes ∷ ls) = if has_path ps t.path then Some t.path else first_removed ps ls
first_removed ps (Adds a changes ∷ ls) = first_removed ps ls

abbrev pub no_removes : List FileLine → Bool
no_removes [] = true
no_removes (Removes t changes ∷ ls) = false
no_removes (Adds a changes ∷ ls) = no_removes ls

abbrev pub is_blind_append : Commit → Bool
is_blind_append t = is_blind t && no_removes t.lines

-- whether a winner's new files count for an append clash
abbrev pub counts_at : Level → Commit → Bool
counts_at Serializable t = true
counts_at WriteSerializable t = not (is_blind_append t)

abbrev pub where_true : {A : Type 0} → Bool → Option A → Option A
where_true true o = o
where_true false o = None

abbrev pub clash_or : Option Clash → Option Clash → Option Clash
clash_or None rest = rest
clash_or (Some c) rest = Some c

-- whether it sets one
abbrev pub is_set : {A : Type 0} → Option A → Bool
is_set None = false
is_set (Some x) = true

-- the application's transaction, if it is named
abbrev pub same_app : Option (List ℕ) → List (List ℕ × ℕ) → Option Clash
same_app None txns = None
same_app (Some app) txns = option_map (λ n. Transaction app) (number_in app txns)

-- the first clash with a winner, in the order of the cases
abbrev pub first_clash : Reads → Commit → Option Clash
first_clash r t =
    clash_or (where_true (is_making r.kind || is_set t.protocol) (Some Protocol))
    (clash_or (where_true (is_set t.meta) (Some Metadata))
    (clash_or (where_true (is_scan r.kind && counts_at r.level t) (option_map Append (first_match r.may t.lines)))
    (clash_or (where_true (is_scan r.kind) (option_map DeleteRead (first_removed r.got t.lines)))
    (clash_or (where_true (may_remove r.kind) (option_map DeleteDelete (first_removed r.removed t.lines)))
    (where_true (is_literal r.kind) (same_app r.app t.txns))))))
