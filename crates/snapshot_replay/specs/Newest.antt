-- Which files are live, by the newest action that names a path (PROTOCOL.md, "Action Reconciliation").
use Rattle.std.specs.Prelude.{◌≡◌, ℕ, if◌then◌else◌, List, [], ◌∷◌, Option, Some, None}
use Rattle.std.specs.Str.{bytes_eq}
use Rattle.std.specs.Ordering.{nat_cmp}
use Rattle.std.specs.Cmp.Lexicographic.{slice_cmp}
use Rattle.std.specs.List.Sorted.{IsStrictlySortedBy}
use Rattle.snapshot_replay.specs.Table.{Add, Action, Removes, Adds, reconciled, paths_of}

-- the file of a path
abbrev pub file_at : List ℕ → List Add → Option Add
file_at path [] = None
file_at path (a ∷ fs) = if bytes_eq a.path path then Some a else file_at path fs

-- what a line says of a path: nothing, or that it is no file, or which file it is
abbrev pub said_of : List ℕ → Action → Option (Option Add)
said_of path (Removes p) = if bytes_eq p path then Some None else None
said_of path (Adds a) = if bytes_eq a.path path then Some (Some a) else None

abbrev pub later_said : {A : Type 0} → Option A → Option A → Option A
later_said old None = old
later_said old (Some new) = Some new

-- what the newest line that names the path says of it
abbrev pub newest_on : List ℕ → List Action → Option (Option Add)
newest_on path [] = None
newest_on path (l ∷ ls) = later_said (said_of path l) (newest_on path ls)

abbrev pub if_said : Option (Option Add) → Option Add
if_said None = None
if_said (Some said) = said

-- a path is live exactly where the newest line that names it adds it, as the file of that line; and each live path stands once, in byte order
pub record LiveByNewest (lines : List Action) : Type 0 where
  pub live : (path : List ℕ) → file_at path (reconciled [] lines) ≡ if_said (newest_on path lines)
  pub order : IsStrictlySortedBy (slice_cmp nat_cmp) (paths_of (reconciled [] lines))

abbrev pub NewestDecides : Type 0
NewestDecides = (lines : List Action) → LiveByNewest lines
