-- The table that a state holds.
use Rattle.std.specs.Prelude.{List, [], ◌∷◌, ℕ}
use Rattle.snapshot_replay.specs.Table.{Add}

-- files of which no statistics are known
abbrev pub files_of : List (List ℕ) → List Add
files_of [] = []
files_of (path ∷ paths) = record { path = path; stats = [] } ∷ files_of paths
