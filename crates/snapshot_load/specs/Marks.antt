-- The versions whose commits are listed, marked one by one.
use Rattle.std.specs.Prelude.{◌≡◌, ◌<◌, ℕ, ◌+◌, Bool, true, false, if◌then◌else◌, List, length, Option, slice_index_or}
use Rattle.edge_api.specs.declared.call.Listed.{Listed}
use Rattle.snapshot_load.specs.Listing.{is_version, is_listed}

-- the mark of a version, counted from the first on
abbrev pub mark_at : List Bool → ℕ → Bool
mark_at marks k = slice_index_or marks k false

-- one more version is marked, where it has a place
pub record Marks (first : ℕ) (version : Option ℕ) (old new : List Bool) : Type 0 where
  pub same : length new ≡ length old
  pub marked : (k : ℕ) → k < length old → mark_at new k ≡ (if is_version (first + k) version then true else mark_at old k)

-- a version is marked already, or it is among those that are still to be marked
abbrev pub marked_or_listed : ℕ → List Bool → List Listed → ℕ → Bool
marked_or_listed first marks l k = if mark_at marks k then true else is_listed (first + k) l
