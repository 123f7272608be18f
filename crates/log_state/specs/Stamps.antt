-- The stamp of each version, by what its commit says of itself and the stamp before.
use Rattle.std.specs.Prelude.{ℕ, suc, ◌^◌, List, [], ◌∷◌, Option, Some, None, option_and_then, if◌then◌else◌, nat_le}
use Rattle.std.specs.Option.{option_or}
use Rattle.log_actions.specs.declared.action.CommitInfo.{CommitInfo}
use Rattle.log_actions.specs.declared.action.Action.{Action}
use Rattle.log_actions.specs.declared.action.Action.TheVariants.{Protocol, Meta, Add, Remove, Txn, Info, Checkpoint, Sidecar, Ignored}

-- what an action says about its commit
abbrev pub info_in : Action → Option CommitInfo
info_in (Protocol p) = None
info_in (Meta m) = None
info_in (Add f) = None
info_in (Remove f) = None
info_in (Txn t) = None
info_in (Info i) = Some i
info_in (Checkpoint c) = None
info_in (Sidecar s) = None
info_in Ignored = None

-- what a commit says about itself: of several such lines the first counts (PROTOCOL.md, "Commit Provenance Information")
unfoldable pub first_info : List Action → Option CommitInfo
first_info [] = None
first_info (a ∷ more) = option_or (info_in a) (first_info more)

-- a time that counts, which is at most 2^62
abbrev pub if_stamp : ℕ → Option ℕ
if_stamp time = if nat_le time (2 ^ 62) then Some time else None

-- the time that a commit says of itself
unfoldable pub stamp_in : List Action → Option ℕ
stamp_in actions = option_and_then if_stamp (option_and_then (λ i. i.timestamp) (first_info actions))

-- the stamp of a commit: the time that it says of itself, else one more than that of the version before, from 0 on
abbrev pub stamp_after : Option ℕ → Option ℕ → ℕ
stamp_after last (Some said) = said
stamp_after None None = 0
stamp_after (Some last) None = suc last

-- the stamp of the newest of these commits, behind the stamp before them
abbrev pub stamp_from : Option ℕ → List (List Action) → Option ℕ
stamp_from last [] = last
stamp_from last (commit ∷ more) = stamp_from (Some (stamp_after last (stamp_in commit))) more

-- the stamps of all these commits
abbrev pub stamps_from : Option ℕ → List (List Action) → List ℕ
stamps_from last [] = []
stamps_from last (commit ∷ more) = stamp_after last (stamp_in commit) ∷ stamps_from (Some (stamp_after last (stamp_in commit))) more
