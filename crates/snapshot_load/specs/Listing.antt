-- The commits and the checkpoints that a listing of the log names.
use Rattle.std.specs.Prelude.{ℕ, zero, suc, ◌+◌, max, ◌==◌, nat_le, Bool, true, false, if◌then◌else◌, List, [], ◌∷◌, Option, Some, None}
use Rattle.edge_api.specs.declared.call.Listed.{Listed}
use Rattle.table_rules.specs.Names.{log_name}
use Rattle.table_rules.specs.declared.log.LogName.{LogName}
use Rattle.table_rules.specs.declared.log.LogName.TheVariants as log

-- the version whose commit has the name
abbrev pub commit_of : LogName → Option ℕ
commit_of (log.Commit version) = Some version
commit_of (log.CheckpointJson version) = None
commit_of (log.CheckpointOther version) = None
commit_of log.Hint = None
commit_of log.OtherLog = None
commit_of log.Outside = None

-- the version of which a checkpoint, of whatever form, has the name
abbrev pub checkpoint_of : LogName → Option ℕ
checkpoint_of (log.Commit version) = None
checkpoint_of (log.CheckpointJson version) = Some version
checkpoint_of (log.CheckpointOther version) = Some version
checkpoint_of log.Hint = None
checkpoint_of log.OtherLog = None
checkpoint_of log.Outside = None

-- the version whose commit has the name, if it is a commit's
abbrev pub commit_version : List ℕ → Option ℕ
commit_version name = commit_of (log_name name)

-- the version whose checkpoint has the name, if it is a checkpoint's
abbrev pub checkpoint_version : List ℕ → Option ℕ
checkpoint_version name = checkpoint_of (log_name name)

-- the greater of two versions
abbrev pub later : Option ℕ → Option ℕ → Option ℕ
later None b = b
later (Some a) None = Some a
later (Some a) (Some b) = Some (max a b)

-- the greatest version whose commit is listed
abbrev pub newest : List Listed → Option ℕ
newest [] = None
newest (l ∷ ls) = later (commit_version l.name) (newest ls)

-- whether it is this version
abbrev pub is_version : ℕ → Option ℕ → Bool
is_version v None = false
is_version v (Some w) = v == w

-- whether a version's commit is listed
abbrev pub is_listed : ℕ → List Listed → Bool
is_listed v [] = false
is_listed v (l ∷ ls) = if is_version v (commit_version l.name) then true else is_listed v ls

-- the greatest version whose commit isn't listed, of so many versions from one on
abbrev pub missing : List Listed → ℕ → ℕ → Option ℕ
missing l from zero = None
missing l from (suc n) = if is_listed (from + n) l then missing l from n else Some (from + n)

-- whether it is this version or an earlier one
abbrev pub is_at_most : ℕ → Option ℕ → Bool
is_at_most v None = false
is_at_most v (Some w) = nat_le w v

-- whether a checkpoint is listed of this version or of an earlier one
abbrev pub has_checkpoint : ℕ → List Listed → Bool
has_checkpoint v [] = false
has_checkpoint v (l ∷ ls) = if is_at_most v (checkpoint_version l.name) then true else has_checkpoint v ls
