-- Actions that the text that is written for them gives back.
use Rattle.std.specs.Prelude.{◌≡◌, ◌≤◌, ℕ, ◌^◌, ◌-◌, false, List, [], ◌∷◌, ◌++◌, map, Option, Some, None, IfSome}
use Rattle.std.specs.Ordering.{nat_cmp}
use Rattle.std.specs.Cmp.Lexicographic.{slice_cmp}
use Rattle.std.specs.List.Sorted.{IsStrictlySortedBy}
use Rattle.json_lines.specs.declared.map.Entry.{Entry}
use Rattle.log_actions.specs.declared.action.Action.{Action}
use Rattle.log_actions.specs.declared.action.Action.TheVariants.{Protocol, Meta, Add, Remove, Txn, Info, Checkpoint, Sidecar, Ignored}
use Rattle.log_actions.specs.Paths.{name_of_path, is_absolute}
use Rattle.log_actions.specs.Twice.{is_twice}
use Rattle.log_actions.specs.Written.{action_data}
use Rattle.serde_json.specs.Data.{Data}
use Rattle.serde_json.specs.Written.{compact_text}
use Rattle.json_lines.specs.Lines.{value_of_line}

-- a version has 64 bits
abbrev pub IsVersion : ℕ → Type 0
IsVersion n = n ≤ 2 ^ 64 - 1

-- a size or a time has 63 bits
abbrev pub IsAmount : ℕ → Type 0
IsAmount n = n ≤ 2 ^ 63 - 1

-- the time of a commit
abbrev pub IsStamp : ℕ → Type 0
IsStamp n = n ≤ 2 ^ 62

-- names in byte order, each once
abbrev pub IsMap : {A : Type 0} → List (Entry A) → Type 0
IsMap es = IsStrictlySortedBy (slice_cmp nat_cmp) (map (λ e. e.name) es)

-- a path below the table's folder, and its name
pub record IsPath (path name : List ℕ) : Type 0 where
  pub named : name_of_path path ≡ Some name
  pub inside : is_absolute path ≡ false

-- the action has its ranges and orders, and nothing that isn't written
abbrev pub IsWhole : Action → Type 0
IsWhole (Protocol p) = IsVersion p.min_reader_version × IsVersion p.min_writer_version
IsWhole (Meta m) = IfSome m.format.options IsMap × IfSome m.created_time IsAmount × IfSome m.configuration IsMap
IsWhole (Add f) = IsPath f.path f.name × IsMap f.partition_values × IsAmount f.size × IsAmount f.modification_time × IfSome f.tags IsMap
IsWhole (Remove f) = IsPath f.path f.name × IsAmount f.deletion_timestamp × IfSome f.partition_values IsMap × IfSome f.size IsAmount × IfSome f.tags IsMap
IsWhole (Txn t) = IsVersion t.version × (t.last_updated ≡ None)
IsWhole (Info i) = IfSome i.timestamp IsStamp × IfSome i.read_version IsVersion
IsWhole (Checkpoint c) = IsVersion c.version × IfSome c.tags IsMap
IsWhole (Sidecar s) = ((name : List ℕ) × IsPath s.path name) × IsAmount s.size_in_bytes × IfSome s.modification_time IsAmount
IsWhole Ignored = ⊥

-- actions behind earlier ones, each whole and none twice
abbrev pub AreWhole : List Action → List Action → Type 0
AreWhole earlier [] = Unit {0}
AreWhole earlier (a ∷ more) = IsWhole a × (is_twice earlier a ≡ false) × AreWhole (earlier ++ a ∷ []) more

-- the line of a value reads as the value
abbrev pub Returns : Data → Type 0
Returns d = value_of_line (compact_text d) ≡ Some d

-- where there is a value
abbrev pub IfReturned : Option Data → Type 0
IfReturned None = Unit {0}
IfReturned (Some d) = Returns d

-- what was written for an action reads as its value, if it is whole
abbrev pub ReturnsIfWhole : Action → Type 0
ReturnsIfWhole a = IsWhole a → IfReturned (action_data a)

-- the same of each action
abbrev pub AllReturn : List Action → Type 0
AllReturn [] = Unit {0}
AllReturn (a ∷ more) = ReturnsIfWhole a × AllReturn more

-- nothing of the action is left out where it is written
abbrev pub IsWritten : Action → Type 0
IsWritten (Protocol p) = Unit {0}
IsWritten (Meta m) = Unit {0}
IsWritten (Add f) = Unit {0}
IsWritten (Remove f) = Unit {0}
IsWritten (Txn t) = t.last_updated ≡ None
IsWritten (Info i) = Unit {0}
IsWritten (Checkpoint c) = Unit {0}
IsWritten (Sidecar s) = Unit {0}
IsWritten Ignored = ⊥

-- the same of each action
abbrev pub AreWritten : List Action → Type 0
AreWritten [] = Unit {0}
AreWritten (a ∷ more) = IsWritten a × AreWritten more
