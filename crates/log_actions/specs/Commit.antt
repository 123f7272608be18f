-- The text of a commit: a line for each action. Blank lines are passed over, and counted.
use Rattle.std.specs.Prelude.{◌≡◌, ℕ, ◌+◌, nat_lt, List, [], ◌∷◌, ◌++◌, length, if◌then◌else◌, Option, Some, None, Result, Ok, Err}
use Rattle.row_base.specs.declared.limits.TheConstants.{MAX_OBJECT_BYTES}
use Rattle.serde_json.specs.Data.{Data}
use Rattle.json_lines.specs.Lines.{lines, is_blank, object_of_line}
use Rattle.json_lines.specs.Single.{single_member}
use Rattle.log_actions.specs.Actions.{action_of, feature_in}
use Rattle.log_actions.specs.Twice.{is_twice}
use Rattle.log_actions.specs.declared.action.Action.{Action}
use Rattle.log_actions.specs.declared.fault.Feature.{Feature}
use Rattle.log_actions.specs.declared.fault.LogFault.{LogFault}
use Rattle.log_actions.specs.declared.fault.LogFaultKind.{LogFaultKind}
use Rattle.log_actions.specs.declared.fault.LogFaultKind.TheVariants as kinds

-- the fault, where there is nothing to go on with
abbrev pub or_fault : {A B : Type 0} → LogFaultKind → Option A → (A → Result B LogFaultKind) → Result B LogFaultKind
or_fault kind None f = Err kind
or_fault kind (Some x) f = f x

-- the action, unless it asks for what is not supported
abbrev pub unless_unsupported : Option Feature → Action → Result Action LogFaultKind
unless_unsupported None a = Ok a
unless_unsupported (Some f) a = Err (kinds.Unsupported f)

-- an action that a member says, behind earlier ones
abbrev pub admitted : List Action → Data → Action → Result Action LogFaultKind
admitted earlier d a = if is_twice earlier a then Err kinds.Twice else unless_unsupported (feature_in d a) a

-- what a member says behind earlier actions
abbrev pub judged_member : List Action → List ℕ → Data → Result Action LogFaultKind
judged_member earlier name d =
    or_fault kinds.Shape (action_of name d) (admitted earlier d)

-- what a line's object says behind earlier actions
abbrev pub judged_object : List Action → Data → Result Action LogFaultKind
judged_object earlier d = or_fault kinds.Shape (single_member d) (λ m. judged_member earlier m.0 m.1)

-- what a line that isn't blank says behind earlier actions, or how it is wrong
unfoldable pub judged : List Action → List ℕ → Result Action LogFaultKind
judged earlier line = or_fault kinds.Json (object_of_line line) (judged_object earlier)

-- what comes next behind the action of a line with this number
abbrev pub onward : ℕ → Result Action LogFaultKind → (Action → Result (List Action) LogFault) → Result (List Action) LogFault
onward number (Ok a) f = f a
onward number (Err kind) f = Err (record { line = number; kind = kind })

-- the actions that are there, and those of lines from this number on, up to the first wrong line
unfoldable pub actions_from : ℕ → List Action → List (List ℕ) → Result (List Action) LogFault
actions_from number done [] = Ok done
actions_from number done (l ∷ ls) =
    if is_blank l then actions_from (number + 1) done ls else onward number (judged done l) (λ a. actions_from (number + 1) (done ++ a ∷ []) ls)

-- the most bytes that a commit's text may have
abbrev pub max_bytes : ℕ
max_bytes = MAX_OBJECT_BYTES

-- the actions that a text says, or its first wrong line
unfoldable pub actions_of : List ℕ → Result (List Action) LogFault
actions_of bytes = if nat_lt max_bytes (length bytes) then Err (record { line = 1; kind = kinds.Shape }) else actions_from 1 [] (lines bytes)

-- a fault is the one that there is, unless memory ran out
abbrev pub IsKind : LogFaultKind → Type 0 → Type 0
IsKind kinds.Json P = P
IsKind kinds.Shape P = P
IsKind kinds.Twice P = P
IsKind (kinds.Unsupported f) P = P
IsKind kinds.NoMemory P = Unit {0}

-- the same of a line's fault
abbrev pub KindOf : LogFaultKind → Result Action LogFaultKind → Type 0
KindOf kind r = IsKind kind (r ≡ Err kind)

-- the same of a text's fault
abbrev pub FaultOf : LogFault → Result (List Action) LogFault → Type 0
FaultOf fault r = IsKind fault.kind (r ≡ Err fault)
