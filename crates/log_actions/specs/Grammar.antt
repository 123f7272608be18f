-- Which actions the text of a commit says, line by line, and which line of a text that says none is the first wrong one.
use Rattle.std.specs.Prelude.{◌≡◌, ◌≤◌, ◌<◌, ℕ, ◌+◌, true, false, List, [], ◌∷◌, ◌++◌, length, Ok, Err, ◌⊎◌}
use Rattle.json_lines.specs.Lines.{lines, is_blank}
use Rattle.log_actions.specs.declared.action.Action.{Action}
use Rattle.log_actions.specs.declared.fault.LogFault.{LogFault}
use Rattle.log_actions.specs.declared.fault.LogFaultKind.TheVariants as kinds
use Rattle.log_actions.specs.Commit.{judged, max_bytes}

-- behind earlier actions the lines say these: each line that isn't blank says one
pub data Says : List Action → List (List ℕ) → List Action → Type 0 where
  nothing : (earlier : List Action) → Says earlier [] []
  blank : (earlier : List Action) (l : List ℕ) (ls : List (List ℕ)) (actions : List Action) → is_blank l ≡ true → Says earlier ls actions → Says earlier (l ∷ ls) actions
  line : (earlier : List Action) (l : List ℕ) (ls : List (List ℕ)) (a : Action) (actions : List Action) → is_blank l ≡ false → judged earlier l ≡ Ok a
      → Says (earlier ++ a ∷ []) ls actions → Says earlier (l ∷ ls) (a ∷ actions)

-- the text of a commit says these actions
pub record Commit (bytes : List ℕ) (actions : List Action) : Type 0 where
  pub short : length bytes ≤ max_bytes
  pub says : Says [] (lines bytes) actions

-- of lines from this number on, behind earlier actions: those before the wrong one say some actions, and it is wrong behind these
pub record WrongLine (number : ℕ) (earlier : List Action) (ls : List (List ℕ)) (fault : LogFault) : Type 0 where
  pub before : List (List ℕ)
  pub wrong : List ℕ
  pub after : List (List ℕ)
  pub actions : List Action
  pub parts : ls ≡ before ++ wrong ∷ after
  pub place : fault.line ≡ number + length before
  pub says : Says earlier before actions
  pub not_blank : is_blank wrong ≡ false
  pub kind : judged (earlier ++ actions) wrong ≡ Err fault.kind

-- the text is too long
pub record TooLong (bytes : List ℕ) (fault : LogFault) : Type 0 where
  pub long : max_bytes < length bytes
  pub place : fault.line ≡ 1
  pub kind : fault.kind ≡ kinds.Shape

-- the fault of a text
abbrev pub FirstWrong : List ℕ → LogFault → Type 0
FirstWrong bytes fault = TooLong bytes fault ⊎ (length bytes ≤ max_bytes) × WrongLine 1 [] (lines bytes) fault
