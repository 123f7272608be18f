-- The text of a commit.
use Rattle.std.specs.Prelude.{◌≡◌, ◌≤◌, ◌<◌, ℕ, List, [], length}
use Rattle.log_actions.specs.declared.action.Action.{Action}
use Rattle.log_actions.specs.Commit.{max_bytes}
use Rattle.log_actions.specs.Grammar.{Commit}
use Rattle.log_actions.specs.Whole.{AreWhole}
use Rattle.log_actions.specs.Written.{text_of}
use Rattle.commit_plans.specs.declared.text.TextFault.{TextFault}
use Rattle.commit_plans.specs.declared.text.TextFault.TheVariants as fault

-- a text that is written for actions. That it says these is known of actions that are whole
pub record Writes (text : List ℕ) (all : List Action) : Type 0 where
  pub is : text ≡ text_of all
  pub short : length text ≤ max_bytes
  pub back : AreWhole [] all → Commit text all

-- a text of so many bytes that it isn't written
pub record IsTooLong (bytes : ℕ) (all : List Action) : Type 0 where
  pub count : bytes ≡ length (text_of all)
  pub long : max_bytes < bytes

-- there is no text for this reason
abbrev pub HasNoText : TextFault → List Action → Type 0
HasNoText (fault.TooLarge bytes) all = IsTooLong bytes all
HasNoText fault.NoMemory all = Unit {0}
