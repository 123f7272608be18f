-- What the member of a line says behind earlier actions.
use Rattle.std.proofs.Common.{◌≡◌, Bool, true, false, not, List, Some, None, Ok, Err, refl, sym, ap, ◌∙◌}
use Rattle.serde_json.specs.Data.{Data}
use Rattle.log_actions.specs.declared.action.Action.{Action}
use Rattle.log_actions.specs.declared.fault.Feature.{Feature}
use Rattle.log_actions.specs.declared.fault.LogFaultKind.TheVariants as kinds
use Rattle.log_actions.specs.declared.named.Named.{Named}
use Rattle.log_actions.specs.Actions.{feature_in}
use Rattle.log_actions.specs.Twice.{is_twice}
use Rattle.log_actions.specs.Named.{Holds, is_named}
use Rattle.log_actions.specs.Commit.{admitted}
use Rattle.log_actions.proofs.Names.{named_twice}

not_back : (r x : Bool) → r ≡ not x → x ≡ not r
not_back r true e = ap not (sym e)
not_back r false e = ap not (sym e)

-- an action is twice where it wasn't new
pub twice_is : (named : Named) (earlier : List Action) (a : Action) (new : Bool) → Holds named earlier → new ≡ not (is_named named a) → is_twice earlier a ≡ not new
twice_is named earlier a new h e = sym (named_twice named earlier a h) ∙ not_back new (is_named named a) e

pub admitted_twice : (earlier : List Action) (d : Data) (a : Action) → is_twice earlier a ≡ true → admitted earlier d a ≡ Err kinds.Twice
admitted_twice earlier d a twice = rw twice refl

pub admitted_fine : (earlier : List Action) (d : Data) (a : Action) → is_twice earlier a ≡ false → feature_in d a ≡ None → admitted earlier d a ≡ Ok a
admitted_fine earlier d a new fine = rw (new, fine) refl

pub admitted_unsupported : (earlier : List Action) (d : Data) (a : Action) (f : Feature) → is_twice earlier a ≡ false → feature_in d a ≡ Some f → admitted earlier d a ≡ Err (kinds.Unsupported f)
admitted_unsupported earlier d a f new asks = rw (new, asks) refl
