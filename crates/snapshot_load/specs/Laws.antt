-- What was loaded is what the commits make.
use Rattle.std.specs.Prelude.{◌≡◌, ◌⊎◌, ℕ, suc, List, [], ◌∷◌, ◌++◌, length, Option, IfSome, Ok}
use Rattle.edge_api.specs.declared.call.Answer.TheVariants.{Body}
use Rattle.edge_api.specs.declared.call.Call.TheVariants.{Get}
use Rattle.edge_api.specs.declared.call.Listed.{Listed}
use Rattle.log_actions.specs.Commit.{actions_of}
use Rattle.log_actions.specs.declared.action.Action.{Action}
use Rattle.log_state.specs.Table.{Table, IsTableOf}
use Rattle.table_rules.specs.Names.{commit_text}
use Rattle.call_phases.specs.Phases.{Entries}
use Rattle.call_phases.specs.Ending.{Ended}
use Rattle.snapshot_load.specs.declared.loaded.Asked.TheVariants.{Newest}
use Rattle.snapshot_load.specs.declared.loaded.Loaded.{Loaded}
use Rattle.snapshot_load.specs.Listing.{newest}
use Rattle.snapshot_load.specs.Loads.{LoadsAll}

-- the entries are gets of these commits from a version on, the body got of each reads as its actions, and others follow
abbrev pub AreGot : ℕ → List (List Action) → Entries → Entries → Type 0
AreGot at [] rest es = es ≡ rest
AreGot at (c ∷ cs) rest [] = ⊥
AreGot at (c ∷ cs) rest (e ∷ es) = (e.call ≡ Get (commit_text at)) × (body : List ℕ) × (e.answer ≡ Body body) × (actions_of body ≡ Ok c) × AreGot (suc at) cs rest es

-- a table of the newest version is made by commits that were there before, or by none, and by those that were got behind them
pub record IsReplay (before : List (List Action)) (l : List Listed) (es rest : Entries) (t : Table) : Type 0 where
  pub first : List (List Action)
  pub from : (first ≡ []) ⊎ (first ≡ before)
  pub commits : List (List Action)
  pub got : AreGot (length first) commits rest es
  pub table : IsTableOf (first ++ commits) t
  pub version : t.version ≡ newest l

-- what was loaded, where the kept table is that of these commits
abbrev pub LoadsAreReplays : Type 0
LoadsAreReplays = (l : List Listed) (kept : Option Table) (before : List (List Action)) (es rest : Entries) (loaded : Loaded)
    → IfSome kept (IsTableOf before) → LoadsAll Newest l kept es (Ended loaded rest) → IsReplay before l es rest loaded.state
