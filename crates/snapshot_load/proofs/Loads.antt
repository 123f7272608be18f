-- A load, by how it began and by what its gets come to.
use Rattle.std.proofs.Common.{◌≡◌, inl, inr, List, refl, ap, ◌∙◌}
use Rattle.std.specs.Prelude.{Option, Result, Ok, Err}
use Rattle.edge_api.specs.declared.call.Listed.{Listed}
use Rattle.log_actions.specs.Commit.{actions_of}
use Rattle.log_actions.specs.declared.action.Action.{Action}
use Rattle.log_actions.specs.declared.fault.LogFault.{LogFault}
use Rattle.log_state.specs.Table.{Table}
use Rattle.call_phases.specs.Phases.{Entries}
use Rattle.call_phases.specs.Ending.{Ending, Open, Failed, Ended}
use Rattle.call_phases.specs.Endings.{IsOpenEnd, HasFailed, HasEnded, map_ending}
use Rattle.call_phases.specs.Gets.{GetsAll}
use Rattle.call_phases.specs.Views.{result_by}
use Rattle.call_phases.specs.declared.gets.GetFault.{GetFault}
use Rattle.call_phases.specs.declared.gets.GetFault.TheVariants as get
use Rattle.call_phases.proofs.FollowLists.{map_gets}
use Rattle.call_phases.proofs.Views.{gets_view}
use Rattle.snapshot_load.specs.declared.commits.Commits.{Commits}
use Rattle.snapshot_load.specs.declared.fault.LoadFailed.{LoadFailed}
use Rattle.snapshot_load.specs.declared.fault.LoadFault.TheVariants.{NoMemory}
use Rattle.snapshot_load.specs.declared.loaded.Loaded.{Loaded}
use Rattle.snapshot_load.specs.Commits as law
use Rattle.snapshot_load.specs.Loads.{failed_by, loaded_by}
use Rattle.snapshot_load.specs.Machine.{failed_after, loaded_after, LoadsBase}
use Rattle.snapshot_load.specs.Readers.{commits_of, with_commits, wanted_commit, commits_after}

-- what the reader stands for goes on as it does
told : (c : Commits) (r : Result (List Action) LogFault) → result_by commits_of (result_by (with_commits c) (law.behind (commits_of c) r)) ≡ law.behind (commits_of c) r
told c (Ok actions) = refl
told c (Err f) = refl

module _ (l : List Listed) (spare : Option Table) (o : Ending LoadFailed Loaded) (inner : Ending (GetFault LogFault) Commits) (is : o ≡ map_ending (failed_after spare) (loaded_after spare l) inner) where
  made : (new : Ending (GetFault LogFault) Commits) → inner ≡ new → o ≡ map_ending (failed_after spare) (loaded_after spare l) new
  made new same = is ∙ ap (map_ending (failed_after spare) (loaded_after spare l)) same

  opens : IsOpenEnd get.NoMemory inner → IsOpenEnd (failed_by NoMemory spare) o
  opens (inl e) = inl (made Open e)
  opens (inr e) = inr (made (Failed get.NoMemory) e)

  abbrev GetsFail : GetFault LogFault → Entries → Type 0
  GetsFail f rest = HasFailed o (failed_after spare f) rest

  abbrev Next : law.Commits → Entries → Type 0
  Next k rest = HasEnded o (loaded_by l k.table spare) rest

  -- the gets of a base, by how the load ends
  pub begun : (c : Commits) (es : Entries) → GetsAll wanted_commit commits_after c es inner → LoadsBase l (record { commits = commits_of c; spare = spare }) es o
  begun c es h =
      gets_view commits_of wanted_commit commits_after law.next_commit law.apply_next (λ c. refl) (λ c body. told c (actions_of body)) (IsOpenEnd (failed_by NoMemory spare) o) GetsFail Next c es
      (map_gets wanted_commit commits_after opens (HasFailed inner) GetsFail (HasEnded inner) (λ k rest. Next (commits_of k) rest) (λ f rest e. (e.0, made (Failed f) e.1)) (λ k rest e. made (Ended k rest) e) c es h)
