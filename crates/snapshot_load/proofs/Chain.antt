-- A load in a chain of phases, told by what may follow it.
use Rattle.std.proofs.Common.{inl, inr, ℕ, List, [], sym, subst}
use Rattle.std.specs.Prelude.{Option, Result, Ok, Err, MatchResult}
use Rattle.edge_api.specs.declared.call.Listed.{Listed}
use Rattle.log_state.specs.Table.{Table}
use Rattle.call_phases.specs.Phases.{Entries}
use Rattle.call_phases.specs.Ending.{ThenBy}
use Rattle.call_phases.specs.Endings.{IsOpenEnd, HasFailed, HasEnded, Then}
use Rattle.call_phases.proofs.FollowLists.{map_gets, map_option, map_either}
use Rattle.snapshot_load.specs.declared.fault.LoadFailed.{LoadFailed}
use Rattle.snapshot_load.specs.declared.fault.LoadFault.{LoadFault}
use Rattle.snapshot_load.specs.declared.fault.LoadFault.TheVariants.{NoMemory}
use Rattle.snapshot_load.specs.declared.loaded.Asked.{Asked}
use Rattle.snapshot_load.specs.declared.loaded.Loaded.{Loaded}
use Rattle.snapshot_load.specs.Commits.{Base, base_of, next_commit, apply_next}
use Rattle.snapshot_load.specs.Faults.{fault_of_gets}
use Rattle.snapshot_load.specs.Loads.{version_asked, fault_of_listing, failed_by, loaded_by, AtLoad, LoadsFrom, Loads, LoadsAll}

map_result : {X E : Type 0} (r : Result X E) (P P' : X → Type 0) (Q Q' : E → Type 0) → ((x : X) → P x → P' x) → ((e : E) → Q e → Q' e) → MatchResult r P Q → MatchResult r P' Q'
map_result (Ok x) P P' Q Q' p q h = p x h
map_result (Err e) P P' Q Q' p q h = q e h

-- what follows a load may be weakened
module _ (O P : Option Table → Type 0) (F G : LoadFault → Option Table → Entries → Type 0) (N M : Table → Option Table → Entries → Type 0) (o : (k : Option Table) → O k → P k)
    (f : (x : LoadFault) (k : Option Table) (es : Entries) → F x k es → G x k es) (n : (t : Table) (k : Option Table) (es : Entries) → N t k es → M t k es) where
  at_load : (base : Base) (es : Entries) → AtLoad O F N base es → AtLoad P G M base es
  at_load base es h = map_gets next_commit apply_next (o base.spare) _ _ _ _ (λ x rest. f (fault_of_gets x) base.spare rest) (λ c rest. n c.table base.spare rest) base.commits es h

  loads_from : (l : List Listed) (kept : Option Table) (version : ℕ) (base : Base) (es : Entries) → LoadsFrom O F N l kept version base es → LoadsFrom P G M l kept version base es
  loads_from l kept version base es h = map_either (f NoMemory kept es) (map_option (fault_of_listing l version base.commits) _ _ _ _ (at_load base es) (λ x. f x kept es)) h

  pub map_loads : (asked : Asked) (l : List Listed) (kept : Option Table) (es : Entries) → Loads O F N asked l kept es → Loads P G M asked l kept es
  map_loads asked l kept es h = map_result (version_asked asked l) _ _ _ _ (λ v. loads_from l kept v (base_of kept v) es) (λ x. f x kept es) h

-- a load, and what comes at its end
pub then_loads : (A : Type 0) (B : LoadFailed → Type 0) (O : Option Table → Type 0) (fails : LoadFault → Option Table → Entries → Type 0) (next : Table → Option Table → Entries → Type 0) (N : Loaded → Entries → Type 0)
    (asked : Asked) (l : List Listed) (kept : Option Table) (es : Entries) (a : (k : Option Table) → A → O k) (b : (f : LoadFault) (k : Option Table) → B (failed_by f k) → fails f k [])
    (m : (k : Option Table) → B (failed_by NoMemory k) → O k) (n : (t : Table) (k : Option Table) (rest : Entries) → N (loaded_by l t k) rest → next t k rest) → Then (LoadsAll asked l kept) A B N es → Loads O fails next asked l kept es
then_loads A B O fails next N asked l kept es a b m n h =
    map_loads (λ k. IsOpenEnd (failed_by NoMemory k) h.0) O (λ f k rest. HasFailed h.0 (failed_by f k) rest) fails (λ t k rest. HasEnded h.0 (loaded_by l t k) rest) next
    opens (λ f k rest e. subst (fails f k) (sym e.0) (b f k (subst (ThenBy A B N) e.1 h.2))) (λ t k rest e. n t k rest (subst (ThenBy A B N) e h.2)) asked l kept es h.1
  where
    opens : (k : Option Table) → IsOpenEnd (failed_by NoMemory k) h.0 → O k
    opens k (inl e) = a k (subst (ThenBy A B N) e h.2)
    opens k (inr e) = m k (subst (ThenBy A B N) e h.2)
