-- A phase in a chain, told by what may follow it.
use Rattle.std.proofs.Common.{◌≡◌, inl, inr, ℕ, List, [], ◌∷◌, refl, sym, subst}
use Rattle.std.specs.Prelude.{Option, Result, Ok}
use Rattle.edge_api.specs.declared.call.Call.TheVariants.{Now}
use Rattle.edge_api.specs.declared.call.Answer.TheVariants.{Fault}
use Rattle.edge_api.specs.declared.call.JournalEntry.{JournalEntry}
use Rattle.edge_api.specs.declared.call.Listed.{Listed}
use Rattle.call_phases.specs.Phases.{Entries, AtNow, AtList, AtPut, AtWait}
use Rattle.call_phases.specs.Ending.{Ending, Open, Failed, Ended, ThenBy}
use Rattle.call_phases.specs.declared.fault.CallFault.{CallFault}
use Rattle.call_phases.specs.declared.fault.CallFault.TheVariants as fault
use Rattle.call_phases.specs.declared.gets.GetFault.{GetFault}
use Rattle.call_phases.specs.declared.gets.GetFault.TheVariants as get
use Rattle.call_phases.specs.declared.puts.File.{File}
use Rattle.call_phases.specs.declared.puts.PutFault.{PutFault}
use Rattle.call_phases.specs.declared.puts.PutFault.TheVariants as put
use Rattle.call_phases.specs.Called.{called_now, called_list, called_replace, called_wait}
use Rattle.call_phases.specs.Endings.{IsOpenEnd, HasFailed, EndsAs, Then}
use Rattle.call_phases.specs.Machine.{IsStopped}
use Rattle.call_phases.specs.Requests.{ReadsClock, ListsNames, Replaces, WaitsFor}
use Rattle.call_phases.specs.Gets.{AtGets, GetsAll}
use Rattle.call_phases.specs.Puts.{AtPuts, PutsAll}
use Rattle.call_phases.specs.Delete.{AtDeletes, DeletesAll}
use Rattle.call_phases.proofs.Follow.{map_now, map_list, map_replace, map_wait}
use Rattle.call_phases.proofs.FollowLists.{map_gets, map_puts, map_deletes}

-- a phase after which nothing follows has no result
pub no_result : {F X : Type 0} {A : Type 0} (rest : Entries → Ending F X → Type 0) (x : X) → IsStopped rest → ((es : Entries) (o : Ending F X) → EndsAs (Ok x) es o → rest es o) → A
no_result rest x stopped ends =
    let e : JournalEntry = record { tag = record { actor = 0; statement = 0 }; call = Now; answer = Fault } in
    let none : (e ∷ []) ≡ [] = stopped (e ∷ []) (Ended x (e ∷ [])) (ends (e ∷ []) (Ended x (e ∷ [])) refl) in
    cc

-- by its ending
open_of : {F X : Type 0} {memory : F} {o : Ending F X} {O : Type 0} → (o ≡ Open → O) → (o ≡ Failed memory → O) → IsOpenEnd memory o → O
open_of at_open wanting (inl e) = at_open e
open_of at_open wanting (inr e) = wanting e

failed_of : {F X : Type 0} {o : Ending F X} (fails : F → Entries → Type 0) → ((f : F) → o ≡ Failed f → fails f []) → (f : F) (es : Entries) → HasFailed o f es → fails f es
failed_of fails at_failed f es h = subst (fails f) (sym h.0) (at_failed f h.1)

module _ {F X : Type 0} (A : Type 0) (B : F → Type 0) (next : X → Entries → Type 0) (o : Ending F X) (after : ThenBy A B next o) where
  at_open : {O : Type 0} → (A → O) → o ≡ Open → O
  at_open a e = a (subst (ThenBy A B next) e after)

  at_failed : {O : F → Type 0} → ((f : F) → B f → O f) → (f : F) → o ≡ Failed f → O f
  at_failed b f e = b f (subst (ThenBy A B next) e after)

  at_ended : (x : X) (rest : Entries) → o ≡ Ended x rest → next x rest
  at_ended x rest e = subst (ThenBy A B next) e after

module _ {F X : Type 0} (A : Type 0) (B : F → Type 0) (next : X → Entries → Type 0) (O : Type 0) (fails : F → Entries → Type 0) (memory : F) (es : Entries) (a : A → O) (b : (f : F) → B f → fails f []) (m : B memory → O) where
  opens : (o : Ending F X) → ThenBy A B next o → IsOpenEnd memory o → O
  opens o after = open_of (at_open A B next o after a) (λ e. m (subst (ThenBy A B next) e after))

  failing : (o : Ending F X) → ThenBy A B next o → (f : F) (es : Entries) → HasFailed o f es → fails f es
  failing o after = failed_of fails (at_failed A B next o after b)

module _ (A : Type 0) (B : CallFault → Type 0) (O : Type 0) (fails : CallFault → Entries → Type 0) (es : Entries) (a : A → O) (b : (f : CallFault) → B f → fails f []) (m : B fault.NoMemory → O) where
  pub then_now : (next : ℕ → Entries → Type 0) → Then ReadsClock A B next es → AtNow O (fails (fault.Fault called_now)) next es
  then_now next h = map_now (opens A B next O fails fault.NoMemory es a b m h.0 h.2) _ _ _ _ es (failing A B next O fails fault.NoMemory es a b m h.0 h.2 (fault.Fault called_now)) (at_ended A B next h.0 h.2) h.1

  pub then_list : (prefix : List ℕ) (next : List Listed → Entries → Type 0) → Then (ListsNames prefix) A B next es → AtList O prefix (fails (fault.Fault (called_list prefix))) next es
  then_list prefix next h = map_list (opens A B next O fails fault.NoMemory es a b m h.0 h.2) prefix _ _ _ _ es (failing A B next O fails fault.NoMemory es a b m h.0 h.2 (fault.Fault (called_list prefix))) (at_ended A B next h.0 h.2) h.1

  pub then_put : (file : File) (next : Unit {0} → Entries → Type 0) → Then (Replaces file) A B next es → AtPut O file.name file.body (fails (fault.Fault (called_replace file.name))) (next tt) es
  then_put file next h = map_replace (opens A B next O fails fault.NoMemory es a b m h.0 h.2) file.name file.body _ _ _ _ es (failing A B next O fails fault.NoMemory es a b m h.0 h.2 (fault.Fault (called_replace file.name))) (at_ended A B next h.0 h.2 tt) h.1

  pub then_deletes : (names : List (List ℕ)) (next : Unit {0} → Entries → Type 0) → Then (DeletesAll names) A B next es → AtDeletes O fails (next tt) names es
  then_deletes names next h = map_deletes (opens A B next O fails fault.NoMemory es a b m h.0 h.2) _ _ _ _ (failing A B next O fails fault.NoMemory es a b m h.0 h.2) (at_ended A B next h.0 h.2 tt) names es h.1

  pub then_wait : (time : ℕ) (next : Unit {0} → Entries → Type 0) → Then (WaitsFor time) A B next es → AtWait O time (fails (fault.Fault called_wait)) (next tt) es
  then_wait time next h = map_wait (opens A B next O fails fault.NoMemory es a b m h.0 h.2) time _ _ _ _ es (failing A B next O fails fault.NoMemory es a b m h.0 h.2 (fault.Fault called_wait)) (at_ended A B next h.0 h.2 tt) h.1

pub then_gets : {R E : Type 0} (wants : R → Option (List ℕ)) (after : R → List ℕ → Result R E) (A : Type 0) (B : GetFault E → Type 0) (O : Type 0) (fails : GetFault E → Entries → Type 0) (es : Entries)
    (a : A → O) (b : (f : GetFault E) → B f → fails f []) (m : B get.NoMemory → O) (next : R → Entries → Type 0) (r : R) → Then (GetsAll wants after r) A B next es → AtGets wants after O fails next r es
then_gets wants after A B O fails es a b m next r h =
    map_gets wants after (opens A B next O fails get.NoMemory es a b m h.0 h.2) _ _ _ _ (failing A B next O fails get.NoMemory es a b m h.0 h.2) (at_ended A B next h.0 h.2) r es h.1

pub then_puts : (A : Type 0) (B : PutFault → Type 0) (O : Type 0) (fails : PutFault → Entries → Type 0) (es : Entries) (a : A → O) (b : (f : PutFault) → B f → fails f []) (m : B put.NoMemory → O)
    (next : Unit {0} → Entries → Type 0) (fs : List File) → Then (PutsAll fs) A B next es → AtPuts O fails (next tt) fs es
then_puts A B O fails es a b m next fs h =
    map_puts (opens A B next O fails put.NoMemory es a b m h.0 h.2) _ _ _ _ (failing A B next O fails put.NoMemory es a b m h.0 h.2) (at_ended A B next h.0 h.2 tt) fs es h.1
