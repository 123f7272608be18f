-- Faults in a journal, and the store's count of them.
use Rattle.std.specs.Prelude.{◌≡◌, ◌⊎◌, ℕ, ◌≤◌, List, [], ◌∷◌, Option}
use Rattle.edge_api.specs.declared.call.Answer.TheVariants.{Fault}
use Rattle.edge_api.specs.declared.call.JournalEntry.{JournalEntry}
use Rattle.edge_api.specs.World.{Grows, Rose}

-- a call was answered by a fault
abbrev pub HasFault : List JournalEntry → Type 0
HasFault [] = ⊥
HasFault (e ∷ es) = (e.answer ≡ Fault) ⊎ HasFault es

-- the count has not fallen, and the journal has grown by entries among which a fault stands only where the count rose
pub record FaultsAreCounted (before after : Option (List JournalEntry)) (faults faults' : ℕ) : Type 0 where
  pub later : faults ≤ faults'
  pub part : List JournalEntry
  pub grows : Grows before part after
  pub cause : HasFault part → Rose faults faults'
