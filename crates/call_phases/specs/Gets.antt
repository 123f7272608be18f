-- Gets of objects one after another, each read as it comes.
use Rattle.std.specs.Prelude.{◌≡◌, ◌⊎◌, ◌<◌, ℕ, List, [], ◌∷◌, Option, Some, None, MatchOption, Result, Ok, Err}
use Rattle.edge_api.specs.declared.call.Call.TheVariants.{Get}
use Rattle.call_phases.specs.Phases.{Entries, OnGot}
use Rattle.call_phases.specs.Ending.{Ending}
use Rattle.call_phases.specs.declared.reader.Unread.{Unread}
use Rattle.call_phases.specs.declared.reader.Unread.TheVariants as unread
use Rattle.call_phases.specs.declared.gets.GetFault.{GetFault}
use Rattle.call_phases.specs.declared.gets.GetFault.TheVariants as fault
use Rattle.call_phases.specs.Called.{called_get}
use Rattle.call_phases.specs.Endings.{IsOpenEnd, HasFailed, HasEnded}

-- an object is wanted only where some are left
abbrev pub HasLeft : ℕ → Option (List ℕ) → Type 0
HasLeft n None = Unit {0}
HasLeft n (Some name) = 0 < n

-- what was read is what had to be read, unless memory was wanting
abbrev pub Reads : {R F : Type 0} → Result R F → Result (Unit {0}) (Unread F) → R → Type 0
Reads right (Ok u) new = right ≡ Ok new
Reads right (Err (unread.Bad f)) new = right ≡ Err f
Reads right (Err unread.NoMemory) new = Unit {0}

-- by a reading: its fault, or what is known after it
abbrev pub OnReading : {R F : Type 0} → Result R F → (F → Type 0) → (R → Type 0) → Type 0
OnReading (Ok new) bad on = on new
OnReading (Err f) bad on = bad f

module _ {R F : Type 0} (wants : R → Option (List ℕ)) (after : R → List ℕ → Result R F) where
  -- the objects that a reader wants are got, each by the name that it gives after the ones before, until it wants none
  abbrev pub AtGets : Type 0 → (GetFault F → Entries → Type 0) → (R → Entries → Type 0) → R → Entries → Type 0
  AtGets open_end fails next r [] = MatchOption (wants r) (next r []) (λ name. open_end)
  AtGets open_end fails next r (e ∷ es) =
      MatchOption (wants r) (next r (e ∷ es))
      (λ name. (e.call ≡ Get name) × OnGot e.answer (fails (fault.Fault (called_get name)) es) (fails (fault.Missing name) es)
      (λ body. fails fault.NoMemory es ⊎ OnReading (after r body) (λ f. fails (fault.Bad name f) es) (λ new. AtGets open_end fails next new es)))

  -- .. and end so
  abbrev pub GetsAll : R → Entries → Ending (GetFault F) R → Type 0
  GetsAll r es o = AtGets (IsOpenEnd fault.NoMemory o) (HasFailed o) (HasEnded o) r es
