-- What a store's journal and its count of faults say of a call.
use Rattle.std.specs.Prelude.{◌≡◌, ℕ, ◌+◌, ◌-◌, ◌≤◌, ◌^◌, min, List, ◌++◌, Option, Some, None}
use Rattle.edge_api.specs.declared.call.Answer.{Answer}
use Rattle.edge_api.specs.declared.call.Answer.TheVariants.{Fault}
use Rattle.edge_api.specs.Journal.{Entries}

-- the journal has grown by these entries, where it is told
abbrev pub Grows : Option Entries → Entries → Option Entries → Type 0
Grows None part new = new ≡ None
Grows (Some old) part new = new ≡ Some (old ++ part)

-- a count has risen, or stands still at the end of 64 bits
abbrev pub Rose : ℕ → ℕ → Type 0
Rose before now = min (before + 1) (2 ^ 64 - 1) ≤ now

-- a store that answers Fault has counted it
abbrev pub FaultHasCause : ℕ → ℕ → Answer → Type 0
FaultHasCause before now Fault = Rose before now
FaultHasCause before now answer = Unit {0}
