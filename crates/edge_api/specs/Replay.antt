-- The journal of a store in memory, replayed.
use Rattle.std.specs.Prelude.{ℕ, List, [], ◌∷◌, false}
use Rattle.edge_api.specs.declared.call.JournalEntry.{JournalEntry}
use Rattle.edge_api.specs.Journal.{Entries, Objects, Moment, objects_after}
use Rattle.edge_api.specs.Memory.{clock_after}

-- an entry at a clock, where a call that was answered Fault did nothing
abbrev pub moment_at : ℕ → JournalEntry → Moment
moment_at clock e = record { entry = e; clock = clock; took_effect = false }

-- the entries, each at the clock of a store in memory that stood there before the first one
abbrev pub moments_from : ℕ → Entries → List Moment
moments_from clock [] = []
moments_from clock (e ∷ es) = moment_at (clock_after clock e.call) e ∷ moments_from (clock_after clock e.call) es

-- the objects that the journal leaves
abbrev pub replay_objects : ℕ → Entries → Objects
replay_objects start es = objects_after [] (moments_from start es)
