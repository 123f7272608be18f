-- How the entries of a phase end, and what follows it.
use Rattle.std.specs.Prelude.{◌≡◌, ◌⊎◌, [], Result, Ok, Err}
use Rattle.call_phases.specs.Phases.{Entries}
use Rattle.call_phases.specs.Ending.{Ending, Open, Failed, Ended, ThenBy}

-- the phase waits for a call, or memory was wanting for it
abbrev pub IsOpenEnd : {F X : Type 0} → F → Ending F X → Type 0
IsOpenEnd memory o = (o ≡ Open) ⊎ (o ≡ Failed memory)

-- it has failed, and nothing follows
abbrev pub HasFailed : {F X : Type 0} → Ending F X → F → Entries → Type 0
HasFailed o f es = (es ≡ []) × (o ≡ Failed f)

-- it has ended with this result, and these entries follow
abbrev pub HasEnded : {F X : Type 0} → Ending F X → X → Entries → Type 0
HasEnded o x es = o ≡ Ended x es

-- the phase that handed this back ended so
abbrev pub EndsAs : {F X : Type 0} → Result X F → Entries → Ending F X → Type 0
EndsAs (Ok x) es o = HasEnded o x es
EndsAs (Err f) es o = HasFailed o f es

-- a phase, and what comes at its end: while it is open, after a fault, and after its result
abbrev pub Then : {F X : Type 0} → (Entries → Ending F X → Type 0) → Type 0 → (F → Type 0) → (X → Entries → Type 0) → Entries → Type 0
Then {F} {X} phase open_end fails next es = (o : Ending F X) × phase es o × ThenBy open_end fails next o

-- an ending, by what is made of its fault and of its result
abbrev pub map_ending : {F F' X X' : Type 0} → (F → F') → (X → X') → Ending F X → Ending F' X'
map_ending f g Open = Open
map_ending f g (Failed x) = Failed (f x)
map_ending f g (Ended x es) = Ended (g x) es

-- a phase whose fault and result are made into others
abbrev pub Maps : {F F' X X' : Type 0} → (F → F') → (X → X') → (Entries → Ending F X → Type 0) → Entries → Ending F' X' → Type 0
Maps {F} {F'} {X} {X'} f g phase es o = (inner : Ending F X) × phase es inner × (o ≡ map_ending f g inner)
