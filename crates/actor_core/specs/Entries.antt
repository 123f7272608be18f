-- Whose the entries of a journal are.
use Rattle.std.specs.Prelude.{◌≡◌, ◌==◌, ℕ, if◌then◌else◌, List, [], ◌∷◌}
use Rattle.edge_api.specs.declared.call.Tag.{Tag}
use Rattle.edge_api.specs.declared.call.JournalEntry.{JournalEntry}
pub use Rattle.edge_api.specs.Journal.{same_tag}

-- the entries of an actor, by its number
abbrev pub of_actor : ℕ → List JournalEntry → List JournalEntry
of_actor number [] = []
of_actor number (e ∷ es) = if e.tag.actor == number then e ∷ of_actor number es else of_actor number es

-- the entries of a statement, by its tag
abbrev pub own : Tag → List JournalEntry → List JournalEntry
own tag [] = []
own tag (e ∷ es) = if same_tag tag e.tag then e ∷ own tag es else own tag es

-- each entry is of the actor with this number
abbrev pub AllOfActor : ℕ → List JournalEntry → Type 0
AllOfActor number [] = Unit {0}
AllOfActor number (e ∷ es) = (e.tag.actor ≡ number) × AllOfActor number es
