-- Objects with one member that isn't null.
use Rattle.std.specs.Prelude.{ℕ, List, [], ◌∷◌, Option, Some, None, option_and_then}
use Rattle.serde_json.specs.Data.{Data, Members, no_members, member}
use Rattle.serde_json.specs.Find.{as_object}
use Rattle.json_lines.specs.Kinds.{unless_null}

-- a member: its name and its value
abbrev pub Named : Type 0
Named = List ℕ × Data

-- a member put before others, unless it is null
abbrev pub put_first : List ℕ → Option Data → List Named → List Named
put_first k None ns = ns
put_first k (Some d) ns = (k, d) ∷ ns

-- the members that aren't null
abbrev pub present_members : Members → List Named
present_members no_members = []
present_members (member k d ms) = put_first k (unless_null d) (present_members ms)

-- the only one
abbrev pub only_one : List Named → Option Named
only_one [] = None
only_one (n ∷ []) = Some n
only_one (n ∷ m ∷ ns) = None

-- the only member of an object that isn't null
abbrev pub single_in : Members → Option Named
single_in ms = only_one (present_members ms)

-- the only member that isn't null
unfoldable pub single_member : Data → Option Named
single_member d = option_and_then single_in (as_object d)
