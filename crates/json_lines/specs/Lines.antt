-- The lines of a text, and the JSON objects that they are.
use Rattle.std.specs.Prelude.{ℕ, Bool, ◌==◌, ◌||◌, List, if◌then◌else◌, Option, None, option_and_then}
use Rattle.std.specs.List.{slice_split, list_all}
use Rattle.std.specs.Str.{is_utf8}
use Rattle.serde_json.specs.Data.{Data}
use Rattle.serde_json.specs.Read.{read}
use Rattle.json_lines.specs.Kinds.{as_itself}

-- the pieces between line ends
abbrev pub lines : List ℕ → List (List ℕ)
lines text = slice_split (λ b. b == 10) text

-- nothing but spaces, tabs and carriage returns
abbrev pub is_blank : List ℕ → Bool
is_blank line = list_all (λ b. b == 32 || b == 9 || b == 13) line

-- the JSON that a line is, where it is UTF-8
abbrev pub value_of_line : List ℕ → Option Data
value_of_line line = if is_utf8 line then read line else None

-- the object that a line is
unfoldable pub object_of_line : List ℕ → Option Data
object_of_line line = option_and_then as_itself (value_of_line line)
