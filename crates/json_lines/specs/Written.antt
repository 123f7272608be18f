-- What is written: members by their names, and lines.
use Rattle.std.specs.Prelude.{ℕ, ℤ, pos, negsuc, ◌^◌, ◌<◌, List, [], ◌∷◌, ◌++◌, map, Option, Some, None}
use Rattle.serde_json.specs.Data.{Num, unsigned, negative, float, Data, null, boolean, number, string, array, object, Items, no_items, item, Members, no_members, member, put}
use Rattle.serde_json.specs.View.{items_of}
use Rattle.serde_json.specs.Written.{compact_text}
use Rattle.json_lines.specs.declared.map.Entry.{Entry}
use Rattle.json_lines.specs.Kinds.{TextEntry, NullableEntry}

-- the members with one more, in byte order of the names, where there is a value
unfoldable pub with_member : List ℕ → Option Data → Members → Members
with_member name None ms = ms
with_member name (Some d) ms = put name d ms

-- an integer
abbrev pub integer_data : ℕ → Data
integer_data n = number (unsigned n)

-- a list of texts
abbrev pub texts_data : List (List ℕ) → Data
texts_data ts = array (items_of (map string ts))

-- members with these entries put in, as what is written of each value
abbrev pub entries_data : {A : Type 0} → (A → Data) → Members → List (Entry A) → Members
entries_data written ms [] = ms
entries_data written ms (e ∷ es) = entries_data written (put e.name (written e.value) ms) es

-- values by their names
unfoldable pub map_data : {A : Type 0} → (A → Data) → List (Entry A) → Data
map_data written es = object (entries_data written no_members es)

-- texts by their names
abbrev pub text_map_data : List TextEntry → Data
text_map_data = map_data string

-- a text, or null
abbrev pub text_or_null_data : Option (List ℕ) → Data
text_or_null_data None = null
text_or_null_data (Some t) = string t

-- texts and nulls by their names
abbrev pub nullable_map_data : List NullableEntry → Data
nullable_map_data = map_data text_or_null_data

-- an object with one member, which is an object
abbrev pub single_object : List ℕ → Members → Data
single_object name ms = object (member name (object ms) no_members)

-- compact JSON and a line end
abbrev pub line_text : Data → List ℕ
line_text d = compact_text d ++ 10 ∷ []

-- the integers fit 64 bits, as those of each value in memory do
abbrev pub FitsInteger : ℤ → Type 0
FitsInteger (pos n) = n < 2 ^ 63
FitsInteger (negsuc n) = n < 2 ^ 63

-- the same of a number
abbrev pub FitsNumber : Num → Type 0
FitsNumber (unsigned n) = n < 2 ^ 64
FitsNumber (negative z) = FitsInteger z
FitsNumber (float x) = Unit {0}

-- the same of a value, of items and of members
abbrev mutual
  pub FitsData : Data → Type 0
  FitsData null = Unit {0}
  FitsData (boolean b) = Unit {0}
  FitsData (number n) = FitsNumber n
  FitsData (string s) = Unit {0}
  FitsData (array ds) = FitsItems ds
  FitsData (object ms) = FitsMembers ms

  pub FitsItems : Items → Type 0
  FitsItems no_items = Unit {0}
  FitsItems (item d ds) = FitsData d × FitsItems ds

  pub FitsMembers : Members → Type 0
  FitsMembers no_members = Unit {0}
  FitsMembers (member k d ms) = FitsData d × FitsMembers ms
