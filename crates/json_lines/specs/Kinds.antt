-- What JSON values stand for, by their kind.
use Rattle.std.specs.Prelude.{ℕ, nat_le, List, [], ◌∷◌, if◌then◌else◌, Option, Some, None, option_and_then, option_map}
use Rattle.serde_json.specs.Data.{Data, null, boolean, number, string, array, object, Items, no_items, item, Members, no_members, member}
use Rattle.serde_json.specs.Find.{get, as_str, as_number, as_u64, as_array, as_object}
use Rattle.json_lines.specs.declared.map.Entry.{Entry}

-- a name with a text
abbrev pub TextEntry : Type 0
TextEntry = Entry (List ℕ)

-- a name with a text, or with null
abbrev pub NullableEntry : Type 0
NullableEntry = Entry (Option (List ℕ))

-- a number up to the limit
abbrev pub up_to : ℕ → ℕ → Option ℕ
up_to limit n = if nat_le n limit then Some n else None

-- an integer, written without a point and an exponent, from 0 to the limit
unfoldable pub as_integer : ℕ → Data → Option ℕ
as_integer limit d = option_and_then (up_to limit) (option_and_then as_u64 (as_number d))

-- a list of texts
abbrev pub texts_in : Items → Option (List (List ℕ))
texts_in no_items = Some []
texts_in (item d ds) = option_and_then (λ t. option_map (λ ts. t ∷ ts) (texts_in ds)) (as_str d)

-- the same of a JSON value
unfoldable pub as_texts : Data → Option (List (List ℕ))
as_texts d = option_and_then texts_in (as_array d)

-- a text, or nothing for null
abbrev pub text_or_null : Data → Option (Option (List ℕ))
text_or_null null = Some None
text_or_null (boolean b) = None
text_or_null (number n) = None
text_or_null (string s) = Some (Some s)
text_or_null (array ds) = None
text_or_null (object ms) = None

-- the entries with one more, by its name; a null stands for nothing
abbrev pub with_entry : List ℕ → Option (List ℕ) → List TextEntry → List TextEntry
with_entry k None es = es
with_entry k (Some t) es = record { name = k; value = t } ∷ es

-- the entries of an object
abbrev pub entries_in : Members → Option (List TextEntry)
entries_in no_members = Some []
entries_in (member k d ms) = option_and_then (λ t. option_map (with_entry k t) (entries_in ms)) (text_or_null d)

-- the same of a JSON value
unfoldable pub as_text_map : Data → Option (List TextEntry)
as_text_map d = option_and_then entries_in (as_object d)

-- the entries of an object, nulls among them
abbrev pub nullables_in : Members → Option (List NullableEntry)
nullables_in no_members = Some []
nullables_in (member k d ms) = option_and_then (λ t. option_map (λ es. record { name = k; value = t } ∷ es) (nullables_in ms)) (text_or_null d)

-- the same of a JSON value
unfoldable pub as_nullable_map : Data → Option (List NullableEntry)
as_nullable_map d = option_and_then nullables_in (as_object d)

-- a value that isn't null
abbrev pub unless_null : Data → Option Data
unless_null null = None
unless_null (boolean b) = Some (boolean b)
unless_null (number n) = Some (number n)
unless_null (string s) = Some (string s)
unless_null (array ds) = Some (array ds)
unless_null (object ms) = Some (object ms)

-- an object, as a value
abbrev pub as_itself : Data → Option Data
as_itself null = None
as_itself (boolean b) = None
as_itself (number n) = None
as_itself (string s) = None
as_itself (array ds) = None
as_itself (object ms) = Some (object ms)

-- the member of this name; a null counts as absent
unfoldable pub present : List ℕ → Data → Option Data
present name d = option_and_then unless_null (get name d)

-- what a member stands for that has to be there
unfoldable pub needed : {A : Type 0} → (Data → Option A) → List ℕ → Data → Option A
needed kind name d = option_and_then kind (present name d)

-- what there is, where there is a value
abbrev pub if_there : {A : Type 0} → (Data → Option A) → Option Data → Option (Option A)
if_there kind None = Some None
if_there kind (Some d) = option_map Some (kind d)

-- what a member stands for, or nothing where it is absent
unfoldable pub optional : {A : Type 0} → (Data → Option A) → List ℕ → Data → Option (Option A)
optional kind name d = if_there kind (present name d)
