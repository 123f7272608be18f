-- Dictionaries: the distinct values of a chunk, and places among them (Encodings.md, "Dictionary Encoding
-- (PLAIN_DICTIONARY = 2 and RLE_DICTIONARY = 8)").
use Rattle.std.specs.Prelude.{ℕ, zero, suc, ◌+◌, ◌*◌, ◌^◌, nat_le, Bool, true, false, ◌||◌, if◌then◌else◌, List, [], ◌∷◌, ◌++◌, length, slice_get, is_some, Option, Some, None, option_map, unwrap_or}
use Rattle.std.specs.Ordering.{is_eq}
use Rattle.row_base.specs.declared.row.Datum.{Datum}
use Rattle.row_base.specs.declared.row.Datum.TheVariants as datum
use Rattle.row_base.specs.declared.row.Kind.{Kind}
use Rattle.row_base.specs.declared.row.Kind.TheVariants as kind
use Rattle.row_base.specs.RowOrder.{datum_cmp}
use Rattle.row_base.specs.Readings.{◌>>=◌}
use Rattle.parquet_pages.specs.Hybrids.{hybrid_values}

abbrev pub is_null : Datum → Bool
is_null datum.Null = true
is_null (datum.Long n) = false
is_null (datum.Integer n) = false
is_null (datum.Boolean b) = false
is_null (datum.Text t) = false
is_null (datum.Date n) = false

-- how many values aren't null
abbrev pub present : List Datum → ℕ
present [] = 0
present (v ∷ vs) = (if is_null v then 0 else 1) + present vs

-- the first place of a value
abbrev pub place_of : List Datum → Datum → Option ℕ
place_of [] q = None
place_of (v ∷ vs) q = if is_eq (datum_cmp v q) then Some 0 else option_map suc (place_of vs q)

-- these values, and behind them the further one, where it is new and isn't null
abbrev pub with_value : List Datum → Datum → List Datum
with_value found v = if is_null v || is_some (place_of found v) then found else found ++ v ∷ []

-- the distinct values of a list that aren't null, in order of first appearance, behind those that were found before
abbrev pub distinct_after : List Datum → List Datum → List Datum
distinct_after found [] = found
distinct_after found (v ∷ vs) = distinct_after (with_value found v) vs

abbrev pub is_boolean : Kind → Bool
is_boolean kind.Long = false
is_boolean kind.Integer = false
is_boolean kind.Boolean = true
is_boolean kind.String = false
is_boolean kind.Date = false

-- a dictionary pays: twice the number of its values is at most the number of values that aren't null
abbrev pub pays : List Datum → List Datum → Bool
pays dictionary values = nat_le (2 * length dictionary) (present values)

-- the dictionary of a chunk: its distinct values, where they pay and aren't booleans
unfoldable pub dictionary_of : Kind → List Datum → Option (List Datum)
dictionary_of k values =
    if is_boolean k then None
    else (if pays (distinct_after [] values) values then Some (distinct_after [] values) else None)

-- the values at these places of a dictionary
abbrev pub values_at : List Datum → List ℕ → Option (List Datum)
values_at dictionary [] = Some []
values_at dictionary (i ∷ is) = slice_get dictionary i >>= λ v. option_map (λ vs. v ∷ vs) (values_at dictionary is)

-- so many values by their places in a dictionary: a byte with the width of the places, and their hybrid
unfoldable pub indexed_values : List Datum → ℕ → List ℕ → Option (List Datum)
indexed_values dictionary count [] = None
indexed_values dictionary count (width ∷ bytes) = hybrid_values width bytes count >>= values_at dictionary

-- the least width, from this one on, that holds each place of so many values
unfoldable pub width_from : ℕ → ℕ → ℕ → ℕ
width_from zero width count = width
width_from (suc more) width count = if nat_le count (2 ^ width) then width else width_from more (width + 1) count

-- the width of the places in a dictionary of so many values
unfoldable pub index_width : ℕ → ℕ
index_width count = width_from 31 1 count

-- a value has a place in a dictionary, or is null where the column may be null
abbrev pub can_place : List Datum → Bool → Datum → Bool
can_place dictionary optional v = if is_null v then optional else is_some (place_of dictionary v)

-- the places of the values that aren't null
abbrev pub places_of : List Datum → List Datum → List ℕ
places_of dictionary [] = []
places_of dictionary (v ∷ vs) =
    if is_null v then places_of dictionary vs else unwrap_or (place_of dictionary v) 0 ∷ places_of dictionary vs
