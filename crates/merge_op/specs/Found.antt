-- The rows of a source in a map by their keys.
use Rattle.std.specs.Prelude.{◌≡◌, ℕ, Bool, true, false, ◌&&◌, ◌||◌, not, List, length, map, filter, if◌then◌else◌, Option, Some, None, IfSome, option_map}
use Rattle.std.specs.BTreeMap.{BTreeMap, get}
use Rattle.row_base.specs.RowOrder.{row_cmp, row_eq}
use Rattle.row_base.specs.declared.row.Datum.{Datum}
use Rattle.op_types.specs.Bound.{is_merge_bound}
use Rattle.op_types.specs.declared.bound.MergeSpec.{MergeSpec}
use Rattle.merge_op.specs.declared.keys.Found.{Found}
use Rattle.merge_op.specs.declared.matching.RowMatch.{RowMatch}
use Rattle.merge_op.specs.Matches.{key_data, has_null}
use Rattle.merge_op.specs.Merges.{first_of, match_of}

-- what was found
abbrev pub found_view : Option Found → Option (List Datum × Bool)
found_view found = option_map (λ f. (f.row.now, f.several)) found

-- what is found once this row is there too
abbrev pub with_row : Option (List Datum × Bool) → List Datum → Option (List Datum × Bool)
with_row None row = Some (row, false)
with_row (Some f) row = Some (f.0, true)

-- under each key stands the first row of the source that has it, and whether there is another one
abbrev pub IsKeyed : List ℕ → List (List Datum) → BTreeMap (List Datum) Found → Type 0
IsKeyed keys source m = (q : List Datum) → found_view (get row_cmp m q) ≡ first_of (filter (λ s. row_eq (key_data keys s) q) source)

-- what stands under the key of a row, which has no null
abbrev pub found_under : List ℕ → BTreeMap (List Datum) Found → List Datum → Option Found
found_under keys m row = if has_null keys row then None else get row_cmp m (key_data keys row)

-- a row has this key, which has no null
abbrev pub has_key : List ℕ → List Datum → List Datum → Bool
has_key keys q row = not (has_null keys row) && row_eq (key_data keys row) q

-- a row of the table has the key
abbrev pub is_met : Option Found → Bool
is_met (Some f) = f.met
is_met None = false

abbrev pub once_met : Found → Found
once_met f = record { row = f.row; several = f.several; met = true }

-- what is found, met where this says so
abbrev pub met_by : Bool → Option Found → Option Found
met_by b found = if b then option_map once_met found else found

-- no row of the table has a key yet
abbrev pub NoneMet : BTreeMap (List Datum) Found → Type 0
NoneMet m = (q : List Datum) → is_met (get row_cmp m q) ≡ false

-- the key of a row has a null, or no row of the table has it
abbrev pub is_left : List ℕ → BTreeMap (List Datum) Found → List Datum → Bool
is_left keys m row = has_null keys row || not (is_met (get row_cmp m (key_data keys row)))

-- ---- rows beside what matches them

-- the rows
abbrev pub rows_beside : List RowMatch → List (List Datum)
rows_beside ms = map (λ m. m.row.now) ms

-- what was found matches the row, which the merge is bound for
pub record IsRowMatch (m : MergeSpec ℕ) (r : RowMatch) : Type 0 where
  pub found : found_view r.found ≡ match_of m r.row.now
  pub wide : IfSome r.found (λ f. length f.row.now ≡ length r.row.now)
  pub bound : is_merge_bound (length r.row.now) m ≡ true
