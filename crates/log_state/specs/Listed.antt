-- What is kept under texts, as lists in byte order.
use Rattle.std.specs.Prelude.{◌≡◌, ◌↔◌, ℕ, List, map, Option, Some, option_and_then}
use Rattle.std.specs.Cmp.Lexicographic.{slice_cmp}
use Rattle.std.specs.List.{Contains}
use Rattle.std.specs.List.Sorted.{IsStrictlySortedBy}
use Rattle.std.specs.Ordering.{nat_cmp}
use Rattle.log_actions.specs.declared.action.AddFile.{AddFile}
use Rattle.log_actions.specs.declared.action.RemoveFile.{RemoveFile}
use Rattle.log_actions.specs.declared.action.Txn.{Txn}
use Rattle.log_state.specs.Newest.{live_by, tombstone_by}
use Rattle.log_state.specs.Table.{Table, found, txn_of, action_of}

-- the values that there are under their own texts, once each in byte order of these
pub record Lists {A : Type 0} (text : A → List ℕ) (at : List ℕ → Option A) (values : List A) : Type 0 where
  pub order : IsStrictlySortedBy (slice_cmp nat_cmp) (map text values)
  pub each : (v : A) → Contains values v ↔ (at (text v) ≡ Some v)

-- the live files of a table, in byte order of path
abbrev pub AreLive : Table → List AddFile → Type 0
AreLive t files = Lists (λ f. f.path) (λ path. live_by (action_of t path)) files

-- the tombstones of a table, in byte order of path
abbrev pub AreTombstones : Table → List RemoveFile → Type 0
AreTombstones t files = Lists (λ f. f.path) (λ path. tombstone_by (action_of t path)) files

-- the newest transactions of a table, in byte order of application
abbrev pub AreTxns : Table → List Txn → Type 0
AreTxns t txns = Lists (λ x. x.app_id) (txn_of t) txns

-- what is kept, without the texts
abbrev pub values_in : {V : Type 0} → List (List ℕ × V) → List V
values_in entries = map (λ e. e.1) entries

-- the part of what is kept under a text
abbrev pub part_at : {V A : Type 0} → (V → Option A) → List (List ℕ × V) → List ℕ → Option A
part_at part entries text = option_and_then part (found entries text)

-- each part has the text that it is kept under
abbrev pub IsUnderItsOwn : {V A : Type 0} → (A → List ℕ) → (V → Option A) → List (List ℕ × V) → Type 0
IsUnderItsOwn {V} {A} text part entries = (name : List ℕ) (a : A) → part_at part entries name ≡ Some a → text a ≡ name
