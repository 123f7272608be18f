-- Which lines may stand at a place of a script, and the place behind them.
use Rattle.std.specs.Prelude.{◌≡◌, ℕ, ℤ, pos, negsuc, ◌+◌, Bool, true, false, List, [], ◌∷◌, ◌++◌, Option, Some, None, if◌then◌else◌, length, map, ◌&&◌, ◌||◌, not, nat_lt, nat_le, option_map, is_some}
use Rattle.std.specs.List.{list_any, list_all, position, flat_map}
use Rattle.std.specs.Char.{is_ascii_digit, is_ascii_lowercase}
use Rattle.std.specs.Str.{bytes_eq}
use Rattle.actor_core.specs.declared.schedule.Item.{Item}
use Rattle.actor_core.specs.declared.schedule.ItemForm.{ItemForm}
use Rattle.statement_types.specs.declared.statement.Statement.{Statement as AStatement}
use Rattle.statement_types.specs.declared.statement.TableSpec.{TableSpec}
use Rattle.row_base.specs.declared.limits.TheConstants.{MAX_ATTEMPTS, MAX_STATEMENTS, MAX_SCHEDULE_ITEMS, MAX_SESSIONS}
use Rattle.row_base.specs.declared.row.Datum.{Datum}
use Rattle.row_base.specs.Readings.{◌>>=◌}
use Rattle.script_forms.specs.declared.script.Script.{Script}
use Rattle.script_forms.specs.declared.script.Header.{Header as AHeader}
use Rattle.script_forms.specs.declared.script.Header.TheVariants as header
use Rattle.script_forms.specs.declared.script.SessionScript.{SessionScript}
use Rattle.script_forms.specs.declared.line.Line.{Line}
use Rattle.script_forms.specs.declared.line.Line.TheVariants as line
use Rattle.script_forms.specs.declared.place.Place.{Place}
use Rattle.script_forms.specs.declared.place.Place.TheVariants.{Start, Headed, Session, Items}
use Rattle.script_forms.specs.declared.table.TableForm.{TableForm}
use Rattle.script_forms.specs.declared.place.Placed.{Placed}
use Rattle.script_forms.specs.declared.place.Stated.{Stated}
use Rattle.script_forms.specs.declared.place.Stated.TheVariants as stated
use Rattle.script_forms.specs.declared.place.Entry.{Entry}
use Rattle.script_forms.specs.declared.place.Entry.TheVariants as entry
use Rattle.script_forms.specs.Limits.{are_keys, table_within, stated_within, statement_of, HasLiterals}
use Rattle.script_forms.specs.Lines.{Says, reading}
use Rattle.script_forms.specs.Items.{NamedItem, SpellsItems, items_of}

-- 1 to MAX_ATTEMPTS
abbrev pub attempts_of : ℤ → Option ℕ
attempts_of (pos n) = if nat_le 1 n && nat_le n MAX_ATTEMPTS then Some n else None
attempts_of (negsuc n) = None

abbrev pub or_none : {A : Type 0} → Option (List A) → List A
or_none None = []
or_none (Some xs) = xs

-- the table that is to be made: no partition columns and no properties where they are left out
abbrev pub spec_of : TableForm → TableSpec
spec_of form = record { columns = form.columns; partition = or_none form.partition; properties = or_none form.properties }

-- a number of milliseconds, from 0
abbrev pub wait_of : ℤ → Option ℕ
wait_of (pos n) = Some n
wait_of (negsuc n) = None

abbrev pub begins_lower : List ℕ → Bool
begins_lower [] = false
begins_lower (b ∷ bs) = is_ascii_lowercase b

abbrev pub are_lower : List ℕ → Bool
are_lower name = list_all (λ b. is_ascii_lowercase b || is_ascii_digit b) name

-- a letter, then letters and digits, in lower case, at most 16 bytes
abbrev pub is_session_name : List ℕ → Bool
is_session_name name = begins_lower name && (are_lower name && nat_le (length name) 16)

-- the session's place, counted from 1
abbrev pub place_named : List SessionScript → List ℕ → Option ℕ
place_named sessions name = option_map (λ i. i + 1) (position (λ s. bytes_eq s.name name) sessions)

abbrev pub placed : List SessionScript → NamedItem → Placed
placed sessions x = record { session = place_named sessions x.0; form = x.1 }

-- ---- what a line is at its place

-- The line may stand at the place, as this entry.
pub data Stands : Place → List ℕ → Entry → Type 0 where
  attempts : (l : List ℕ) (n : ℤ) → Says l (line.Attempts n) → Stands (Start None) l (entry.Attempts (attempts_of n))
  open_table : (a : Option ℕ) (l : List ℕ) → Says l line.Open → Stands (Start a) l (entry.Header header.Existing)
  table : (a : Option ℕ) (l : List ℕ) (form : TableForm) → Says l (line.Table form) → are_keys (spec_of form).properties ≡ true → table_within (spec_of form) ≡ true → Stands (Start a) l (entry.Header (header.Table (spec_of form)))
  first_session : (s : Script) (l name : List ℕ) → Says l (line.Session name) → is_session_name name ≡ true → Stands (Headed s) l (entry.Session name)
  schedule_at_once : (s : Script) (l : List ℕ) → Says l line.Schedule → Stands (Headed s) l entry.Schedule
  next_session : (s : Script) (current : SessionScript) (l name : List ℕ) → Says l (line.Session name) → is_session_name name ≡ true → Stands (Session s current) l (entry.Session name)
  table_made : (s : Script) (current : SessionScript) (l : List ℕ) (form : TableForm) → Says l (line.Table form) → are_keys (spec_of form).properties ≡ true → Stands (Session s current) l (entry.Statement (stated.Table (spec_of form)))
  insert : (s : Script) (current : SessionScript) (l : List ℕ) (rows : List (List Datum)) → Says l (line.Insert rows) → Stands (Session s current) l (entry.Statement (stated.Insert rows))
  select : (s : Script) (current : SessionScript) (l : List ℕ) → Says l line.Select → Stands (Session s current) l (entry.Statement stated.Select)
  wait : (s : Script) (current : SessionScript) (l : List ℕ) (n : ℕ) → Says l (line.Wait (pos n)) → Stands (Session s current) l (entry.Statement (stated.Wait n))
  schedule : (s : Script) (current : SessionScript) (l : List ℕ) → Says l line.Schedule → Stands (Session s current) l entry.Schedule
  items : (s : Script) (l : List ℕ) (xs : List NamedItem) → SpellsItems xs l → Stands (Items s) l (entry.Items (map (placed s.sessions) xs))

-- ---- reading

-- no key stands twice, and no limit is passed
abbrev pub made_header : TableSpec → Option Entry
made_header spec = if are_keys spec.properties then (if table_within spec then Some (entry.Header (header.Table spec)) else None) else None

abbrev pub start_entry : Line → Option ℕ → Option Entry
start_entry (line.Attempts n) None = Some (entry.Attempts (attempts_of n))
start_entry (line.Attempts n) (Some a) = None
start_entry line.Open a = Some (entry.Header header.Existing)
start_entry (line.Table form) a = made_header (spec_of form)
start_entry (line.Session name) a = None
start_entry (line.Insert rows) a = None
start_entry line.Select a = None
start_entry (line.Wait n) a = None
start_entry line.Schedule a = None

abbrev pub session_start : List ℕ → Option Entry
session_start name = if is_session_name name then Some (entry.Session name) else None

abbrev pub headed_entry : Line → Option Entry
headed_entry (line.Session name) = session_start name
headed_entry line.Schedule = Some entry.Schedule
headed_entry (line.Attempts n) = None
headed_entry line.Open = None
headed_entry (line.Table form) = None
headed_entry (line.Insert rows) = None
headed_entry line.Select = None
headed_entry (line.Wait n) = None

abbrev pub made_table : TableSpec → Option Entry
made_table spec = if are_keys spec.properties then Some (entry.Statement (stated.Table spec)) else None

abbrev pub wait_entry : ℤ → Option Entry
wait_entry n = wait_of n >>= λ k. Some (entry.Statement (stated.Wait k))

abbrev pub session_entry : Line → Option Entry
session_entry (line.Session name) = session_start name
session_entry (line.Table form) = made_table (spec_of form)
session_entry (line.Insert rows) = Some (entry.Statement (stated.Insert rows))
session_entry line.Select = Some (entry.Statement stated.Select)
session_entry (line.Wait n) = wait_entry n
session_entry line.Schedule = Some entry.Schedule
session_entry (line.Attempts n) = None
session_entry line.Open = None

-- the items of a line, with their sessions' places
unfoldable pub placed_from : List SessionScript → List ℕ → Option (List Placed)
placed_from sessions l = items_of l >>= λ xs. Some (map (placed sessions) xs)

abbrev pub put_placed : Option Placed → Option (List Placed) → Option (List Placed)
put_placed None o = o
put_placed (Some x) o = o >>= λ xs. Some (x ∷ xs)

unfoldable pub entry_at : Place → List ℕ → Option Entry
entry_at (Start a) l = reading l >>= λ x. start_entry x a
entry_at (Headed s) l = reading l >>= λ x. headed_entry x
entry_at (Session s current) l = reading l >>= λ x. session_entry x
entry_at (Items s) l = placed_from s.sessions l >>= λ xs. Some (entry.Items xs)

-- ---- faults of an entry

abbrev pub is_declared : List SessionScript → List ℕ → Bool
is_declared sessions name = list_any (λ s. bytes_eq s.name name) sessions

-- no session has the name yet
abbrev pub is_new : Place → List ℕ → Bool
is_new (Start a) name = true
is_new (Headed s) name = true
is_new (Session s current) name = not (is_declared s.sessions name || bytes_eq current.name name)
is_new (Items s) name = true

abbrev pub is_placed : Placed → Bool
is_placed x = is_some x.session

-- A session's name is new, and items name sessions that there are.
unfoldable pub is_known : Place → Entry → Bool
is_known p (entry.Attempts n) = true
is_known p (entry.Header h) = true
is_known p (entry.Session name) = is_new p name
is_known p (entry.Statement x) = true
is_known p entry.Schedule = true
is_known p (entry.Items xs) = list_all is_placed xs

-- one of at most MAX_SESSIONS sessions
abbrev pub session_fits : Place → Bool
session_fits (Start a) = true
session_fits (Headed s) = nat_lt (length s.sessions) MAX_SESSIONS
session_fits (Session s current) = nat_lt (length s.sessions + 1) MAX_SESSIONS
session_fits (Items s) = true

-- one of at most MAX_STATEMENTS statements, which passes no limit of its own
abbrev pub statement_fits : Place → Stated → Bool
statement_fits (Start a) x = true
statement_fits (Headed s) x = true
statement_fits (Session s current) x = stated_within x && nat_lt (length current.statements) MAX_STATEMENTS
statement_fits (Items s) x = true

-- at most MAX_SCHEDULE_ITEMS items with these
abbrev pub items_fit : Place → ℕ → Bool
items_fit (Start a) n = true
items_fit (Headed s) n = true
items_fit (Session s current) n = true
items_fit (Items s) n = nat_le (length s.items + n) MAX_SCHEDULE_ITEMS

-- No limit is passed.
unfoldable pub is_within : Place → Entry → Bool
is_within p (entry.Attempts n) = is_some n
is_within p (entry.Header h) = true
is_within p (entry.Session name) = session_fits p
is_within p (entry.Statement x) = statement_fits p x
is_within p entry.Schedule = true
is_within p (entry.Items xs) = items_fit p (length xs)

-- the rows of a statement are literal rows
abbrev pub IsSound : Entry → Type 0
IsSound (entry.Attempts n) = Unit {0}
IsSound (entry.Header h) = Unit {0}
IsSound (entry.Session name) = Unit {0}
IsSound (entry.Statement x) = HasLiterals x
IsSound entry.Schedule = Unit {0}
IsSound (entry.Items xs) = Unit {0}

-- ---- the place behind an entry

abbrev pub attempts_or : Option ℕ → ℕ
attempts_or (Some n) = n
attempts_or None = 1000

-- the script of a header alone; without an attempts line a statement makes at most 1,000 puts
abbrev pub begun : Option ℕ → AHeader → Script
begun a h = record { attempts = attempts_or a; header = h; sessions = []; items = [] }

abbrev pub named : List ℕ → SessionScript
named name = record { name = name; statements = [] }

abbrev pub with_session : Script → SessionScript → Script
with_session s current = record s { sessions = s.sessions ++ current ∷ [] }

abbrev pub with_statement : SessionScript → AStatement → SessionScript
with_statement current x = record current { statements = current.statements ++ x ∷ [] }

abbrev pub item_of_place : Option ℕ → ItemForm → List Item
item_of_place (Some n) form = record { actor = n; form = form } ∷ []
item_of_place None form = []

-- the item, if its session is known
abbrev pub known_item : Placed → List Item
known_item x = item_of_place x.session x.form

abbrev pub with_items : Script → List Placed → Script
with_items s xs = record s { items = s.items ++ flat_map known_item xs }

abbrev pub after_start : Option ℕ → Entry → Place
after_start a (entry.Attempts n) = Start n
after_start a (entry.Header h) = Headed (begun a h)
after_start a (entry.Session name) = Start a
after_start a (entry.Statement x) = Start a
after_start a entry.Schedule = Start a
after_start a (entry.Items xs) = Start a

abbrev pub after_header : Script → Entry → Place
after_header s (entry.Session name) = Session s (named name)
after_header s entry.Schedule = Items s
after_header s (entry.Attempts n) = Headed s
after_header s (entry.Header h) = Headed s
after_header s (entry.Statement x) = Headed s
after_header s (entry.Items xs) = Headed s

abbrev pub after_session : Script → SessionScript → Entry → Place
after_session s current (entry.Session name) = Session (with_session s current) (named name)
after_session s current (entry.Statement x) = Session s (with_statement current (statement_of x))
after_session s current entry.Schedule = Items (with_session s current)
after_session s current (entry.Attempts n) = Session s current
after_session s current (entry.Header h) = Session s current
after_session s current (entry.Items xs) = Session s current

abbrev pub after_schedule : Script → Entry → Place
after_schedule s (entry.Items xs) = Items (with_items s xs)
after_schedule s (entry.Attempts n) = Items s
after_schedule s (entry.Header h) = Items s
after_schedule s (entry.Session name) = Items s
after_schedule s (entry.Statement x) = Items s
after_schedule s entry.Schedule = Items s

-- the place behind an entry that may stand there
unfoldable pub after : Place → Entry → Place
after (Start a) e = after_start a e
after (Headed s) e = after_header s e
after (Session s current) e = after_session s current e
after (Items s) e = after_schedule s e
