-- Scripts as the bytes spell them, and the least bad line.
use Rattle.std.specs.Prelude.{◌≡◌, ℕ, ◌+◌, Bool, true, false, List, [], ◌∷◌, ◌++◌, if◌then◌else◌, length, ◌==◌, not, Option, Some, None, Result, Ok, Err}
use Rattle.std.specs.Str.{IsUtf8, is_utf8}
use Rattle.script_forms.specs.declared.script.Script.{Script}
use Rattle.script_forms.specs.declared.script.ScriptFault.{ScriptFault}
use Rattle.script_forms.specs.declared.script.ScriptFaultKind.{ScriptFaultKind}
use Rattle.script_forms.specs.declared.script.ScriptFaultKind.TheVariants as kinds
use Rattle.script_forms.specs.declared.place.Place.{Place}
use Rattle.script_forms.specs.declared.place.Place.TheVariants.{Start, Headed, Session, Items}
use Rattle.script_forms.specs.declared.place.Entry.{Entry}
use Rattle.script_forms.specs.Places.{Stands, entry_at, is_known, is_within, after, with_session}

abbrev pub cons_first : ℕ → List (List ℕ) → List (List ℕ)
cons_first b [] = (b ∷ []) ∷ []
cons_first b (l ∷ ls) = (b ∷ l) ∷ ls

-- the lines: the pieces between line ends; a last piece that is empty is no line
unfoldable pub pieces : List ℕ → List (List ℕ)
pieces [] = []
pieces (b ∷ bs) = if b == 10 then [] ∷ pieces bs else cons_first b (pieces bs)

-- nothing but spaces, or a comment: # behind any spaces
abbrev pub is_passed : List ℕ → Bool
is_passed [] = true
is_passed (b ∷ bs) = if b == 32 then is_passed bs else b == 35

-- ---- the grammar

-- The line is taken at the place and leads to the next one.
pub data Takes : Place → List ℕ → Place → Type 0 where
  passed : (p : Place) (l : List ℕ) → IsUtf8 l → is_passed l ≡ true → Takes p l p
  entered : (p : Place) (l : List ℕ) (e : Entry) → IsUtf8 l → is_passed l ≡ false → Stands p l e → is_known p e ≡ true → is_within p e ≡ true → Takes p l (after p e)

-- The lines are taken one after another, from the first place to the last.
pub data Follows : Place → List (List ℕ) → Place → Type 0 where
  here : (p : Place) → Follows p [] p
  next : (p : Place) (l : List ℕ) (q : Place) (ls : List (List ℕ)) (r : Place) → Takes p l q → Follows q ls r → Follows p (l ∷ ls) r

-- the kind of a line that has no form at its place
abbrev pub lacking : Place → ScriptFaultKind
lacking (Start a) = kinds.Header
lacking (Headed s) = kinds.Form
lacking (Session s current) = kinds.Form
lacking (Items s) = kinds.Form

-- The line is refused at the place, and this is the first kind in the order Utf8, Header, Form, Session, Limit.
pub data Refuses : Place → List ℕ → ScriptFaultKind → Type 0 where
  utf8 : (p : Place) (l : List ℕ) → (IsUtf8 l → ⊥) → Refuses p l kinds.Utf8
  form : (p : Place) (l : List ℕ) → IsUtf8 l → is_passed l ≡ false → ((e : Entry) → Stands p l e → ⊥) → Refuses p l (lacking p)
  session : (p : Place) (l : List ℕ) (e : Entry) → IsUtf8 l → is_passed l ≡ false → Stands p l e → is_known p e ≡ false → Refuses p l kinds.Session
  limit : (p : Place) (l : List ℕ) (e : Entry) → IsUtf8 l → is_passed l ≡ false → Stands p l e → is_known p e ≡ true → is_within p e ≡ false → Refuses p l kinds.Limit

-- the script at a place behind the header
abbrev pub script_of : Place → Option Script
script_of (Start a) = None
script_of (Headed s) = Some s
script_of (Session s current) = Some (with_session s current)
script_of (Items s) = Some s

-- The bytes spell the script: their lines are taken one after another, to a place behind the header.
pub record SpellsScript (bytes : List ℕ) (s : Script) : Type 0 where
  pub place : Place
  pub taken : Follows (Start None) (pieces bytes) place
  pub script : script_of place ≡ Some s

-- From this place, with lines counted from this number, the line n is the first that is refused, and this is its
-- kind; or all lines are taken, no header among them, and n is the number behind the last.
pub data FailsFrom : ℕ → Place → List (List ℕ) → ℕ → ScriptFaultKind → Type 0 where
  refused : (first : ℕ) (p : Place) (before : List (List ℕ)) (q : Place) (l : List ℕ) (behind : List (List ℕ)) (k : ScriptFaultKind) → Follows p before q → Refuses q l k → FailsFrom first p (before ++ l ∷ behind) (first + length before) k
  no_header : (first : ℕ) (p : Place) (ls : List (List ℕ)) (a : Option ℕ) → Follows p ls (Start a) → FailsFrom first p ls (first + length ls) kinds.Header

-- The bytes spell no script: n is the least bad line, counted from 1, and k its first kind.
abbrev pub FailsScript : List ℕ → ℕ → ScriptFaultKind → Type 0
FailsScript bytes n k = FailsFrom 1 (Start None) (pieces bytes) n k

-- ---- reading

abbrev pub judged : Place → Entry → Result Place ScriptFaultKind
judged p e = if is_known p e then (if is_within p e then Ok (after p e) else Err kinds.Limit) else Err kinds.Session

abbrev pub judged_some : Place → Option Entry → Result Place ScriptFaultKind
judged_some p None = Err (lacking p)
judged_some p (Some e) = judged p e

-- What was returned is what judging gives, unless memory ran out.
abbrev pub Judges : Result Place ScriptFaultKind → Result Place ScriptFaultKind → Type 0
Judges (Ok p) r = r ≡ Ok p
Judges (Err kinds.NoMemory) r = Unit {0}
Judges (Err kinds.Utf8) r = r ≡ Err kinds.Utf8
Judges (Err kinds.Header) r = r ≡ Err kinds.Header
Judges (Err kinds.Form) r = r ≡ Err kinds.Form
Judges (Err kinds.Session) r = r ≡ Err kinds.Session
Judges (Err kinds.Limit) r = r ≡ Err kinds.Limit

-- the place behind the line, or what is wrong with it
unfoldable pub judge : Place → List ℕ → Result Place ScriptFaultKind
judge p l = if is_utf8 l then (if is_passed l then Ok p else judged_some p (entry_at p l)) else Err kinds.Utf8

abbrev pub finished : ℕ → Place → Result Script (ℕ × ScriptFaultKind)
finished n (Start a) = Err (n, kinds.Header)
finished n (Headed s) = Ok s
finished n (Session s current) = Ok (with_session s current)
finished n (Items s) = Ok s

abbrev pub onward : ℕ → Result Place ScriptFaultKind → (Place → Result Script (ℕ × ScriptFaultKind)) → Result Script (ℕ × ScriptFaultKind)
onward n (Ok q) f = f q
onward n (Err k) f = Err (n, k)

-- the script of the lines from number n on, or the least bad one
unfoldable pub script_from : ℕ → Place → List (List ℕ) → Result Script (ℕ × ScriptFaultKind)
script_from n p [] = finished n p
script_from n p (l ∷ ls) = onward n (judge p l) (λ q. script_from (n + 1) q ls)

abbrev pub FaultIs : ScriptFault → ScriptFaultKind → Result Script (ℕ × ScriptFaultKind) → Type 0
FaultIs f kinds.NoMemory r = Unit {0}
FaultIs f kinds.Utf8 r = r ≡ Err (f.line, kinds.Utf8)
FaultIs f kinds.Header r = r ≡ Err (f.line, kinds.Header)
FaultIs f kinds.Form r = r ≡ Err (f.line, kinds.Form)
FaultIs f kinds.Session r = r ≡ Err (f.line, kinds.Session)
FaultIs f kinds.Limit r = r ≡ Err (f.line, kinds.Limit)

-- What was returned is what reading gives, unless memory ran out.
abbrev pub GivesScript : Result Script ScriptFault → Result Script (ℕ × ScriptFaultKind) → Type 0
GivesScript (Ok s) r = r ≡ Ok s
GivesScript (Err f) r = FaultIs f f.kind r

abbrev pub is_inside : ℕ → Bool
is_inside b = not (b == 10)

-- how many sessions there are at a place
abbrev pub session_count : Place → ℕ
session_count (Start a) = 0
session_count (Headed s) = length s.sessions
session_count (Session s current) = length s.sessions + 1
session_count (Items s) = length s.sessions
