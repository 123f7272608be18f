-- What the entries of a journal say: the objects that they leave, and the answers that these give.
use Rattle.std.specs.Prelude.{◌≡◌, ◌==◌, ◌&&◌, ℕ, ◌≤◌, Bool, if◌then◌else◌, List, [], ◌∷◌, Option, Some, None, nat_eq}
use Rattle.std.specs.List.{starts_with}
use Rattle.std.specs.Str.{bytes_eq}
use Rattle.std.specs.Ordering.{nat_cmp}
use Rattle.std.specs.Cmp.Lexicographic.{slice_cmp}
use Rattle.std.specs.BTreeMap.{insert_entry}
use Rattle.row_base.specs.declared.limits.TheConstants.{LAST_TIME}
use Rattle.edge_api.specs.declared.call.Call.{Call}
use Rattle.edge_api.specs.declared.call.Call.TheVariants.{Get, PutNew, Put, List as ListNames, Delete, Now, Wait}
use Rattle.edge_api.specs.declared.call.CallKind.{CallKind}
use Rattle.edge_api.specs.declared.call.CallKind.TheVariants as kind
use Rattle.edge_api.specs.declared.call.Answer.{Answer}
use Rattle.edge_api.specs.declared.call.Answer.TheVariants.{Fault, Body, Missing, Stored, Taken, Names, Gone, Time, Waited}
use Rattle.edge_api.specs.declared.call.Tag.{Tag}
use Rattle.edge_api.specs.declared.call.Listed.{Listed}
use Rattle.edge_api.specs.declared.call.Object.{Object}
use Rattle.edge_api.specs.declared.call.JournalEntry.{JournalEntry}

-- the entries of a journal
abbrev pub Entries : Type 0
Entries = List JournalEntry

-- the two tags name one statement of one actor
abbrev pub same_tag : Tag → Tag → Bool
same_tag a b = (a.actor == b.actor) && (a.statement == b.statement)

-- the kind of a call
abbrev pub kind_of : Call → CallKind
kind_of (Get name) = kind.Get
kind_of (PutNew name body) = kind.PutNew
kind_of (Put name body) = kind.Put
kind_of (ListNames prefix) = kind.List
kind_of (Delete name) = kind.Delete
kind_of Now = kind.Now
kind_of (Wait time) = kind.Wait

-- the name that a call speaks of
abbrev pub name_of : Call → List ℕ
name_of (Get name) = name
name_of (PutNew name body) = name
name_of (Put name body) = name
name_of (ListNames prefix) = prefix
name_of (Delete name) = name
name_of Now = []
name_of (Wait time) = []

-- the objects of a store with their names, in byte order of these
abbrev pub Objects : Type 0
Objects = List (List ℕ × Object)

-- the object under a name
abbrev pub object_at : Objects → List ℕ → Option Object
object_at [] name = None
object_at (o ∷ os) name = if bytes_eq o.0 name then Some o.1 else object_at os name

-- an object under its name, in its place in the order or in place of the one that is there
abbrev pub with_object : Objects → List ℕ → Object → Objects
with_object os name o = insert_entry (slice_cmp nat_cmp) os name o

-- the objects but for the one under a name
abbrev pub without_object : Objects → List ℕ → Objects
without_object [] name = []
without_object (o ∷ os) name = if bytes_eq o.0 name then without_object os name else o ∷ without_object os name

-- the names that begin with a prefix, each with the clock of its last put
abbrev pub listing : Objects → List ℕ → List Listed
listing [] prefix = []
listing (o ∷ os) prefix = if starts_with nat_eq o.0 prefix then record { name = o.0; put_at = o.1.put_at } ∷ listing os prefix else listing os prefix

-- a put of a free name; one that is there stays as it is
abbrev pub put_new_objects : Option Object → Objects → List ℕ → Object → Objects
put_new_objects (Some there) os name o = os
put_new_objects None os name o = with_object os name o

-- the answer to a read of an object
abbrev pub read_answer : Option Object → Answer
read_answer (Some o) = Body o.body
read_answer None = Missing

-- the answer to a put of a name that is to be free
abbrev pub put_new_answer : Option Object → Answer
put_new_answer (Some o) = Taken
put_new_answer None = Stored

-- the answer that the objects and the clock give to a call
abbrev pub answer_of : Objects → ℕ → Call → Answer
answer_of os clock (Get name) = read_answer (object_at os name)
answer_of os clock (PutNew name body) = put_new_answer (object_at os name)
answer_of os clock (Put name body) = Stored
answer_of os clock (ListNames prefix) = Names (listing os prefix)
answer_of os clock (Delete name) = Gone
answer_of os clock Now = Time clock
answer_of os clock (Wait time) = Waited

-- the effect of a call: the objects after it
abbrev pub effect_of : Objects → ℕ → Call → Objects
effect_of os clock (Get name) = os
effect_of os clock (PutNew name body) = put_new_objects (object_at os name) os name (record { body = body; put_at = clock })
effect_of os clock (Put name body) = with_object os name (record { body = body; put_at = clock })
effect_of os clock (ListNames prefix) = os
effect_of os clock (Delete name) = without_object os name
effect_of os clock Now = os
effect_of os clock (Wait time) = os

-- an entry with its clock, and whether its write took effect though it was answered Fault. The clock of a wait is the one after it
pub record Moment : Type 0 where
  pub entry : JournalEntry
  pub clock : ℕ
  pub took_effect : Bool

-- the objects after an answer
abbrev pub after_answer : Answer → Bool → Objects → Objects → Objects
after_answer Fault took_effect before after = if took_effect then after else before
after_answer answer took_effect before after = after

-- the objects after a moment
abbrev pub after_moment : Objects → Moment → Objects
after_moment os m = after_answer m.entry.answer m.took_effect os (effect_of os m.clock m.entry.call)

abbrev pub objects_after : Objects → List Moment → Objects
objects_after os [] = os
objects_after os (m ∷ ms) = objects_after (after_moment os m) ms

-- the answer is Fault or the right one
abbrev pub Answers : Answer → Answer → Type 0
Answers Fault right = Unit {0}
Answers answer right = answer ≡ right

-- each answer is the one that the objects and the clock give, and the clock never falls and never passes LAST_TIME
abbrev pub IsLegal : Objects → ℕ → List Moment → Type 0
IsLegal os clock [] = Unit {0}
IsLegal os clock (m ∷ ms) = (clock ≤ m.clock) × (m.clock ≤ LAST_TIME) × Answers m.entry.answer (answer_of os m.clock m.entry.call) × IsLegal (after_moment os m) m.clock ms

-- the entries of the moments
abbrev pub entries_of : List Moment → Entries
entries_of [] = []
entries_of (m ∷ ms) = m.entry ∷ entries_of ms

-- a completion of a journal that is legal from a store with no objects
pub record HasLegalCompletion (journal : Entries) : Type 0 where
  pub moments : List Moment
  pub entries : entries_of moments ≡ journal
  pub legal : IsLegal [] 0 moments

-- the answers that a call may have
abbrev pub IsOfKind : Call → Answer → Type 0
IsOfKind call Fault = Unit {0}
IsOfKind (Get name) (Body b) = Unit {0}
IsOfKind (Get name) Missing = Unit {0}
IsOfKind (PutNew name body) Stored = Unit {0}
IsOfKind (PutNew name body) Taken = Unit {0}
IsOfKind (Put name body) Stored = Unit {0}
IsOfKind (ListNames prefix) (Names l) = Unit {0}
IsOfKind (Delete name) Gone = Unit {0}
IsOfKind Now (Time t) = t ≤ LAST_TIME
IsOfKind (Wait time) Waited = Unit {0}
IsOfKind call answer = ⊥
