-- A journal as it is printed, a line for each call.
use Rattle.std.specs.Prelude.{ℕ, List, ◌++◌, length, codes, Option, Some, None}
use Rattle.std.specs.List.{flat_map}
use Rattle.std.specs.Fmt.{decimal}
use Rattle.edge_api.specs.declared.call.Call.{Call}
use Rattle.edge_api.specs.declared.call.Call.TheVariants.{Get, PutNew, Put, List as ListNames, Delete, Now, Wait}
use Rattle.edge_api.specs.declared.call.Answer.{Answer}
use Rattle.edge_api.specs.declared.call.Answer.TheVariants.{Fault, Body, Missing, Stored, Taken, Names, Gone, Time, Waited}
use Rattle.edge_api.specs.declared.call.JournalEntry.{JournalEntry}

-- the kind of a call and its name, if it has one
abbrev pub call_text : Call → List ℕ
call_text (Get name) = codes " Get " ++ name
call_text (PutNew name body) = codes " PutNew " ++ name
call_text (Put name body) = codes " Put " ++ name
call_text (ListNames prefix) = codes " List " ++ prefix
call_text (Delete name) = codes " Delete " ++ name
call_text Now = codes " Now -"
call_text (Wait time) = codes " Wait -"

abbrev pub answer_text : Answer → List ℕ
answer_text Fault = codes " Fault"
answer_text (Body body) = codes " Body"
answer_text Missing = codes " Missing"
answer_text Stored = codes " Stored"
answer_text Taken = codes " Taken"
answer_text (Names names) = codes " Names"
answer_text Gone = codes " Gone"
answer_text (Time time) = codes " Time"
answer_text Waited = codes " Waited"

-- the bytes of a body that was got, the number of listed names, or the clock in milliseconds
abbrev pub size_got : Answer → Option ℕ
size_got Fault = None
size_got (Body body) = Some (length body)
size_got Missing = None
size_got Stored = None
size_got Taken = None
size_got (Names names) = Some (length names)
size_got Gone = None
size_got (Time time) = Some time
size_got Waited = None

-- the bytes of a body that is put, the time of a wait in milliseconds, or the size of what was got
abbrev pub size_of : Call → Answer → Option ℕ
size_of (Get name) answer = size_got answer
size_of (PutNew name body) answer = Some (length body)
size_of (Put name body) answer = Some (length body)
size_of (ListNames prefix) answer = size_got answer
size_of (Delete name) answer = size_got answer
size_of Now answer = size_got answer
size_of (Wait time) answer = Some time

abbrev pub size_text : Option ℕ → List ℕ
size_text (Some size) = codes " " ++ decimal size
size_text None = codes " -"

-- actor, statement, call, answer and size
abbrev pub entry_line : JournalEntry → List ℕ
entry_line e = decimal e.tag.actor ++ (codes " " ++ decimal e.tag.statement) ++ call_text e.call ++ answer_text e.answer ++ size_text (size_of e.call e.answer) ++ codes "\n"

-- a line for each call, in order
abbrev pub journal_text : List JournalEntry → List ℕ
journal_text journal = flat_map entry_line journal
