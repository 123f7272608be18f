-- The exit status of a run, and the text that tells its fault.
use Rattle.std.specs.Prelude.{◌≡◌, ◌⊎◌, ℕ, List, [], ◌++◌, codes}
use Rattle.std.specs.Fmt.{decimal}
use Rattle.script_text.specs.declared.script.ScriptFaultKind.{ScriptFaultKind}
use Rattle.script_text.specs.declared.script.ScriptFaultKind.TheVariants as kinds
use Rattle.script_runs.specs.declared.status.Status.{Status}
use Rattle.script_runs.specs.declared.status.Status.TheVariants.{Done, NoScript, ReadFault, WriteFault, NoMemory, TooLong}

-- the printed kind of a fault
abbrev pub kind_text : ScriptFaultKind → List ℕ
kind_text kinds.Utf8 = codes "utf8"
kind_text kinds.Header = codes "header"
kind_text kinds.Form = codes "form"
kind_text kinds.Session = codes "session"
kind_text kinds.Limit = codes "limit"
kind_text kinds.NoMemory = codes "memory"

-- the exit status
abbrev pub code_of : Status → ℕ
code_of Done = 0
code_of (NoScript fault) = 3
code_of ReadFault = 4
code_of WriteFault = 5
code_of NoMemory = 6
code_of TooLong = 7

-- what is printed of a status
abbrev pub text_of : Status → List ℕ
text_of Done = []
text_of (NoScript fault) = codes "script: line " ++ decimal fault.line ++ codes " " ++ kind_text fault.kind ++ codes "\n"
text_of ReadFault = codes "read failed\n"
text_of WriteFault = codes "write failed\n"
text_of NoMemory = codes "no memory\n"
text_of TooLong = codes "script longer than 16777216 bytes\n"

-- a text that needs no number
abbrev pub IsFixed : Status → List ℕ → Type 0
IsFixed (NoScript fault) text = Unit {0}
IsFixed Done text = text ≡ text_of Done
IsFixed ReadFault text = text ≡ text_of ReadFault
IsFixed WriteFault text = text ≡ text_of WriteFault
IsFixed NoMemory text = text ≡ text_of NoMemory
IsFixed TooLong text = text ≡ text_of TooLong

-- the status with its text; where memory is wanting for the text of a bad line, that is the status
abbrev pub IsTold : Status → Status → Type 0
IsTold (NoScript fault) told = (told ≡ NoScript fault) ⊎ (told ≡ NoMemory)
IsTold Done told = told ≡ Done
IsTold ReadFault told = told ≡ ReadFault
IsTold WriteFault told = told ≡ WriteFault
IsTold NoMemory told = told ≡ NoMemory
IsTold TooLong told = told ≡ TooLong

-- the text of a bad line is made
abbrev pub IsMade : Status → List ℕ → Type 0
IsMade (NoScript fault) made = made ≡ text_of (NoScript fault)
IsMade Done made = Unit {0}
IsMade ReadFault made = Unit {0}
IsMade WriteFault made = Unit {0}
IsMade NoMemory made = Unit {0}
IsMade TooLong made = Unit {0}
