-- The replies of all sessions as they are printed, a line each, and the rows that were read a line each.
use Rattle.std.specs.Prelude.{ℕ, ◌+◌, List, [], ◌∷◌, ◌++◌, length, codes}
use Rattle.std.specs.List.{flat_map}
use Rattle.std.specs.Fmt.{decimal, signed_decimal}
use Rattle.edge_api.specs.declared.call.CallKind.{CallKind}
use Rattle.edge_api.specs.declared.call.CallKind.TheVariants as kind
use Rattle.edge_api.specs.declared.call.Called.{Called}
use Rattle.op_types.specs.declared.refusal.Refusal.{Refusal}
use Rattle.op_types.specs.declared.refusal.Refusal.TheVariants.{NoTable, TableThere, Conflict, TooManyAttempts, Outlasted, FileGone, NameTaken, BadObject, Unsupported, Fault, OutcomeUnknown, NoMemory, LogGone, TooLarge}
use Rattle.op_types.specs.declared.refusal.Clash.{Clash}
use Rattle.op_types.specs.declared.refusal.Clash.TheVariants.{Protocol}
use Rattle.op_types.specs.fault.LogFaultKind.{LogFaultKind}
use Rattle.op_types.specs.fault.LogFaultKind.TheVariants as faults
use Rattle.op_types.specs.declared.refusal.ObjectFault.{ObjectFault}
use Rattle.op_types.specs.declared.refusal.ObjectFault.TheVariants.{Line}
use Rattle.op_types.specs.fault.Feature.{Feature}
use Rattle.op_types.specs.fault.Feature.TheVariants as features
use Rattle.op_types.specs.declared.reply.CheckpointOutcome.{CheckpointOutcome}
use Rattle.op_types.specs.declared.reply.CheckpointOutcome.TheVariants as outcome
use Rattle.op_types.specs.declared.reply.Reply.{Reply}
use Rattle.op_types.specs.declared.reply.Reply.TheVariants.{Created, Committed, Rows, Killed, Refused}
use Rattle.report.specs.Literals.{row_line}

-- a number behind its word
abbrev pub counted : List ℕ → ℕ → List ℕ
counted word n = word ++ decimal n

abbrev pub kind_text : CallKind → List ℕ
kind_text kind.Get = codes "get "
kind_text kind.PutNew = codes "put new "
kind_text kind.Put = codes "put "
kind_text kind.List = codes "list "
kind_text kind.Delete = codes "delete "
kind_text kind.Now = codes "now"
kind_text kind.Wait = codes "wait"

-- a call; one of the clock and a wait have an empty name
abbrev pub call_text : Called → List ℕ
call_text call = kind_text call.kind ++ call.name

abbrev pub clash_text : Clash → List ℕ
clash_text Protocol = codes " protocol"

-- what isn't supported; a text of the log as it stands there
abbrev pub feature_text : Feature → List ℕ
feature_text (features.Protocol reader writer) = counted (codes "protocol ") reader ++ counted (codes " ") writer
feature_text (features.Named name) = codes "feature " ++ name
feature_text (features.Property key) = codes "property " ++ key
feature_text features.AbsolutePath = codes "absolute path"
feature_text features.DeletionVector = codes "deletion vector"
feature_text (features.Codec codec) = codes "codec " ++ signed_decimal codec
feature_text (features.Encoding encoding) = codes "encoding " ++ signed_decimal encoding
feature_text (features.PageKind kind) = codes "page type " ++ signed_decimal kind
feature_text (features.ColumnType name) = codes "column type " ++ name
feature_text features.CheckpointForm = codes "checkpoint form"
feature_text features.Sidecar = codes "sidecar"
feature_text features.NestedColumns = codes "nested columns"
feature_text features.Timestamp = codes "timestamp"
feature_text features.Versions = codes "versions"

-- how a line is wrong
abbrev pub line_fault_text : LogFaultKind → List ℕ
line_fault_text faults.Json = codes " json"
line_fault_text faults.Shape = codes " shape"
line_fault_text faults.Twice = codes " twice"
line_fault_text (faults.Unsupported feature) = codes " unsupported " ++ feature_text feature
line_fault_text faults.NoMemory = codes " no memory"

abbrev pub fault_text : ObjectFault → List ℕ
fault_text (Line line kind) = counted (codes " line ") line ++ line_fault_text kind

abbrev pub refusal_text : Refusal → List ℕ
refusal_text NoTable = codes "1 no table"
refusal_text TableThere = codes "2 table there"
refusal_text (Conflict winner clash) = counted (codes "7 conflict ") winner ++ clash_text clash
refusal_text (TooManyAttempts lost) = counted (codes "8 attempts ") lost
refusal_text (Outlasted start now) = counted (codes "9 outlasted ") start ++ counted (codes " ") now
refusal_text (FileGone name) = codes "10 file gone " ++ name
refusal_text (NameTaken name) = codes "11 name taken " ++ name
refusal_text (BadObject name fault) = codes "12 bad object " ++ name ++ fault_text fault
refusal_text (Unsupported feature) = codes "13 unsupported " ++ feature_text feature
refusal_text (Fault call) = codes "14 fault " ++ call_text call
refusal_text (OutcomeUnknown version) = counted (codes "15 outcome unknown ") version
refusal_text NoMemory = codes "16 no memory"
refusal_text (LogGone name) = codes "18 log gone " ++ name
refusal_text (TooLarge bytes) = counted (codes "22 too large ") bytes

abbrev pub outcome_text : CheckpointOutcome → List ℕ
outcome_text outcome.NotDue = []
outcome_text outcome.Written = codes " checkpoint written"
outcome_text outcome.Fault = codes " checkpoint fault"
outcome_text outcome.Taken = codes " checkpoint taken"
outcome_text outcome.TooLarge = codes " checkpoint too large"
outcome_text outcome.NoMemory = codes " checkpoint no memory"

-- a reply with its line end, and its rows
abbrev pub reply_text : Reply → List ℕ
reply_text Created = codes "created 0\n"
reply_text (Committed version read attempts checkpoint) =
    counted (codes "committed ") version ++ counted (codes " read ") read ++ counted (codes " attempts ") attempts ++ outcome_text checkpoint ++ codes "\n"
reply_text (Rows version rows files_read files_live) =
    counted (codes "rows ") (length rows) ++ counted (codes " version ") version ++ counted (codes " files ") files_read ++ counted (codes " of ") files_live ++ codes "\n" ++ flat_map row_line rows
reply_text Killed = codes "killed\n"
reply_text (Refused refusal) = codes "refused " ++ refusal_text refusal ++ codes "\n"

-- a session's reply to its statement of this number
abbrev pub statement_text : List ℕ → ℕ → Reply → List ℕ
statement_text name number reply = name ++ counted (codes " ") number ++ codes " " ++ reply_text reply

abbrev pub session_text : List ℕ → ℕ → List Reply → List ℕ
session_text name number [] = []
session_text name number (r ∷ rs) = statement_text name number r ++ session_text name (number + 1) rs

-- the replies of sessions with their names
abbrev pub sessions_text : List (List ℕ) → List (List Reply) → List ℕ
sessions_text [] replies = []
sessions_text (n ∷ ns) [] = []
sessions_text (n ∷ ns) (r ∷ rs) = session_text n 1 r ++ sessions_text ns rs

-- first the replies of the statement that makes the table, then those of each session
abbrev pub printed : List (List ℕ) → List (List Reply) → List ℕ
printed names replies = sessions_text (codes "table" ∷ names) replies
