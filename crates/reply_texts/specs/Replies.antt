-- The replies of all sessions as they are printed, a line each, and the rows that were read a line each.
use Rattle.std.specs.Prelude.{ℕ, ◌+◌, List, [], ◌∷◌, ◌++◌, length, codes}
use Rattle.std.specs.List.{flat_map}
use Rattle.std.specs.Fmt.{decimal, signed_decimal}
use Rattle.edge_api.specs.declared.call.CallKind.{CallKind}
use Rattle.edge_api.specs.declared.call.CallKind.TheVariants as kind
use Rattle.edge_api.specs.declared.call.Called.{Called}
use Rattle.statement_types.specs.declared.refusal.Refusal.{Refusal}
use Rattle.statement_types.specs.declared.refusal.Refusal.TheVariants.{NoTable, TableThere, Row, Conflict, TooManyAttempts, Outlasted, FileGone, NameTaken, BadObject, Unsupported, Fault, OutcomeUnknown, NoMemory, LogGone, BadStatement, TooLarge}
use Rattle.statement_types.specs.declared.refusal.Clash.{Clash}
use Rattle.statement_types.specs.declared.refusal.Clash.TheVariants.{Protocol}
use Rattle.statement_types.specs.fault.LogFaultKind.{LogFaultKind}
use Rattle.statement_types.specs.fault.LogFaultKind.TheVariants as faults
use Rattle.statement_types.specs.declared.refusal.ObjectFault.{ObjectFault}
use Rattle.statement_types.specs.declared.refusal.ObjectFault.TheVariants as objects
use Rattle.statement_types.specs.declared.refusal.RowWrong.{RowWrong}
use Rattle.statement_types.specs.declared.refusal.RowWrong.TheVariants as wrong
use Rattle.predicates.specs.declared.fault.BindFault.{BindFault}
use Rattle.predicates.specs.declared.fault.BindFault.TheVariants as statements
use Rattle.statement_types.specs.fault.Feature.{Feature}
use Rattle.statement_types.specs.fault.Feature.TheVariants as features
use Rattle.statement_types.specs.declared.reply.CheckpointOutcome.{CheckpointOutcome}
use Rattle.statement_types.specs.declared.reply.CheckpointOutcome.TheVariants as outcome
use Rattle.statement_types.specs.declared.reply.Reply.{Reply}
use Rattle.statement_types.specs.declared.reply.Reply.TheVariants.{Created, Committed, Rows, Waited, Killed, Refused}
use Rattle.reply_texts.specs.Literals.{row_text, row_line}

-- a number behind its word
abbrev pub counted : List ℕ → ℕ → List ℕ
counted word n = word ++ decimal n

abbrev pub kind_text : CallKind → List ℕ
kind_text kind.Get = codes "get "
kind_text kind.PutNew = codes "put new "
kind_text kind.Put = codes "put "
kind_text kind.List = codes "list "
kind_text kind.Delete = codes "delete "
kind_text kind.Now = codes "now"
kind_text kind.Wait = codes "wait"

-- a call; one of the clock and a wait have an empty name
abbrev pub call_text : Called → List ℕ
call_text call = kind_text call.kind ++ call.name

abbrev pub clash_text : Clash → List ℕ
clash_text Protocol = codes " protocol"

-- what isn't supported; a text of the log as it stands there
abbrev pub feature_text : Feature → List ℕ
feature_text (features.Protocol reader writer) = counted (codes "protocol ") reader ++ counted (codes " ") writer
feature_text (features.Named name) = codes "feature " ++ name
feature_text (features.Property key) = codes "property " ++ key
feature_text features.AbsolutePath = codes "absolute path"
feature_text features.DeletionVector = codes "deletion vector"
feature_text (features.Codec codec) = codes "codec " ++ signed_decimal codec
feature_text (features.Encoding encoding) = codes "encoding " ++ signed_decimal encoding
feature_text (features.PageKind kind) = codes "page type " ++ signed_decimal kind
feature_text (features.ColumnType name) = codes "column type " ++ name
feature_text features.CheckpointForm = codes "checkpoint form"
feature_text features.Sidecar = codes "sidecar"
feature_text features.NestedColumns = codes "nested columns"
feature_text features.Timestamp = codes "timestamp"
feature_text features.Versions = codes "versions"

-- how a line is wrong
abbrev pub line_fault_text : LogFaultKind → List ℕ
line_fault_text faults.Json = codes " json"
line_fault_text faults.Shape = codes " shape"
line_fault_text faults.Twice = codes " twice"
line_fault_text (faults.Unsupported feature) = codes " unsupported " ++ feature_text feature
line_fault_text faults.NoMemory = codes " no memory"

-- why an object has no reading; a column by its name
abbrev pub fault_text : ObjectFault → List ℕ
fault_text (objects.Line line kind) = counted (codes " line ") line ++ line_fault_text kind
fault_text objects.Table = codes " table"
fault_text objects.Short = codes " short"
fault_text objects.Magic = codes " magic"
fault_text objects.Footer = codes " footer"
fault_text (objects.Thrift at) = counted (codes " thrift ") at
fault_text (objects.Shape name) = codes " shape " ++ name
fault_text (objects.Page at) = counted (codes " page ") at
fault_text (objects.Value name) = codes " value " ++ name

-- why a row doesn't fit the table's columns
abbrev pub row_fault_text : RowWrong → List ℕ
row_fault_text wrong.Count = codes " count"
row_fault_text (wrong.Kind name) = codes " kind " ++ name
row_fault_text (wrong.Null name) = codes " null " ++ name
row_fault_text (wrong.EmptyPartition name) = codes " empty partition " ++ name

-- what is wrong in a statement; a key as it stands in the table's metadata
abbrev pub statement_fault_text : BindFault → List ℕ
statement_fault_text (statements.Column name) = codes "column " ++ name
statement_fault_text (statements.Kind name) = codes "kind " ++ name
statement_fault_text (statements.Twice name) = codes "twice " ++ name
statement_fault_text statements.Count = codes "count"
statement_fault_text (statements.Property key) = codes "property " ++ key
statement_fault_text (statements.Fixed key) = codes "fixed " ++ key
statement_fault_text statements.NoMemory = codes "no memory"

abbrev pub refusal_text : Refusal → List ℕ
refusal_text NoTable = codes "1 no table"
refusal_text TableThere = codes "2 table there"
refusal_text (Row row fault) = codes "3 row " ++ row_text row ++ row_fault_text fault
refusal_text (Conflict winner clash) = counted (codes "7 conflict ") winner ++ clash_text clash
refusal_text (TooManyAttempts lost) = counted (codes "8 attempts ") lost
refusal_text (Outlasted start now) = counted (codes "9 outlasted ") start ++ counted (codes " ") now
refusal_text (FileGone name) = codes "10 file gone " ++ name
refusal_text (NameTaken name) = codes "11 name taken " ++ name
refusal_text (BadObject name fault) = codes "12 bad object " ++ name ++ fault_text fault
refusal_text (Unsupported feature) = codes "13 unsupported " ++ feature_text feature
refusal_text (Fault call) = codes "14 fault " ++ call_text call
refusal_text (OutcomeUnknown version) = counted (codes "15 outcome unknown ") version
refusal_text NoMemory = codes "16 no memory"
refusal_text (LogGone name) = codes "18 log gone " ++ name
refusal_text (BadStatement fault) = codes "21 statement " ++ statement_fault_text fault
refusal_text (TooLarge bytes) = counted (codes "22 too large ") bytes

abbrev pub outcome_text : CheckpointOutcome → List ℕ
outcome_text outcome.NotDue = []
outcome_text outcome.Written = codes " checkpoint written"
outcome_text outcome.Fault = codes " checkpoint fault"
outcome_text outcome.Taken = codes " checkpoint taken"
outcome_text outcome.TooLarge = codes " checkpoint too large"
outcome_text outcome.NoMemory = codes " checkpoint no memory"

-- a reply with its line end, and its rows
abbrev pub reply_text : Reply → List ℕ
reply_text Created = codes "created 0\n"
reply_text (Committed version read attempts checkpoint) =
    counted (codes "committed ") version ++ counted (codes " read ") read ++ counted (codes " attempts ") attempts ++ outcome_text checkpoint ++ codes "\n"
reply_text (Rows version rows files_read files_live) =
    counted (codes "rows ") (length rows) ++ counted (codes " version ") version ++ counted (codes " files ") files_read ++ counted (codes " of ") files_live ++ codes "\n" ++ flat_map row_line rows
reply_text Waited = codes "waited\n"
reply_text Killed = codes "killed\n"
reply_text (Refused refusal) = codes "refused " ++ refusal_text refusal ++ codes "\n"

-- a session's reply to its statement of this number
abbrev pub statement_text : List ℕ → ℕ → Reply → List ℕ
statement_text name number reply = name ++ counted (codes " ") number ++ codes " " ++ reply_text reply

abbrev pub session_text : List ℕ → ℕ → List Reply → List ℕ
session_text name number [] = []
session_text name number (r ∷ rs) = statement_text name number r ++ session_text name (number + 1) rs

-- the replies of sessions with their names
abbrev pub sessions_text : List (List ℕ) → List (List Reply) → List ℕ
sessions_text [] replies = []
sessions_text (n ∷ ns) [] = []
sessions_text (n ∷ ns) (r ∷ rs) = session_text n 1 r ++ sessions_text ns rs

-- first the replies of the statement that makes the table, then those of each session
abbrev pub printed : List (List ℕ) → List (List Reply) → List ℕ
printed names replies = sessions_text (codes "table" ∷ names) replies
