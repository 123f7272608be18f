-- Names of the objects of a table: those of its log, and those of its data files.
use Rattle.std.specs.Prelude.{ℕ, ◌+◌, ◌*◌, ◌-◌, ◌%◌, ◌^◌, ◌==◌, ◌&&◌, ◌||◌, not, Bool, false, if◌then◌else◌, nat_lt, nat_le, List, ◌++◌, Option, Some, None, length, take, drop, slice_index, codes, option_and_then}
use Rattle.std.specs.List.{list_all}
use Rattle.std.specs.Str.{bytes_eq}
use Rattle.std.specs.Int.{w128, to_be_bytes}
use Rattle.uuid.specs.Text.{hyphenated_text, lower}
use Rattle.edge_api.specs.declared.call.Tag.{Tag}
use Rattle.table_rules.specs.Digits.{padded, five_or_more, number_in}
use Rattle.table_rules.specs.declared.log.LogName.{LogName}
use Rattle.table_rules.specs.declared.log.LogName.TheVariants.{Commit, CheckpointJson, CheckpointOther, Hint, OtherLog, Outside}

-- what each name of the log begins with
abbrev pub log_prefix : List ℕ
log_prefix = codes "_delta_log/"

-- a name of the log that begins with a version
abbrev pub version_text : ℕ → List ℕ → List ℕ
version_text version end = log_prefix ++ (padded 20 version ++ end)

-- the name of a version's commit (PROTOCOL.md, "Delta Log Entries")
abbrev pub commit_text : ℕ → List ℕ
commit_text version = version_text version (codes ".json")

-- the name of a version's checkpoint in JSON with this identifier (PROTOCOL.md, "Checkpoints")
abbrev pub checkpoint_end : List ℕ → List ℕ
checkpoint_end id = codes ".checkpoint." ++ (id ++ codes ".json")

-- the whole of this name
abbrev pub checkpoint_text : ℕ → List ℕ → List ℕ
checkpoint_text version id = version_text version (checkpoint_end id)

-- what follows a front
abbrev pub after : List ℕ → List ℕ → Option (List ℕ)
after front text = if bytes_eq (take (length front) text) front then Some (drop (length front) text) else None

-- what stands before an end
abbrev pub before : List ℕ → List ℕ → Option (List ℕ)
before end text = if bytes_eq (drop (length text - length end) text) end then Some (take (length text - length end) text) else None

-- what stands between a front and an end
abbrev pub between : List ℕ → List ℕ → List ℕ → Option (List ℕ)
between front end text = option_and_then (before end) (after front text)

-- a checkpoint's identifier: one character or more, and neither a dot nor a slash
abbrev pub is_id : List ℕ → Bool
is_id text = nat_lt 0 (length text) && list_all (λ b. not ((b == 46) || (b == 47))) text

-- a number from 1 to another
abbrev pub is_in_order : Option ℕ → Option ℕ → Bool
is_in_order None m = false
is_in_order (Some n) None = false
is_in_order (Some n) (Some m) = nat_lt 0 n && nat_le n m

-- the number of a part and the number of all parts, ten digits each, with a dot between them
abbrev pub is_part : List ℕ → Bool
is_part text = (slice_index text 10 == 46) && is_in_order (number_in 10 (take 10 text)) (number_in 10 (drop 11 text))

-- a checkpoint's identifier, or a part
abbrev pub is_id_or_part : List ℕ → Bool
is_id_or_part text = is_id text || is_part text

-- there is a text that passes a test
abbrev pub holds_of : (List ℕ → Bool) → Option (List ℕ) → Bool
holds_of test None = false
holds_of test (Some text) = test text

-- the name behind the version: of a commit, of a checkpoint by its identifier, of one in a single piece or in parts
-- (PROTOCOL.md, "Checkpoints")
abbrev pub of_version : ℕ → List ℕ → LogName
of_version version end =
    if bytes_eq end (codes ".json") then Commit version
    else if holds_of is_id (between (codes ".checkpoint.") (codes ".json") end) then CheckpointJson version
    else if bytes_eq end (codes ".checkpoint.parquet") then CheckpointOther version
    else if holds_of is_id_or_part (between (codes ".checkpoint.") (codes ".parquet") end) then CheckpointOther version
    else OtherLog

-- what a name says behind its version, where it has one
abbrev pub with_version : Option ℕ → List ℕ → LogName
with_version None end = OtherLog
with_version (Some version) end = of_version version end

-- a name of the log behind its prefix: the hint of the last checkpoint, or a version in twenty digits and what follows it
abbrev pub in_log : List ℕ → LogName
in_log text = if bytes_eq text (codes "_last_checkpoint") then Hint else with_version (number_in 20 (take 20 text)) (drop 20 text)

-- what a name says, where it is one of the log
abbrev pub behind_prefix : Option (List ℕ) → LogName
behind_prefix None = Outside
behind_prefix (Some text) = in_log text

-- what a name says
abbrev pub log_name : List ℕ → LogName
log_name name = behind_prefix (after log_prefix name)

-- the number of a statement: 48 bits of its start, the version 8 and the variant of RFC 9562, its actor and its place
abbrev pub id_number : ℕ → ℕ → ℕ → ℕ
id_number start actor statement = start % 2 ^ 48 * 2 ^ 80 + 8 * 2 ^ 76 + 2 * 2 ^ 62 + actor * 2 ^ 32 + statement

-- a number of 128 bits as a lower-case UUID
abbrev pub id_text : ℕ → List ℕ
id_text number = hyphenated_text lower (to_be_bytes w128 number)

-- the identifier of a statement
abbrev pub statement_text : Tag → ℕ → List ℕ
statement_text tag start = id_text (id_number start tag.actor tag.statement)

-- the name of a statement's data file
abbrev pub data_text : Tag → ℕ → ℕ → List ℕ
data_text tag start part = codes "part-" ++ five_or_more part ++ codes "-" ++ statement_text tag start ++ codes "-c000.parquet"
