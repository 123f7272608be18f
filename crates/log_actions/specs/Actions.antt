-- What the objects of a log say: each action by its members.
use Rattle.std.specs.Prelude.{ℕ, ◌^◌, ◌-◌, List, codes, if◌then◌else◌, Option, Some, None, option_map, unwrap_or, is_some}
use Rattle.std.specs.Str.{bytes_eq}
use Rattle.serde_json.specs.Data.{Data}
use Rattle.serde_json.specs.Find.{as_str, as_bool}
use Rattle.row_base.specs.Readings.{◌>>=◌}
use Rattle.json_lines.specs.Kinds.{as_itself, as_integer, as_texts, as_text_map, as_nullable_map, present, needed, optional}
use Rattle.log_actions.specs.Paths.{name_of_path, is_absolute}
use Rattle.log_actions.specs.declared.action.Protocol.{Protocol}
use Rattle.log_actions.specs.declared.action.Format.{Format}
use Rattle.log_actions.specs.declared.action.MetaData.{MetaData}
use Rattle.log_actions.specs.declared.action.AddFile.{AddFile}
use Rattle.log_actions.specs.declared.action.RemoveFile.{RemoveFile}
use Rattle.log_actions.specs.declared.action.Txn.{Txn}
use Rattle.log_actions.specs.declared.action.CommitInfo.{CommitInfo}
use Rattle.log_actions.specs.declared.action.CheckpointMetadata.{CheckpointMetadata}
use Rattle.log_actions.specs.declared.action.Sidecar.{Sidecar}
use Rattle.log_actions.specs.declared.action.Action.{Action}
use Rattle.log_actions.specs.declared.action.Action.TheVariants as actions
use Rattle.log_actions.specs.declared.name.ActionName.{ActionName}
use Rattle.log_actions.specs.declared.name.ActionName.TheVariants as names
use Rattle.log_actions.specs.declared.fault.Feature.{Feature}
use Rattle.log_actions.specs.declared.fault.Feature.TheVariants as features

-- versions are integers of 64 bits; sizes and times are of 63 bits; the time of a commit is at most 2^62
abbrev pub as_version : Data → Option ℕ
as_version d = as_integer (2 ^ 64 - 1) d

-- a size or a time
abbrev pub as_amount : Data → Option ℕ
as_amount d = as_integer (2 ^ 63 - 1) d

-- the time of a commit
abbrev pub as_stamp : Data → Option ℕ
as_stamp d = as_integer (2 ^ 62) d

-- a protocol (PROTOCOL.md, "Protocol Evolution")
unfoldable pub protocol_of : Data → Option Protocol
protocol_of d =
    needed as_version (codes "minReaderVersion") d >>= λ reader.
    needed as_version (codes "minWriterVersion") d >>= λ writer.
    optional as_texts (codes "readerFeatures") d >>= λ reads.
    optional as_texts (codes "writerFeatures") d >>= λ writes.
    Some (record { min_reader_version = reader; min_writer_version = writer; reader_features = reads; writer_features = writes })

-- the format of data files (PROTOCOL.md, "Format Specification")
unfoldable pub format_of : Data → Option Format
format_of d =
    needed as_str (codes "provider") d >>= λ provider.
    optional as_text_map (codes "options") d >>= λ options.
    Some (record { provider = provider; options = options })

-- the metadata of a table (PROTOCOL.md, "Change Metadata")
unfoldable pub metadata_of : Data → Option MetaData
metadata_of d =
    optional as_amount (codes "createdTime") d >>= λ created.
    needed as_str (codes "id") d >>= λ id.
    optional as_str (codes "name") d >>= λ name.
    optional as_str (codes "description") d >>= λ description.
    needed format_of (codes "format") d >>= λ format.
    needed as_str (codes "schemaString") d >>= λ schema.
    needed as_texts (codes "partitionColumns") d >>= λ columns.
    optional as_text_map (codes "configuration") d >>= λ configuration.
    Some (record { id = id; name = name; description = description; format = format; schema_string = schema; partition_columns = columns; created_time = created; configuration = configuration })

-- a file that is added (PROTOCOL.md, "Add File and Remove File")
unfoldable pub add_of : Data → Option AddFile
add_of d =
    needed as_str (codes "path") d >>= λ path.
    name_of_path path >>= λ name.
    needed as_nullable_map (codes "partitionValues") d >>= λ values.
    needed as_amount (codes "size") d >>= λ size.
    needed as_amount (codes "modificationTime") d >>= λ time.
    needed as_bool (codes "dataChange") d >>= λ change.
    optional as_str (codes "stats") d >>= λ stats.
    optional as_text_map (codes "tags") d >>= λ tags.
    Some (record { path = path; name = name; partition_values = values; size = size; modification_time = time; data_change = change; stats = stats; tags = tags })

-- a file that is removed
unfoldable pub remove_of : Data → Option RemoveFile
remove_of d =
    needed as_str (codes "path") d >>= λ path.
    name_of_path path >>= λ name.
    optional as_amount (codes "deletionTimestamp") d >>= λ time.
    needed as_bool (codes "dataChange") d >>= λ change.
    optional as_bool (codes "extendedFileMetadata") d >>= λ extended.
    optional as_nullable_map (codes "partitionValues") d >>= λ values.
    optional as_amount (codes "size") d >>= λ size.
    optional as_text_map (codes "tags") d >>= λ tags.
    Some (record { path = path; name = name; deletion_timestamp = unwrap_or time 0; data_change = change; extended_file_metadata = extended; partition_values = values; size = size; tags = tags })

-- the version of an application (PROTOCOL.md, "Transaction Identifiers")
unfoldable pub txn_of : Data → Option Txn
txn_of d =
    needed as_str (codes "appId") d >>= λ app.
    needed as_version (codes "version") d >>= λ version.
    optional as_amount (codes "lastUpdated") d >>= λ updated.
    Some (record { app_id = app; version = version; last_updated = updated })

-- of the members that say where a commit came from, those that have their kinds
unfoldable pub said_in : Data → CommitInfo
said_in d = record {
  timestamp = needed as_stamp (codes "timestamp") d;
  operation = needed as_str (codes "operation") d;
  read_version = needed as_version (codes "readVersion") d;
  isolation_level = needed as_str (codes "isolationLevel") d;
  is_blind_append = needed as_bool (codes "isBlindAppend") d;
  txn_id = needed as_str (codes "txnId") d;
}

-- where a commit came from (PROTOCOL.md, "Commit Provenance Information"), which any object says
unfoldable pub commit_info_of : Data → Option CommitInfo
commit_info_of d = option_map said_in (as_itself d)

-- the head of a checkpoint (PROTOCOL.md, "Checkpoint Metadata")
unfoldable pub checkpoint_of : Data → Option CheckpointMetadata
checkpoint_of d =
    needed as_version (codes "version") d >>= λ version.
    optional as_text_map (codes "tags") d >>= λ tags.
    Some (record { version = version; tags = tags })

-- a part of a checkpoint (PROTOCOL.md, "Sidecar File Information"), whose path has a name like that of each file
unfoldable pub sidecar_of : Data → Option Sidecar
sidecar_of d =
    needed as_str (codes "path") d >>= λ path.
    name_of_path path >>= λ name.
    needed as_amount (codes "sizeInBytes") d >>= λ size.
    optional as_amount (codes "modificationTime") d >>= λ time.
    Some (record { path = path; size_in_bytes = size; modification_time = time })

-- the name of a line's only member says which action it is
unfoldable pub name_of : List ℕ → ActionName
name_of text =
    if bytes_eq text (codes "add") then names.Add else
    if bytes_eq text (codes "remove") then names.Remove else
    if bytes_eq text (codes "metaData") then names.Meta else
    if bytes_eq text (codes "protocol") then names.Protocol else
    if bytes_eq text (codes "txn") then names.Txn else
    if bytes_eq text (codes "commitInfo") then names.Info else
    if bytes_eq text (codes "checkpointMetadata") then names.Checkpoint else
    if bytes_eq text (codes "sidecar") then names.Sidecar else
    names.Other

-- the action of a name that a value is
abbrev pub action_by : ActionName → Data → Option Action
action_by names.Protocol d = option_map actions.Protocol (protocol_of d)
action_by names.Meta d = option_map actions.Meta (metadata_of d)
action_by names.Add d = option_map actions.Add (add_of d)
action_by names.Remove d = option_map actions.Remove (remove_of d)
action_by names.Txn d = option_map actions.Txn (txn_of d)
action_by names.Info d = option_map actions.Info (commit_info_of d)
action_by names.Checkpoint d = option_map actions.Checkpoint (checkpoint_of d)
action_by names.Sidecar d = option_map actions.Sidecar (sidecar_of d)
action_by names.Other d = Some actions.Ignored

-- the action that the only member of a line is, by its name and its value
unfoldable pub action_of : List ℕ → Data → Option Action
action_of name d = action_by (name_of name) d

-- what a file's action asks for and isn't supported
abbrev pub file_feature : Data → List ℕ → Option Feature
file_feature d path = if is_absolute path then Some features.AbsolutePath else (if is_some (present (codes "deletionVector") d) then Some features.DeletionVector else None)

-- what a path asks for and isn't supported
abbrev pub path_feature : List ℕ → Option Feature
path_feature path = if is_absolute path then Some features.AbsolutePath else None

-- what an action asks for and isn't supported
unfoldable pub feature_in : Data → Action → Option Feature
feature_in d (actions.Protocol p) = None
feature_in d (actions.Meta m) = None
feature_in d (actions.Add f) = file_feature d f.path
feature_in d (actions.Remove f) = file_feature d f.path
feature_in d (actions.Txn t) = None
feature_in d (actions.Info i) = None
feature_in d (actions.Checkpoint c) = None
feature_in d (actions.Sidecar s) = path_feature s.path
feature_in d actions.Ignored = None
