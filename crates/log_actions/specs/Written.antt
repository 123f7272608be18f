-- The text that is written for actions: a line of compact JSON for each, members in byte order of their names.
use Rattle.std.specs.Prelude.{ℕ, List, [], ◌∷◌, codes, Option, Some, None, option_map}
use Rattle.std.specs.List.{flat_map}
use Rattle.serde_json.specs.Data.{Data, boolean, string, object, Members, no_members}
use Rattle.json_lines.specs.Written.{with_member, integer_data, texts_data, text_map_data, nullable_map_data, single_object, line_text}
use Rattle.log_actions.specs.declared.action.Protocol.{Protocol}
use Rattle.log_actions.specs.declared.action.Format.{Format}
use Rattle.log_actions.specs.declared.action.MetaData.{MetaData}
use Rattle.log_actions.specs.declared.action.AddFile.{AddFile}
use Rattle.log_actions.specs.declared.action.RemoveFile.{RemoveFile}
use Rattle.log_actions.specs.declared.action.Txn.{Txn}
use Rattle.log_actions.specs.declared.action.CommitInfo.{CommitInfo}
use Rattle.log_actions.specs.declared.action.CheckpointMetadata.{CheckpointMetadata}
use Rattle.log_actions.specs.declared.action.Sidecar.{Sidecar}
use Rattle.log_actions.specs.declared.action.Action.{Action}
use Rattle.log_actions.specs.declared.action.Action.TheVariants as actions

-- members by their names, those that are there; they stand in byte order of the names, whatever their order here
abbrev pub Fields : Type 0
Fields = List (List ℕ × Option Data)

-- members with these put in
abbrev pub members_with : Members → Fields → Members
members_with ms [] = ms
members_with ms (f ∷ fs) = members_with (with_member f.0 f.1 ms) fs

-- the members of an object with these fields
unfoldable pub members_of : Fields → Members
members_of fs = members_with no_members fs

-- the members of a protocol
abbrev pub protocol_fields : Protocol → Fields
protocol_fields p =
    (codes "minReaderVersion", Some (integer_data p.min_reader_version))
    ∷ (codes "minWriterVersion", Some (integer_data p.min_writer_version))
    ∷ (codes "readerFeatures", option_map texts_data p.reader_features)
    ∷ (codes "writerFeatures", option_map texts_data p.writer_features)
    ∷ []

-- the members of a format
abbrev pub format_fields : Format → Fields
format_fields f =
    (codes "options", option_map text_map_data f.options)
    ∷ (codes "provider", Some (string f.provider))
    ∷ []

-- the members of metadata
abbrev pub metadata_fields : MetaData → Fields
metadata_fields m =
    (codes "configuration", option_map text_map_data m.configuration)
    ∷ (codes "createdTime", option_map integer_data m.created_time)
    ∷ (codes "description", option_map string m.description)
    ∷ (codes "format", Some (object (members_of (format_fields m.format))))
    ∷ (codes "id", Some (string m.id))
    ∷ (codes "name", option_map string m.name)
    ∷ (codes "partitionColumns", Some (texts_data m.partition_columns))
    ∷ (codes "schemaString", Some (string m.schema_string))
    ∷ []

-- the members of a file that is added
abbrev pub add_fields : AddFile → Fields
add_fields f =
    (codes "dataChange", Some (boolean f.data_change))
    ∷ (codes "modificationTime", Some (integer_data f.modification_time))
    ∷ (codes "partitionValues", Some (nullable_map_data f.partition_values))
    ∷ (codes "path", Some (string f.path))
    ∷ (codes "size", Some (integer_data f.size))
    ∷ (codes "stats", option_map string f.stats)
    ∷ (codes "tags", option_map text_map_data f.tags)
    ∷ []

-- the members of a file that is removed
abbrev pub remove_fields : RemoveFile → Fields
remove_fields f =
    (codes "dataChange", Some (boolean f.data_change))
    ∷ (codes "deletionTimestamp", Some (integer_data f.deletion_timestamp))
    ∷ (codes "extendedFileMetadata", option_map boolean f.extended_file_metadata)
    ∷ (codes "partitionValues", option_map nullable_map_data f.partition_values)
    ∷ (codes "path", Some (string f.path))
    ∷ (codes "size", option_map integer_data f.size)
    ∷ (codes "tags", option_map text_map_data f.tags)
    ∷ []

-- the time of the last update is not written
abbrev pub txn_fields : Txn → Fields
txn_fields t =
    (codes "appId", Some (string t.app_id))
    ∷ (codes "version", Some (integer_data t.version))
    ∷ []

-- the members that say where a commit came from
abbrev pub commit_info_fields : CommitInfo → Fields
commit_info_fields i =
    (codes "isBlindAppend", option_map boolean i.is_blind_append)
    ∷ (codes "isolationLevel", option_map string i.isolation_level)
    ∷ (codes "operation", option_map string i.operation)
    ∷ (codes "readVersion", option_map integer_data i.read_version)
    ∷ (codes "timestamp", option_map integer_data i.timestamp)
    ∷ (codes "txnId", option_map string i.txn_id)
    ∷ []

-- the members of the head of a checkpoint
abbrev pub checkpoint_fields : CheckpointMetadata → Fields
checkpoint_fields c =
    (codes "tags", option_map text_map_data c.tags)
    ∷ (codes "version", Some (integer_data c.version))
    ∷ []

-- the members of a sidecar
abbrev pub sidecar_fields : Sidecar → Fields
sidecar_fields s =
    (codes "modificationTime", option_map integer_data s.modification_time)
    ∷ (codes "path", Some (string s.path))
    ∷ (codes "sizeInBytes", Some (integer_data s.size_in_bytes))
    ∷ []

-- an action as an object with one member; one that is ignored is written as nothing
unfoldable pub action_data : Action → Option Data
action_data (actions.Protocol p) = Some (single_object (codes "protocol") (members_of (protocol_fields p)))
action_data (actions.Meta m) = Some (single_object (codes "metaData") (members_of (metadata_fields m)))
action_data (actions.Add f) = Some (single_object (codes "add") (members_of (add_fields f)))
action_data (actions.Remove f) = Some (single_object (codes "remove") (members_of (remove_fields f)))
action_data (actions.Txn t) = Some (single_object (codes "txn") (members_of (txn_fields t)))
action_data (actions.Info i) = Some (single_object (codes "commitInfo") (members_of (commit_info_fields i)))
action_data (actions.Checkpoint c) = Some (single_object (codes "checkpointMetadata") (members_of (checkpoint_fields c)))
action_data (actions.Sidecar s) = Some (single_object (codes "sidecar") (members_of (sidecar_fields s)))
action_data actions.Ignored = None

-- the line of a value, where there is one
abbrev pub line_of_data : Option Data → List ℕ
line_of_data None = []
line_of_data (Some d) = line_text d

-- the line of an action
abbrev pub line_of_action : Action → List ℕ
line_of_action a = line_of_data (action_data a)

-- the text of a commit
unfoldable pub text_of : List Action → List ℕ
text_of all = flat_map line_of_action all
