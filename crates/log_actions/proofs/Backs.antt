-- The members that are written for an action read as it.
use Rattle.std.proofs.Common.{◌≡◌, ◌≤◌, ℕ, ◌^◌, ◌-◌, Bool, true, if◌then◌else◌, nat_le, List, codes, Option, Some, None, refl, sym, ap, ◌∙◌, arith}
use Rattle.std.specs.Prelude.{IfSome}
use Rattle.std.proofs.lemmas.Bool.Decides.{nat_tests}
use Rattle.serde_json.specs.Data.{Data, boolean, string, object}
use Rattle.serde_json.specs.Find.{as_str, as_bool}
use Rattle.json_lines.specs.Kinds.{as_integer, as_texts, as_text_map, as_nullable_map, needed, optional}
use Rattle.json_lines.specs.Written.{integer_data, texts_data, text_map_data, nullable_map_data}
use Rattle.log_actions.specs.declared.action.Protocol.{Protocol}
use Rattle.log_actions.specs.declared.action.Format.{Format}
use Rattle.log_actions.specs.declared.action.MetaData.{MetaData}
use Rattle.log_actions.specs.declared.action.AddFile.{AddFile}
use Rattle.log_actions.specs.declared.action.RemoveFile.{RemoveFile}
use Rattle.log_actions.specs.declared.action.Txn.{Txn}
use Rattle.log_actions.specs.declared.action.CommitInfo.{CommitInfo}
use Rattle.log_actions.specs.declared.action.CheckpointMetadata.{CheckpointMetadata}
use Rattle.log_actions.specs.declared.action.Sidecar.{Sidecar}
use Rattle.log_actions.specs.declared.action.Action.TheVariants as actions
use Rattle.log_actions.specs.Actions.{as_version, as_amount, as_stamp, protocol_of, format_of, metadata_of, add_of, remove_of, txn_of, said_in, commit_info_of, checkpoint_of, sidecar_of}
use Rattle.log_actions.specs.Written.{members_of, protocol_fields, format_fields, metadata_fields, add_fields, remove_fields, txn_fields, commit_info_fields, checkpoint_fields, sidecar_fields}
use Rattle.log_actions.specs.Whole.{IsWhole, IsMap}
use Rattle.log_actions.proofs.Members.{ReadsAs, needed_in, optional_in, optional_back, lenient_back, if_some, each_some}
use Rattle.log_actions.proofs.Maps.{map_back, values_back, texts_back}

le_true : (n limit : ℕ) → n ≤ limit → nat_le n limit ≡ true
le_true n limit h = grind (arith, nat_tests)

integer_back : (limit n : ℕ) → n ≤ limit → ReadsAs (as_integer limit) (integer_data n) n
unfolding as_integer
integer_back limit n h = ap (λ b. if b then Some n else None) (le_true n limit h)

version_back : (n : ℕ) → n ≤ 2 ^ 64 - 1 → ReadsAs as_version (integer_data n) n
version_back n h = integer_back (2 ^ 64 - 1) n h

amount_back : (n : ℕ) → n ≤ 2 ^ 63 - 1 → ReadsAs as_amount (integer_data n) n
amount_back n h = integer_back (2 ^ 63 - 1) n h

stamp_back : (n : ℕ) → n ≤ 2 ^ 62 → ReadsAs as_stamp (integer_data n) n
stamp_back n h = integer_back (2 ^ 62) n h

text_back : (o : Option (List ℕ)) → IfSome o (λ t. ReadsAs as_str (string t) t)
text_back o = each_some (λ t. ReadsAs as_str (string t) t) o (λ t. refl)

flag_back : (o : Option Bool) → IfSome o (λ b. ReadsAs as_bool (boolean b) b)
flag_back o = each_some (λ b. ReadsAs as_bool (boolean b) b) o (λ b. refl)

pub protocol_back : (p : Protocol) → IsWhole (actions.Protocol p) → protocol_of (object (members_of (protocol_fields p))) ≡ Some p
unfolding protocol_of
protocol_back p h =
    let D : Data = object (members_of (protocol_fields p)) in
    let is_min_reader_version : needed as_version (codes "minReaderVersion") D ≡ Some p.min_reader_version = needed_in as_version (codes "minReaderVersion") (protocol_fields p) ∙ version_back p.min_reader_version h.0 in
    let is_min_writer_version : needed as_version (codes "minWriterVersion") D ≡ Some p.min_writer_version = needed_in as_version (codes "minWriterVersion") (protocol_fields p) ∙ version_back p.min_writer_version h.1 in
    let is_reader_features : optional as_texts (codes "readerFeatures") D ≡ Some p.reader_features = optional_in as_texts (codes "readerFeatures") (protocol_fields p) ∙ optional_back as_texts texts_data p.reader_features (each_some (λ y. ReadsAs as_texts (texts_data y) y) p.reader_features texts_back) in
    let is_writer_features : optional as_texts (codes "writerFeatures") D ≡ Some p.writer_features = optional_in as_texts (codes "writerFeatures") (protocol_fields p) ∙ optional_back as_texts texts_data p.writer_features (each_some (λ y. ReadsAs as_texts (texts_data y) y) p.writer_features texts_back) in
    rw (is_min_reader_version, is_min_writer_version, is_reader_features, is_writer_features) refl

pub format_back : (f : Format) → IfSome f.options IsMap → format_of (object (members_of (format_fields f))) ≡ Some f
unfolding format_of
format_back f h =
    let D : Data = object (members_of (format_fields f)) in
    let is_provider : needed as_str (codes "provider") D ≡ Some f.provider = needed_in as_str (codes "provider") (format_fields f) in
    let is_options : optional as_text_map (codes "options") D ≡ Some f.options = optional_in as_text_map (codes "options") (format_fields f) ∙ optional_back as_text_map text_map_data f.options (if_some f.options map_back h) in
    rw (is_provider, is_options) refl

pub metadata_back : (m : MetaData) → IsWhole (actions.Meta m) → metadata_of (object (members_of (metadata_fields m))) ≡ Some m
unfolding metadata_of
metadata_back m h =
    let D : Data = object (members_of (metadata_fields m)) in
    let is_created_time : optional as_amount (codes "createdTime") D ≡ Some m.created_time = optional_in as_amount (codes "createdTime") (metadata_fields m) ∙ optional_back as_amount integer_data m.created_time (if_some m.created_time amount_back h.1) in
    let is_id : needed as_str (codes "id") D ≡ Some m.id = needed_in as_str (codes "id") (metadata_fields m) in
    let is_name : optional as_str (codes "name") D ≡ Some m.name = optional_in as_str (codes "name") (metadata_fields m) ∙ optional_back as_str string m.name (text_back m.name) in
    let is_description : optional as_str (codes "description") D ≡ Some m.description = optional_in as_str (codes "description") (metadata_fields m) ∙ optional_back as_str string m.description (text_back m.description) in
    let is_format : needed format_of (codes "format") D ≡ Some m.format = needed_in format_of (codes "format") (metadata_fields m) ∙ format_back m.format h.0 in
    let is_schema_string : needed as_str (codes "schemaString") D ≡ Some m.schema_string = needed_in as_str (codes "schemaString") (metadata_fields m) in
    let is_partition_columns : needed as_texts (codes "partitionColumns") D ≡ Some m.partition_columns = needed_in as_texts (codes "partitionColumns") (metadata_fields m) ∙ texts_back m.partition_columns in
    let is_configuration : optional as_text_map (codes "configuration") D ≡ Some m.configuration = optional_in as_text_map (codes "configuration") (metadata_fields m) ∙ optional_back as_text_map text_map_data m.configuration (if_some m.configuration map_back h.2) in
    rw (is_created_time, is_id, is_name, is_description, is_format, is_schema_string, is_partition_columns, is_configuration) refl

pub add_back : (f : AddFile) → IsWhole (actions.Add f) → add_of (object (members_of (add_fields f))) ≡ Some f
unfolding add_of
add_back f h =
    let D : Data = object (members_of (add_fields f)) in
    let is_path : needed as_str (codes "path") D ≡ Some f.path = needed_in as_str (codes "path") (add_fields f) in
    let is_partition_values : needed as_nullable_map (codes "partitionValues") D ≡ Some f.partition_values = needed_in as_nullable_map (codes "partitionValues") (add_fields f) ∙ values_back f.partition_values h.1 in
    let is_size : needed as_amount (codes "size") D ≡ Some f.size = needed_in as_amount (codes "size") (add_fields f) ∙ amount_back f.size h.2 in
    let is_modification_time : needed as_amount (codes "modificationTime") D ≡ Some f.modification_time = needed_in as_amount (codes "modificationTime") (add_fields f) ∙ amount_back f.modification_time h.3 in
    let is_data_change : needed as_bool (codes "dataChange") D ≡ Some f.data_change = needed_in as_bool (codes "dataChange") (add_fields f) in
    let is_stats : optional as_str (codes "stats") D ≡ Some f.stats = optional_in as_str (codes "stats") (add_fields f) ∙ optional_back as_str string f.stats (text_back f.stats) in
    let is_tags : optional as_text_map (codes "tags") D ≡ Some f.tags = optional_in as_text_map (codes "tags") (add_fields f) ∙ optional_back as_text_map text_map_data f.tags (if_some f.tags map_back h.4) in
    rw (is_path, h.0.named, is_partition_values, is_size, is_modification_time, is_data_change, is_stats, is_tags) refl

pub remove_back : (f : RemoveFile) → IsWhole (actions.Remove f) → remove_of (object (members_of (remove_fields f))) ≡ Some f
unfolding remove_of
remove_back f h =
    let D : Data = object (members_of (remove_fields f)) in
    let is_path : needed as_str (codes "path") D ≡ Some f.path = needed_in as_str (codes "path") (remove_fields f) in
    let is_time : optional as_amount (codes "deletionTimestamp") D ≡ Some (Some f.deletion_timestamp) =
    optional_in as_amount (codes "deletionTimestamp") (remove_fields f) ∙ optional_back as_amount integer_data (Some f.deletion_timestamp) (amount_back f.deletion_timestamp h.1) in
    let is_data_change : needed as_bool (codes "dataChange") D ≡ Some f.data_change = needed_in as_bool (codes "dataChange") (remove_fields f) in
    let is_extended_file_metadata : optional as_bool (codes "extendedFileMetadata") D ≡ Some f.extended_file_metadata = optional_in as_bool (codes "extendedFileMetadata") (remove_fields f) ∙ optional_back as_bool boolean f.extended_file_metadata (flag_back f.extended_file_metadata) in
    let is_partition_values : optional as_nullable_map (codes "partitionValues") D ≡ Some f.partition_values = optional_in as_nullable_map (codes "partitionValues") (remove_fields f) ∙ optional_back as_nullable_map nullable_map_data f.partition_values (if_some f.partition_values values_back h.2) in
    let is_size : optional as_amount (codes "size") D ≡ Some f.size = optional_in as_amount (codes "size") (remove_fields f) ∙ optional_back as_amount integer_data f.size (if_some f.size amount_back h.3) in
    let is_tags : optional as_text_map (codes "tags") D ≡ Some f.tags = optional_in as_text_map (codes "tags") (remove_fields f) ∙ optional_back as_text_map text_map_data f.tags (if_some f.tags map_back h.4) in
    rw (is_path, h.0.named, is_time, is_data_change, is_extended_file_metadata, is_partition_values, is_size, is_tags) refl

pub txn_back : (t : Txn) → IsWhole (actions.Txn t) → txn_of (object (members_of (txn_fields t))) ≡ Some t
unfolding txn_of
txn_back t h =
    let D : Data = object (members_of (txn_fields t)) in
    let is_app_id : needed as_str (codes "appId") D ≡ Some t.app_id = needed_in as_str (codes "appId") (txn_fields t) in
    let is_version : needed as_version (codes "version") D ≡ Some t.version = needed_in as_version (codes "version") (txn_fields t) ∙ version_back t.version h.0 in
    let is_updated : optional as_amount (codes "lastUpdated") D ≡ Some t.last_updated = optional_in as_amount (codes "lastUpdated") (txn_fields t) ∙ ap Some (sym h.1) in
    rw (is_app_id, is_version, is_updated) refl

said_back : (i : CommitInfo) → IsWhole (actions.Info i) → said_in (object (members_of (commit_info_fields i))) ≡ i
unfolding said_in
said_back i h =
    let D : Data = object (members_of (commit_info_fields i)) in
    let is_timestamp : needed as_stamp (codes "timestamp") D ≡ i.timestamp = needed_in as_stamp (codes "timestamp") (commit_info_fields i) ∙ lenient_back as_stamp integer_data i.timestamp (if_some i.timestamp stamp_back h.0) in
    let is_operation : needed as_str (codes "operation") D ≡ i.operation = needed_in as_str (codes "operation") (commit_info_fields i) ∙ lenient_back as_str string i.operation (text_back i.operation) in
    let is_read_version : needed as_version (codes "readVersion") D ≡ i.read_version = needed_in as_version (codes "readVersion") (commit_info_fields i) ∙ lenient_back as_version integer_data i.read_version (if_some i.read_version version_back h.1) in
    let is_isolation_level : needed as_str (codes "isolationLevel") D ≡ i.isolation_level = needed_in as_str (codes "isolationLevel") (commit_info_fields i) ∙ lenient_back as_str string i.isolation_level (text_back i.isolation_level) in
    let is_is_blind_append : needed as_bool (codes "isBlindAppend") D ≡ i.is_blind_append = needed_in as_bool (codes "isBlindAppend") (commit_info_fields i) ∙ lenient_back as_bool boolean i.is_blind_append (flag_back i.is_blind_append) in
    let is_txn_id : needed as_str (codes "txnId") D ≡ i.txn_id = needed_in as_str (codes "txnId") (commit_info_fields i) ∙ lenient_back as_str string i.txn_id (text_back i.txn_id) in
    rw (is_timestamp, is_operation, is_read_version, is_isolation_level, is_is_blind_append, is_txn_id) refl

pub commit_info_back : (i : CommitInfo) → IsWhole (actions.Info i) → commit_info_of (object (members_of (commit_info_fields i))) ≡ Some i
unfolding commit_info_of
commit_info_back i h = ap Some (said_back i h)

pub checkpoint_back : (c : CheckpointMetadata) → IsWhole (actions.Checkpoint c) → checkpoint_of (object (members_of (checkpoint_fields c))) ≡ Some c
unfolding checkpoint_of
checkpoint_back c h =
    let D : Data = object (members_of (checkpoint_fields c)) in
    let is_version : needed as_version (codes "version") D ≡ Some c.version = needed_in as_version (codes "version") (checkpoint_fields c) ∙ version_back c.version h.0 in
    let is_tags : optional as_text_map (codes "tags") D ≡ Some c.tags = optional_in as_text_map (codes "tags") (checkpoint_fields c) ∙ optional_back as_text_map text_map_data c.tags (if_some c.tags map_back h.1) in
    rw (is_version, is_tags) refl

pub sidecar_back : (s : Sidecar) → IsWhole (actions.Sidecar s) → sidecar_of (object (members_of (sidecar_fields s))) ≡ Some s
unfolding sidecar_of
sidecar_back s h =
    let D : Data = object (members_of (sidecar_fields s)) in
    let is_path : needed as_str (codes "path") D ≡ Some s.path = needed_in as_str (codes "path") (sidecar_fields s) in
    let is_size_in_bytes : needed as_amount (codes "sizeInBytes") D ≡ Some s.size_in_bytes = needed_in as_amount (codes "sizeInBytes") (sidecar_fields s) ∙ amount_back s.size_in_bytes h.1 in
    let is_modification_time : optional as_amount (codes "modificationTime") D ≡ Some s.modification_time = optional_in as_amount (codes "modificationTime") (sidecar_fields s) ∙ optional_back as_amount integer_data s.modification_time (if_some s.modification_time amount_back h.2) in
    rw (is_path, h.0.1.named, is_size_in_bytes, is_modification_time) refl
