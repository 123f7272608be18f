-- What a made table is.
use Rattle.std.specs.Prelude.{ℕ, List, [], ◌∷◌, Some, None, codes}
use Rattle.json_lines.specs.declared.map.Entry.{Entry}
use Rattle.log_actions.specs.declared.action.MetaData.{MetaData}
use Rattle.log_actions.specs.declared.action.Protocol.{Protocol}

-- the features that readers have to know
unfoldable pub reader_features : List (List ℕ)
reader_features = codes "v2Checkpoint" ∷ []

-- and writers
unfoldable pub writer_features : List (List ℕ)
writer_features = codes "appendOnly" ∷ codes "invariants" ∷ codes "v2Checkpoint" ∷ []

-- version 3 for readers and 7 for writers, with the features of each (PROTOCOL.md, "Table Features")
unfoldable pub made_protocol : Protocol
made_protocol = record {
  min_reader_version = 3;
  min_writer_version = 7;
  reader_features = Some reader_features;
  writer_features = Some writer_features;
}

-- the metadata of a table that is made, with this text of its schema and these properties (PROTOCOL.md, "Change Metadata")
unfoldable pub made_metadata : List ℕ → ℕ → List ℕ → List (List ℕ) → List (Entry (List ℕ)) → MetaData
made_metadata id start schema partition properties = record {
  id = id;
  name = None;
  description = None;
  format = record { provider = codes "parquet"; options = Some [] };
  schema_string = schema;
  partition_columns = partition;
  created_time = Some start;
  configuration = Some properties;
}
