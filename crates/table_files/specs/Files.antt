-- Data files as a table has them, and the lines of commits that name them (PROTOCOL.md, "Add File and Remove File").
use Rattle.std.specs.Prelude.{ℕ, Bool, List, Option}
use Rattle.json_lines.specs.Kinds.{TextEntry, NullableEntry}
use Rattle.log_actions.specs.declared.action.AddFile.{AddFile}
use Rattle.log_actions.specs.declared.action.RemoveFile.{RemoveFile}

-- a data file as its newest add names it; whether that add changed rows is said by the line
pub record File : Type 0 where
  pub path : List ℕ
  pub name : List ℕ
  pub values : List NullableEntry
  pub size : ℕ
  pub made : ℕ
  pub stats : Option (List ℕ)
  pub tags : Option (List TextEntry)

-- a file that was taken out, and when
pub record Tombstone : Type 0 where
  pub path : List ℕ
  pub name : List ℕ
  pub stamp : ℕ

-- a line takes a file out of the table or puts one in, and says whether it changes rows
pub data FileLine : Type 0 where
  Removes : Tombstone → Bool → FileLine
  Adds : File → Bool → FileLine

-- the file that an action adds
abbrev pub file_in : AddFile → File
file_in f = record {
  path = f.path;
  name = f.name;
  values = f.partition_values;
  size = f.size;
  made = f.modification_time;
  stats = f.stats;
  tags = f.tags;
}

-- the file that an action takes out
abbrev pub tombstone_in : RemoveFile → Tombstone
tombstone_in f = record { path = f.path; name = f.name; stamp = f.deletion_timestamp }
