-- The files of a scan as they are read, in the words of what they stand for.
use Rattle.std.specs.Prelude.{ℕ, List, Option, Result}
use Rattle.parquet_meta.specs.declared.fault.FileFault.{FileFault}
use Rattle.call_phases.specs.Views.{result_by}
use Rattle.scan.specs.declared.reader.FilesToGet.{FilesToGet}
use Rattle.scan.specs.Files.{Files, next_file, files_left, read_next}

-- what the reader stands for
abbrev pub files_of : FilesToGet → Files
files_of r = record { schema = r.schema; wanted = r.wanted; got = r.got }

-- the same reader with what is known after a body
abbrev pub with_files : FilesToGet → Files → FilesToGet
with_files r f = record { alloc = r.alloc; schema = f.schema; wanted = f.wanted; got = f.got }

abbrev pub wanted_name : FilesToGet → Option (List ℕ)
wanted_name r = next_file (files_of r)

abbrev pub files_left_of : FilesToGet → ℕ
files_left_of r = files_left (files_of r)

abbrev pub after_body : FilesToGet → List ℕ → Result FilesToGet FileFault
after_body r body = result_by (with_files r) (read_next (files_of r) body)
