use Rattle.parquet_plain.proofs.FileBack as files
use Rattle.parquet_plain.proofs.laws.files_read_back.Goals as goal

pub returns : goal.returns
returns c = files.files_read_back
