use Rattle.parquet_plain.proofs.Cells as cells
use Rattle.parquet_plain.proofs.FilesRead as files
use Rattle.parquet_plain.proofs.laws.files_are_read.Goals as goal

pub returns-clause-read : goal.returns-clause-read
returns-clause-read c = files.files_are_read

pub returns-clause-one : goal.returns-clause-one
returns-clause-one c = files.rows_are_one

pub returns-clause-beside : goal.returns-clause-beside
returns-clause-beside c = cells.beside
