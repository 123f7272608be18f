use Rattle.parquet_pages.proofs.NullsFound.{null_found}
use Rattle.parquet_pages.proofs.laws.nulls_are_found.Goals as goal

pub returns : goal.returns
returns c = null_found
