use Rattle.parquet_pages.proofs.SetSteps.{any_is}
use Rattle.parquet_pages.proofs.dictionary.put.Goals as goal

pub returns : goal.returns
returns c = let none = any_is c.args.found.now.keys c.args.value c.requires in rw none at c.in_ok-insert.ensures.keys
