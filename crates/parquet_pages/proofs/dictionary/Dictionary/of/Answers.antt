use Rattle.parquet_pages.proofs.DictionaryFits.{stand_found, placed_found}
use Rattle.parquet_pages.proofs.dictionary.Dictionary.of.Goals as goal

pub returns-clause-stand : goal.returns-clause-stand
returns-clause-stand c = stand_found c.args.kind c.args.values.now c.in_ok-found.found c.in_ok-found.ensures.dictionary c.requires.stand

pub returns-clause-placed : goal.returns-clause-placed
returns-clause-placed c = placed_found c.args.kind c.args.values.now c.in_ok-found.found c.in_ok-found.ensures.dictionary
