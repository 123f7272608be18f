use Rattle.std.proofs.Common.{◌∙◌}
use Rattle.parquet_pages.proofs.SetSteps.{place_is}
use Rattle.parquet_pages.proofs.dictionary.place_in.Goals as goal

pub returns-clause-place : goal.returns-clause-place
returns-clause-place c = c.get_index_of.ensures.index ∙ place_is c.args.found.now.keys c.args.value.now
