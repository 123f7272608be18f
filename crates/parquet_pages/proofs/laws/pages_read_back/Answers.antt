use Rattle.parquet_pages.proofs.Returning.{plain_page_back, indexed_page_back, dictionary_back}
use Rattle.parquet_pages.proofs.laws.pages_read_back.Goals as goal

pub returns-clause-plain : goal.returns-clause-plain
returns-clause-plain c = plain_page_back

pub returns-clause-indices : goal.returns-clause-indices
returns-clause-indices c = indexed_page_back

pub returns-clause-dictionaries : goal.returns-clause-dictionaries
returns-clause-dictionaries c = dictionary_back
