use Rattle.parquet_pages.proofs.PagesRead.{page_found, page_only, dictionary_page_found, dictionary_page_only}
use Rattle.parquet_pages.proofs.laws.pages_are_read.Goals as goal

pub returns-clause-data : goal.returns-clause-data
returns-clause-data c = λ k o page file d vs. (page_only k o page file d vs, page_found k o page file d vs)

pub returns-clause-dictionaries : goal.returns-clause-dictionaries
returns-clause-dictionaries c = λ k page file vs. (dictionary_page_only k page file vs, dictionary_page_found k page file vs)
