use Rattle.parquet_pages.proofs.DictionaryFits.{dictionaries_fit_all}
use Rattle.parquet_pages.proofs.FirstPlaces.{pays_found, pays_not}
use Rattle.parquet_pages.proofs.laws.dictionaries_pay.Goals as goal

pub returns-clause-some : goal.returns-clause-some
returns-clause-some c = pays_found

pub returns-clause-none : goal.returns-clause-none
returns-clause-none c = pays_not

pub returns-clause-fit : goal.returns-clause-fit
returns-clause-fit c = dictionaries_fit_all
