use Rattle.row_base.proofs.DateLemmas.{read_is, text_given_back, number_given_back}
use Rattle.row_base.proofs.date.dates_give_back.Goals as goal

pub returns-clause-texts : goal.returns-clause-texts
returns-clause-texts c = λ bytes n e. text_given_back bytes n (read_is bytes n e)

pub returns-clause-numbers : goal.returns-clause-numbers
returns-clause-numbers c = number_given_back
