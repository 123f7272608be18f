use Rattle.table_changes.proofs.Numbers.{numbers_rise}
use Rattle.table_changes.proofs.numbers_rise.Goals as goal

pub returns : goal.returns
returns c = numbers_rise
