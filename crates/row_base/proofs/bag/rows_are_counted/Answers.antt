use Rattle.row_base.proofs.Bags.{count_of-append, count_of-without, count_of-filter, count_of-filter_no}
use Rattle.row_base.proofs.bag.rows_are_counted.Goals as goal

pub returns-clause-sum : goal.returns-clause-sum
returns-clause-sum c = count_of-append

pub returns-clause-difference : goal.returns-clause-difference
returns-clause-difference c = count_of-without

pub returns-clause-kept : goal.returns-clause-kept
returns-clause-kept c = count_of-filter

pub returns-clause-dropped : goal.returns-clause-dropped
returns-clause-dropped c = count_of-filter_no
