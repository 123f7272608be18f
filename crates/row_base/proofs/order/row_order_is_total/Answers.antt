use Rattle.row_base.specs.RowOrderLaws.{row_cmp_total}
use Rattle.row_base.proofs.RowOrder.{row_apart, row_decides}
use Rattle.row_base.proofs.order.row_order_is_total.Goals as goal

pub returns-clause-total : goal.returns-clause-total
returns-clause-total c = row_cmp_total

pub returns-clause-apart : goal.returns-clause-apart
returns-clause-apart c = row_apart

pub returns-clause-same : goal.returns-clause-same
returns-clause-same c = row_decides
