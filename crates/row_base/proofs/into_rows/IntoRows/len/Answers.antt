use Rattle.std.proofs.Common.{rules}
use Rattle.row_base.proofs.RowEndLemmas.{length_rows_from}
use Rattle.row_base.proofs.into_rows.IntoRows.len.Goals as goal

pub returns : goal.returns
returns c = rw (← c.self.view_is, length_rows_from c.self.inside.at c.self.inside.ends.items c.self.inside.rest.items) (search rules)
