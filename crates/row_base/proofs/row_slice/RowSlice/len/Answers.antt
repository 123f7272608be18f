use Rattle.std.proofs.Common.{rules}
use Rattle.row_base.proofs.RowEndLemmas.{length_rows_from}
use Rattle.row_base.proofs.row_slice.RowSlice.len.Goals as goal

pub returns : goal.returns
returns c = rw (← c.self.view_is, length_rows_from c.self.inside.at c.self.inside.ends.now c.self.inside.rest.now) (search rules)
