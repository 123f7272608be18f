use Rattle.row_base.proofs.RowEndLemmas.{first_within}
use Rattle.row_base.proofs.row_slice.RowSliceIterator.next.Goals as goal

pub split_at-requires : goal.split_at-requires
split_at-requires c = first_within c.self.inside.at c.in_ok-end.end.now c.in_ok-end.ends.now c.self.inside.ends.now c.self.inside.rest.now c.self.invariant (c.in_ok-end.ensures.cases.0)
