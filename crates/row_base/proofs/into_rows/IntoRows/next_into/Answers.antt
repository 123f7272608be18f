use Rattle.std.proofs.Common.{rules}
use Rattle.row_base.proofs.RowEndLemmas.{first_row}
use Rattle.row_base.proofs.into_rows.IntoRows.next_into.Goals as goal

pub invariant_of-self : goal.invariant_of-self
invariant_of-self c =
    rw (c.drop_first.ensures, c.move_front.ensures.rest)
    (first_row c.self.inside.at c.in-Some.end.now c.self.inside.ends.items c.self.inside.rest.items (search rules) c.self.invariant).later
