use Rattle.std.proofs.Common.{rules}
use Rattle.row_base.proofs.RowEndLemmas.{ends_after, rows_after}
use Rattle.row_base.proofs.rows.Rows.push_copy.Goals as goal

pub invariant_of-self-in-Ok : goal.invariant_of-self-in-Ok
invariant_of-self-in-Ok c =
    rw (c.push_reserved.ensures.items, c.in_ok-reserve.ensures.items, c.in-Ok.ensures.ok)
    (ends_after c.self.inside.ends.items c.self.inside.values.items c.args.row.now c.len.result c.self.invariant (search rules))

pub returns-in-Ok-clause-ok : goal.returns-in-Ok-clause-ok
returns-in-Ok-clause-ok c =
    rw (c.push_reserved.ensures.items, c.in_ok-reserve.ensures.items, c.in-Ok.ensures.ok, ← c.self.view_is)
    (rows_after c.self.inside.ends.items c.self.inside.values.items c.args.row.now c.len.result c.self.invariant (search rules))
