use Rattle.std.proofs.Common.{rules, map}
use Rattle.row_base.specs.Columns.{head_or_null}
use Rattle.row_base.proofs.RowEndLemmas.{ends_after, rows_after}
use Rattle.row_base.proofs.rows.Rows.push_next.Goals as goal

pub invariant_of-self-2 : goal.invariant_of-self-2
invariant_of-self-2 c =
    rw (c.push_reserved.ensures.items, c.in_ok-reserve.ensures.items, c.take_next.ensures.values, c.in_ok-reserve-2.ensures.items)
    (ends_after c.self.inside.ends.items c.self.inside.values.items (map (λ q. head_or_null q.items) c.args.columns.now) c.len.result c.self.invariant (search rules))

pub returns-clause-ok : goal.returns-clause-ok
returns-clause-ok c =
    rw (c.push_reserved.ensures.items, c.in_ok-reserve.ensures.items, c.take_next.ensures.values, c.in_ok-reserve-2.ensures.items, ← c.self.view_is)
    (rows_after c.self.inside.ends.items c.self.inside.values.items (map (λ q. head_or_null q.items) c.args.columns.now) c.len.result c.self.invariant (search rules))
