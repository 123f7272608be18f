use Rattle.std.proofs.Common.{arith, ◌<◌, length, drop, rules}
use Rattle.row_base.specs.Columns.{head_or_null}
use Rattle.row_base.proofs.ColumnLemmas.{value_step, column_step, left_step}
use Rattle.row_base.proofs.rows.take_next.Goals as goal

pub loop-column-preserved : goal.loop-column-preserved
loop-column-preserved c =
    let l = c.loop-column in
    let lt : l.column-index < length l.columns = omega arith in
    let lt0 : l.column-index < length c.args.columns.now = omega arith in
    record {
      values = value_step (λ q. head_or_null q.items) l.columns c.args.columns.now l.column-index c.column-item.result c.args.values.now.items l.values.items c.push_reserved.new.self.items
          c.next_value.result lt0 l.invariant.same c.column-item.is (cc (c.next_value.ensures.value, c.column-item.is)) l.invariant.values c.push_reserved.ensures.items;
      rest = column_step (λ q. q.items) (λ q. drop 1 q.items) l.columns c.args.columns.now l.column-index c.column-item.result c.next_value.new.values
          lt lt0 l.invariant.same c.column-item.is (cc (c.next_value.ensures.rest, c.column-item.is)) l.invariant.rest;
      same = left_step l.columns c.args.columns.now l.column-index c.next_value.new.values l.invariant.same;
      room = search rules;
    }
