use Rattle.std.proofs.Common.{arith, ◌++◌, ◌<◌, map, refl}
use Rattle.row_base.specs.Columns.{head_or_null}
use Rattle.parquet_plain.specs.Reading.{row_by_row}
use Rattle.parquet_plain.proofs.SideBySide.{row_step}
use Rattle.parquet_plain.proofs.rows.push_rows.Goals as goal

pub loop-row-preserved : goal.loop-row-preserved
loop-row-preserved c =
    let l = c.loop-row in
    let lt : l._row < c.args.count = omega arith in
    row_step (λ q. q.items) c.args.count l._row l.columns c.push_next.new.columns l.rows c.push_next.new.self
    (c.args.rows.now ++ row_by_row c.args.count (map (λ q. q.items) c.args.columns.now)) (map (λ q. head_or_null q.items) l.columns) lt
    refl c.in_ok-push_next.ensures.rest c.in_ok-push_next.ensures.ok l.invariant
