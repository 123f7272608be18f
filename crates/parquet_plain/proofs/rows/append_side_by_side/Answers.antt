use Rattle.std.proofs.Common.{rules}
use Rattle.parquet_plain.proofs.SideBySide.{side_by_row}
use Rattle.parquet_plain.proofs.rows.append_side_by_side.Goals as goal

pub returns : goal.returns
returns c =
    let same = side_by_row c.args.count c.args.columns.items in
    let queued = c.in_ok-queues.ensures in
    rw (same, ← queued) (search rules)
