use Rattle.parquet_pages.proofs.Pieces.{hybrid_found, hybrid_short, hybrid_wide, hybrid_large, all_read}
use Rattle.parquet_pages.proofs.hybrid.hybrid.Goals as goal

pub returns-in-Ok-clause-values : goal.returns-in-Ok-clause-values
returns-in-Ok-clause-values c = hybrid_found c.args.width c.args.bytes.now c.args.count _ c.in-Ok.ensures.ok

pub returns-in-Err-Short-clause-values : goal.returns-in-Err-Short-clause-values
returns-in-Err-Short-clause-values c = hybrid_short c.args.width c.args.bytes.now c.args.count (c.in-Err-Short.ensures.short c.in-Err-Short.field-0-is)

pub returns-in-Err-Width-clause-values : goal.returns-in-Err-Width-clause-values
returns-in-Err-Width-clause-values c = hybrid_wide c.args.width c.args.bytes.now c.args.count (c.in-Err-Width.ensures.width c.in-Err-Width.field-0-0 c.in-Err-Width.field-0-is).1

pub returns-in-Err-Count-clause-values : goal.returns-in-Err-Count-clause-values
returns-in-Err-Count-clause-values c = hybrid_large c.args.width c.args.bytes.now c.args.count (c.in-Err-Count.ensures.count c.in-Err-Count.field-0-is)

pub returns-in-Ok-clause-all : goal.returns-in-Ok-clause-all
returns-in-Ok-clause-all c = all_read c.args.width c.args.bytes.now c.args.count _ c.in-Ok.ensures.ok
