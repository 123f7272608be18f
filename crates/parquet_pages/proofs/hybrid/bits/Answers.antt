use Rattle.parquet_pages.proofs.Pieces.{unpacked_found, unpacked_short}
use Rattle.parquet_pages.proofs.hybrid.bits.Goals as goal

pub returns-in-Ok : goal.returns-in-Ok
returns-in-Ok c = unpacked_found 1 c.args.count c.args.bytes.now _ c.in-Ok.ensures.ok.all c.in-Ok.ensures.ok.packed

pub returns-in-Err-Short : goal.returns-in-Err-Short
returns-in-Err-Short c = unpacked_short 1 c.args.count c.args.bytes.now (c.in-Err-Short.ensures.short c.in-Err-Short.field-0-is).2
