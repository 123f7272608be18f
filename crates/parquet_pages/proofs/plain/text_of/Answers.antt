use Rattle.std.proofs.Common.{arith, ◌∙◌}
use Rattle.parquet_pages.proofs.Texts.{text_taken, text_refused}
use Rattle.parquet_pages.proofs.plain.text_of.Goals as goal

pub returns-in_ok-make-in-Ok : goal.returns-in_ok-make-in-Ok
returns-in_ok-make-in-Ok c =
    text_taken c.args.bytes.now c.in_ok-make-in-Ok.field-0 (omega arith) c.in-Ok.ensures.cases.1 (c.in_ok-make-in-Ok.ensures ∙ c.in-Ok.ensures.cases.0)

pub returns-in-Err : goal.returns-in-Err
returns-in-Err c = text_refused c.args.bytes.now (omega arith) c.in-Err.ensures.cases.0
