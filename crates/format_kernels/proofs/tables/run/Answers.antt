use Rattle.std.proofs.Common.{◌≡◌, ◌∙◌, List, length, sym, ap, arith}
use Rattle.std.proofs.lemmas.Result.{err_from_is_err_and}
use Rattle.row_base.specs.declared.row.Datum.{Datum}
use Rattle.format_kernels.specs.declared.kernel.Step.{Step}
use Rattle.format_kernels.specs.Tables.{answer_of}
use Rattle.format_kernels.proofs.Rows.{length-rows_of, back_count, read_fails}
use Rattle.format_kernels.proofs.tables.run.Goals as goal

pub returns-in_ok-rows_of-in-Rows-clause-ok : goal.returns-in_ok-rows_of-in-Rows-clause-ok
returns-in_ok-rows_of-in-Rows-clause-ok c =
    let made = c.in_ok-rows_of-in-Rows in
    let long : length made.field-0 ≡ c.args.count = ap (λ (rows : List (List Datum)). length rows) made.ensures ∙ length-rows_of c.args.table c.args.count in
    let asked : answer_of c.args.step c.args.table c.args.count ≡ c.args.count = ap (λ (step : Step). answer_of step c.args.table c.args.count) c.in-Rows.is in
    omega (arith, long, asked, c.len-in-Rows.ensures)

pub returns-in_ok-count_rows-in-Read-clause-ok : goal.returns-in_ok-count_rows-in-Read-clause-ok
returns-in_ok-count_rows-in-Read-clause-ok c =
    let file = c.in_ok-file_of-in-Read.ensures in
    let read = c.in_ok-count_rows-in-Read.ensures.ok in
    let long : length read.0 ≡ c.args.count = back_count c.args.table c.args.count read.0 c.deref-in-Read.result.now (omega arith) file.few
    (c.deref-in-Read.ensures.value ∙ file.text) read.1 in
    let asked : answer_of c.args.step c.args.table c.args.count ≡ c.args.count = ap (λ (step : Step). answer_of step c.args.table c.args.count) c.in-Read.is in
    read.2 ∙ long ∙ sym asked

pub returns-in_err-count_rows-in-Read-clause-err : goal.returns-in_err-count_rows-in-Read-clause-err
returns-in_err-count_rows-in-Read-clause-err c =
    let p = err_from_is_err_and c.from_residual-in_err-count_rows-in-Read.result c.from_residual-in_err-count_rows-in-Read.ensures.1 in
    let file = c.in_ok-file_of-in-Read.ensures in
    rw (p.1, p.2) (read_fails c.args.table c.args.count c.in_err-count_rows-in-Read.field-0.0 c.deref-in-Read.result.now (omega arith) file.few
    (c.deref-in-Read.ensures.value ∙ file.text) c.in_err-count_rows-in-Read.ensures.err)
