use Rattle.std.proofs.Common.{◌++◌, ◌∙◌, List, ap}
use Rattle.row_base.specs.declared.row.Datum.{Datum}
use Rattle.row_kernels.specs.Rows.{row_of}
use Rattle.row_kernels.proofs.Widths.{rows_more}
use Rattle.row_kernels.proofs.rows.rows_of.Goals as goal

pub loop-number-preserved : goal.loop-number-preserved
loop-number-preserved c =
    let loop = c.loop-number in
    let row = c.in_ok-push_data.ensures ∙ ap (λ (ds : List Datum). ds ++ row_of c.args.step loop.number) loop.invariant.empty in
    record {
      rows = c.in_ok-push_from.ensures.ok ∙ rows_more c.args.step loop.number c.push_data.new.row.items loop.rows loop.invariant.rows row;
      empty = c.in_ok-push_from.ensures.empty;
    }
