use Rattle.std.proofs.Common.{◌++◌, ◌∙◌, ℕ, List, ap}
use Rattle.row_base.specs.declared.row.Datum.{Datum}
use Rattle.format_kernels.specs.Tables.{row_of}
use Rattle.format_kernels.proofs.Rows.{rows_more}
use Rattle.format_kernels.proofs.States.{state_more}
use Rattle.format_kernels.proofs.tables.rows_of.Goals as goal

pub loop-number-preserved : goal.loop-number-preserved
loop-number-preserved c =
    let loop = c.loop-number in
    let row = c.in_ok-push_data.ensures ∙ ap (λ (ds : List Datum). ds ++ row_of c.args.table loop.number c.next_state-state.result) loop.invariant.empty
    ∙ ap (λ (s : ℕ). row_of c.args.table loop.number s) c.next_state-state.ensures in
    record {
      state = c.next_state-state.ensures ∙ state_more loop.number loop.state loop.invariant.state;
      rows = c.in_ok-push_from.ensures.ok ∙ rows_more c.args.table loop.number loop.state c.push_data.new.row.items loop.rows loop.invariant.rows loop.invariant.state row;
      empty = c.in_ok-push_from.ensures.empty;
    }
