use Rattle.std.proofs.Common.{◌∙◌, sym}
use Rattle.line_texts.specs.Pieces.{pieces}
use Rattle.line_texts.specs.Texts.{row_of_line, rows_of_text, bad_line_of_rows}
use Rattle.line_texts.proofs.Cuts.{lines_more, lines_bad, bad_more, bad_here, lines_end, lines_open, bad_end}
use Rattle.line_texts.proofs.read.read_rows.Goals as goal

pub returns-in-None : goal.returns-in-None
unfolding rows_of_text bad_line_of_rows
returns-in-None c = (
  lines_bad row_of_line c.in-Some.front.now c.in-Some.back.now (pieces 10 c.lines.rest.now) c.lines.rows _ c.in-Some.ensures.some (sym c.in-None.is ∙ c.in_ok-row.ensures) c.lines.invariant.rows,
  bad_here row_of_line c.lines.line _ c.in-Some.front.now c.in-Some.back.now (pieces 10 c.lines.rest.now) c.in-Some.ensures.some (sym c.in-None.is ∙ c.in_ok-row.ensures) c.lines.invariant.bad,
)

pub lines-preserved : goal.lines-preserved
lines-preserved c = record {
  rows = rw (c.in_ok-push_from-in-Some-2.ensures.ok, c.into_vec.ensures)
      (lines_more row_of_line c.in-Some.front.now c.in-Some.back.now (pieces 10 c.lines.rest.now) c.in-Some-2.row c.lines.rows _ c.in-Some.ensures.some (sym c.in-Some-2.is ∙ c.in_ok-row.ensures) c.lines.invariant.rows);
  bad = rw (c.saturating_add-line.ensures)
      (bad_more row_of_line c.lines.line _ c.in-Some.front.now c.in-Some.back.now (pieces 10 c.lines.rest.now) c.in-Some-2.row c.in-Some.ensures.some (sym c.in-Some-2.is ∙ c.in_ok-row.ensures) c.lines.invariant.bad);
}

pub returns-then-is_empty : goal.returns-then-is_empty
unfolding rows_of_text
returns-then-is_empty c = (lines_end row_of_line c.lines.rest.now (pieces 10 c.lines.rest.now) c.lines.rows _ c.in_default.ensures.none (sym c.if-is_empty.ensures) c.lines.invariant.rows)

pub returns-else-is_empty : goal.returns-else-is_empty
unfolding rows_of_text bad_line_of_rows
returns-else-is_empty c = (
  lines_open row_of_line c.lines.rest.now (pieces 10 c.lines.rest.now) c.lines.rows _ c.in_default.ensures.none (sym c.if-is_empty.ensures) c.lines.invariant.rows,
  bad_end row_of_line c.lines.line _ c.lines.rest.now (pieces 10 c.lines.rest.now) c.in_default.ensures.none c.lines.invariant.bad,
)
