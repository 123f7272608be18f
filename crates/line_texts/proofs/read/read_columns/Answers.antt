use Rattle.line_texts.specs.Pieces.{pieces}
use Rattle.line_texts.specs.Texts.{names_of_line, columns_of_text, bad_line_of_columns}
use Rattle.line_texts.proofs.Cuts.{the_only, not_the_only, a_bad_only, no_line}
use Rattle.std.proofs.Common.{◌∙◌, sym}
use Rattle.line_texts.proofs.read.read_columns.Goals as goal

pub returns-then-is_empty : goal.returns-then-is_empty
unfolding columns_of_text
returns-then-is_empty c = the_only names_of_line c.in-Some.line.now c.in-Some.back.now (pieces 10 c.args.text.now) c.in-Some-2.names c.in-Some.ensures.some (sym c.in-Some-2.is ∙ c.in_ok-names-in-Some.ensures) (sym c.if-is_empty.ensures)

pub returns-else-is_empty : goal.returns-else-is_empty
unfolding columns_of_text bad_line_of_columns
returns-else-is_empty c = not_the_only names_of_line c.in-Some.line.now c.in-Some.back.now (pieces 10 c.args.text.now) c.in-Some-2.names c.in-Some.ensures.some (sym c.in-Some-2.is ∙ c.in_ok-names-in-Some.ensures) (sym c.if-is_empty.ensures)

pub returns-in-None-2 : goal.returns-in-None-2
unfolding columns_of_text bad_line_of_columns
returns-in-None-2 c = a_bad_only names_of_line c.in-Some.line.now c.in-Some.back.now (pieces 10 c.args.text.now) c.in-Some.ensures.some (sym c.in-None-2.is ∙ c.in_ok-names-in-Some.ensures)

pub returns-in-None : goal.returns-in-None
unfolding columns_of_text bad_line_of_columns
returns-in-None c = no_line names_of_line c.args.text.now (pieces 10 c.args.text.now) c.in-None.ensures.none
