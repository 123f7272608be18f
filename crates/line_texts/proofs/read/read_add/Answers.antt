use Rattle.line_texts.specs.Pieces.{pieces}
use Rattle.line_texts.specs.Texts.{path_of_line, path_of_text, bad_line_of_path}
use Rattle.line_texts.proofs.Cuts.{the_only, not_the_only, a_bad_only, no_line}
use Rattle.std.proofs.Common.{◌∙◌, sym}
use Rattle.line_texts.proofs.read.read_add.Goals as goal

pub returns-then-is_empty : goal.returns-then-is_empty
unfolding path_of_text
returns-then-is_empty c = the_only path_of_line c.in-Some.line.now c.in-Some.back.now (pieces 10 c.args.text.now) c.in-Some-2.path c.in-Some.ensures.some (sym c.in-Some-2.is ∙ c.in_ok-path-in-Some.ensures) (sym c.if-is_empty.ensures)

pub returns-else-is_empty : goal.returns-else-is_empty
unfolding path_of_text bad_line_of_path
returns-else-is_empty c = not_the_only path_of_line c.in-Some.line.now c.in-Some.back.now (pieces 10 c.args.text.now) c.in-Some-2.path c.in-Some.ensures.some (sym c.in-Some-2.is ∙ c.in_ok-path-in-Some.ensures) (sym c.if-is_empty.ensures)

pub returns-in-None-2 : goal.returns-in-None-2
unfolding path_of_text bad_line_of_path
returns-in-None-2 c = a_bad_only path_of_line c.in-Some.line.now c.in-Some.back.now (pieces 10 c.args.text.now) c.in-Some.ensures.some (sym c.in-None-2.is ∙ c.in_ok-path-in-Some.ensures)

pub returns-in-None : goal.returns-in-None
unfolding path_of_text bad_line_of_path
returns-in-None c = no_line path_of_line c.args.text.now (pieces 10 c.args.text.now) c.in-None.ensures.none
