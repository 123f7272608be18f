use Rattle.json_lines.proofs.Cuts.{lines_at, lines_none}
use Rattle.json_lines.proofs.line.first_line.Goals as goal

pub returns-in-Some-clause-some : goal.returns-in-Some-clause-some
returns-in-Some-clause-some c = rw (c.around.ensures.front, c.around.ensures.back) (lines_at c.in-Some.at c.args.text.now c.in-Some.ensures)

pub returns-in-None-clause-none : goal.returns-in-None-clause-none
returns-in-None-clause-none c = lines_none c.args.text.now c.in-None.ensures
