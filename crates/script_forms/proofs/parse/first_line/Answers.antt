use Rattle.script_forms.proofs.Pieces.{cut}
use Rattle.script_forms.proofs.parse.first_line.Goals as goal

pub returns-clause-line : goal.returns-clause-line
returns-clause-line c = rw (c.behind.ensures, c.split_at.ensures.front, c.split_at.ensures.back, c.line_len.ensures.is) (cut c.args.bytes.now c.requires)
