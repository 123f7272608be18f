use Rattle.std.proofs.Common.{arith}
use Rattle.std.proofs.lemmas.Grind.{common_steps}
use Rattle.line_texts.specs.Texts.{text_of_rows}
use Rattle.line_texts.proofs.write.write_rows.Goals as goal

pub returns : goal.returns
unfolding text_of_rows
returns c = grind (arith, common_steps)
