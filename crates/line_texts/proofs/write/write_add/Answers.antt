use Rattle.std.proofs.Common.{rules}
use Rattle.line_texts.specs.Texts.{text_of_add}
use Rattle.line_texts.proofs.write.write_add.Goals as goal

pub returns : goal.returns
unfolding text_of_add
returns c = search rules
