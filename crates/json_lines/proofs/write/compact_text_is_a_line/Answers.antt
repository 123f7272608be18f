use Rattle.json_lines.proofs.LineEnds.{lines-compact}
use Rattle.json_lines.proofs.write.compact_text_is_a_line.Goals as goal

pub returns : goal.returns
returns c = lines-compact
