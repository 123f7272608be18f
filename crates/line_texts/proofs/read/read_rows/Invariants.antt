-- The rows that were read, before those that the rest reads as, are those of the text, and so is the first bad line.
use Rattle.std.proofs.Common.{◌≡◌, ◌++◌, length, option_map}
use Rattle.line_texts.specs.Pieces.{pieces, each_line, first_bad}
use Rattle.line_texts.specs.Texts.{row_of_line}
use Rattle.line_texts.proofs.read.read_rows.Given as goal

abbrev pub invariant-lines : goal.invariant-lines
invariant-lines l = record {
  rows : option_map (λ ys. l.rows ++ ys) (each_line row_of_line (pieces 10 l.rest)) ≡ each_line row_of_line (pieces 10 l.text);
  bad : first_bad row_of_line l.line (pieces 10 l.rest) ≡ first_bad row_of_line 1 (pieces 10 l.text);
}

abbrev pub decreases-lines : goal.decreases-lines
decreases-lines l = length l.rest
