-- What was read, before what the rest reads as, is what the line reads as.
use Rattle.std.proofs.Common.{◌≡◌, ◌++◌, length, option_map}
use Rattle.line_texts.specs.Pieces.{pieces, each}
use Rattle.line_texts.specs.Texts.{datum_of_text, row_of_line}
use Rattle.line_texts.proofs.read.row_of.Given as goal

abbrev pub invariant-numbers : goal.invariant-numbers
invariant-numbers l = option_map (λ ys. l.data.items ++ ys) (each datum_of_text (pieces 44 l.rest)) ≡ row_of_line l.line

abbrev pub decreases-numbers : goal.decreases-numbers
decreases-numbers l = length l.rest
