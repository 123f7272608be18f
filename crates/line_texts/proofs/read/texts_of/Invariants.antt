-- What was read, before what the rest reads as, is what the line reads as.
use Rattle.std.proofs.Common.{◌≡◌, ◌++◌, length, option_map}
use Rattle.line_texts.specs.Pieces.{pieces, each}
use Rattle.line_texts.specs.Texts.{text_of_utf8}
use Rattle.line_texts.proofs.read.texts_of.Given as goal

abbrev pub invariant-words : goal.invariant-words
invariant-words l = option_map (λ ys. l.names.items ++ ys) (each text_of_utf8 (pieces 32 l.rest)) ≡ each text_of_utf8 (pieces 32 l.line)

abbrev pub decreases-words : goal.decreases-words
decreases-words l = length l.rest
