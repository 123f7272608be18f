-- The data so far stand behind the text, each behind a comma.
use Rattle.std.proofs.Common.{◌≡◌, ◌∷◌, ◌++◌, take}
use Rattle.std.specs.List.{flat_map}
use Rattle.line_texts.specs.Texts.{text_of_datum}
use Rattle.line_texts.proofs.write.push_others.Given as goal

abbrev pub invariant-loop-datum : goal.invariant-loop-datum
invariant-loop-datum l = l.text.items ≡ l.initial.text.items ++ flat_map (λ datum. 44 ∷ text_of_datum datum) (take l.datum-index l.others)
