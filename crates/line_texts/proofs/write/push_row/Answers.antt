use Rattle.std.proofs.Common.{◌∷◌, ◌++◌, ap, sym, ◌∙◌, append_assoc}
use Rattle.std.specs.List.{flat_map}
use Rattle.line_texts.specs.Texts.{text_of_datum, text_of_row}
use Rattle.line_texts.proofs.Cuts.{join_map}
use Rattle.line_texts.proofs.write.push_row.Goals as goal

pub returns-in_ok-push_others-in-Some : goal.returns-in_ok-push_others-in-Some
returns-in_ok-push_others-in-Some c =
    c.in_ok-push_others-in-Some.ensures ∙ ap (λ xs. xs ++ flat_map (λ datum. 44 ∷ text_of_datum datum) c.in-Some.others.now) c.in_ok-push_datum-in-Some.ensures
    ∙ append_assoc c.args.text.now.items (text_of_datum c.in-Some.first.now) (flat_map (λ datum. 44 ∷ text_of_datum datum) c.in-Some.others.now)
    ∙ ap (λ xs. c.args.text.now.items ++ xs) (sym (join_map 44 text_of_datum c.in-Some.first.now c.in-Some.others.now) ∙ ap text_of_row (sym c.in-Some.ensures.cases.0))
