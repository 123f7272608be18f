-- The text is the one that the library's writer gives for the number's bytes.
use Rattle.std.proofs.Common.{◌∙◌, ap}
use Rattle.std.proofs.lemmas.Result.{IfOk-weaker}
use Rattle.uuid.specs.Text.{hyphenated_text, lower}
use Rattle.table_rules.proofs.data.id_text.Goals as goal

pub returns : goal.returns
returns c = IfOk-weaker c.make.result _ _ (λ text e. e ∙ c.encode_lower-text.ensures.text ∙ ap (hyphenated_text lower) (c.hyphenated.ensures ∙ c.from_u128-id.ensures)) c.make.ensures
