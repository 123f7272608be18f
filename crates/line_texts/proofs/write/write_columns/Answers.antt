use Rattle.std.proofs.Common.{◌∷◌, [], ◌++◌, ap, sym, ◌∙◌}
use Rattle.std.specs.Prelude.{codes}
use Rattle.std.specs.List.{flat_map}
use Rattle.line_texts.specs.Texts.{text_of_columns}
use Rattle.line_texts.proofs.Cuts.{join_is}
use Rattle.line_texts.proofs.write.write_columns.Goals as goal

pub returns : goal.returns
unfolding text_of_columns
returns c = c.in_ok-push.ensures.items ∙ ap (λ xs. xs ++ 10 ∷ []) (c.in_ok-push_names.ensures ∙ ap (λ xs. xs ++ flat_map (λ name. 32 ∷ name) c.args.names.now) c.in_ok-text.ensures.items ∙ sym (join_is 32 (codes "columns") c.args.names.now))
