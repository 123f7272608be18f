use Rattle.std.proofs.Common.{ap, ◌∙◌, None}
use Rattle.std.proofs.lemmas.Bool.{cond-true}
use Rattle.std.proofs.lemmas.Str.{is_utf8-from_IsUtf8}
use Rattle.std.specs.Str.{is_utf8}
use Rattle.serde_json.specs.Read.{read}
use Rattle.file_stats.proofs.write.text_of.Goals as goal

pub returns-clause-back : goal.returns-clause-back
returns-clause-back c = λ shallow.
    let text = c.in_ok-text.text in
    cond-true (is_utf8 text) (read text) None (is_utf8-from_IsUtf8 text c.as_str-utf8.ensures.utf8) ∙ ap read c.in_ok-text.ensures ∙ c.in_ok-to_string.ensures.reads_back shallow
