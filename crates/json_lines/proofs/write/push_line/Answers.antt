use Rattle.std.proofs.Common.{◌≡◌, ◌∙◌, List, ℕ, Some, None, subst}
use Rattle.std.proofs.lemmas.Bool.{cond-true}
use Rattle.std.proofs.lemmas.Str.{is_utf8-from_IsUtf8}
use Rattle.std.specs.Str.{is_utf8}
use Rattle.serde_json.specs.Read.{read}
use Rattle.serde_json.specs.View.{view}
use Rattle.json_lines.specs.Lines.{value_of_line}
use Rattle.json_lines.proofs.write.push_line.Goals as goal

pub returns-clause-back : goal.returns-clause-back
returns-clause-back c = λ plain shallow.
    let P : List ℕ → Type 0 = λ s. value_of_line s ≡ Some (view c.args.value.now) in
    let items = c.in_ok-line.line.items in
    subst P (c.in_ok-line.ensures.text plain) (cond-true (is_utf8 items) (read items) None (is_utf8-from_IsUtf8 items c.in_ok-line.ensures.utf8) ∙ c.in_ok-line.ensures.reads_back shallow)
