use Rattle.std.proofs.Common.{◌≡◌, ◌∙◌, Bool, true, false, cond, Option, None, refl, rules}
use Rattle.std.proofs.lemmas.Bool.{cond-true}
use Rattle.std.proofs.lemmas.Str.{is_utf8-from_IsUtf8, IsUtf8-from_is_utf8}
use Rattle.std.specs.Str.{is_utf8}
use Rattle.serde_json.specs.Data.{Data}
use Rattle.serde_json.specs.Read.{read}
use Rattle.json_lines.proofs.line.value_of.Goals as goal

no_value : (b : Bool) (r : Option Data) → (b ≡ true → r ≡ None) → cond b r None ≡ None
no_value true r f = f refl
no_value false r f = refl

pub returns-in-Ok : goal.returns-in-Ok
returns-in-Ok c = cond-true (is_utf8 c.args.line.now) (read c.args.line.now) None (is_utf8-from_IsUtf8 c.args.line.now c.in-Ok.ensures.ok.0) ∙ c.in-Ok.ensures.ok.1

pub returns-else-is_memory : goal.returns-else-is_memory
returns-else-is_memory c =
    no_value (is_utf8 c.args.line.now) (read c.args.line.now) (λ h. c.in-Err.ensures.err (λ m. search (rules, m, c.is_memory.ensures, c.if-is_memory.false)) (IsUtf8-from_is_utf8 c.args.line.now h))
