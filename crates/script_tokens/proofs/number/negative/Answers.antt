use Rattle.std.proofs.Common.{ap, ◌∙◌, w64, rules, Some, None}
use Rattle.std.proofs.lemmas.Int.{to_z-of_z}
use mir.Val.{SFits}
use Rattle.row_base.specs.Numbers.{long_in}
use Rattle.script_tokens.proofs.Numbers.{signed_gives, minus_long}
use Rattle.script_tokens.proofs.number.negative.Goals as goal

pub returns-in-Some : goal.returns-in-Some
returns-in-Some c =
    let s : SFits w64 c.in-Some.number = search rules in
    rw (to_z-of_z w64 c.in-Some.number s) (signed_gives c.args.bytes.now c.requires.sign.0 c.behind_sign.result.now c.split_at.result.0.now c.split_at.result.1.now c.digit_run.result (Some c.in-Some.number) c.requires.sign.1 c.behind_sign.ensures c.digit_run.ensures.is c.split_at.ensures.front c.split_at.ensures.back (search rules) c.requires.some (λ ds e d some. c.in-Some.ensures ∙ ap long_in e ∙ minus_long ds d some))

pub returns-in-None : goal.returns-in-None
returns-in-None c = signed_gives c.args.bytes.now c.requires.sign.0 c.behind_sign.result.now c.split_at.result.0.now c.split_at.result.1.now c.digit_run.result None c.requires.sign.1 c.behind_sign.ensures c.digit_run.ensures.is c.split_at.ensures.front c.split_at.ensures.back (search rules) c.requires.some (λ ds e d some. c.in-None.ensures ∙ ap long_in e ∙ minus_long ds d some)
