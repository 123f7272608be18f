use Rattle.std.proofs.Common.{ap, ◌∙◌, w64, rules, Some, None, drop, take}
use Rattle.std.proofs.lemmas.Int.{to_z-of_z}
use mir.Val.{SFits}
use Rattle.script_tokens.proofs.Numbers.{number_gives, plain_long}
use Rattle.script_tokens.proofs.number.number.Goals as goal

pub returns-in-Some : goal.returns-in-Some
returns-in-Some c =
    let s : SFits w64 c.in-Some.number = search rules in
    rw (to_z-of_z w64 c.in-Some.number s) (number_gives c.args.bytes.now c.split_at.result.0.now c.split_at.result.1.now (Some c.in-Some.number) (c.split_at.ensures.front ∙ ap (λ k. take k c.args.bytes.now) c.digit_run.ensures.is) (c.split_at.ensures.back ∙ ap (λ k. drop k c.args.bytes.now) c.digit_run.ensures.is) (search rules) c.requires (λ d some. c.in-Some.ensures ∙ plain_long c.split_at.result.0.now d some))

pub returns-in-None : goal.returns-in-None
returns-in-None c = number_gives c.args.bytes.now c.split_at.result.0.now c.split_at.result.1.now None (c.split_at.ensures.front ∙ ap (λ k. take k c.args.bytes.now) c.digit_run.ensures.is) (c.split_at.ensures.back ∙ ap (λ k. drop k c.args.bytes.now) c.digit_run.ensures.is) (search rules) c.requires (λ d some. c.in-None.ensures ∙ plain_long c.split_at.result.0.now d some)
