use Rattle.std.proofs.Common.{sym, ap, ◌∙◌}
use Rattle.script_tokens.specs.Reading.{lex, token_at}
use Rattle.script_tokens.proofs.Lines.{lex_space, lex_step, lex_none, fewer, err_form}
use Rattle.script_tokens.proofs.line.next.Goals as goal

pub returns-then-starts_space-clause-ok : goal.returns-then-starts_space-clause-ok
returns-then-starts_space-clause-ok c = lex_space c.args.value c.args.bytes.now (sym c.starts_space.ensures ∙ c.if-starts_space.true) ∙ ap (lex c.args.value 0) (sym c.split_at.ensures.back)

pub returns-in-Ok-clause-ok : goal.returns-in-Ok-clause-ok
returns-in-Ok-clause-ok c = lex_step c.args.value c.args.bytes.now c.in-Ok.token c.in-Ok.after.now (sym c.starts_space.ensures ∙ c.if-starts_space.false) c.in-Ok.ensures

pub returns-in-Ok-clause-less : goal.returns-in-Ok-clause-less
returns-in-Ok-clause-less c = fewer c.args.value c.args.bytes.now (c.in-Ok.token, c.in-Ok.after.now) c.in-Ok.ensures

pub returns-in-Err-clause-err : goal.returns-in-Err-clause-err
returns-in-Err-clause-err c = λ e. lex_none c.args.value c.args.bytes.now c.requires (sym c.starts_space.ensures ∙ c.if-starts_space.false) (err_form c.in-Err.error (token_at c.args.value c.args.bytes.now) c.in-Err.ensures e)
