use Rattle.std.proofs.Common.{sym, ap, ◌∙◌}
use Rattle.script_forms.specs.Places.{placed_from}
use Rattle.script_forms.proofs.ItemLines.{placed_space, placed_step, placed_none, fewer}
use Rattle.script_forms.proofs.items.next.Goals as goal

pub returns-then-starts_space-clause-ok : goal.returns-then-starts_space-clause-ok
returns-then-starts_space-clause-ok c = placed_space c.args.sessions.now c.args.bytes.now (sym c.starts_space.ensures ∙ c.if-starts_space.true) ∙ ap (placed_from c.args.sessions.now) (sym c.split_at.ensures.back)

pub returns-in-Some-clause-ok : goal.returns-in-Some-clause-ok
returns-in-Some-clause-ok c = rw c.place_named-session.ensures (placed_step c.args.sessions.now c.args.bytes.now (c.in-Some.name.now, c.in-Some.form) c.in-Some.after.now (sym c.starts_space.ensures ∙ c.if-starts_space.false) (sym c.in-Some.ensures))

pub returns-in-Some-clause-less : goal.returns-in-Some-clause-less
returns-in-Some-clause-less c = fewer c.args.bytes.now (c.in-Some.name.now, c.in-Some.form) c.in-Some.after.now (sym c.in-Some.ensures)

pub returns-in-None-clause-none : goal.returns-in-None-clause-none
returns-in-None-clause-none c = placed_none c.args.sessions.now c.args.bytes.now c.requires.some (sym c.starts_space.ensures ∙ c.if-starts_space.false) (sym c.in-None.ensures)
