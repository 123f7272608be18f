use Rattle.std.proofs.Common.{◌≤◌, sym, subst, ◌∙◌}
use Rattle.row_base.specs.declared.limits.TheConstants.{MAX_SESSIONS}
use Rattle.script_forms.specs.declared.place.Place.{Place}
use Rattle.script_forms.specs.Scripts.{session_count}
use Rattle.script_forms.proofs.Places.{room}
use Rattle.script_forms.proofs.parse.judge_entry.Goals as goal

pub returns-in-Ok-clause-room : goal.returns-in-Ok-clause-room
returns-in-Ok-clause-room c = subst (λ (p : Place). session_count p ≤ MAX_SESSIONS) (sym c.in-Ok.ensures.ok) (room c.args.place c.args.entry c.requires.count (sym c.is_within.ensures ∙ c.if-not-is_within.false))
