use Rattle.std.proofs.Common.{◌≡◌, ◌+◌, ◌≤◌, length, None}
use Rattle.row_base.specs.declared.limits.TheConstants.{MAX_SESSIONS}
use Rattle.script_forms.specs.declared.place.Place.TheVariants.{Start}
use Rattle.script_forms.specs.Scripts.{pieces, script_from, session_count}
use Rattle.script_forms.proofs.parse.read_script.Given as goal

abbrev pub invariant-loop-rest : goal.invariant-loop-rest
invariant-loop-rest l = record { room : l.number + length l.rest ≤ length l.bytes + 1; sessions : session_count l.place ≤ MAX_SESSIONS; led : script_from l.number l.place (pieces l.rest) ≡ script_from 1 (Start None) (pieces l.bytes) }

abbrev pub decreases-loop-rest : goal.decreases-loop-rest
decreases-loop-rest l = length l.rest
