use Rattle.script_forms.proofs.Fits.{sound_entry}
use Rattle.script_forms.proofs.entry.entry.Goals as goal

pub returns-clause-sound : goal.returns-clause-sound
returns-clause-sound c = sound_entry c.args.place.now c.args.line.now c.entry_at.result c.entry_at.ensures
