use Rattle.table_changes.proofs.Statements.{making_sound}
use Rattle.table_changes.specs.contracts.making_is_sound.{S-type}
use Rattle.table_changes.proofs.making_is_sound.Goals as goal

pub returns : goal.returns
returns g c = making_sound (S-type g.row.S)
