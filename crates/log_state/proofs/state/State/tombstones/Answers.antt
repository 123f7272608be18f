use Rattle.std.proofs.Common.{Bor, IfOk, map, subst}
use Rattle.log_actions.specs.declared.action.RemoveFile.{RemoveFile}
use Rattle.log_state.specs.Listed.{AreTombstones}
use Rattle.log_state.specs.Table.{Table}
use Rattle.log_state.proofs.state.State.tombstones.Goals as goal

pub returns : goal.returns
returns c = subst (λ (t : Table). IfOk c.listed.result (λ files. AreTombstones t (map (λ (f : Bor RemoveFile). f.now) files.items))) c.self.view_is c.listed.ensures
