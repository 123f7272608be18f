use Rattle.std.proofs.Common.{Bor, IfOk, map, subst}
use Rattle.log_actions.specs.declared.action.AddFile.{AddFile}
use Rattle.log_state.specs.Listed.{AreLive}
use Rattle.log_state.specs.Table.{Table}
use Rattle.log_state.proofs.state.State.files.Goals as goal

pub returns : goal.returns
returns c = subst (λ (t : Table). IfOk c.listed.result (λ files. AreLive t (map (λ (f : Bor AddFile). f.now) files.items))) c.self.view_is c.listed.ensures
