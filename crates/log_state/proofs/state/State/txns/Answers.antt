use Rattle.std.proofs.Common.{Bor, IfOk, map, subst}
use Rattle.std.proofs.lemmas.Result.{IfOk-weaker}
use Rattle.log_actions.specs.declared.action.Txn.{Txn}
use Rattle.log_state.specs.Listed.{AreTxns}
use Rattle.log_state.specs.Table.{Table}
use Rattle.log_state.proofs.InOrder.{whole_lists}
use Rattle.log_state.proofs.state.State.txns.Goals as goal

pub returns : goal.returns
returns c =
    let entries = c.self.inside.kept.txns.entries in
    subst (λ (t : Table). IfOk c.listed.result (λ txns. AreTxns t (map (λ (x : Bor Txn). x.now) txns.items))) c.self.view_is
    (IfOk-weaker c.listed.result _ _ (λ txns h. whole_lists (λ (t : Txn). t.app_id) entries (map (λ (x : Bor Txn). x.now) txns.items) h) c.listed.ensures)
