use Rattle.std.proofs.Common.{rules, ◌≡◌, ◌∷◌, [], ◌++◌, Some, List, sym, subst}
use Rattle.log_actions.specs.declared.action.Action.{Action}
use Rattle.log_state.specs.Stamps.{stamp_in, stamp_after}
use Rattle.log_state.specs.Kept.{table_at, IsState}
use Rattle.log_state.specs.Table.{Table, applied, IsApplied, IsTableOf, next_version}
use Rattle.log_state.proofs.Owns.{next_state, same_state}
use Rattle.log_state.proofs.Tables.{applies, is_applied, reconciles}
use Rattle.log_state.proofs.state.State.apply.Goals as goal

pub returns-clause-each : goal.returns-clause-each
returns-clause-each c =
    let s = c.self.inside in
    let actions = c.args.actions.items in
    let stamp = c.stamp_after-stamp.result in
    let new = c.keep_all.new.kept in
    let at : stamp ≡ stamp_after s.stamp (stamp_in actions) = search rules in
    subst (λ (t : Table). IsApplied t c.args.version actions (table_at (Some c.args.version) (Some stamp) new)) c.self.view_is
    (is_applied s.version s.stamp s.kept new c.args.version stamp actions at c.in_ok-keep_all.ensures.ok)

pub returns-clause-table : goal.returns-clause-table
returns-clause-table c =
    let s = c.self.inside in
    let actions = c.args.actions.items in
    let stamp = c.stamp_after-stamp.result in
    let new = c.keep_all.new.kept in
    let at : stamp ≡ stamp_after s.stamp (stamp_in actions) = search rules in
    subst (λ (t : Table). table_at (Some c.args.version) (Some stamp) new ≡ applied t c.args.version actions) c.self.view_is
    (applies s.version s.stamp s.kept new c.args.version stamp actions at c.in_ok-keep_all.ensures.ok)

pub returns-clause-reconciled : goal.returns-clause-reconciled
returns-clause-reconciled c =
    let s = c.self.inside in
    let actions = c.args.actions.items in
    let stamp = c.stamp_after-stamp.result in
    let new = c.keep_all.new.kept in
    let at : stamp ≡ stamp_after s.stamp (stamp_in actions) = search rules in
    let next : c.args.version ≡ next_version s.version = subst (λ (t : Table). c.args.version ≡ next_version t.version) (sym c.self.view_is) c.requires.next in
    subst (λ (t : Table). (commits : List (List Action)) → IsTableOf commits t → IsTableOf (commits ++ actions ∷ []) (table_at (Some c.args.version) (Some stamp) new)) c.self.view_is
    (reconciles s.version s.stamp s.kept new c.args.version stamp actions next at c.in_ok-keep_all.ensures.ok)

pub invariant_of-self : goal.invariant_of-self
invariant_of-self c = let s = c.self.inside in same_state s.version s.stamp s.kept c.keep_all.new.kept c.self.invariant c.in_err-keep_all.ensures.err

pub invariant_of-self-2 : goal.invariant_of-self-2
invariant_of-self-2 c =
    let s = c.self.inside in
    let said = c.stamp_in.result in
    let stamp = c.stamp_after-stamp.result in
    let new = c.keep_all.new.kept in
    let at : stamp ≡ stamp_after s.stamp said = search rules in
    let next : c.args.version ≡ next_version s.version = subst (λ (t : Table). c.args.version ≡ next_version t.version) (sym c.self.view_is) c.requires.next in
    subst (λ n. IsState (Some c.args.version) (Some n) new) (sym at) (next_state s.version s.stamp said s.kept new c.args.version c.args.actions.items c.self.invariant c.stamp_in.ensures.small next c.requires.few c.in_ok-keep_all.ensures.ok)
