use Rattle.std.proofs.Common.{Some, arith}
use Rattle.log_state.specs.Table.{IsInRange}
use Rattle.log_state.proofs.Owns.{state_of_parts}
use Rattle.log_state.proofs.Tables.{from_nothing}
use Rattle.log_state.proofs.state.State.of_parts.Goals as goal

pub returns-clause-reconciled : goal.returns-clause-reconciled
returns-clause-reconciled c =
    let k = c.nothing_kept-kept in
    from_nothing k.result c.keep_all.new.kept c.args.actions.items (Some c.args.version) (Some c.args.stamp) k.ensures.protocol k.ensures.meta k.ensures.txns k.ensures.actions c.in_ok-keep_all.ensures.ok

pub invariant_of-result : goal.invariant_of-result
invariant_of-result c =
    let k = c.nothing_kept-kept in
    let range : IsInRange (Some c.args.version) (Some c.args.stamp) = (omega (arith, c.requires), omega (arith, c.requires)) in
    state_of_parts k.result c.keep_all.new.kept c.args.actions.items c.args.version c.args.stamp k.ensures.txns k.ensures.actions c.in_ok-keep_all.ensures.ok range
