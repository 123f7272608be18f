use Rattle.edge_api.proofs.Completions.{completed_after, completion_of}
use Rattle.edge_api.proofs.memory.MemWorldWorld.call.Goals as goal

pub invariant_of-self : goal.invariant_of-self
invariant_of-self c =
    let e = c.make_call.ensures in
    completed_after _ _ _ _ _ _ c.args.tag c.args.call c.make_call.result c.self.invariant e.answer e.objects e.journal e.clock e.same_objects e.same_journal e.same_clock

pub returns-clause-completion : goal.returns-clause-completion
returns-clause-completion c =
    let e = c.make_call.ensures in
    completion_of
    (completed_after _ _ _ _ _ _ c.args.tag c.args.call c.make_call.result c.self.invariant e.answer e.objects e.journal e.clock e.same_objects e.same_journal e.same_clock)
