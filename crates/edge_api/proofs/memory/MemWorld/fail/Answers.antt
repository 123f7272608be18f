use Rattle.edge_api.proofs.Completions.{completed_after_fault, completion_of}
use Rattle.edge_api.proofs.memory.MemWorld.fail.Goals as goal

pub invariant_of-self : goal.invariant_of-self
invariant_of-self c =
    let e = c.fail_call.ensures in
    completed_after_fault
    (record { journal = _; objects = _; clock = _ })
    (record { journal = c.fail_call.new.journal.items; objects = c.fail_call.new.objects.entries; clock = c.fail_call.new.clock })
    c.args.tag c.args.call c.args.how c.fail_call.result c.self.invariant e.ok e.same_objects e.same_journal e.same_clock

pub returns-clause-completion : goal.returns-clause-completion
returns-clause-completion c = completion_of (invariant_of-self c)
