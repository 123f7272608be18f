use Rattle.std.proofs.Common.{rules}
use Rattle.statement_calls.specs.Answered.{base_of}
use Rattle.txn_machine.proofs.Chain.{then_load}
use Rattle.txn_machine.proofs.machine.LoadStep.begin.Goals as goal

pub returns : goal.returns
returns c =
    let a = c.args in
    let go = c.go.ensures in
    let base = c.make-base.result in
    record {
      ready = go.ready;
      settled = go.settled;
      left = search rules;
      some = go.some;
      may = λ es out h.
          let s = go.may es out h in
          then_load a.plan.tag a.plan.limit out a.statement a.start a.read.version (base_of a.kept a.read.version) base.commits base.spare es c.make-base.ensures.commits c.make-base.ensures.spare (s.0, c.new.ensures.begins es s.0 s.1, s.2);
    }
