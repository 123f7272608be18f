use Rattle.std.proofs.Common.{rules}
use Rattle.txn_machine.proofs.Chain.{then_append}
use Rattle.txn_machine.proofs.insert.DataStep.begin.Goals as goal

pub returns-in-Ok : goal.returns-in-Ok
returns-in-Ok c =
    let a = c.args in
    let go = c.go.ensures in
    record {
      ready = go.ready;
      settled = go.settled;
      left = search rules;
      some = go.some;
      may = λ es out h.
          let s = go.may es out h in
          then_append a.plan.tag a.plan.limit out a.kept a.start a.read.version a.rows.now c.in-Ok.text c.in-Ok.files.items es (search rules) (search rules) (s.0, c.new.ensures.begins es s.0 s.1, s.2);
    }
