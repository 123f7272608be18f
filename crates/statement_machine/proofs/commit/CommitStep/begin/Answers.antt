use Rattle.std.proofs.Common.{rules, ◌≡◌, Bool, subst}
use Rattle.std.specs.Prelude.{is_none}
use Rattle.commit_attempts.specs.Machine.{first_after}
use Rattle.statement_steps.specs.Answered.{AtCommit}
use Rattle.statement_machine.specs.Machine.{landed_after}
use Rattle.statement_machine.proofs.Chain.{then_commit}
use Rattle.statement_machine.proofs.commit.CommitStep.begin.Goals as goal

pub returns : goal.returns
returns c =
    let a = c.args in
    let go = c.go.ensures in
    let same : c.is_none.result ≡ is_none a.read = search rules in
    record {
      ready = go.ready;
      settled = go.settled;
      left = search rules;
      some = go.some;
      may = λ es out h.
          let s = go.may es out h in
          subst (λ (b : Bool). AtCommit a.plan.tag a.plan.limit out a.kept (record { start = a.start; retention = a.retention; first = first_after a.read }) (record { plan = a.commit; makes_table = b }) (landed_after a.read) es) same
          (then_commit a.plan.tag a.plan.limit out a.kept (record { start = a.start; retention = a.retention; first = first_after a.read }) _ (landed_after a.read) es (s.0, c.new-attempts.ensures.leads es s.0 s.1, s.2));
    }
