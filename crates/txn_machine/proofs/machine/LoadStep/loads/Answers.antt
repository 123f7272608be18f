use Rattle.std.proofs.Common.{rules, ◌≡◌, true, sym, subst, ℕ}
use Rattle.std.specs.Prelude.{nat_lt, Option}
use Rattle.statement_calls.specs.Bounds.{version_limit}
use Rattle.statement_calls.specs.Answered.{Loads}
use Rattle.txn_machine.proofs.Chain.{loads_on}
use Rattle.txn_machine.proofs.machine.LoadStep.loads.Goals as goal

pub returns : goal.returns
returns c =
    let a = c.args in
    let v = c.in-Some.version in
    let read = c.in-Some-make.read.version in
    let begun = c.loads_from.ensures in
    let small : nat_lt v version_limit ≡ true = search rules in
    let same : read ≡ v = search rules in
    record {
      ready = begun.ready;
      settled = begun.settled;
      left = begun.left;
      some = begun.some;
      may = λ es out h.
          subst (λ (n : Option ℕ). Loads a.plan.tag a.plan.limit out a.statement a.start a.listing.now a.kept n es) (sym c.in-Some.is) (loads_on a.plan.tag a.plan.limit out a.statement a.start a.listing.now a.kept v read es small same (begun.may es out h));
    }
