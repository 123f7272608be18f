use Rattle.std.proofs.Common.{rules, ◌≡◌, ◌+◌}
use Rattle.txn_machine.specs.Plain.{commit_in}
use Rattle.txn_machine.proofs.Versions.{later_version}
use Rattle.txn_machine.proofs.plain.+state_at.Goals as goal

pub returns-in_ok-state-in-Some : goal.returns-in_ok-state-in-Some
returns-in_ok-state-in-Some t c =
    let is : c.args.version ≡ c.in-Some.before + 1 = search rules in
    let step = later_version (commit_in c.args.commits.now) c.in-Some.before c.args.version is in
    search rules
