use Rattle.std.proofs.Common.{arith, ◌≡◌, suc, ◌+◌, ◌-◌, [], ◌∷◌, ◌++◌}
use Rattle.commit_attempts.specs.Machine.{terms_of}
use Rattle.commit_attempts.proofs.Same.{same_attempts}
use Rattle.commit_attempts.proofs.attempts.Attempts.lost_to.Goals as goal

pub returns-clause-leads : goal.returns-clause-leads
returns-clause-leads g c = λ es o h.
    let before = c.args.self.now in
    same_attempts g.J.Judge.bodies g.J.Judge.judges (terms_of before.progress) (suc (before.progress.left - 1)) before.progress.left (before.progress.lost + 1) (suc before.progress.lost)
    c.push.new.self.items (before.winners.items ++ c.args.winner ∷ []) before.judge es o
    (let e : suc (before.progress.left - 1) ≡ before.progress.left = omega arith in e)
    (let e : before.progress.lost + 1 ≡ suc before.progress.lost = omega arith in e)
    c.in-Ok.ensures.items
    (c.at_clock.ensures.leads es o h)
