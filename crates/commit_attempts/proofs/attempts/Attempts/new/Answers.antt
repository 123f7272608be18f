use Rattle.std.proofs.Common.{arith, rules, ◌≡◌, ℕ, suc, ◌-◌, [], refl, ap}
use Rattle.commit_attempts.specs.Attempts.{Terms}
use Rattle.commit_attempts.specs.Machine.{first_after}
use Rattle.commit_attempts.proofs.Same.{same_attempts, same_terms}
use Rattle.commit_attempts.proofs.attempts.Attempts.new.Goals as goal

abbrev at_first : ℕ → ℕ → ℕ → Terms
at_first start retention first = record { start = start; retention = retention; first = first }

pub returns-clause-leads : goal.returns-clause-leads
returns-clause-leads g c = λ es o h.
    let made : Terms = at_first c.args.start c.args.retention c.first_after-first.result in
    let told : Terms = at_first c.args.start c.args.retention (first_after c.args.read) in
    let same : made ≡ told = ap (at_first c.args.start c.args.retention) c.first_after-first.ensures in
    let e : suc (c.args.limit - 1) ≡ c.args.limit = omega arith in
    let none : c.new-winners.result.items ≡ [] = search rules in
    same_terms g.J.Judge.bodies g.J.Judge.judges made told c.args.limit c.args.judge [] es o same
    (same_attempts g.J.Judge.bodies g.J.Judge.judges made (suc (c.args.limit - 1)) c.args.limit 0 0 c.new-winners.result.items [] c.args.judge es o e refl none (c.at_clock-ahead.ensures.leads es o h))
