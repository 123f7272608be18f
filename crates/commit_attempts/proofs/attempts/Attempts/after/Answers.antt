use Rattle.commit_attempts.proofs.Same.{leads_at}
use Rattle.commit_attempts.proofs.attempts.Attempts.after.Goals as goal

pub returns-in-Clock-clause-leads : goal.returns-in-Clock-clause-leads
returns-in-Clock-clause-leads g c = leads_at g.J.Judge.bodies g.J.Judge.judges c.args.self.now _ _ c.args.answer c.after_clock.new.self c.after_clock.result.stage c.in-Clock.is c.after_clock.ensures.leads

pub returns-in-Put-clause-leads : goal.returns-in-Put-clause-leads
returns-in-Put-clause-leads g c = leads_at g.J.Judge.bodies g.J.Judge.judges c.args.self.now _ _ c.args.answer c.after_put.new.self c.after_put.result.stage c.in-Put.is c.after_put.ensures.leads

pub returns-in-ReadBack-clause-leads : goal.returns-in-ReadBack-clause-leads
returns-in-ReadBack-clause-leads g c = leads_at g.J.Judge.bodies g.J.Judge.judges c.args.self.now _ _ c.args.answer c.after_read_back.new.self c.after_read_back.result.stage c.in-ReadBack.is c.after_read_back.ensures.leads

pub returns-in-Winner-clause-leads : goal.returns-in-Winner-clause-leads
returns-in-Winner-clause-leads g c = leads_at g.J.Judge.bodies g.J.Judge.judges c.args.self.now _ _ c.args.answer c.after_winner.new.self c.after_winner.result.stage c.in-Winner.is c.after_winner.ensures.leads
