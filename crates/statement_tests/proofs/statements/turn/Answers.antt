use Rattle.statement_tests.proofs.statements.turn.Goals as goal

pub returns : goal.returns
returns c = (c.feed.ensures.fed c.args.txn.now c.in-Call.tag c.in-Call.call c.in-Call.ensures.asked.0).2
