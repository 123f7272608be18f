use Rattle.txn_machine.proofs.plain.+state_at.Given as goal

abbrev pub decreases-state_at : goal.decreases-state_at
decreases-state_at l = l.version
