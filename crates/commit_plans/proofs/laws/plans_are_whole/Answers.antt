use Rattle.commit_plans.proofs.Parts.{parts_are_whole}
use Rattle.commit_plans.proofs.Wholes.{table_is_whole, insert_is_whole}
use Rattle.commit_plans.proofs.laws.plans_are_whole.Goals as goal

pub returns : goal.returns
returns c = record { table = table_is_whole; insert = insert_is_whole; parts = parts_are_whole }
