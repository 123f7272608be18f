use Rattle.log_laws.proofs.Reading.{each_plan_fits}
use Rattle.log_laws.proofs.each_plan_fits.Goals as goal

pub returns : goal.returns
returns c = each_plan_fits
