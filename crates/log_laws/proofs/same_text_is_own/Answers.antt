use Rattle.log_laws.proofs.Reading.{same_text_is_own}
use Rattle.log_laws.proofs.same_text_is_own.Goals as goal

pub returns : goal.returns
returns c = same_text_is_own
