use Rattle.log_laws.proofs.Reading.{each_version_reads}
use Rattle.log_laws.proofs.each_version_reads.Goals as goal

pub returns : goal.returns
returns c = each_version_reads
