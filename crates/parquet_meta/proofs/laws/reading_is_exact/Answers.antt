use Rattle.parquet_meta.proofs.ExactFile.{footers_found, footers_taken}
use Rattle.parquet_meta.proofs.ExactHeads.{heads_found, heads_taken}
use Rattle.parquet_meta.proofs.laws.reading_is_exact.Goals as goal

pub returns-clause-footers : goal.returns-clause-footers
returns-clause-footers c = λ file meta. (footers_found file meta, footers_taken file meta)

pub returns-clause-heads : goal.returns-clause-heads
returns-clause-heads c = λ file at page. (heads_found file at page, λ h. heads_taken file at page h.0 h.1 h.2)
