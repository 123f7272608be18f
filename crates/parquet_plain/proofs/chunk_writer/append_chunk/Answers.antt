use Rattle.parquet_plain.proofs.Dictionaries.{all_may_stand}
use Rattle.parquet_plain.proofs.chunk_writer.append_chunk.Goals as goal

pub of-requires-clause-stand : goal.of-requires-clause-stand
of-requires-clause-stand c = all_may_stand c.args.column.now.kind c.args.column.now.nullable c.args.values.now c.requires.stand
