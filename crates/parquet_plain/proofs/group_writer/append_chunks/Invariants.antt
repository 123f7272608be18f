-- What is written and told, before what is written and told of the columns that are left, is the whole.
use Rattle.std.proofs.Common.{◌≡◌, ◌++◌, length, drop}
use Rattle.parquet_plain.specs.Written.{chunks_text, chunk_entries}
use Rattle.parquet_plain.proofs.group_writer.append_chunks.Given as goal

pub record Kept (l : goal.Live-loop-i) : Type 0 where
  pub text : l.out.items ++ chunks_text l.schema.partition l.rows l.i (drop l.i l.schema.columns) ≡ l.fn.out.items ++ chunks_text l.schema.partition l.rows 0 l.schema.columns
  pub entries : l.chunks.items ++ chunk_entries l.schema.partition l.rows (length l.out.items) l.i (drop l.i l.schema.columns) ≡ chunk_entries l.schema.partition l.rows (length l.fn.out.items) 0 l.schema.columns

abbrev pub invariant-loop-i : goal.invariant-loop-i
invariant-loop-i l = Kept l
