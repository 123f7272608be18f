-- What is written and told, before what is written and told of the groups that are left, is the whole.
use Rattle.std.proofs.Common.{◌≡◌, ◌++◌, length}
use Rattle.std.specs.List.{All}
use Rattle.row_base.specs.Schema.{FitsSchema}
use Rattle.parquet_plain.specs.Written.{groups_text, group_entries, groups_of}
use Rattle.parquet_plain.proofs.group_writer.append_groups.Given as goal

pub record Kept (l : goal.Live-loop-rest) : Type 0 where
  pub text : l.out.items ++ groups_text l.schema (groups_of l.rest) ≡ l.fn.out.items ++ groups_text l.schema (groups_of l.fn.rows)
  pub entries : l.groups.items ++ group_entries l.schema (length l.out.items) (groups_of l.rest) ≡ group_entries l.schema (length l.fn.out.items) (groups_of l.fn.rows)
  pub fits : All (FitsSchema l.schema) l.rest

abbrev pub invariant-loop-rest : goal.invariant-loop-rest
invariant-loop-rest l = Kept l

abbrev pub decreases-loop-rest : goal.decreases-loop-rest
decreases-loop-rest l = length l.rest
