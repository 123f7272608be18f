-- What is written, before the pages of the values that are left, is the whole.
use Rattle.std.proofs.Common.{◌≡◌, ◌++◌, length}
use Rattle.std.specs.List.{All}
use Rattle.parquet_pages.specs.Written.{CanStand}
use Rattle.parquet_plain.specs.Written.{pages_of, parts_of, page_values_most, AreIn, ArePlaces}
use Rattle.parquet_plain.proofs.page_writer.append_pages.Given as goal

pub record Kept (l : goal.Live-loop-rest) : Type 0 where
  pub text : l.out.items ++ pages_of l.column l.dictionary (parts_of page_values_most l.rest) ≡ l.fn.out.items ++ pages_of l.column l.dictionary (parts_of page_values_most l.values)
  pub stand : All (CanStand l.column.kind l.column.nullable) l.rest
  pub placed : AreIn l.dictionary l.column.nullable l.rest
  pub places : ArePlaces l.dictionary l.rest l.places

abbrev pub invariant-loop-rest : goal.invariant-loop-rest
invariant-loop-rest l = Kept l

abbrev pub decreases-loop-rest : goal.decreases-loop-rest
decreases-loop-rest l = length l.rest
