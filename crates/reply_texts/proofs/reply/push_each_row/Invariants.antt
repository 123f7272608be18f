-- What is written, before the rows that are left, is the whole.
use Rattle.std.proofs.Common.{◌≡◌, ◌++◌}
use Rattle.std.specs.List.{flat_map}
use Rattle.reply_texts.specs.Literals.{row_line}
use Rattle.reply_texts.proofs.reply.push_each_row.Given as goal

abbrev pub invariant-loop-row : goal.invariant-loop-row
invariant-loop-row l = l.out ++ flat_map row_line l.row-iterator ≡ l.initial.out ++ flat_map row_line l.rows
