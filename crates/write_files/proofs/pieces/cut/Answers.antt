use Rattle.std.proofs.Common.{rules, ◌∙◌, sym, arith, length-drop}
use Rattle.write_files.specs.Pieces.{has_values, pieces_in}
use Rattle.write_files.proofs.Lengths.{files_end, groups_step, none_in}
use Rattle.write_files.proofs.pieces.cut.Goals as goal

pub loop-at-preserved : goal.loop-at-preserved
loop-at-preserved c = record {
  few = omega (arith, c.group_len-count.ensures.few, c.loop-at-test.true, length-drop c.loop-at.at c.args.rows.now);
  files =
      groups_step (has_values c.args.schema.now) c.args.rows.now c.loop-at.pieces.items c.push_files.new.pieces.items c.split_at.result.1.now c.split_at-in-loop-at.result.0.now c.loop-at.at c.group_len-count.result
      (search rules) (search rules) c.in_ok-push_files.ensures c.group_len-count.ensures.cut
      ∙ c.loop-at.invariant.files;
}

pub returns : goal.returns
returns c = sym (files_end (has_values c.args.schema.now) c.args.rows.now pieces_in c.loop-at.at c.loop-at.pieces.items c.loop-at-test.false none_in) ∙ c.loop-at.invariant.files
