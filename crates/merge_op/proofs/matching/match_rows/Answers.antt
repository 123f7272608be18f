use Rattle.std.proofs.Common.{rules, ◌≡◌, ◌++◌, ◌∷◌, [], length}
use Rattle.op_types.specs.Bound.{is_merge_bound}
use Rattle.dml_ops.proofs.Gathering.{all_step}
use Rattle.merge_op.specs.Found.{has_key}
use Rattle.merge_op.proofs.Keyings.{still_keyed}
use Rattle.merge_op.proofs.FileSteps.{met_row}
use Rattle.merge_op.proofs.Beside.{beside_more, matches_more}
use Rattle.merge_op.proofs.matching.match_rows.Goals as goal

pub loop-row-preserved : goal.loop-row-preserved
loop-row-preserved c =
    let l = c.loop-row in
    let op = c.args.op.now in
    let row = c.in-Some.row.now in
    let at = c.in-Some.ensures.steps in
    let made = c.in_ok-beside.ensures in
    let put : c.push.new.self.items ≡ l.matches.items ++ c.in_ok-beside.beside ∷ [] = search rules in
    record {
      rows = beside_more l.matches.items _ c.in_ok-beside.beside row l.row-iterator c.next.new.self _ put made.row at l.invariant.rows;
      matches = matches_more op l.matches.items _ c.in_ok-beside.beside put made.matches l.invariant.matches;
      met = λ q. met_row (has_key op.keys q) row l.row-iterator c.next.new.self _ _ _ at (made.met q) (l.invariant.met q);
      keyed = still_keyed op.keys op.source l.keyed c.match_row.new.keyed (λ q. has_key op.keys q row) made.met l.invariant.keyed;
      bound = all_step (λ r. is_merge_bound (length r) op) row l.row-iterator c.next.new.self at l.invariant.bound;
    }
