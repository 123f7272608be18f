use Rattle.std.proofs.Common.{length, nat_lt, ◌∙◌, ap}
use Rattle.std.specs.List.{list_all}
use Rattle.dml_ops.proofs.Gathering.{all_step}
use Rattle.merge_op.specs.Found.{found_view, with_row}
use Rattle.merge_op.proofs.Keyings.{keyed_row, unmet_row}
use Rattle.merge_op.proofs.keys.keyed.Goals as goal

pub loop-row-preserved : goal.loop-row-preserved
loop-row-preserved c =
    let l = c.loop-row in
    let at = c.in-Some.ensures.steps in
    let row = c.in-Some.row.now in
    record {
      found = keyed_row c.args.keys.now row c.in_ok-key.key l.row-iterator c.next.new.self c.args.source.now l.keyed c.insert.new.self c.found_with-found.result c.in_ok-key.ensures at
          c.in_ok-insert.ensures.updates.0 (c.found_with-found.ensures.found ∙ ap (λ o. with_row (found_view o) row) c.get.ensures.value) l.invariant.found;
      unmet = unmet_row c.in_ok-key.key l.keyed c.insert.new.self c.found_with-found.result c.found_with-found.ensures.unmet c.in_ok-insert.ensures.updates.0 l.invariant.unmet;
      bound = all_step (λ s. list_all (λ k. nat_lt k (length s)) c.args.keys.now) row l.row-iterator c.next.new.self at l.invariant.bound;
    }
