use Rattle.std.proofs.Common.{◌∙◌, ap, ℕ, List}
use Rattle.std.specs.BTreeMap.{get}
use Rattle.row_base.specs.RowOrder.{row_cmp}
use Rattle.merge_op.specs.Found.{found_under, has_key, met_by}
use Rattle.merge_op.proofs.Keyings.{match_found, match_wide}
use Rattle.merge_op.proofs.matching.match_row.Goals as goal

pub returns-clause-matches : goal.returns-clause-matches
returns-clause-matches c =
    let at = c.in_ok-found.ensures.found ∙ ap (λ (keys : List ℕ). found_under keys c.args.keyed.now c.args.row.now) c.as_slice.ensures in
    record {
      found = match_found c.args.op.now c.args.keyed.now c.args.row.now c.in_ok-found.found at c.requires.keyed;
      wide = match_wide c.args.op.now c.args.keyed.now c.args.row.now c.in_ok-found.found at c.requires.keyed c.requires.bound;
      bound = c.requires.bound;
    }

pub returns-clause-met : goal.returns-clause-met
returns-clause-met c = λ q.
    c.in_ok-found.ensures.met q ∙ ap (λ (keys : List ℕ). met_by (has_key keys q c.args.row.now) (get row_cmp c.args.keyed.now q)) c.as_slice.ensures
