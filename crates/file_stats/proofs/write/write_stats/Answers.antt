use Rattle.std.proofs.Common.{◌≤◌, ap, ◌∙◌, subst, sym, Some}
use Rattle.serde_json.specs.Data.{depth}
use Rattle.serde_json.specs.Read.{max_depth}
use Rattle.serde_json.specs.Written.{has_float, compact_text}
use Rattle.file_stats.proofs.ReadBack.{no_float, shallow, stats_back}
use Rattle.file_stats.proofs.write.write_stats.Goals as goal

pub returns-clause-text : goal.returns-clause-text
returns-clause-text c =
    let e = c.in_ok-value.ensures in
    c.in_ok-text.ensures.text (ap has_float e ∙ no_float c.args.schema.now c.args.stats.now) ∙ ap compact_text e

pub returns-clause-back : goal.returns-clause-back
returns-clause-back c = λ fits.
    let e = c.in_ok-value.ensures in
    let s = c.args.schema.now in
    let st = c.args.stats.now in
    stats_back c.in_ok-text.text s st (c.in_ok-text.ensures.back (subst (λ d. depth d ≤ max_depth) (sym e) (shallow s st)) ∙ ap Some e) c.columns-columns.ensures.valid fits
