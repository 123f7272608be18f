use Rattle.std.proofs.Common.{◌≡◌, get_or, set, take, sym, ◌∙◌, ap, arith}
use Rattle.row_base.specs.declared.schema.Column.{Column}
use Rattle.row_base.specs.Schema.{settled, settled_datum}
use Rattle.row_base.proofs.RowLemmas.{settled_more, get_or-settled}
use Rattle.row_base.proofs.schema.settle_values.Goals as goal

pub loop-i-preserved : goal.loop-i-preserved
loop-i-preserved c =
    let cs = c.args.columns.now in
    let ds = c.args.values.now in
    let i = c.loop-i.i in
    let column = c.index-columns-i.result in
    let old = c.index-values-i.result in
    let datum_is : get_or c.loop-i.values i old ≡ get_or ds i old = ap (λ xs. get_or xs i old) c.loop-i.invariant ∙ get_or-settled cs ds i old in
    let new_is : c.settle_datum.new.datum ≡ settled_datum (get_or cs i column).kind (get_or ds i old) =
    c.settle_datum.ensures
    ∙ ap (λ (k : Column). settled_datum k.kind (get_or c.loop-i.values i old)) c.index-columns-i.is
    ∙ ap (settled_datum (get_or cs i column).kind) datum_is in
    ap (λ xs. set xs i c.settle_datum.new.datum) c.loop-i.invariant
    ∙ ap (λ d. set (settled (take i cs) ds) i d) new_is
    ∙ sym (settled_more cs ds i column old (omega arith) (omega arith))
