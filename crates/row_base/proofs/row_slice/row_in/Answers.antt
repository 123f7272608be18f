use Rattle.std.proofs.Common.{◌≡◌, ◌+◌, length, suc, arith, sym, ap, ◌∙◌, add-one, get_or}
use Rattle.row_base.specs.RowEnds.{place_of_row}
use Rattle.row_base.proofs.RowEndLemmas.{row_past, place_up, row_get}
use Rattle.row_base.proofs.row_slice.row_in.Goals as goal

pub returns-then-i-ends : goal.returns-then-i-ends
returns-then-i-ends c = sym (row_past c.args.i c.args.at c.args.ends.now c.args.rest.now c.if-i-ends.true)

pub overflow_sub-past : goal.overflow_sub-past
overflow_sub-past c =
    let past : c.place_in-past.result ≡ place_of_row c.args.at c.args.ends.now (suc c.args.i)
    = c.place_in-past.ensures.place ∙ ap (place_of_row c.args.at c.args.ends.now) (add-one c.args.i) in
    omega (arith, c.place_in-place.ensures.place, past, place_up c.args.i c.args.at c.args.ends.now (c.args.at + length c.args.rest.now) c.if-i-ends.false c.requires)

pub returns : goal.returns
returns c =
    let past : c.place_in-past.result ≡ get_or c.args.ends.now c.args.i 0
    = c.place_in-past.ensures.place ∙ ap (place_of_row c.args.at c.args.ends.now) (add-one c.args.i) in
    rw (c.split_at-2.ensures.front, c.split_at.ensures.back, past, c.place_in-place.ensures.place)
    (sym (row_get c.args.i c.args.at c.args.ends.now c.args.rest.now (c.args.at + length c.args.rest.now) c.if-i-ends.false c.requires))
