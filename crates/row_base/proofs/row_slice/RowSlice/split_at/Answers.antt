use Rattle.std.proofs.Common.{rules, ◌+◌, length, sym}
use Rattle.row_base.proofs.RowEndLemmas.{ends_front, ends_back, rows_take, rows_drop, count_within}
use Rattle.row_base.proofs.row_slice.RowSlice.split_at.Goals as goal

pub invariant_of-front : goal.invariant_of-front
invariant_of-front c =
    rw (c.split_at.ensures.front, c.split_at-2.ensures.front)
    (ends_front c.args.count c.self.inside.at c.self.inside.ends.now c.self.inside.rest.now c.place_in-place.result (search rules) c.self.invariant
    c.place_in-place.ensures.place c.place_in-place.ensures.from c.place_in-place.ensures.to)

pub invariant_of-back : goal.invariant_of-back
invariant_of-back c =
    rw (c.split_at.ensures.back, c.split_at-2.ensures.back)
    (ends_back c.args.count c.self.inside.at c.self.inside.ends.now c.self.inside.rest.now c.place_in-place.result (search rules) c.self.invariant
    c.place_in-place.ensures.place c.place_in-place.ensures.from c.place_in-place.ensures.to)

pub returns-clause-front : goal.returns-clause-front
returns-clause-front c =
    let a = c.self.inside in
    let le = count_within c.args.count a.at a.ends.now a.rest.now c.args.self.now c.requires c.self.view_is in
    rw (c.split_at.ensures.front, c.split_at-2.ensures.front, c.place_in-place.ensures.place, ← c.self.view_is)
    (sym (rows_take c.args.count a.at a.ends.now a.rest.now (a.at + length a.rest.now) le c.self.invariant))

pub returns-clause-back : goal.returns-clause-back
returns-clause-back c =
    let a = c.self.inside in
    let le = count_within c.args.count a.at a.ends.now a.rest.now c.args.self.now c.requires c.self.view_is in
    rw (c.split_at.ensures.back, c.split_at-2.ensures.back, c.place_in-place.ensures.place, ← c.self.view_is)
    (sym (rows_drop c.args.count a.at a.ends.now a.rest.now (a.at + length a.rest.now) le c.self.invariant))

pub place_in-place-requires-clause-count : goal.place_in-place-requires-clause-count
place_in-place-requires-clause-count c = count_within c.args.count c.self.inside.at c.self.inside.ends.now c.self.inside.rest.now c.args.self.now c.requires c.self.view_is

pub split_at-requires : goal.split_at-requires
split_at-requires c = count_within c.args.count c.self.inside.at c.self.inside.ends.now c.self.inside.rest.now c.args.self.now c.requires c.self.view_is
