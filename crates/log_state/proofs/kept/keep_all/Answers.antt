use Rattle.std.proofs.Common.{rules, ◌≡◌, ◌∷◌, [], length, map, subst}
use Rattle.log_state.specs.Keys.{with_key}
use Rattle.log_state.specs.Kept.{HasRoom}
use Rattle.log_state.proofs.Steps.{begins, goes_on, goes_to_end, no_items}
use Rattle.log_state.proofs.kept.keep_all.Goals as goal

pub loop-keyed-init : goal.loop-keyed-init
loop-keyed-init c =
    let lines = c.into_iter-keyed-iterator.result.rest.items in
    let is : lines ≡ map with_key c.args.actions.items = search rules in
    let count : c.len.result ≡ length lines = search rules in
    begins c.args.kept.now c.make_room.new.kept c.args.actions.items lines is c.in_ok-make_room.ensures.same (subst (λ n. HasRoom n c.make_room.new.kept) count c.in_ok-make_room.ensures.room)

pub loop-keyed-preserved : goal.loop-keyed-preserved
loop-keyed-preserved c =
    let l = c.loop-keyed in
    let at : l.keyed-iterator.rest.items ≡ c.in-Some.keyed ∷ c.next.new.self.rest.items = search rules in
    goes_on c.args.kept.now l.kept c.args.actions.items c.in-Some.keyed c.next.new.self.rest.items l.keyed-iterator.rest.items at l.invariant c.keep.new.kept c.keep.ensures.keeps c.keep.ensures.room

pub returns-clause-ok : goal.returns-clause-ok
returns-clause-ok c =
    let l = c.loop-keyed in
    let none : length l.keyed-iterator.rest.items ≡ 0 = search rules in
    let at : l.keyed-iterator.rest.items ≡ [] = no_items l.keyed-iterator.rest.items none in
    goes_to_end c.args.kept.now l.kept c.args.actions.items l.keyed-iterator.rest.items at l.invariant
