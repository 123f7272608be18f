use Rattle.std.proofs.Common.{sym, ◌∙◌}
use Rattle.edge_api.proofs.ObjectLists.{with_object-there}
use Rattle.edge_api.proofs.replay.place_of.Goals as goal

pub returns-in-Equal-clause-place : goal.returns-in-Equal-clause-place
returns-in-Equal-clause-place c o =
    with_object-there c.args.objects.now c.args.name.now o c.loop-i.i c.index-objects-i.result c.loop-i-test.true c.index-objects-i.is (sym c.cmp.ensures ∙ c.in-Equal.is) (c.loop-i.invariant o)
