use Rattle.std.proofs.Common.{List, map, Bor}
use Rattle.log_state.proofs.InOrder.{lists}
use Rattle.log_state.proofs.listed.listed.Goals as goal

pub returns : goal.returns
returns g c =
    let shown : List (Bor g.row.P.Denot) → List g.row.P.Denot = λ ps. map (λ p. p.now) ps in
    lists g.P.Part.part_of g.P.Part.text_of c.args.kept.now.entries (shown c.in_ok-parts.parts.items) (shown c.in_order.result.items) c.len-count.ensures.unique c.requires c.in_ok-parts.ensures c.in_order.ensures.same c.in_order.ensures.order
