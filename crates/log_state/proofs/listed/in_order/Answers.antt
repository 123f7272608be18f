use Rattle.std.proofs.Common.{rules, ◌≡◌, Bool, Bor}
use Rattle.std.specs.Cmp.Lexicographic.{slice_cmp}
use Rattle.std.specs.Ordering.{is_lt, nat_cmp}
use Rattle.std.proofs.lemmas.Cmp.{nat_list_cmp_total}
use Rattle.std.proofs.lemmas.List.MinMax.{ranks_by}
use Rattle.std.proofs.lemmas.List.Sorted.{answers_always, IsPermutation-map}
use Rattle.log_state.proofs.InOrder.{sorted_map}
use Rattle.log_state.proofs.listed.in_order.Goals as goal

pub returns-clause-same : goal.returns-clause-same
returns-clause-same g c = IsPermutation-map (λ (p : Bor g.row.P.Denot). p.now) c.args.parts.items c.sort_unstable_by.new.self.items c.sort_unstable_by.ensures.permutation

pub returns-clause-order : goal.returns-clause-order
returns-clause-order g c =
    let less : g.row.P.Denot → g.row.P.Denot → Bool = λ x y. is_lt (slice_cmp nat_cmp (g.P.Part.text_of x) (g.P.Part.text_of y)) in
    let earlier : Bor g.row.P.Denot → Bor g.row.P.Denot → Bool = λ x y. less x.now y.now in
    sorted_map (λ (p : Bor g.row.P.Denot). p.now) less c.sort_unstable_by.new.self.items
    (c.sort_unstable_by.ensures.sorted earlier (ranks_by nat_list_cmp_total (λ (p : Bor g.row.P.Denot). g.P.Part.text_of p.now)) (answers_always _ (λ a r. is_lt r ≡ earlier a.0.now a.1.0.now) _ (λ f a r q k. search rules)))
