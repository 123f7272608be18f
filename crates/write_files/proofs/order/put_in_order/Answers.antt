use Rattle.std.proofs.Common.{rules, ◌≡◌, Bool, List}
use Rattle.std.specs.Ordering.{is_lt}
use Rattle.std.specs.Borrow.{Bor}
use Rattle.std.proofs.lemmas.List.MinMax.{ranks_by}
use Rattle.std.proofs.lemmas.List.Sorted.{IsPermutation-map}
use Rattle.std.proofs.lemmas.Fn.{always_returns_same}
use Rattle.row_base.specs.declared.row.Datum.{Datum}
use Rattle.row_base.specs.RowOrder.{row_eq}
use Rattle.row_base.proofs.SortLemmas.{sorted_map}
use Rattle.write_files.specs.Order.{group_cmp}
use Rattle.write_files.proofs.Ordered.{group_total, in_order_is, then_apart}
use Rattle.write_files.proofs.order.put_in_order.Goals as goal

pub returns : goal.returns
returns c =
    let s = c.args.schema.now in
    let less : List Datum → List Datum → Bool = λ x y. is_lt (group_cmp s x y) in
    let earlier : Bor (List Datum) → Bor (List Datum) → Bool = λ x y. less x.now y.now in
    let total = group_total s in
    in_order_is (group_cmp s) total (then_apart _ _ c.row_order_is_total.ensures.apart) row_eq c.row_order_is_total.ensures.same _ _
    (IsPermutation-map (λ (r : Bor (List Datum)). r.now) c.args.rows.now c.sort_unstable_by.new.self c.sort_unstable_by.ensures.permutation)
    (sorted_map (λ (r : Bor (List Datum)). r.now) less c.sort_unstable_by.new.self
    (c.sort_unstable_by.ensures.sorted earlier (ranks_by total (λ (r : Bor (List Datum)). r.now)) (always_returns_same _ (λ a r. is_lt r ≡ earlier a.0.now a.1.0.now) _ (λ a r f k. search rules))))
