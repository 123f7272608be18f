use Rattle.std.proofs.Common.{rules, ◌≡◌, Bool, List}
use Rattle.std.specs.Ordering.{is_lt}
use Rattle.std.specs.Borrow.{Bor}
use Rattle.std.proofs.lemmas.List.MinMax.{ranks_by}
use Rattle.std.proofs.lemmas.List.Sorted.{answers_always, IsPermutation-map}
use Rattle.row_base.specs.declared.row.Datum.{Datum}
use Rattle.row_base.specs.RowOrder.{row_cmp}
use Rattle.row_base.proofs.SortLemmas.{sorted_map}
use Rattle.row_base.proofs.sorting.put_in_order.Goals as goal

abbrev less : List Datum → List Datum → Bool
less x y = is_lt (row_cmp x y)

abbrev earlier : Bor (List Datum) → Bor (List Datum) → Bool
earlier x y = less x.now y.now

pub returns : goal.returns
returns c = record {
  same = IsPermutation-map (λ (r : Bor (List Datum)). r.now) c.args.rows.now c.sort_unstable_by.new.self c.sort_unstable_by.ensures.permutation;
  order = sorted_map (λ (r : Bor (List Datum)). r.now) less c.sort_unstable_by.new.self
      (c.sort_unstable_by.ensures.sorted earlier (ranks_by c.row_order_is_total.ensures.total (λ (r : Bor (List Datum)). r.now)) (answers_always _ (λ a r. is_lt r ≡ earlier a.0.now a.1.0.now) _ (λ f a r q k. search rules)));
}
