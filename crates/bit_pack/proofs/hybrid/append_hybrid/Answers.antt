use Rattle.std.proofs.Common.{List, ℕ, ◌++◌, ◌∙◌, ap, sym}
use Rattle.std.proofs.lemmas.List.{append-nil}
use Rattle.std.proofs.lemmas.Result.{on_ok_weaker}
use Rattle.bit_pack.proofs.WriteLemmas.{hybrid_of-none, hybrid_of-run, hybrid_of-stretch}
use Rattle.bit_pack.proofs.hybrid.append_hybrid.Goals as goal

pub returns-then-is_empty : goal.returns-then-is_empty
returns-then-is_empty c =
    sym (ap (λ (bs : List ℕ). c.args.out.now.items ++ bs) (hybrid_of-none c.args.width c.args.values.now (sym c.if-is_empty.ensures)) ∙ append-nil c.args.out.now.items)

pub returns-then-all_equal : goal.returns-then-all_equal
returns-then-all_equal c =
    on_ok_weaker c.write_run.result
    (λ e. e ∙ ap (λ (bs : List ℕ). c.args.out.now.items ++ bs) (sym (hybrid_of-run c.args.width c.args.values.now (sym c.if-is_empty.ensures) (sym c.if-all_equal.ensures))))
    c.write_run.ensures

pub returns-else-all_equal : goal.returns-else-all_equal
returns-else-all_equal c =
    on_ok_weaker c.write_stretch.result
    (λ e. e ∙ ap (λ (bs : List ℕ). c.args.out.now.items ++ bs) (sym (hybrid_of-stretch c.args.width c.args.values.now (sym c.if-is_empty.ensures) (sym c.if-all_equal.ensures))))
    c.write_stretch.ensures
