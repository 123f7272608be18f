use Rattle.std.proofs.Common.{◌≡◌, ◌≤◌, ◌∙◌, ℕ, List, length, sym, ap, subst, arith}
use Rattle.log_actions.specs.declared.action.Action.{Action}
use Rattle.log_actions.specs.Commit.{max_bytes}
use Rattle.log_actions.specs.Grammar.{Commit}
use Rattle.format_kernels.specs.Commits.{adds}
use Rattle.format_kernels.proofs.Adds.{length-adds}
use Rattle.format_kernels.proofs.commits.run_read.Goals as goal

pub returns-in-Ok-clause-ok : goal.returns-in-Ok-clause-ok
returns-in-Ok-clause-ok c =
    let count = c.args.count in
    let read = c.in-Ok.ensures in
    let back = subst (λ (bs : List ℕ). length bs ≤ max_bytes → Commit bs (adds count)) (sym c.deref.ensures.value) c.in_ok-bytes.ensures.back in
    let same : c.in-Ok.actions.items ≡ adds count = read.only (adds count) (back read.says.short) in
    let long : length c.in-Ok.actions.items ≡ count = ap (λ (all : List Action). length all) same ∙ length-adds count in
    omega (arith, long, c.len.ensures)
