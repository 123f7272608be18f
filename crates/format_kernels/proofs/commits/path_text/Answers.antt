use Rattle.std.proofs.Common.{◌≡◌, ◌++◌, ◌∙◌, ℕ, List, IfOk, ap, codes}
use Rattle.std.specs.Fmt.{styled_decimal}
use Rattle.std.specs.String.{string_bytes}
use Rattle.std.proofs.lemmas.Result.{IfOk-weaker}
use Rattle.format_kernels.specs.Commits.{five_or_more, path_of}
use Rattle.format_kernels.proofs.Padding.{five_written}
use Rattle.format_kernels.proofs.commits.path_text.Goals as goal

pub returns : goal.returns
unfolding path_of
returns c =
    let number = c.args.number in
    let said : IfOk c.format.result (λ text. string_bytes text
    ≡ codes "part-" ++ (styled_decimal c.laid_out.result number ++ codes "-018bcfe5-6800-8000-8000-000100000001-c000.parquet")) = c.format.ensures.ok in
    let padded : styled_decimal c.laid_out.result number ≡ five_or_more number = ap (λ s. styled_decimal s number) c.laid_out.ensures ∙ five_written number in
    IfOk-weaker c.format.result _ _
    (λ text e. e ∙ ap (λ (digits : List ℕ). codes "part-" ++ (digits ++ codes "-018bcfe5-6800-8000-8000-000100000001-c000.parquet")) padded)
    said
