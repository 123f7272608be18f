use Rattle.std.proofs.Common.{◌≡◌, ◌%◌, ◌∙◌, ℕ, List, length, get_or, ap, arith}
use Rattle.std.proofs.lemmas.Result.{IfOk-weaker}
use Rattle.format_kernels.proofs.Rows.{word_here, length-words}
use Rattle.format_kernels.proofs.tables.word_at.Goals as goal

pub bounds-words-state : goal.bounds-words-state
bounds-words-state c =
    let long : length c.args.words.now ≡ 100 = ap (λ (ws : List (List ℕ)). length ws) c.requires ∙ length-words in
    omega (arith, long)

pub returns : goal.returns
returns c =
    let place = c.args.state % 100 in
    let word = c.index-words-state.result in
    IfOk-weaker c.copy.result _ _
    (λ copied e. e ∙ c.index-words-state.is ∙ ap (λ (ws : List (List ℕ)). get_or ws place word) c.requires ∙ word_here place word (omega arith))
    c.copy.ensures
