use Rattle.std.proofs.Common.{◌≡◌, IfOk, rules, codes}
use Rattle.std.specs.String.{string_bytes}
use Rattle.std.proofs.lemmas.List.{take_rest}
use Rattle.std.proofs.lemmas.Result.{IfOk-weaker}
use Rattle.workbench.proofs.Hybrids.{too_short, behind}
use Rattle.workbench.proofs.reading.hybrid_text.Goals as goal

pub returns-in_default : goal.returns-in_default
returns-in_default c =
    let said : IfOk c.format.result (λ text. string_bytes text ≡ codes "no width and count") = search rules in
    IfOk-weaker c.format.result _ _ (λ text e. too_short c.args.bytes.now (string_bytes text) c.in_default.len_below e) said

pub returns : goal.returns
returns c =
    let read = rw (take_rest c.args.bytes.now 5, c.from_le_bytes-count.ensures) at c.read_text.ensures in
    IfOk-weaker c.read_text.result _ _ (λ text h. behind c.args.bytes.now (string_bytes text) c.in-len5-up.len_at_least h) read
