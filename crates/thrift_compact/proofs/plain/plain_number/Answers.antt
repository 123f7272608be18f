use Rattle.std.proofs.Common.{arith, rules}
use Rattle.std.specs.Int.{w64}
use mir.Val.{SFits}
use Rattle.std.proofs.lemmas.Int.{to_z-of_z}
use Rattle.thrift_compact.proofs.PlainLemmas.{plain_spelled, plain_unspelled, plain_wide}
use Rattle.thrift_compact.proofs.plain.plain_number.Goals as goal

pub returns-in_err-number-clause-none : goal.returns-in_err-number-clause-none
returns-in_err-number-clause-none c =
    rw c.from_residual.ensures (λ text rest number. plain_unspelled c.args.bytes.now text rest number c.in_err-number.ensures.value)

pub returns-then-number-clause-none : goal.returns-then-number-clause-none
returns-then-number-clause-none c = λ text rest number.
    plain_wide c.args.bytes.now text rest number c.in_ok-number.number c.in_ok-number.count c.in_ok-number.ensures.value (omega arith)

pub returns-clause-within : goal.returns-clause-within
returns-clause-within c = (plain_spelled c.args.bytes.now c.in_ok-number.number c.in_ok-number.count c.in_ok-number.ensures.value (omega arith)).1

pub returns-clause-some : goal.returns-clause-some
returns-clause-some c =
    let fits : SFits w64 c.signed.result = search rules in
    rw (to_z-of_z w64 c.signed.result fits, c.signed.ensures)
    (plain_spelled c.args.bytes.now c.in_ok-number.number c.in_ok-number.count c.in_ok-number.ensures.value (omega arith)).0
