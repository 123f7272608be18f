use Rattle.std.proofs.Common.{arith}
use Rattle.std.proofs.lemmas.List.{take_rest}
use Rattle.thrift_compact.proofs.PlainLemmas.{plain_none, plain_ends, plain_last, plain_inner_none, plain_inner_some, plain_bits, plain_byte}
use Rattle.thrift_compact.proofs.plain.+plain_varint.Goals as goal

pub returns-then-most-eq0-clause-value : goal.returns-then-most-eq0-clause-value
returns-then-most-eq0-clause-value t c = plain_none c.args.most c.args.bytes.now c.if-most-eq0.true

pub returns-in_default-clause-value : goal.returns-in_default-clause-value
returns-in_default-clause-value t c = plain_ends c.args.most c.args.bytes.now (omega arith)

pub returns-then-byte-lt128-clause-value : goal.returns-then-byte-lt128-clause-value
returns-then-byte-lt128-clause-value t c = rw c.from.ensures (plain_last c.args.most c.args.bytes.now (omega arith) (omega arith) (omega arith))

pub returns-then-byte-lt128-clause-small : goal.returns-then-byte-lt128-clause-small
returns-then-byte-lt128-clause-small t c = rw c.from.ensures (plain_byte c.args.most _ (omega arith) (omega arith))

pub returns-in_err-high-clause-value : goal.returns-in_err-high-clause-value
returns-in_err-high-clause-value t c =
    rw c.from_residual.ensures (plain_inner_none c.args.most c.args.bytes.now (omega arith) (omega arith) (omega arith) (rw (take_rest c.args.bytes.now 1) at c.in_err-high.ensures.value))

pub returns-clause-value : goal.returns-clause-value
returns-clause-value t c =
    rw c.from-2.ensures
    (plain_inner_some c.args.most c.args.bytes.now c.in_ok-high.high c.in_ok-high.count (omega arith) (omega arith) (omega arith) (rw (take_rest c.args.bytes.now 1) at c.in_ok-high.ensures.value))

pub returns-clause-small : goal.returns-clause-small
returns-clause-small t c = rw c.from-2.ensures (plain_bits c.args.most _ c.in_ok-high.high (omega arith) c.in_ok-high.ensures.small)
