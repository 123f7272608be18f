use Rattle.std.proofs.Common.{◌≡◌, ◌∙◌, lit≤}
use Rattle.std.proofs.lemmas.Result.{err_from_is_err_and}
use Rattle.bit_pack.specs.Bits.{Packs}
use Rattle.bit_pack.proofs.Wholes.{IsBytes}
use Rattle.format_kernels.specs.Kernels.{packed}
use Rattle.format_kernels.proofs.Checksums.{no_run, one_run}
use Rattle.format_kernels.proofs.Packings.{packed_one, pack_fails}
use Rattle.format_kernels.proofs.kernels.run_pack.Goals as goal

pub loop-turn-init : goal.loop-turn-init
loop-turn-init c = no_run (packed c.args.width c.in_ok-values.values.items)

pub returns-in_err-bytes-clause-err : goal.returns-in_err-bytes-clause-err
returns-in_err-bytes-clause-err c =
    let p = err_from_is_err_and c.from_residual-in_err-bytes.result c.from_residual-in_err-bytes.ensures.1 in
    let e = c.in_err-bytes.ensures in
    rw (p.1, p.2) (pack_fails c.args.width 4194304 c.as_slice.result.now c.in_err-bytes.field-0.0 (c.as_slice.ensures.value ∙ c.in_ok-values.ensures) (lit≤ tt) e.width e.count e.short)

pub loop-turn-preserved : goal.loop-turn-preserved
loop-turn-preserved c =
    let values = c.in_ok-values.values.items in
    let bytes = c.in_ok-bytes.bytes.items in
    let packs : Packs c.args.width values bytes = rw c.as_slice.ensures.value at c.in_ok-bytes.ensures.ok in
    let small : IsBytes bytes = rw c.as_slice-in-loop-turn.ensures.value at c.add_byte-sum.ensures.fit in
    let same : bytes ≡ packed c.args.width values = packed_one c.args.width values bytes small packs in
    one_run (packed c.args.width values) c.as_slice-in-loop-turn.result.now c.loop-turn.turn c.loop-turn.sum c.add_byte-sum.result c.loop-turn.invariant (c.as_slice-in-loop-turn.ensures.value ∙ same) c.add_byte-sum.ensures.sum
