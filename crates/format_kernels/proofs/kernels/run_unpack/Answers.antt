use Rattle.std.proofs.Common.{◌≡◌, ◌∙◌, ℕ, List, length, ap, lit≤}
use Rattle.std.proofs.lemmas.Result.{err_from_is_err_and}
use Rattle.bit_pack.specs.Bits.{Packs, Unpacks}
use Rattle.format_kernels.proofs.Checksums.{no_run, one_run}
use Rattle.format_kernels.proofs.Packings.{unpacked_one, pack_fails, unpack_fails}
use Rattle.format_kernels.proofs.States.{length-values_of}
use Rattle.format_kernels.proofs.kernels.run_unpack.Goals as goal

pub returns-in_err-bytes-clause-err : goal.returns-in_err-bytes-clause-err
returns-in_err-bytes-clause-err c =
    let p = err_from_is_err_and c.from_residual-in_err-bytes.result c.from_residual-in_err-bytes.ensures.1 in
    let e = c.in_err-bytes.ensures in
    rw (p.1, p.2) (pack_fails c.args.width 4194304 c.as_slice.result.now c.in_err-bytes.field-0.0 (c.as_slice.ensures.value ∙ c.in_ok-values.ensures) (lit≤ tt) e.width e.count e.short)

pub loop-turn-init : goal.loop-turn-init
loop-turn-init c = no_run c.in_ok-values.values.items

pub returns-in_err-found-clause-err : goal.returns-in_err-found-clause-err
returns-in_err-found-clause-err c =
    let p = err_from_is_err_and c.from_residual-in_err-found.result c.from_residual-in_err-found.ensures.1 in
    let packs : Packs c.args.width c.in_ok-values.values.items c.in_ok-bytes.bytes.items = rw c.as_slice.ensures.value at c.in_ok-bytes.ensures.ok in
    let e = rw c.as_slice-in-loop-turn.ensures.value at c.in_err-found.ensures in
    rw (p.1, p.2) (unpack_fails c.args.width 4194304 c.in_ok-values.values.items c.in_ok-bytes.bytes.items c.in_err-found.field-0.0 c.in_ok-values.ensures (lit≤ tt) packs e.width e.count e.short)

pub loop-turn-preserved : goal.loop-turn-preserved
loop-turn-preserved c =
    let values = c.in_ok-values.values.items in
    let found = c.in_ok-found.found.items in
    let packs : Packs c.args.width values c.in_ok-bytes.bytes.items = rw c.as_slice.ensures.value at c.in_ok-bytes.ensures.ok in
    let unpacks : Unpacks c.args.width c.in_ok-bytes.bytes.items 4194304 found = rw c.as_slice-in-loop-turn.ensures.value at c.in_ok-found.ensures.ok in
    let long : length values ≡ 4194304 = ap (λ (vs : List ℕ). length vs) c.in_ok-values.ensures ∙ length-values_of c.args.width 4194304 in
    let same : found ≡ values = unpacked_one c.args.width 4194304 c.in_ok-bytes.bytes.items values found long packs unpacks in
    one_run values c.as_slice-in-loop-turn-2.result.now c.loop-turn.turn c.loop-turn.sum c.add_value-sum.result c.loop-turn.invariant (c.as_slice-in-loop-turn-2.ensures.value ∙ same) c.add_value-sum.ensures
