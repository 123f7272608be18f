use Rattle.std.proofs.Common.{◌≡◌, ◌∙◌, ap, refl, rules}
use Rattle.std.specs.Prelude.{ℤ, pos}
use Rattle.std.specs.Int.{w16, w64}
use mir.Val.{SFits}
use Rattle.std.proofs.lemmas.Int.{to_z-of_z}
use Rattle.thrift_compact.specs.declared.wire.Wire.TheVariants as wires
use Rattle.thrift_compact.specs.Writing.{number_bytes}
use Rattle.parquet_meta.specs.Written.{always, head_text}
use Rattle.parquet_meta.proofs.Puts.{before, stopped, when_ok}
use Rattle.parquet_meta.proofs.written.write_head.Goals as goal

pub returns : goal.returns
unfolding head_text
returns c =
    let l4 : SFits w16 c.in_ok-last-5.last = search rules in
    let l3 : SFits w16 c.in_ok-last-4.last = search rules in
    let n2 : SFits w64 c.from-2.result = search rules in
    let v2 : c.from-2.result ≡ c.args.head.now.compressed_page_size = search rules in
    let l2 : SFits w16 c.in_ok-last-3.last = search rules in
    let l1 : SFits w16 c.in_ok-last-2.last = search rules in
    let n0 : SFits w64 c.from.result = search rules in
    let v0 : c.from.result ≡ c.args.head.now.page_type = search rules in
    let l0 : SFits w16 c.in_ok-last.last = search rules in
    when_ok c.stop.result (λ e.
    before _ _ _ _ _ _ _ _ _ c.in_ok-last.ensures (ap (λ (k : ℤ). always (pos 1) wires.I32 (number_bytes k)) (to_z-of_z w64 c.from.result n0 ∙ v0)) (to_z-of_z w16 c.in_ok-last.last l0)
    (before _ _ _ _ _ _ _ _ _ c.in_ok-last-2.ensures refl (to_z-of_z w16 c.in_ok-last-2.last l1)
    (before _ _ _ _ _ _ _ _ _ c.in_ok-last-3.ensures (ap (λ (k : ℤ). always (pos 3) wires.I32 (number_bytes k)) (to_z-of_z w64 c.from-2.result n2 ∙ v2)) (to_z-of_z w16 c.in_ok-last-3.last l2)
    (before _ _ _ _ _ _ _ _ _ c.in_ok-last-4.ensures refl (to_z-of_z w16 c.in_ok-last-4.last l3)
    (before _ _ _ _ _ _ _ _ _ c.in_ok-last-5.ensures refl (to_z-of_z w16 c.in_ok-last-5.last l4)
    (before _ _ _ _ _ _ _ _ _ c.in_ok-put_v2.ensures refl refl
    (stopped _ _ _ e)))))))
    c.stop.ensures.ok
