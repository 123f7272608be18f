use Rattle.std.proofs.Common.{refl, rules}
use Rattle.std.specs.Int.{w16}
use mir.Val.{SFits}
use Rattle.std.proofs.lemmas.Int.{to_z-of_z}
use Rattle.parquet_meta.specs.Written.{element_text}
use Rattle.parquet_meta.proofs.Puts.{before, stopped, when_ok}
use Rattle.parquet_meta.proofs.written.write_element.Goals as goal

pub returns : goal.returns
unfolding element_text
returns c =
    let l3 : SFits w16 c.in_ok-last-4.last = search rules in
    let l2 : SFits w16 c.in_ok-last-3.last = search rules in
    let l1 : SFits w16 c.in_ok-last-2.last = search rules in
    let l0 : SFits w16 c.in_ok-last.last = search rules in
    when_ok c.stop.result (λ e.
    before _ _ _ _ _ _ _ _ _ c.in_ok-last.ensures refl (to_z-of_z w16 c.in_ok-last.last l0)
    (before _ _ _ _ _ _ _ _ _ c.in_ok-last-2.ensures refl (to_z-of_z w16 c.in_ok-last-2.last l1)
    (before _ _ _ _ _ _ _ _ _ c.in_ok-last-3.ensures refl (to_z-of_z w16 c.in_ok-last-3.last l2)
    (before _ _ _ _ _ _ _ _ _ c.in_ok-last-4.ensures refl (to_z-of_z w16 c.in_ok-last-4.last l3)
    (before _ _ _ _ _ _ _ _ _ c.in_ok-put_optional.ensures refl refl
    (stopped _ _ _ e))))))
    c.stop.ensures.ok
