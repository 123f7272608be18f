use Rattle.std.proofs.Common.{◌≡◌, w32, ◌∙◌, ap, subst, sym}
use Rattle.std.proofs.lemmas.Int.{to_z-of_z}
use Rattle.std.proofs.lemmas.Result.{IfOk-weaker}
use Rattle.row_base.specs.Dates.{date_in, text_of_day, IsDateText}
use Rattle.row_base.proofs.DateLemmas.{is_date_text, number_given_back}
use Rattle.row_base.proofs.date.write_date.Goals as goal

pub returns-clause-date : goal.returns-clause-date
returns-clause-date c =
    let text : c.day_bytes.result ≡ text_of_day c.args.day = c.day_bytes.ensures.value ∙ ap text_of_day (to_z-of_z w32 c.args.day c.ranges.day) in
    IfOk-weaker c.ascii_text.result _ _ (λ t e. subst (λ b. IsDateText b c.args.day) (sym (e ∙ text)) (is_date_text c.args.day c.requires)) c.ascii_text.ensures

pub returns-clause-back : goal.returns-clause-back
returns-clause-back c =
    let text : c.day_bytes.result ≡ text_of_day c.args.day = c.day_bytes.ensures.value ∙ ap text_of_day (to_z-of_z w32 c.args.day c.ranges.day) in
    IfOk-weaker c.ascii_text.result _ _ (λ t e. ap date_in (e ∙ text) ∙ number_given_back c.args.day c.requires) c.ascii_text.ensures
