use Rattle.std.proofs.Common.{◌≡◌, unsigned_abs, FitsSigned, w16, ◌∙◌, ap, sym, subst, arith}
use Rattle.std.proofs.lemmas.Int.{to_z-of_z}
use Rattle.jiff_core.proofs.SignedLemmas.{signed_arith}
use Rattle.std.specs.Str.{IsAscii}
use Rattle.row_base.specs.Dates.{date_text}
use Rattle.row_base.proofs.DateLemmas.{civil_text, date_ascii}
use Rattle.row_base.proofs.date.civil_bytes.Goals as goal

pub returns-clause-value : goal.returns-clause-value
returns-clause-value c =
    let d = c.args.date in
    let e = civil_text d.year d.month d.day (d.year_in, d.month_in, d.day_in) c.requires in
    let fits : FitsSigned w16 d.year = omega (arith, signed_arith, d.year_in.0, d.year_in.1) in
    let year : c.from-year.result ≡ unsigned_abs d.year = c.from-year.ensures ∙ c.unsigned_abs.ensures.value ∙ ap unsigned_abs (to_z-of_z w16 d.year fits) in
    let month = c.from.ensures in
    let day = c.from-2.ensures in
    c.date_bytes.ensures ∙ (λ i. date_text (year i) (month i) (day i)) ∙ e

pub returns-clause-ascii : goal.returns-clause-ascii
returns-clause-ascii c = subst IsAscii (sym c.date_bytes.ensures) (date_ascii c.from-year.result c.from.result c.from-2.result)
