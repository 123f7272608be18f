use Rattle.std.proofs.Common.{length, None, sym, ◌∙◌, ap}
use Rattle.row_base.specs.Dates.{date_in}
use Rattle.row_base.proofs.DateLemmas.{unread, told_date, told_none}
use Rattle.row_base.proofs.date.read_date.Goals as goal

pub returns-then-bytes-ne-DATE_LEN-clause-value : goal.returns-then-bytes-ne-DATE_LEN-clause-value
returns-then-bytes-ne-DATE_LEN-clause-value c =
    let same = c.as_bytes-bytes.ensures.value ∙ c.as_str.ensures.text in
    sym (unread c.args.text.now (λ long. c.if-bytes-ne-DATE_LEN.true (ap length same ∙ long)))

pub returns-then-bytes-ne-DATE_LEN-clause-none : goal.returns-then-bytes-ne-DATE_LEN-clause-none
returns-then-bytes-ne-DATE_LEN-clause-none c =
    let same = c.as_bytes-bytes.ensures.value ∙ c.as_str.ensures.text in
    told_none c.args.text.now None (sym (unread c.args.text.now (λ long. c.if-bytes-ne-DATE_LEN.true (ap length same ∙ long))))

pub returns-clause-found : goal.returns-clause-found
returns-clause-found c =
    told_date c.args.text.now c.day_in.result (c.day_in.ensures ∙ ap date_in (c.as_bytes-bytes.ensures.value ∙ c.as_str.ensures.text))

pub returns-clause-none : goal.returns-clause-none
returns-clause-none c =
    told_none c.args.text.now c.day_in.result (c.day_in.ensures ∙ ap date_in (c.as_bytes-bytes.ensures.value ∙ c.as_str.ensures.text))
