use Rattle.std.proofs.Common.{◌≤◌, ap, ◌∙◌, subst, sym, Some}
use Rattle.serde_json.specs.Data.{depth}
use Rattle.serde_json.specs.Read.{max_depth}
use Rattle.serde_json.specs.Written.{has_float, compact_text}
use Rattle.schema_text.specs.SchemaWritten.{schema_data}
use Rattle.schema_text.proofs.SchemaBack.{no_float, shallow, schema_back}
use Rattle.schema_text.proofs.schema_written.write_schema.Goals as goal

pub returns-clause-text : goal.returns-clause-text
returns-clause-text c =
    let e = c.in_ok-value.ensures ∙ ap schema_data c.columns.ensures.value in
    c.in_ok-text.ensures.text (ap has_float e ∙ no_float c.args.schema.now.columns) ∙ ap compact_text e

pub returns-clause-back : goal.returns-clause-back
returns-clause-back c = λ names places.
    let e = c.in_ok-value.ensures ∙ ap schema_data c.columns.ensures.value in
    let s = c.args.schema.now in
    schema_back c.in_ok-text.text s names (c.in_ok-text.ensures.back (subst (λ d. depth d ≤ max_depth) (sym e) (shallow s.columns)) ∙ ap Some e) c.columns.ensures.valid places
