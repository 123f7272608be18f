use Rattle.std.proofs.Common.{rules, ◌≡◌, length, map, Vec, Global}
use Rattle.op_types.specs.declared.statement.Statement.{Statement}
use Rattle.script_text.specs.declared.script.SessionScript.{SessionScript}
use Rattle.script_text.specs.Places.{column_count}
use Rattle.script_runs.proofs.Lists.{few_statements, plain_statements, some_columns, as_many, items_within}
use Rattle.script_runs.proofs.running.run_script.Goals as goal

pub run_program-requires-clause-statements : goal.run_program-requires-clause-statements
run_program-requires-clause-statements g c =
    let vs = c.in_ok-names.field-0.statements.items in
    let same : map (λ (v : Vec Statement Global). v.items) vs ≡ map (λ (s : SessionScript). s.statements) c.args.script.sessions = search rules in
    few_statements (column_count c.args.script.header) c.args.script.sessions vs same c.requires.each

pub run_program-requires-clause-items : goal.run_program-requires-clause-items
run_program-requires-clause-items g c =
    let vs = c.in_ok-names.field-0.statements.items in
    let same : map (λ (v : Vec Statement Global). v.items) vs ≡ map (λ (s : SessionScript). s.statements) c.args.script.sessions = search rules in
    let items : c.as_slice.result.now ≡ c.args.script.items = search rules in
    items_within (length c.args.script.sessions) (length vs) c.args.script.items c.as_slice.result.now (as_many c.args.script.sessions vs same) items c.requires.items

pub run_program-requires-clause-plain : goal.run_program-requires-clause-plain
run_program-requires-clause-plain g c =
    let vs = c.in_ok-names.field-0.statements.items in
    let same : map (λ (v : Vec Statement Global). v.items) vs ≡ map (λ (s : SessionScript). s.statements) c.args.script.sessions = search rules in
    plain_statements (column_count c.args.script.header) (some_columns c.args.script.header c.requires.header) c.args.script.sessions vs same c.requires.each
