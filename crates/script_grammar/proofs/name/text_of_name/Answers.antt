use Rattle.script_grammar.proofs.Names.{name_is_utf8}
use Rattle.script_grammar.proofs.name.text_of_name.Goals as goal

pub returns-in-Err-clause-err : goal.returns-in-Err-clause-err
returns-in-Err-clause-err c = absurd (c.in-Err.ensures.cases.0 (name_is_utf8 c.args.name.now c.requires))
