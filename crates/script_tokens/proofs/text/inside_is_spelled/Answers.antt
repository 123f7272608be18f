use Rattle.script_tokens.specs.Quoted.{plain}
use Rattle.script_tokens.proofs.Texts.{passed, inside_again}
use Rattle.script_tokens.proofs.text.inside_is_spelled.Goals as goal

pub returns-clause-found : goal.returns-clause-found
returns-clause-found c = λ bs t rest h. passed plain bs (t, rest) h

pub returns-clause-only : goal.returns-clause-only
returns-clause-only c = inside_again
