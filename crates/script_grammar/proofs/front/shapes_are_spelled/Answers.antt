use Rattle.script_grammar.proofs.Whole.{whole_is, whole_again}
use Rattle.script_grammar.proofs.front.shapes_are_spelled.Goals as goal

pub returns-clause-found : goal.returns-clause-found
returns-clause-found c = whole_is

pub returns-clause-only : goal.returns-clause-only
returns-clause-only c = whole_again
