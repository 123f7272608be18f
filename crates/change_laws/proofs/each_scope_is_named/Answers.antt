use Rattle.change_laws.proofs.Scopes.{scope_is_named}
use Rattle.change_laws.proofs.each_scope_is_named.Goals as goal

pub returns : goal.returns
returns c = scope_is_named
