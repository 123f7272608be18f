use Rattle.std.proofs.Common.{false}
use Rattle.script_tokens.proofs.Lines.{found, only}
use Rattle.script_tokens.proofs.line.tokens_are_spelled.Goals as goal

pub returns-clause-found : goal.returns-clause-found
returns-clause-found c = found

pub returns-clause-only : goal.returns-clause-only
returns-clause-only c = λ line ts h. only false ts line h
