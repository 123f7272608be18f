use Rattle.std.proofs.Common.{◌≤◌, ◌+◌, ◌++◌, List, length}
use Rattle.row_base.specs.declared.limits.TheConstants.{MAX_STATEMENTS}
use Rattle.std.specs.Prelude.{All, map}
use Rattle.statement_sessions.specs.declared.session.Session.{Session}
use Rattle.statement_runs.specs.Run.{AllBegin}
use Rattle.statement_runs.proofs.make_sessions.Given as goal

-- what goes on with the rest is right for all
abbrev pub invariant-loop-statements : goal.invariant-loop-statements
invariant-loop-statements l = record {
  few : l.actor + length l.statements-iterator.rest.items ≤ 65;
  short : All (λ s. length s.items ≤ MAX_STATEMENTS) l.statements-iterator.rest.items;
  made : (more : List Session) → AllBegin l.limit l.actor (map (λ s. s.items) l.statements-iterator.rest.items) more → AllBegin l.limit 1 (map (λ s. s.items) l.fn.scripts.items) (l.sessions.items ++ more);
}
