use Rattle.std.proofs.Common.{◌≡◌, ◌++◌, map}
use Rattle.script_runs.proofs.running.split.Given as goal

abbrev pub invariant-loop-session : goal.invariant-loop-session
invariant-loop-session l = record {
  names : l.names.items ++ map (λ s. s.name) l.session-iterator.rest.items ≡ map (λ s. s.name) l.fn.sessions.items;
  statements : map (λ s. s.items) l.statements.items ++ map (λ s. s.statements) l.session-iterator.rest.items ≡ map (λ s. s.statements) l.fn.sessions.items;
}
