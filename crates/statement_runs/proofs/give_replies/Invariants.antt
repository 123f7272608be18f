use Rattle.std.proofs.Common.{◌≡◌, ◌≤◌, ◌+◌, ◌++◌, length, vec_capacity}
use Rattle.std.specs.Prelude.{map}
use Rattle.statement_runs.proofs.give_replies.Given as goal

abbrev pub invariant-loop-session : goal.invariant-loop-session
invariant-loop-session l = record {
  room : length l.replies.items + length l.session-iterator.rest.items ≤ vec_capacity l.replies;
  given : l.replies.items ++ map (λ s. s.replies.items) l.session-iterator.rest.items ≡ l.initial.replies.items ++ map (λ s. s.replies.items) l.fn.sessions.items;
}
