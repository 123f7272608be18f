use Rattle.std.proofs.Common.{◌≡◌, ◌≤◌, ◌+◌, ◌*◌, Bool, List, length}
use Rattle.row_base.specs.declared.limits.TheConstants.{MAX_STATEMENTS}
use Rattle.std.specs.Prelude.{Some, None, vec_capacity}
use Rattle.statement_types.specs.declared.reply.Reply.{Reply}
use Rattle.call_phases.specs.Phases.{Entries}
use Rattle.statement_steps.specs.Bounds.{most_calls}
use Rattle.statement_machine.specs.Machine.{left_of}
use Rattle.statement_machine.specs.Txn as txn
use Rattle.statement_sessions.specs.Session.{RestBy, later_plans, IsCounted, GoesOnBy}
use Rattle.statement_sessions.proofs.session.Session.settle.Given as goal

abbrev pub invariant-turns : goal.invariant-turns
invariant-turns l = record {
  ready : txn.IsReady l.txn;
  tag : l.txn.tag.actor ≡ l.initial.self.actor;
  actor : l.self.actor ≡ l.initial.self.actor;
  limit : l.self.limit ≡ l.initial.self.limit;
  kill : l.self.kill ≡ l.initial.self.kill;
  current : l.self.current ≡ None;
  room : length l.self.replies.items + 1 + length l.self.later.items ≤ vec_capacity l.self.replies;
  numbers : l.self.next + length l.self.later.items ≤ 1 + MAX_STATEMENTS;
  counted : IsCounted (Some l.txn) (length l.self.replies.items) l.self.next;
  goes_on : GoesOnBy l.initial.txn l.initial.self.replies.items l.txn l.self.replies.items;
  left : length l.self.later.items * (1 + most_calls) + left_of l.txn.stage ≤ length l.initial.self.later.items * (1 + most_calls) + left_of l.initial.txn.stage;
  turns : (killed : Bool) (es : Entries) (all : List Reply) → RestBy killed l.self.replies.items (Some l.txn) (later_plans l.self) es all → RestBy killed l.initial.self.replies.items (Some l.initial.txn) (later_plans l.initial.self) es all;
}

abbrev pub decreases-turns : goal.decreases-turns
decreases-turns l = length l.self.later.items
