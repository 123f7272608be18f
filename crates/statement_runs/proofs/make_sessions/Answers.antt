use Rattle.std.proofs.Common.{rules, ◌≡◌, ◌≤◌, [], length, ap, arith}
use Rattle.row_base.specs.declared.limits.TheConstants.{MAX_STATEMENTS}
use Rattle.std.proofs.lemmas.Grind.{common_steps}
use Rattle.std.specs.Prelude.{map}
use Rattle.statement_runs.proofs.Replies.{one_begun, all_begun, all_next}
use Rattle.statement_runs.proofs.make_sessions.Goals as goal

pub loop-statements-preserved : goal.loop-statements-preserved
loop-statements-preserved c =
    let l = c.loop-statements in
    let old = l.statements-iterator.rest.items in
    let rest = c.next.new.self.rest.items in
    record {
      few = search rules;
      short = all_next old rest (λ s. length s.items ≤ MAX_STATEMENTS) (search rules) l.invariant.short;
      made = one_begun c.args.limit l.actor (map (λ s. s.items) old) (map (λ s. s.items) rest) (map (λ s. s.items) c.args.scripts.items) l.sessions.items c.push.new.self.items _ _ c.in_ok-session.ensures (search rules) l.invariant.made c.in_ok-push.ensures.items;
    }

pub returns : goal.returns
returns c =
    let l = c.loop-statements in
    let empty : l.statements-iterator.rest.items ≡ [] = grind (arith, common_steps) in
    all_begun c.args.limit l.actor (map (λ s. s.items) l.statements-iterator.rest.items) (map (λ s. s.items) c.args.scripts.items) l.sessions.items l.invariant.made (ap (map (λ s. s.items)) empty)
