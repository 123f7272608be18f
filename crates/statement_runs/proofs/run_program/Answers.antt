use Rattle.std.proofs.Common.{rules, ap, List, ℕ, ◌∙◌, ◌≡◌, ◌≤◌, ◌<◌, [], ◌∷◌, length, sym, subst}
use Rattle.row_base.specs.declared.limits.TheConstants.{MAX_SESSIONS, MAX_STATEMENTS}
use Rattle.std.specs.Prelude.{map, All}
use Rattle.statement_types.specs.declared.reply.Reply.{Reply}
use Rattle.statement_runs.specs.Run.{first_statements, Runs}
use Rattle.statement_runs.specs.Order.{FollowsItems}
use Rattle.statement_runs.proofs.Order.{seen, replies_seen, start_seen, starts_seen, runs_seen, follows_seen}
use Rattle.statement_runs.proofs.Replies.{given, all_replied, all_ready, all_map, begin_long, length-map}
use Rattle.statement_runs.proofs.run_program.Goals as goal

pub run_all-requires-clause-others : goal.run_all-requires-clause-others
run_all-requires-clause-others g c = all_ready c.args.limit 1 (map (λ s. s.items) c.args.sessions.items) c.in_ok-others.others.items c.in_ok-others.ensures

pub returns-clause-runs : goal.returns-clause-runs
unfolding Runs
returns-clause-runs g c =
    let j = g.W.World.journal in
    let ran = c.run_all in
    let order = ran.ensures.order in
    let news = ran.new.others.items in
    let is : c.give_replies.new.replies.items ≡ given ran.new.first ∷ map given news = search rules in
    all_replied c.args.limit (first_statements c.args.table) (map (λ s. s.items) c.args.sessions.items) (j c.args.world.now) order.middle (j ran.new.world) c.in_ok-first.first ran.new.first c.in_ok-others.others.items news
    c.in_ok-first.ensures c.in_ok-others.ensures ran.ensures.first ran.ensures.first_done ran.ensures.others ran.ensures.others_done ran.ensures.long order.first_alone order.others_turn
    c.give_replies.new.replies.items is

pub returns-clause-follows : goal.returns-clause-follows
unfolding FollowsItems
returns-clause-follows g c =
    let j = g.W.World.journal in
    let ran = c.run_all in
    let order = ran.ensures.order in
    let is : c.give_replies.new.replies.items ≡ given ran.new.first ∷ map given ran.new.others.items = search rules in
    record {
      middle = order.middle;
      first = seen c.in_ok-first.first;
      first_end = seen ran.new.first;
      others = map seen c.in_ok-others.others.items;
      others_end = map seen ran.new.others.items;
      first_starts = start_seen c.args.limit 0 (first_statements c.args.table) c.in_ok-first.first c.in_ok-first.ensures;
      others_start = starts_seen c.args.limit 1 (map (λ s. s.items) c.args.sessions.items) c.in_ok-others.others.items c.in_ok-others.ensures;
      first_runs = runs_seen (j c.args.world.now) order.middle c.in_ok-first.first ran.new.first order.first_runs;
      others_follow = follows_seen c.args.items.now order.middle (j ran.new.world) c.in_ok-others.others.items ran.new.others.items order.others_follow;
      replied = is ∙ ap (λ (rs : List (List Reply)). given ran.new.first ∷ rs) (sym (replies_seen ran.new.others.items));
    }

pub run_all-requires-clause-items : goal.run_all-requires-clause-items
run_all-requires-clause-items g c =
    let same : length c.in_ok-others.others.items ≡ length c.args.sessions.items = begin_long c.args.limit 1 (map (λ s. s.items) c.args.sessions.items) c.in_ok-others.others.items c.in_ok-others.ensures ∙ length-map (λ s. s.items) c.args.sessions.items in
    subst (λ (n : ℕ). All (λ i. (0 < i.actor) × (i.actor ≤ n)) c.args.items.now) (sym same) c.requires.items

pub give_replies-requires : goal.give_replies-requires
give_replies-requires g c =
    let made : length c.in_ok-others.others.items ≡ length c.args.sessions.items = begin_long c.args.limit 1 (map (λ s. s.items) c.args.sessions.items) c.in_ok-others.others.items c.in_ok-others.ensures ∙ length-map (λ s. s.items) c.args.sessions.items in
    let others : length c.run_all.new.others.items ≡ length c.args.sessions.items = c.run_all.ensures.long ∙ made in
    search rules
