use Rattle.std.proofs.Common.{◌∙◌, ap, sym, not, ◌||◌}
use Rattle.std.specs.List.{list_any}
use Rattle.std.specs.Str.{bytes_eq}
use Rattle.std.specs.Ordering.{nat_cmp, is_eq}
use Rattle.std.specs.Cmp.Lexicographic.{slice_cmp}
use Rattle.std.proofs.lemmas.Map.Text.{is_eq-slice_cmp}
use Rattle.log_actions.proofs.Names.{has_is, or_is}
use Rattle.log_actions.proofs.named.put_name.Goals as goal

pub returns-clause-new : goal.returns-clause-new
returns-clause-new c = c.in_ok-insert.ensures.added ∙ ap not (has_is c.args.name c.args.names.now.keys)

pub returns-clause-has : goal.returns-clause-has
returns-clause-has c = λ q.
    let held = list_any (λ name. is_eq (slice_cmp nat_cmp q name)) c.args.names.now.keys in
    sym (has_is q c.insert.new.self.keys) ∙ c.in_ok-insert.ensures.updates.0 q ∙ or_is (is_eq (slice_cmp nat_cmp c.args.name q)) held
    ∙ ap (λ b. b || held) (is_eq-slice_cmp c.args.name q) ∙ ap (λ b. bytes_eq c.args.name q || b) (has_is q c.args.names.now.keys)
