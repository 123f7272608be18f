use Rattle.std.proofs.Common.{◌≡◌, ◌≤◌, ◌∙◌, ap, sym, subst, ◌++◌, Some, option_map, arith}
use Rattle.serde_json.specs.Data.{depth}
use Rattle.serde_json.specs.View.{view}
use Rattle.log_actions.specs.Written.{action_data, line_of_data}
use Rattle.log_actions.specs.Whole.{IfReturned}
use Rattle.log_actions.proofs.Floats.{plain_of}
use Rattle.log_actions.proofs.Fitting.{shallow_of}
use Rattle.log_actions.proofs.write.push_action.Goals as goal

pub returns-in_ok-push_line-in-Some-clause-text : goal.returns-in_ok-push_line-in-Some-clause-text
returns-in_ok-push_line-in-Some-clause-text c =
    let is : Some (view c.in-Some.value) ≡ action_data c.args.action.now = sym (ap (option_map view) c.in-Some.is) ∙ c.in_ok-value.ensures in
    c.in_ok-push_line-in-Some.ensures.text (plain_of c.args.action.now (view c.in-Some.value) is) ∙ ap (λ o. c.args.out.now.items ++ line_of_data o) is

pub returns-in_ok-push_line-in-Some-clause-back : goal.returns-in_ok-push_line-in-Some-clause-back
returns-in_ok-push_line-in-Some-clause-back c = λ whole.
    let is : Some (view c.in-Some.value) ≡ action_data c.args.action.now = sym (ap (option_map view) c.in-Some.is) ∙ c.in_ok-value.ensures in
    let shallow : depth (view c.in-Some.value) ≤ 4 = shallow_of c.args.action.now (view c.in-Some.value) is whole in
    subst IfReturned is (c.in_ok-push_line-in-Some.ensures.back (plain_of c.args.action.now (view c.in-Some.value) is) (omega arith))
