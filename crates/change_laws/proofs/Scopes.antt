-- The predicate of a merge's scope.
use Rattle.std.proofs.Common.{◌≡◌, ℕ, Bool, ◌&&◌, ◌||◌, List, [], ◌∷◌, map, refl, sym, ap, ◌∙◌}
use Rattle.std.specs.Prelude.{Option, Some, None}
use Rattle.std.specs.List.{list_any}
use Rattle.row_base.specs.declared.row.Datum.{Datum}
use Rattle.predicates.specs.Kleene.{kleene_and, kleene_or}
use Rattle.predicates.specs.declared.pred.Op.TheVariants as op
use Rattle.predicates.specs.declared.pred.Pred.{Pred}
use Rattle.predicates.specs.declared.pred.Pred.TheOpen.{Pred-F}
use Rattle.predicates.specs.declared.pred.Pred.TheFolds.{fold-roll-Pred}
use Rattle.predicates.specs.declared.pred.Pred.TheVariants as pred
use Rattle.predicates.specs.declared.truth.Truth.{Truth}
use Rattle.predicates.specs.declared.truth.Truth.TheVariants.{Yes, No, Unknown}
use Rattle.predicates.specs.Truths.{cell, compared, key_in, keys_in, truth_step, truth_of}
use Rattle.op_types.specs.declared.bound.BySource.{BySource}
use Rattle.dml_ops.specs.Changes.{is_yes, passes}
use Rattle.merge_op.specs.Matches.{is_match, key_data}
use Rattle.merge_op.specs.Operations.{passes_by_source}
use Rattle.change_laws.specs.Laws.{EachScopeIsNamed}
use Rattle.change_laws.specs.Operations.{others_scope}

abbrev Row : Type 0
Row = List Datum

yes_and : (s t : Truth) → is_yes (kleene_and s t) ≡ (is_yes s && is_yes t)
yes_and Yes Yes = refl
yes_and Yes No = refl
yes_and Yes Unknown = refl
yes_and No Yes = refl
yes_and No No = refl
yes_and No Unknown = refl
yes_and Unknown Yes = refl
yes_and Unknown No = refl
yes_and Unknown Unknown = refl

yes_or : (s t : Truth) → is_yes (kleene_or s t) ≡ (is_yes s || is_yes t)
yes_or Yes Yes = refl
yes_or Yes No = refl
yes_or Yes Unknown = refl
yes_or No Yes = refl
yes_or No No = refl
yes_or No Unknown = refl
yes_or Unknown Yes = refl
yes_or Unknown No = refl
yes_or Unknown Unknown = refl

-- a key is that of a row that matches
key_is : (x s : Row) (keys : List ℕ) → is_yes (key_in x keys (key_data keys s)) ≡ is_match keys x s
unfolding key_in
key_is x s [] = refl
key_is x s (c ∷ cs) =
    yes_and (compared op.Eq (cell x c) (cell s c)) (key_in x cs (key_data cs s))
    ∙ ap (λ (b : Bool). is_yes (compared op.Eq (cell x c) (cell s c)) && b) (key_is x s cs)

keys_are : (x : Row) (keys : List ℕ) (source : List Row) → is_yes (keys_in x keys (map (key_data keys) source)) ≡ list_any (is_match keys x) source
unfolding keys_in
keys_are x keys [] = refl
keys_are x keys (s ∷ source) =
    yes_or (key_in x keys (key_data keys s)) (keys_in x keys (map (key_data keys) source))
    ∙ ap (λ (b : Bool). b || is_yes (keys_in x keys (map (key_data keys) source))) (key_is x s keys) ∙ ap (λ (b : Bool). is_match keys x s || b) (keys_are x keys source)

either_is : (x : Row) (p q : Pred ℕ) → passes (pred.Either p q) x ≡ (passes p x || passes q x)
either_is x p q = ap (λ (t : Pred ℕ). is_yes (truth_of x t)) (sym (pred.rolls-Either p q)) ∙ ap is_yes (fold-roll-Pred ℕ Truth (truth_step x) (Pred-F.Either p q)) ∙ yes_or (truth_of x p) (truth_of x q)

keys_truth : (x : Row) (keys : List ℕ) (ks : List Row) → passes (pred.Keys keys ks) x ≡ is_yes (keys_in x keys ks)
keys_truth x keys ks = ap (λ (t : Pred ℕ). is_yes (truth_of x t)) (sym (pred.rolls-Keys keys ks)) ∙ ap is_yes (fold-roll-Pred ℕ Truth (truth_step x) (Pred-F.Keys keys ks))

others_pass : (x : Row) (b : Option (BySource ℕ)) → passes (others_scope b) x ≡ passes_by_source b x
others_pass x (Some b) = refl
others_pass x None = ap (λ (t : Pred ℕ). is_yes (truth_of x t)) (sym pred.rolls-Never) ∙ ap is_yes (fold-roll-Pred ℕ Truth (truth_step x) Pred-F.Never)

pub scope_is_named : EachScopeIsNamed
scope_is_named m x =
    either_is x (pred.Keys m.keys (map (key_data m.keys) m.source)) (others_scope m.by_source)
    ∙ ap (λ (b : Bool). b || passes (others_scope m.by_source) x) (keys_truth x m.keys (map (key_data m.keys) m.source) ∙ keys_are x m.keys m.source)
    ∙ ap (λ (b : Bool). list_any (is_match m.keys x) m.source || b) (others_pass x m.by_source)
