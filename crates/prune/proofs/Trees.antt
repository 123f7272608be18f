-- The truth that a row gives is one of those that its file may have.
use Rattle.std.proofs.Common.{◌≡◌, ◌≢◌, slice_index_or, ℕ, true, false, List, [], ◌∷◌, refl, subst}
use Rattle.row_base.specs.declared.row.Datum.{Datum}
use Rattle.predicates.specs.declared.truth.Truth.{Truth}
use Rattle.predicates.specs.declared.truth.Truth.TheVariants.{Yes}
use Rattle.predicates.specs.declared.pred.Op.{Op}
use Rattle.predicates.specs.declared.pred.Op.TheVariants as op
use Rattle.predicates.specs.declared.pred.Operand.{Operand}
use Rattle.predicates.specs.declared.pred.Operand.TheVariants as operand
use Rattle.predicates.specs.declared.pred.Pred.{Pred, map-Pred}
use Rattle.predicates.specs.declared.pred.Pred.TheOpen.{Pred-F}
use Rattle.predicates.specs.declared.pred.Pred.TheViews.{roll-Pred}
use Rattle.predicates.specs.declared.pred.Pred.TheFolds.{fold-roll-Pred, ind-Pred}
use Rattle.predicates.specs.Kleene.{kleene_not, kleene_and, kleene_or}
use Rattle.predicates.specs.Truths.{cell, compared, right_side, key_in, keys_in, truth_step, truth_of}
use Rattle.prune.specs.declared.possible.Possible.{Possible}
use Rattle.prune.specs.declared.column.ColumnFacts.{ColumnFacts}
use Rattle.prune.specs.Sets.{has}
use Rattle.prune.specs.Facts.{facts_at, compared_by, operand_by, key_by, keys_by, possible_step, possible_in}
use Rattle.prune.specs.Laws.{HoldsOfRow, EachTruthIsPossible, NoRowIsLost}
use Rattle.prune.proofs.Sets.{has_image, has_pair}
use Rattle.prune.proofs.Comparisons.{literal_has, two_has, null_has}

operand_has : (fs : List ColumnFacts) (row : List Datum) → HoldsOfRow fs row → (o : Op) (c : ℕ) (r : Operand ℕ) → has (operand_by fs o c r) (compared o (cell row c) (right_side row r)) ≡ true
operand_has fs row h o c (operand.Column d) = two_has (facts_at fs c) (facts_at fs d) o (cell row c) (cell row d) (h c) (h d)
operand_has fs row h o c (operand.Literal x) = literal_has (facts_at fs c) o x (cell row c) (h c)

key_has : (fs : List ColumnFacts) (row : List Datum) → HoldsOfRow fs row → (cs : List ℕ) (ds : List Datum) → has (key_by fs cs ds) (key_in row cs ds) ≡ true
unfolding key_by key_in
key_has fs row h [] ds = refl
key_has fs row h (c ∷ cs) [] = refl
key_has fs row h (c ∷ cs) (d ∷ ds) =
    has_pair kleene_and (compared_by (facts_at fs c) op.Eq d) (key_by fs cs ds) (compared op.Eq (cell row c) d) (key_in row cs ds)
    (literal_has (facts_at fs c) op.Eq d (cell row c) (h c)) (key_has fs row h cs ds)

keys_has : (fs : List ColumnFacts) (row : List Datum) → HoldsOfRow fs row → (cs : List ℕ) (ks : List (List Datum)) → has (keys_by fs cs ks) (keys_in row cs ks) ≡ true
unfolding keys_by keys_in
keys_has fs row h cs [] = refl
keys_has fs row h cs (k ∷ ks) =
    has_pair kleene_or (key_by fs cs k) (keys_by fs cs ks) (key_in row cs k) (keys_in row cs ks) (key_has fs row h cs k) (keys_has fs row h cs ks)

abbrev IsPossible : List ColumnFacts → List Datum → Pred ℕ → Type 0
IsPossible fs row p = has (possible_in fs p) (truth_of row p) ≡ true

-- one level: its parts give possible truths, so it does
rolled : (fs : List ColumnFacts) (row : List Datum) (x : Pred-F ℕ (Pred ℕ)) → has (possible_step fs (map-Pred ℕ (Pred ℕ) Possible (possible_in fs) x)) (truth_step row (map-Pred ℕ (Pred ℕ) Truth (truth_of row) x)) ≡ true → IsPossible fs row (roll-Pred ℕ x)
rolled fs row x h = rw (fold-roll-Pred ℕ Possible (possible_step fs) x, fold-roll-Pred ℕ Truth (truth_step row) x) h

-- y is a level whose parts are trees of which it is known
layer : (fs : List ColumnFacts) (row : List Datum) → HoldsOfRow fs row → {S : Type 0} (tree : S → Pred ℕ) → ((e : S) → IsPossible fs row (tree e)) → (y : Pred-F ℕ S) → IsPossible fs row (roll-Pred ℕ (map-Pred ℕ S (Pred ℕ) tree y))
layer fs row h tree known Pred-F.Always = rolled fs row Pred-F.Always refl
layer fs row h tree known Pred-F.Never = rolled fs row Pred-F.Never refl
layer fs row h tree known (Pred-F.Compare o c r) = rolled fs row (Pred-F.Compare o c r) (operand_has fs row h o c r)
layer fs row h tree known (Pred-F.IsNull c) = rolled fs row (Pred-F.IsNull c) (null_has (facts_at fs c) (cell row c) (h c))
layer fs row h tree known (Pred-F.Both e f) =
    rolled fs row (Pred-F.Both (tree e) (tree f))
    (has_pair kleene_and (possible_in fs (tree e)) (possible_in fs (tree f)) (truth_of row (tree e)) (truth_of row (tree f)) (known e) (known f))
layer fs row h tree known (Pred-F.Either e f) =
    rolled fs row (Pred-F.Either (tree e) (tree f))
    (has_pair kleene_or (possible_in fs (tree e)) (possible_in fs (tree f)) (truth_of row (tree e)) (truth_of row (tree f)) (known e) (known f))
layer fs row h tree known (Pred-F.Negation e) =
    rolled fs row (Pred-F.Negation (tree e)) (has_image kleene_not (possible_in fs (tree e)) (truth_of row (tree e)) (known e))
layer fs row h tree known (Pred-F.Keys cs ks) = rolled fs row (Pred-F.Keys cs ks) (keys_has fs row h cs ks)

pub each_truth_is_possible : EachTruthIsPossible
each_truth_is_possible fs row h =
    ind-Pred ℕ (IsPossible fs row) (λ x y is. subst (λ z. IsPossible fs row (roll-Pred ℕ z)) is (layer fs row h (λ e. e.0) (λ e. e.1) y))

-- of one row
not_lost : (fs : List ColumnFacts) (row : List Datum) → HoldsOfRow fs row → (p : Pred ℕ) → (possible_in fs p).yes ≡ false → truth_of row p ≢ Yes
not_lost fs row h p none answer =
    let is : (possible_in fs p).yes ≡ true = subst (λ t. has (possible_in fs p) t ≡ true) answer (each_truth_is_possible fs row h p) in
    absurd (cc)

pub no_row_is_lost : NoRowIsLost
no_row_is_lost fs rows h p none k row l = not_lost fs (slice_index_or rows k row) (h k row l) p none
