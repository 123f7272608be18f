-- Expressions without a cell of a source row, once they are bound, need no source row.
use Rattle.std.proofs.Common.{◌≡◌, ◌==◌, ℕ, nat_lt, Bool, true, false, ◌&&◌, List, [], ◌∷◌, ◌++◌, Result, Ok, Err, refl, sym, ◌∙◌, ap, subst}
use Rattle.std.specs.List.{list_all, list_any}
use Rattle.row_base.specs.Faults.{◌>>=◌}
use Rattle.row_base.specs.declared.row.Datum.{Datum}
use Rattle.row_base.specs.declared.row.Kind.{Kind}
use Rattle.row_base.specs.declared.schema.Column.{Column}
use Rattle.predicates.specs.declared.expr.Expr.{Expr, map-Expr}
use Rattle.predicates.specs.declared.expr.Expr.TheOpen.{Expr-F}
use Rattle.predicates.specs.declared.expr.Expr.TheViews.{roll-Expr}
use Rattle.predicates.specs.declared.expr.Expr.TheFolds.{fold-Expr, fold-roll-Expr, ind-Expr}
use Rattle.predicates.specs.declared.expr.Expr.TheVariants as expr
use Rattle.predicates.specs.declared.fault.BindFault.{BindFault}
use Rattle.predicates.specs.Values.{is_expr_bound, expr_bound_step}
use Rattle.predicates.specs.Binding.{found_in, place_of_kind, literal_as, number_kind, sides_in, bind_expr_step, bound_expr_in}
use Rattle.op_types.specs.declared.bound.SetTo.{SetTo}
use Rattle.op_types.specs.Bound.{are_sets_bound}
use Rattle.statement_checks.specs.Names.{once}
use Rattle.statement_checks.specs.Operations.{set_in, sets_in, expr_in, exprs_for}
use Rattle.statement_checks.specs.Plain.{plain_step, is_plain, are_plain}
use Rattle.statement_checks.proofs.Bound.{bind_ok, inside, both}

together : (x y : Bool) → x ≡ true → y ≡ true → (x && y) ≡ true
together x y a b = rw (a, b) refl

module _ (n : ℕ) where
  -- what is bound of a plain expression needs no source row
  abbrev IsNarrow : Result (Expr ℕ) BindFault → Bool → Type 0
  IsNarrow r plain = (b : Expr ℕ) → r ≡ Ok b → plain ≡ true → is_expr_bound n n b ≡ true → is_expr_bound n 0 b ≡ true

  -- the same of what it was made of
  of_made : (made b : Expr ℕ) → ◌≡◌ {A = Result (Expr ℕ) BindFault} (Ok made) (Ok b) → (is_expr_bound n n made ≡ true → is_expr_bound n 0 made ≡ true) → is_expr_bound n n b ≡ true → is_expr_bound n 0 b ≡ true
  of_made made b e h = subst (λ z. is_expr_bound n n z ≡ true → is_expr_bound n 0 z ≡ true) (inside made b e) h

  cell_bound : (m p : ℕ) → is_expr_bound n m (expr.Cell p) ≡ nat_lt p n
  cell_bound m p = ap (is_expr_bound n m) (sym (expr.rolls-Cell p)) ∙ fold-roll-Expr ℕ Bool (expr_bound_step n m) (Expr-F.Cell p)

  literal_bound : (m : ℕ) (d : Datum) → is_expr_bound n m (expr.Literal d) ≡ true
  literal_bound m d = ap (is_expr_bound n m) (sym (expr.rolls-Literal d)) ∙ fold-roll-Expr ℕ Bool (expr_bound_step n m) (Expr-F.Literal d)

  plus_bound : (m : ℕ) (a c : Expr ℕ) → is_expr_bound n m (expr.Plus a c) ≡ (is_expr_bound n m a && is_expr_bound n m c)
  plus_bound m a c = ap (is_expr_bound n m) (sym (expr.rolls-Plus a c)) ∙ fold-roll-Expr ℕ Bool (expr_bound_step n m) (Expr-F.Plus a c)

  minus_bound : (m : ℕ) (a c : Expr ℕ) → is_expr_bound n m (expr.Minus a c) ≡ (is_expr_bound n m a && is_expr_bound n m c)
  minus_bound m a c = ap (is_expr_bound n m) (sym (expr.rolls-Minus a c)) ∙ fold-roll-Expr ℕ Bool (expr_bound_step n m) (Expr-F.Minus a c)

  times_bound : (m : ℕ) (a c : Expr ℕ) → is_expr_bound n m (expr.Times a c) ≡ (is_expr_bound n m a && is_expr_bound n m c)
  times_bound m a c = ap (is_expr_bound n m) (sym (expr.rolls-Times a c)) ∙ fold-roll-Expr ℕ Bool (expr_bound_step n m) (Expr-F.Times a c)

  cell : (r : Result ℕ BindFault) → IsNarrow (r >>= λ p. Ok (expr.Cell p)) true
  cell (Ok p) b e plain wide = of_made (expr.Cell p) b e (λ w. cell_bound 0 p ∙ sym (cell_bound n p) ∙ w) wide
  cell (Err f) b e plain wide = absurd cc

  literal : (r : Result Datum BindFault) → IsNarrow (r >>= λ d. Ok (expr.Literal d)) true
  literal (Ok d) b e plain wide = of_made (expr.Literal d) b e (λ w. literal_bound 0 d) wide
  literal (Err f) b e plain wide = absurd cc

  sides : (make : Expr ℕ → Expr ℕ → Expr ℕ)
      → ((m : ℕ) (a c : Expr ℕ) → is_expr_bound n m (make a c) ≡ (is_expr_bound n m a && is_expr_bound n m c))
      → (l : Result (Expr ℕ) BindFault) (u : Result (Unit {0}) BindFault) (r : Result (Expr ℕ) BindFault) (p q : Bool) → IsNarrow l p → IsNarrow r q
      → IsNarrow (l >>= λ a. u >>= λ v. r >>= λ c. Ok (make a c)) (p && q)
  sides make parts (Ok a) (Ok v) (Ok c) p q left right b e plain wide =
      let plains = both p q plain in
      of_made (make a c) b e (λ w.
      let wides = both (is_expr_bound n n a) (is_expr_bound n n c) (sym (parts n a c) ∙ w) in
      parts 0 a c ∙ together (is_expr_bound n 0 a) (is_expr_bound n 0 c) (left a refl plains.0 wides.0) (right c refl plains.1 wides.1)) wide
  sides make parts (Ok a) (Ok v) (Err f) p q left right b e plain wide = absurd cc
  sides make parts (Ok a) (Err f) r p q left right b e plain wide = absurd cc
  sides make parts (Err f) u r p q left right b e plain wide = absurd cc

  module _ (columns : List Column) (k : Kind) (name : List ℕ) where
    abbrev IsPlainNarrow : Expr (List ℕ) → Type 0
    IsPlainNarrow e = IsNarrow (bound_expr_in columns k name e) (is_plain e)

    rolled : (x : Expr-F (List ℕ) (Expr (List ℕ)))
        → IsNarrow (bind_expr_step columns k name (map-Expr (List ℕ) (Expr (List ℕ)) (Result (Expr ℕ) BindFault) (bound_expr_in columns k name) x)) (plain_step (map-Expr (List ℕ) (Expr (List ℕ)) Bool is_plain x))
        → IsPlainNarrow (roll-Expr (List ℕ) x)
    rolled x h = rw (fold-roll-Expr (List ℕ) (Result (Expr ℕ) BindFault) (bind_expr_step columns k name) x, fold-roll-Expr (List ℕ) Bool plain_step x) h

    layer : {S : Type 0} (tree : S → Expr (List ℕ)) → ((e : S) → IsPlainNarrow (tree e)) → (y : Expr-F (List ℕ) S) → IsPlainNarrow (roll-Expr (List ℕ) (map-Expr (List ℕ) S (Expr (List ℕ)) tree y))
    layer tree known (Expr-F.Cell c) = rolled (Expr-F.Cell c) (cell (place_of_kind columns k c name))
    layer tree known (Expr-F.SourceCell c) = rolled (Expr-F.SourceCell c) (λ b e plain wide. absurd cc)
    layer tree known (Expr-F.Literal d) = rolled (Expr-F.Literal d) (literal (literal_as k d name))
    layer tree known (Expr-F.Plus l r) =
        rolled (Expr-F.Plus (tree l) (tree r))
        (sides expr.Plus (plus_bound) (bound_expr_in columns k name (tree l)) (number_kind k name) (bound_expr_in columns k name (tree r)) (is_plain (tree l)) (is_plain (tree r)) (known l) (known r))
    layer tree known (Expr-F.Minus l r) =
        rolled (Expr-F.Minus (tree l) (tree r))
        (sides expr.Minus (minus_bound) (bound_expr_in columns k name (tree l)) (number_kind k name) (bound_expr_in columns k name (tree r)) (is_plain (tree l)) (is_plain (tree r)) (known l) (known r))
    layer tree known (Expr-F.Times l r) =
        rolled (Expr-F.Times (tree l) (tree r))
        (sides expr.Times (times_bound) (bound_expr_in columns k name (tree l)) (number_kind k name) (bound_expr_in columns k name (tree r)) (is_plain (tree l)) (is_plain (tree r)) (known l) (known r))

    plain_narrow : (e : Expr (List ℕ)) → IsPlainNarrow e
    plain_narrow =
        ind-Expr (List ℕ) IsPlainNarrow (λ x y is. subst (λ z. IsPlainNarrow (roll-Expr (List ℕ) z)) is (layer (λ e. e.0) (λ e. e.1) y))

pub plain_needs_none : (n : ℕ) (columns : List Column) (k : Kind) (name : List ℕ) (e : Expr (List ℕ)) (b : Expr ℕ) → bound_expr_in columns k name e ≡ Ok b → is_plain e ≡ true → is_expr_bound n n b ≡ true → is_expr_bound n 0 b ≡ true
plain_needs_none n columns k name e b bound plain wide = plain_narrow n columns k name e b bound plain wide

-- one set
set_needs_none : (n : ℕ) (columns : List Column) (before : List (SetTo ℕ)) (s : SetTo (List ℕ)) (b : SetTo ℕ) → set_in columns before s ≡ Ok b → is_plain s.value ≡ true → is_expr_bound n n b.value ≡ true → is_expr_bound n 0 b.value ≡ true
set_needs_none n columns before s b e plain wide =
    let p = bind_ok (found_in columns s.column) (λ p. once (list_any (λ b. b.column == p.0) before) s.column >>= λ u. bound_expr_in columns p.1 s.column s.value >>= λ x. Ok (record { column = p.0; value = x })) b e in
    let q = bind_ok (once (list_any (λ b. b.column == p.0.0) before) s.column) (λ u. bound_expr_in columns p.0.1 s.column s.value >>= λ x. Ok (record { column = p.0.0; value = x })) b p.2 in
    let r = bind_ok (bound_expr_in columns p.0.1 s.column s.value) (λ x. Ok (record { column = p.0.0; value = x })) b q.2 in
    let same : r.0 ≡ b.value = ap (λ (z : SetTo ℕ). z.value) (inside (record { column = p.0.0; value = r.0 }) b r.2) in
    subst (λ z. is_expr_bound n n z ≡ true → is_expr_bound n 0 z ≡ true) same (plain_needs_none n columns p.0.1 s.column s.value r.0 r.1 plain) wide

pub plain_sets_need_none : (n : ℕ) (columns : List Column) (before : List (SetTo ℕ)) (ss : List (SetTo (List ℕ))) (bs : List (SetTo ℕ)) → sets_in columns before ss ≡ Ok bs → are_plain ss ≡ true → are_sets_bound n n bs ≡ true → are_sets_bound n 0 bs ≡ true
unfolding sets_in
plain_sets_need_none n columns before [] bs e plain wide = subst (λ z. are_sets_bound n 0 z ≡ true) (inside [] bs e) refl
plain_sets_need_none n columns before (s ∷ ss) bs e plain wide =
    let p = bind_ok (set_in columns before s) (λ b. sets_in columns (before ++ b ∷ []) ss >>= λ rest. Ok (b ∷ rest)) bs e in
    let q = bind_ok (sets_in columns (before ++ p.0 ∷ []) ss) (λ rest. Ok (p.0 ∷ rest)) bs p.2 in
    let plains = both (is_plain s.value) (are_plain ss) plain in
    subst (λ z. are_sets_bound n n z ≡ true → are_sets_bound n 0 z ≡ true) (inside (p.0 ∷ q.0) bs q.2)
    (one (p.0) (q.0) (set_needs_none n columns before s p.0 p.1 plains.0) (plain_sets_need_none n columns (before ++ p.0 ∷ []) ss q.0 q.1 plains.1)) wide
  where
    one : (b : SetTo ℕ) (rest : List (SetTo ℕ)) → (is_expr_bound n n b.value ≡ true → is_expr_bound n 0 b.value ≡ true) → (are_sets_bound n n rest ≡ true → are_sets_bound n 0 rest ≡ true) → are_sets_bound n n (b ∷ rest) ≡ true → are_sets_bound n 0 (b ∷ rest) ≡ true
    one b rest first later w =
        let all = both (nat_lt b.column n && is_expr_bound n n b.value) (are_sets_bound n n rest) w in
        let here = both (nat_lt b.column n) (is_expr_bound n n b.value) all.0 in
        together (nat_lt b.column n && is_expr_bound n 0 b.value) (are_sets_bound n 0 rest) (together (nat_lt b.column n) (is_expr_bound n 0 b.value) here.0 (first here.1)) (later all.1)

pub plain_exprs_need_none : (n : ℕ) (columns cs : List Column) (es : List (Expr (List ℕ))) (bs : List (Expr ℕ)) → exprs_for columns cs es ≡ Ok bs → list_all is_plain es ≡ true → list_all (is_expr_bound n n) bs ≡ true → list_all (is_expr_bound n 0) bs ≡ true
unfolding exprs_for expr_in
plain_exprs_need_none n columns [] es bs e plain wide = subst (λ z. list_all (is_expr_bound n 0) z ≡ true) (inside [] bs e) refl
plain_exprs_need_none n columns (c ∷ cs) [] bs e plain wide = subst (λ z. list_all (is_expr_bound n 0) z ≡ true) (inside [] bs e) refl
plain_exprs_need_none n columns (c ∷ cs) (x ∷ es) bs e plain wide =
    let p = bind_ok (expr_in columns c x) (λ b. exprs_for columns cs es >>= λ rest. Ok (b ∷ rest)) bs e in
    let q = bind_ok (exprs_for columns cs es) (λ rest. Ok (p.0 ∷ rest)) bs p.2 in
    let plains = both (is_plain x) (list_all is_plain es) plain in
    subst (λ z. list_all (is_expr_bound n n) z ≡ true → list_all (is_expr_bound n 0) z ≡ true) (inside (p.0 ∷ q.0) bs q.2)
    (λ w.
    let all = both (is_expr_bound n n p.0) (list_all (is_expr_bound n n) q.0) w in
    together (is_expr_bound n 0 p.0) (list_all (is_expr_bound n 0) q.0) (plain_needs_none n columns c.kind c.name x p.0 p.1 plains.0 all.0)
    (plain_exprs_need_none n columns cs es q.0 q.1 plains.1 all.1)) wide
