-- What comes of rows one by one is decided by their bag, and adds up.
use Rattle.std.proofs.Common.{◌≡◌, ◌+◌, ◌≤◌, Bool, true, false, cond, List, [], ◌∷◌, ◌++◌, refl, sym, ◌∙◌, ap, subst, arith, append_assoc}
use Rattle.std.specs.Prelude.{Option, Some, None}
use Rattle.row_base.specs.RowOrder.{row_eq}
use Rattle.row_base.specs.Bags.{count_of, SameRows, without_one}
use Rattle.row_base.specs.declared.row.Datum.{Datum}
use Rattle.row_base.proofs.RowOrder.{row_decides}
use Rattle.row_base.proofs.Bags.{count_of-append, count_in-without_one}
use Rattle.dml_ops.specs.declared.fault.WrongRow.{WrongRow}
use Rattle.dml_ops.specs.Outcomes.{Outcome, given, lesser, wrong_of, rows_of, least_of, finished, results}
use Rattle.dml_ops.specs.Operations.{SameResult}
use Rattle.dml_ops.proofs.Lesser.{lesser_none, lesser_assoc, lesser_swap}

abbrev Row : Type 0
Row = List Datum

self_row : (x : Row) (xs : List Row) → count_of x (x ∷ xs) ≡ 1 + count_of x xs
self_row x xs = ap (λ (b : Bool). cond b 1 0 + count_of x xs) ((row_decides x x).1 refl)

pub none_there : (ys : List Row) → SameRows [] ys → [] ≡ ys
none_there [] same = refl
none_there (y ∷ ys) same = let e = same y in let s = self_row y ys in absurd (omega arith)

pub finished_same : (xs ys : List Row) (l m : Option WrongRow) → SameRows xs ys → l ≡ m → SameResult (finished xs l) (finished ys m)
finished_same xs ys l m h e = subst (λ (o : Option WrongRow). SameResult (finished xs l) (finished ys o)) e (by l)
  where
    by : (l : Option WrongRow) → SameResult (finished xs l) (finished ys l)
    by None = h
    by (Some w) = refl

module _ (f : Row → Outcome) where
  -- ---- one list after another

  pub rows_of-append : (xs ys : List Row) → rows_of f (xs ++ ys) ≡ rows_of f xs ++ rows_of f ys
  rows_of-append [] ys = refl
  rows_of-append (x ∷ xs) ys = ap (λ (l : List Row). given (f x) ++ l) (rows_of-append xs ys) ∙ sym (append_assoc (given (f x)) (rows_of f xs) (rows_of f ys))

  pub least_of-append : (xs ys : List Row) → least_of f (xs ++ ys) ≡ lesser (least_of f xs) (least_of f ys)
  least_of-append [] ys = sym (lesser_none (least_of f ys))
  least_of-append (x ∷ xs) ys = ap (λ (l : Option WrongRow). lesser (wrong_of x (f x)) l) (least_of-append xs ys) ∙ sym (lesser_assoc (wrong_of x (f x)) (least_of f xs) (least_of f ys))

  -- ---- a row that is there may stand in front

  record InFront (x : Row) (ys rest : List Row) : Type 0 where
    rows : SameRows (rows_of f ys) (given (f x) ++ rows_of f rest)
    least : least_of f ys ≡ lesser (wrong_of x (f x)) (least_of f rest)

  in_front : (x : Row) (ys : List Row) → 1 ≤ count_of x ys → InFront x ys (without_one row_eq x ys)
  in_front x [] some = absurd (omega arith)
  in_front x (z ∷ ys) some = by (row_eq x z) refl some (in_front x ys)
    where
      by : (b : Bool) → row_eq x z ≡ b → 1 ≤ cond b 1 0 + count_of x ys → (1 ≤ count_of x ys → InFront x ys (without_one row_eq x ys))
          → InFront x (z ∷ ys) (cond b ys (z ∷ without_one row_eq x ys))
      by true e some rest = subst (λ (w : Row). InFront w (z ∷ ys) ys) (sym ((row_decides x z).0 e)) (record { rows = λ y. refl; least = refl })
      by false e some rest =
          let h = rest (omega arith) in
          let others = without_one row_eq x ys in
          record {
            rows = λ y.
                let p = h.rows y in
                let a = count_of-append y (given (f z)) (rows_of f ys) in
                let b = count_of-append y (given (f x)) (rows_of f others) in
                let c = count_of-append y (given (f z)) (rows_of f others) in
                let d = count_of-append y (given (f x)) (given (f z) ++ rows_of f others) in
                omega arith;
            least = ap (λ (l : Option WrongRow). lesser (wrong_of z (f z)) l) h.least ∙ lesser_swap x z (f x) (f z) (least_of f others) e;
          }

  pub record Respected (xs ys : List Row) : Type 0 where
    pub rows : SameRows (rows_of f xs) (rows_of f ys)
    pub least : least_of f xs ≡ least_of f ys

  pub respected : (xs ys : List Row) → SameRows xs ys → Respected xs ys
  respected [] ys same = subst (λ (l : List Row). Respected [] l) (none_there ys same) (record { rows = λ z. refl; least = refl })
  respected (x ∷ xs) ys same =
      let s = self_row x xs in
      let e = same x in
      let some : 1 ≤ count_of x ys = omega arith in
      let others = without_one row_eq x ys in
      let h = respected xs others rest in
      let front = in_front x ys some in
      record {
        rows = λ y.
            let p = h.rows y in
            let q = front.rows y in
            let a = count_of-append y (given (f x)) (rows_of f xs) in
            let b = count_of-append y (given (f x)) (rows_of f others) in
            omega arith;
        least = ap (λ (l : Option WrongRow). lesser (wrong_of x (f x)) l) h.least ∙ sym front.least;
      }
    where
      rest : SameRows xs (without_one row_eq x ys)
      rest z = let a = count_in-without_one row_eq row_decides z x ys in let e = same z in omega arith

  pub results_respect : (xs ys : List Row) → SameRows xs ys → SameResult (results f xs) (results f ys)
  results_respect xs ys same = let h = respected xs ys same in finished_same (rows_of f xs) (rows_of f ys) (least_of f xs) (least_of f ys) h.rows h.least
