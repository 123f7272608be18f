-- The lesser of two wrong rows: it is associative, and of two different rows the order doesn't matter.
use Rattle.std.proofs.Common.{◌≡◌, true, false, List, refl, sym, ap, ◌∙◌, inl, inr}
use Rattle.std.specs.Prelude.{Option, Some, None, Ok, Err}
use Rattle.std.specs.declared.cmp.Ordering.{Ordering}
use Rattle.std.specs.declared.cmp.Ordering.TheVariants.{Less, Equal, Greater}
use Rattle.std.specs.Ordering.{is_gt, is_eq, ordering_reverse}
use Rattle.std.proofs.lemmas.Bool.{cases_Bool}
use Rattle.std.proofs.lemmas.Cmp.{upto}
use Rattle.row_base.specs.RowOrder.{row_cmp, row_eq}
use Rattle.row_base.specs.RowOrderLaws.{row_cmp_total}
use Rattle.row_base.specs.declared.row.Datum.{Datum}
use Rattle.dml_ops.specs.declared.fault.ImageFault.TheVariants as image
use Rattle.dml_ops.specs.declared.fault.WrongRow.{WrongRow}
use Rattle.dml_ops.specs.Outcomes.{Outcome, lesser, lesser_by, its_row, wrong_of}

greater_is : (r : Ordering) → is_gt r ≡ true → r ≡ Greater
greater_is Less e = absurd cc
greater_is Equal e = absurd cc
greater_is Greater e = refl

above : (x y z : List Datum) → is_gt (row_cmp x y) ≡ true → is_gt (row_cmp y z) ≡ true → is_gt (row_cmp x z) ≡ true
above x y z p q =
    let yx : row_cmp y x ≡ Less = row_cmp_total.antisymm y x ∙ ap ordering_reverse (greater_is (row_cmp x y) p) in
    let zy : row_cmp z y ≡ Less = row_cmp_total.antisymm z y ∙ ap ordering_reverse (greater_is (row_cmp y z) q) in
    let zx : row_cmp z x ≡ Less = row_cmp_total.trans z y x zy yx in
    ap is_gt (row_cmp_total.antisymm x z ∙ ap ordering_reverse zx)

module _ {A : Type 0} (row_in : A → List Datum) where
  pub lesser_by_none : (o : Option A) → lesser_by row_in None o ≡ o
  lesser_by_none None = refl
  lesser_by_none (Some w) = refl

  three : (a b c : A) → lesser_by row_in (lesser_by row_in (Some a) (Some b)) (Some c) ≡ lesser_by row_in (Some a) (lesser_by row_in (Some b) (Some c))
  three a b c = elim (cases_Bool (is_gt (row_cmp (row_in a) (row_in b)))) [
    | inl ab ↦ elim (cases_Bool (is_gt (row_cmp (row_in b) (row_in c)))) [
      | inl bc ↦ let ac = above (row_in a) (row_in b) (row_in c) ab bc in rw (ab, bc, ac) refl
      | inr bc ↦ rw (ab, bc, ab) refl
    ]
    | inr ab ↦ elim (cases_Bool (is_gt (row_cmp (row_in b) (row_in c)))) [
      | inl bc ↦ rw (ab, bc) refl
      | inr bc ↦ let ac = upto row_cmp_total (row_in a) (row_in b) (row_in c) ab bc in rw (ab, bc, ac, ab) refl
    ]
  ]

  pub lesser_by_assoc : (a b c : Option A) → lesser_by row_in (lesser_by row_in a b) c ≡ lesser_by row_in a (lesser_by row_in b c)
  lesser_by_assoc a b None = refl
  lesser_by_assoc a None (Some c) = refl
  lesser_by_assoc None (Some b) (Some c) = sym (lesser_by_none (lesser_by row_in (Some b) (Some c)))
  lesser_by_assoc (Some a) (Some b) (Some c) = three a b c

pub lesser_none : (o : Option WrongRow) → lesser None o ≡ o
lesser_none = lesser_by_none its_row

pub lesser_assoc : (a b c : Option WrongRow) → lesser (lesser a b) c ≡ lesser a (lesser b c)
lesser_assoc = lesser_by_assoc its_row

apart : (a b : WrongRow) (r : Ordering) → row_cmp a.row b.row ≡ r → is_eq r ≡ false → lesser (Some a) (Some b) ≡ lesser (Some b) (Some a)
apart a b Less e f = let back : row_cmp b.row a.row ≡ Greater = row_cmp_total.antisymm b.row a.row ∙ ap ordering_reverse e in rw (e, back) refl
apart a b Equal e f = absurd cc
apart a b Greater e f = let back : row_cmp b.row a.row ≡ Less = row_cmp_total.antisymm b.row a.row ∙ ap ordering_reverse e in rw (e, back) refl

pub lesser_comm : (x z : List Datum) (o p : Outcome) → row_eq x z ≡ false → lesser (wrong_of x o) (wrong_of z p) ≡ lesser (wrong_of z p) (wrong_of x o)
lesser_comm x z (Ok ys) p e = lesser_none (wrong_of z p)
lesser_comm x z (Err image.NoMemory) p e = lesser_none (wrong_of z p)
lesser_comm x z (Err (image.Wrong w)) (Ok ys) e = refl
lesser_comm x z (Err (image.Wrong w)) (Err image.NoMemory) e = refl
lesser_comm x z (Err (image.Wrong w)) (Err (image.Wrong v)) e = apart (record { row = x; wrong = w }) (record { row = z; wrong = v }) (row_cmp x z) refl e

pub lesser_swap : (x z : List Datum) (o p : Outcome) (c : Option WrongRow) → row_eq x z ≡ false
    → lesser (wrong_of z p) (lesser (wrong_of x o) c) ≡ lesser (wrong_of x o) (lesser (wrong_of z p) c)
lesser_swap x z o p c e =
    sym (lesser_assoc (wrong_of z p) (wrong_of x o) c) ∙ ap (λ (a : Option WrongRow). lesser a c) (sym (lesser_comm x z o p e)) ∙ lesser_assoc (wrong_of x o) (wrong_of z p) c
