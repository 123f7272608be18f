-- The example of transactions meets what the laws ask.
use Rattle.std.proofs.Common.{◌≡◌, inl, ℕ, zero, suc, ◌<◌, Bool, true, false, List, [], ◌∷◌, refl, subst, arith}
use Rattle.std.specs.Prelude.{Some, None}
use Rattle.table_rules.specs.Properties.{entry_of}
use Rattle.table_changes.specs.Table.{File, number_by}
use Rattle.table_changes.specs.Laws.{IsBelow, Holds, Landed}
use Rattle.table_changes.specs.Example.{passes, may, row, first_file, second_file, view}
use Rattle.table_changes.specs.Numbers.{app, checked, commits, ops, NumbersRise}
use Rattle.table_changes.proofs.Statements.{insert_sound, check_sound}

holds_all : (n : ℕ) (a : File) → Holds passes may commits view n a
holds_all n a true out x is = cc
holds_all n a false out x is = cc

inside : (p q : List ℕ × ℕ) → Some p ≡ Some q → p ≡ q
inside p q h = cc

-- of a transaction that is this one
rises : (v m : ℕ) → IsBelow (number_by commits app v) m → (t : List ℕ × ℕ) → Some (app, m) ≡ Some t → IsBelow (number_by commits t.0 v) t.1
rises v m below t is = subst (λ (u : List ℕ × ℕ). IsBelow (number_by commits u.0 v) u.1) (inside (app, m) t is) below

facts : (k : ℕ) → k < 3 → Landed passes may commits view k
unfolding entry_of
facts zero lt = record {
  op = ops 0;
  sound = insert_sound Bool passes may false (row 1 ∷ []) (λ x. refl);
  read = 0;
  below = omega arith;
  new = row 1 ∷ [];
  written = refl;
  added = first_file ∷ [];
  filled = λ x. refl;
  sets = refl;
  widens = inl (record { schema = refl; same = refl });
  stamp = 0;
  lines = refl;
  blind = refl;
  fresh = (refl, refl, tt);
  holds = (holds_all 1 first_file, tt);
  txn = Some (app, 5);
  txns = refl;
  above = λ a n is. (refl, rises 0 5 tt (a, n) is);
  clear = λ k from to. absurd (omega arith);
}
facts (suc zero) lt = record {
  op = ops 1;
  sound = insert_sound Bool passes may false (row 2 ∷ []) (λ x. refl);
  read = 1;
  below = omega arith;
  new = row 2 ∷ [];
  written = refl;
  added = second_file ∷ [];
  filled = λ x. refl;
  sets = refl;
  widens = inl (record { schema = refl; same = refl });
  stamp = 0;
  lines = refl;
  blind = refl;
  fresh = (refl, refl, tt);
  holds = (holds_all 2 second_file, tt);
  txn = Some (app, 9);
  txns = refl;
  above = λ a n is. (refl, rises 1 9 (let lt : 5 < 9 = omega arith in lt) (a, n) is);
  clear = λ k from to. absurd (omega arith);
}
facts (suc (suc zero)) lt = record {
  op = ops 2;
  sound = check_sound Bool passes may true (λ x. true) (λ meta. Some checked);
  read = 2;
  below = omega arith;
  new = [];
  written = refl;
  added = [];
  filled = λ x. refl;
  sets = refl;
  widens = inl (record { schema = refl; same = refl });
  stamp = 0;
  lines = refl;
  blind = refl;
  fresh = tt;
  holds = tt;
  txn = None;
  txns = refl;
  above = λ app n is. cc;
  clear = λ k from to. absurd (omega arith);
}
facts (suc (suc (suc k))) lt = absurd (omega arith)

is_op : (k : ℕ) (lt : k < 3) → (facts k lt).op ≡ ops k
unfolding facts
is_op zero lt = refl
is_op (suc zero) lt = refl
is_op (suc (suc zero)) lt = refl
is_op (suc (suc (suc k))) lt = absurd (omega arith)

pub numbers_rise : NumbersRise
unfolding facts entry_of
numbers_rise = record {
  facts = facts;
  is_op = is_op;
  five = λ lt. refl;
  nine = λ lt. refl;
  number = refl;
  same_app = refl;
  weaker = refl;
  stricter = refl;
  checked = refl;
  left = refl;
}
