-- One item more is counted, or one round more, in 64 bits.
use Rattle.std.proofs.Common.{◌≡◌, ℕ, suc, ◌+◌, ◌*◌, ◌%◌, ◌^◌, ◌<◌, Bool, true, List, length, map, drop, get_or, sym, ap, ◌∙◌, arith, add-one}
use Rattle.std.specs.List.{list_all}
use Rattle.std.proofs.Math.Nat.{mod-add-mod, add-mod-mod, suc-mul}
use Rattle.std.proofs.lemmas.Bool.{and_parts}
use Rattle.std.proofs.lemmas.List.{at_drop_more, get_or-map, length-map}
use Rattle.std.proofs.lemmas.List.Sums.{sum_by-drop_more}
use Rattle.row_kernels.specs.Scopes.{one_if, count_where}

pub item_counted : {A : Type 0} (test : A → Bool) (items : List A) (i count one whole : ℕ) (item : A) → i < length items → item ≡ get_or items i item → one ≡ one_if (test item)
    → (count + count_where test (drop i items)) % 2 ^ 64 ≡ whole → ((count + one) % 2 ^ 64 + count_where test (drop (i + 1) items)) % 2 ^ 64 ≡ whole
item_counted test items i count one whole item low is o before =
    let rest = count_where test (drop (i + 1) items) in
    let first : one_if (test (get_or items i item)) ≡ one = ap (λ x. one_if (test x)) (sym is) ∙ sym o in
    let here : count_where test (drop i items) ≡ one + rest = sum_by-drop_more (λ x. one_if (test x)) items i item low ∙ ap (λ (n : ℕ). n + rest) first in
    let same : count + one + rest ≡ count + count_where test (drop i items) = omega (arith, here) in
    mod-add-mod (count + one) (2 ^ 64) rest ∙ ap (λ (n : ℕ). n % 2 ^ 64) same ∙ before

-- the same of what is made of each item
pub made_counted : {A B : Type 0} (make : A → B) (test : B → Bool) (items : List A) (i count one whole : ℕ) (item : A) → i < length items → item ≡ get_or items i item
    → one ≡ one_if (test (make item)) → (count + count_where test (drop i (map make items))) % 2 ^ 64 ≡ whole
    → ((count + one) % 2 ^ 64 + count_where test (drop (i + 1) (map make items))) % 2 ^ 64 ≡ whole
made_counted make test items i count one whole item low is o before =
    let long : length (map make items) ≡ length items = length-map items make in
    item_counted test (map make items) i count one whole (make item) (omega (arith, long)) (ap make is ∙ sym (get_or-map make items i item (make item) low)) o before

-- what holds of all holds of all but the first
pub all_left : {A : Type 0} (test : A → Bool) (items : List A) (i : ℕ) (item : A) → i < length items → list_all test (drop i items) ≡ true
    → list_all test (drop (i + 1) items) ≡ true
all_left test items i item low all =
    (and_parts (test (get_or items i item)) (list_all test (drop (i + 1) items)) (sym (at_drop_more (list_all test) items i item low) ∙ all)).1

pub round_counted : (turn each sum counted : ℕ) → sum ≡ turn * each % 2 ^ 64 → counted ≡ each % 2 ^ 64 → (sum + counted) % 2 ^ 64 ≡ (turn + 1) * each % 2 ^ 64
round_counted turn each sum counted e c =
    rw (e, c) (mod-add-mod (turn * each) (2 ^ 64) (each % 2 ^ 64) ∙ add-mod-mod (turn * each) each (2 ^ 64)
    ∙ ap (λ (n : ℕ). n % 2 ^ 64) (sym (ap (λ (k : ℕ). k * each) (add-one turn) ∙ suc-mul turn each)))
