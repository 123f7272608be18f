-- The live files are those that the newest lines add.
use Rattle.std.proofs.Common.{◌≡◌, ℕ, Bool, true, false, List, [], ◌∷◌, refl, sym, ◌∙◌, ap, subst}
use Rattle.std.specs.Prelude.{if◌then◌else◌, Option, Some, None}
use Rattle.std.specs.declared.cmp.Ordering.{Ordering}
use Rattle.std.specs.declared.cmp.Ordering.TheVariants.{Less, Equal, Greater}
use Rattle.std.specs.Ordering.{is_lt, nat_cmp, ordering_reverse}
use Rattle.std.specs.Cmp.Lexicographic.{slice_cmp}
use Rattle.std.specs.List.{AllByRecursion}
use Rattle.std.specs.List.Sorted.{IsStrictlySortedBy}
use Rattle.std.specs.Str.{bytes_eq}
use Rattle.std.proofs.lemmas.Cmp.{nat_list_cmp_total, tied_itself}
use Rattle.std.proofs.lemmas.Slice.Eq.{bytes_eq-Decides}
use Rattle.snapshot_replay.specs.Table.{Add, Action, Removes, Adds, without_path, placed, paths_of, reconciled}
use Rattle.snapshot_replay.specs.Newest.{file_at, said_of, later_said, newest_on, if_said, LiveByNewest, NewestDecides}
use Rattle.snapshot_replay.proofs.Files.{paths_apart, below_all}

abbrev order : List ℕ → List ℕ → Ordering
order = slice_cmp nat_cmp

-- what was live before, unless something is said
abbrev said_or : Option (Option Add) → Option Add → Option Add
said_or None old = old
said_or (Some said) old = said

eq_self : (p : List ℕ) → bytes_eq p p ≡ true
eq_self p = (bytes_eq-Decides p p).1 refl

without_same : (p : List ℕ) (fs : List Add) → file_at p (without_path fs p) ≡ None
without_same p [] = refl
without_same p (a ∷ fs) = by (bytes_eq a.path p) refl (without_same p fs)
  where
    by : (b : Bool) → bytes_eq a.path p ≡ b → file_at p (without_path fs p) ≡ None → file_at p (if b then without_path fs p else a ∷ without_path fs p) ≡ None
    by true e rest = rest
    by false e rest = ap (λ (b : Bool). if b then Some a else file_at p (without_path fs p)) e ∙ rest

without_other : (q p : List ℕ) (fs : List Add) → bytes_eq p q ≡ false → file_at q (without_path fs p) ≡ file_at q fs
without_other q p [] apart = refl
without_other q p (a ∷ fs) apart = by (bytes_eq a.path p) refl (without_other q p fs apart)
  where
    by : (b : Bool) → bytes_eq a.path p ≡ b → file_at q (without_path fs p) ≡ file_at q fs → file_at q (if b then without_path fs p else a ∷ without_path fs p) ≡ (if bytes_eq a.path q then Some a else file_at q fs)
    by true e rest =
        let not_q : bytes_eq a.path q ≡ false = ap (λ (n : List ℕ). bytes_eq n q) ((bytes_eq-Decides a.path p).0 e) ∙ apart in
        rest ∙ sym (ap (λ (b : Bool). if b then Some a else file_at q fs) not_q)
    by false e rest = ap (λ (o : Option Add). if bytes_eq a.path q then Some a else o) rest

-- a lesser path is another one
lesser_other : (p q : List ℕ) → is_lt (order p q) ≡ true → bytes_eq p q ≡ false
lesser_other p q less = by (bytes_eq p q) refl
  where
    by : (b : Bool) → bytes_eq p q ≡ b → b ≡ false
    by false e = refl
    by true e =
        let tied : order p q ≡ Equal = ap (λ (n : List ℕ). order n q) ((bytes_eq-Decides p q).0 e) ∙ tied_itself nat_list_cmp_total q in
        let bad : true ≡ false = sym less ∙ ap is_lt tied in
        cc

placed_same : (a : Add) (fs : List Add) → file_at a.path (placed a fs) ≡ Some a
placed_same a [] = ap (λ (b : Bool). if b then Some a else None) (eq_self a.path)
placed_same a (b ∷ fs) = by (is_lt (order b.path a.path)) refl (placed_same a fs)
  where
    by : (less : Bool) → is_lt (order b.path a.path) ≡ less → file_at a.path (placed a fs) ≡ Some a → file_at a.path (if less then b ∷ placed a fs else a ∷ b ∷ fs) ≡ Some a
    by true e rest = ap (λ (c : Bool). if c then Some b else file_at a.path (placed a fs)) (lesser_other b.path a.path e) ∙ rest
    by false e rest = ap (λ (c : Bool). if c then Some a else file_at a.path (b ∷ fs)) (eq_self a.path)

placed_other : (q : List ℕ) (a : Add) (fs : List Add) → bytes_eq a.path q ≡ false → file_at q (placed a fs) ≡ file_at q fs
placed_other q a [] apart = ap (λ (c : Bool). if c then Some a else None) apart
placed_other q a (b ∷ fs) apart = by (is_lt (order b.path a.path)) (placed_other q a fs apart)
  where
    by : (less : Bool) → file_at q (placed a fs) ≡ file_at q fs → file_at q (if less then b ∷ placed a fs else a ∷ b ∷ fs) ≡ file_at q (b ∷ fs)
    by true rest = ap (λ (o : Option Add). if bytes_eq b.path q then Some b else o) rest
    by false rest = ap (λ (c : Bool). if c then Some a else file_at q (b ∷ fs)) apart

-- what one line says, and the later ones
later_or : (said newest : Option (Option Add)) (old : Option Add) → said_or newest (said_or said old) ≡ said_or (later_said said newest) old
later_or said None old = refl
later_or said (Some new) old = refl

live_from : (path : List ℕ) (fs : List Add) (lines : List Action) → file_at path (reconciled fs lines) ≡ said_or (newest_on path lines) (file_at path fs)
live_from path fs [] = refl
live_from path fs (Removes p ∷ ls) = live_from path (without_path fs p) ls ∙ ap (said_or (newest_on path ls)) (by (bytes_eq p path) refl) ∙ later_or (said_of path (Removes p)) (newest_on path ls) (file_at path fs)
  where
    by : (b : Bool) → bytes_eq p path ≡ b → file_at path (without_path fs p) ≡ said_or (if b then Some None else None) (file_at path fs)
    by true e = ap (λ (n : List ℕ). file_at path (without_path fs n)) ((bytes_eq-Decides p path).0 e) ∙ without_same path fs
    by false e = without_other path p fs e
live_from path fs (Adds a ∷ ls) =
    live_from path (placed a (without_path fs a.path)) ls ∙ ap (said_or (newest_on path ls)) (by (bytes_eq a.path path) refl) ∙ later_or (said_of path (Adds a)) (newest_on path ls) (file_at path fs)
  where
    by : (b : Bool) → bytes_eq a.path path ≡ b → file_at path (placed a (without_path fs a.path)) ≡ said_or (if b then Some (Some a) else None) (file_at path fs)
    by true e = ap (λ (n : List ℕ). file_at n (placed a (without_path fs a.path))) (sym ((bytes_eq-Decides a.path path).0 e)) ∙ placed_same a (without_path fs a.path)
    by false e = placed_other path a (without_path fs a.path) e ∙ without_other path a.path fs e

-- ---- the order

module _ (P : List ℕ → Type 0) where
  all_without : (p : List ℕ) (fs : List Add) → AllByRecursion P (paths_of fs) → AllByRecursion P (paths_of (without_path fs p))
  all_without p [] all = all
  all_without p (a ∷ fs) all = by (bytes_eq a.path p) (all_without p fs all.1)
    where
      by : (b : Bool) → AllByRecursion P (paths_of (without_path fs p)) → AllByRecursion P (paths_of (if b then without_path fs p else a ∷ without_path fs p))
      by true rest = rest
      by false rest = (all.0, rest)

  all_placed : (a : Add) (fs : List Add) → P a.path → AllByRecursion P (paths_of fs) → AllByRecursion P (paths_of (placed a fs))
  all_placed a [] p all = (p, tt)
  all_placed a (b ∷ fs) p all = by (is_lt (order b.path a.path)) (all_placed a fs p all.1)
    where
      by : (less : Bool) → AllByRecursion P (paths_of (placed a fs)) → AllByRecursion P (paths_of (if less then b ∷ placed a fs else a ∷ b ∷ fs))
      by true rest = (all.0, rest)
      by false rest = (p, all)

abbrev Ordered : List Add → Type 0
Ordered fs = IsStrictlySortedBy order (paths_of fs)

ordered_without : (p : List ℕ) (fs : List Add) → Ordered fs → Ordered (without_path fs p)
unfolding IsStrictlySortedBy
ordered_without p [] sorted = sorted
ordered_without p (a ∷ fs) sorted = by (bytes_eq a.path p) (ordered_without p fs sorted.1)
  where
    by : (b : Bool) → Ordered (without_path fs p) → Ordered (if b then without_path fs p else a ∷ without_path fs p)
    by true rest = rest
    by false rest = (all_without (λ y. order a.path y ≡ Less) p fs sorted.0, rest)

no_tie : (p q : List ℕ) → bytes_eq q p ≡ false → is_lt (order q p) ≡ false → order p q ≡ Less
no_tie p q apart not_less = by (order q p) refl not_less
  where
    by : (o : Ordering) → order q p ≡ o → is_lt o ≡ false → order p q ≡ Less
    by Less e no' = cc
    by Equal e no' = let bad : true ≡ false = sym ((bytes_eq-Decides q p).1 (paths_apart q p e)) ∙ apart in cc
    by Greater e no' = nat_list_cmp_total.antisymm p q ∙ ap ordering_reverse e

some_or : (b : Bool) (x : Add) (rest : Option Add) → (if b then Some x else rest) ≡ None → (b ≡ false) × (rest ≡ None)
some_or true x rest h = cc
some_or false x rest h = (refl, h)

is_less : (o : Ordering) → is_lt o ≡ true → o ≡ Less
is_less Less h = refl
is_less Equal h = cc
is_less Greater h = cc

ordered_placed : (a : Add) (fs : List Add) → file_at a.path fs ≡ None → Ordered fs → Ordered (placed a fs)
unfolding IsStrictlySortedBy
ordered_placed a [] none sorted = (tt, tt)
ordered_placed a (b ∷ fs) none sorted =
    let two = some_or (bytes_eq b.path a.path) b (file_at a.path fs) none in
    by (is_lt (order b.path a.path)) refl two.0 (ordered_placed a fs two.1 sorted.1)
  where
    by : (less : Bool) → is_lt (order b.path a.path) ≡ less → bytes_eq b.path a.path ≡ false → Ordered (placed a fs) → Ordered (if less then b ∷ placed a fs else a ∷ b ∷ fs)
    by true e apart rest = (all_placed (λ y. order b.path y ≡ Less) a fs (is_less (order b.path a.path) e) sorted.0, rest)
    by false e apart rest = let less : order a.path b.path ≡ Less = no_tie a.path b.path apart e in ((less, below_all a.path b.path (paths_of fs) less sorted.0), sorted)

ordered_from : (fs : List Add) (lines : List Action) → Ordered fs → Ordered (reconciled fs lines)
ordered_from fs [] sorted = sorted
ordered_from fs (Removes p ∷ ls) sorted = ordered_from (without_path fs p) ls (ordered_without p fs sorted)
ordered_from fs (Adds a ∷ ls) sorted = ordered_from (placed a (without_path fs a.path)) ls (ordered_placed a (without_path fs a.path) (without_same a.path fs) (ordered_without a.path fs sorted))

nothing_said : (o : Option (Option Add)) → said_or o None ≡ if_said o
nothing_said None = refl
nothing_said (Some said) = refl

none_ordered : Ordered []
unfolding IsStrictlySortedBy
none_ordered = tt

pub newest_decides : NewestDecides
newest_decides lines = record {
  live = λ path. live_from path [] lines ∙ nothing_said (newest_on path lines);
  order = ordered_from [] lines none_ordered;
}
