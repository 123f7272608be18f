-- Files in byte order of path, each path once: reconciliation keeps the order, and two such lists with the same file of each path are one.
-- Below Replay; nothing above the crate cites it.
-- The crate's law on live files (live_are_ordered) stands here.
use Rattle.std.proofs.Common.{◌≡◌, ℕ, zero, suc, Bool, true, false, List, [], ◌∷◌, refl, sym, ◌∙◌, ap, subst}
use Rattle.std.specs.Prelude.{Some, None, if◌then◌else◌}
use Rattle.std.specs.Cmp.Lexicographic.{slice_cmp}
use Rattle.std.specs.declared.cmp.Ordering.{Ordering}
use Rattle.std.specs.declared.cmp.Ordering.TheVariants.{Less, Equal, Greater}
use Rattle.std.specs.List.{AllByRecursion}
use Rattle.std.specs.List.Sorted.{IsStrictlySortedBy}
use Rattle.std.specs.Ordering.{is_lt, is_eq, nat_cmp, ordering_reverse}
use Rattle.std.specs.Str.{bytes_eq}
use Rattle.std.proofs.lemmas.Cmp.{nat_list_cmp_total}
use Rattle.std.proofs.lemmas.Map.Text.{is_eq-slice_cmp}
use Rattle.log_state.proofs.InOrder.{before}
use Rattle.table_files.specs.Files.{File, FileLine, Removes, Adds}
use Rattle.table_changes.specs.Table.{without_path, placed, reconciled, paths_of, file_at, live_by}
use Rattle.table_changes.proofs.Files.{is_before, same_path, self_path, other_path}
use Rattle.log_laws.specs.Replay.{LiveAreOrdered}

abbrev pub order : List ℕ → List ℕ → Ordering
order = slice_cmp nat_cmp

-- each of the files stands in order behind those before it
abbrev pub AreOrdered : List File → Type 0
AreOrdered fs = IsStrictlySortedBy order (paths_of fs)

-- the path stands before those of the files
abbrev Precedes : List ℕ → List File → Type 0
Precedes p fs = AllByRecursion (λ q. order p q ≡ Less) (paths_of fs)

precedes_more : (p q : List ℕ) (fs : List File) → order p q ≡ Less → Precedes q fs → Precedes p fs
precedes_more p q [] less all = tt
precedes_more p q (a ∷ fs) less all = (nat_list_cmp_total.trans p q a.path less all.0, precedes_more p q fs less all.1)

precedes_without : (p q : List ℕ) (fs : List File) → Precedes p fs → Precedes p (without_path fs q)
precedes_without p q [] all = tt
precedes_without p q (a ∷ fs) all = by (bytes_eq a.path q) (precedes_without p q fs all.1)
  where
    by : (b : Bool) → Precedes p (without_path fs q) → Precedes p (if b then without_path fs q else a ∷ without_path fs q)
    by true rest = rest
    by false rest = (all.0, rest)

ordered_without : (q : List ℕ) (fs : List File) → AreOrdered fs → AreOrdered (without_path fs q)
unfolding IsStrictlySortedBy
ordered_without q [] up = tt
ordered_without q (a ∷ fs) up = by (bytes_eq a.path q) (ordered_without q fs up.1)
  where
    by : (b : Bool) → AreOrdered (without_path fs q) → AreOrdered (if b then without_path fs q else a ∷ without_path fs q)
    by true rest = rest
    by false rest = (precedes_without a.path q fs up.0, rest)

precedes_placed : (p : List ℕ) (a : File) (fs : List File) → order p a.path ≡ Less → Precedes p fs → Precedes p (placed a fs)
precedes_placed p a [] less all = (less, tt)
precedes_placed p a (b ∷ fs) less all = by (is_before b a) (precedes_placed p a fs less all.1)
  where
    by : (c : Bool) → Precedes p (placed a fs) → Precedes p (if c then b ∷ placed a fs else a ∷ b ∷ fs)
    by true rest = (all.0, rest)
    by false rest = (less, all)

is_less : (p q : List ℕ) → is_lt (order p q) ≡ true → order p q ≡ Less
is_less p q h = by (order p q) h
  where
    by : (o : Ordering) → is_lt o ≡ true → o ≡ Less
    by Less h = refl
    by Equal h = let bad : false ≡ true = h in cc
    by Greater h = let bad : false ≡ true = h in cc

ordered_placed : (a : File) (fs : List File) → file_at a.path fs ≡ None → AreOrdered fs → AreOrdered (placed a fs)
unfolding IsStrictlySortedBy
ordered_placed a [] none up = (tt, tt)
ordered_placed a (b ∷ fs) none up = differ (bytes_eq b.path a.path) refl none (λ n. ordered_placed a fs n up.1)
  where
    by : (c : Bool) → is_before b a ≡ c → bytes_eq b.path a.path ≡ false → AreOrdered (placed a fs) → AreOrdered (if c then b ∷ placed a fs else a ∷ b ∷ fs)
    by true e apart rest = (precedes_placed b.path a fs (is_less b.path a.path e) up.0, rest)
    by false e apart rest = let less = before a.path b.path (other_path b.path a.path apart) e in ((less, precedes_more a.path b.path fs less up.0), up)

    differ : (c : Bool) → bytes_eq b.path a.path ≡ c → (if c then Some b else file_at a.path fs) ≡ None → (file_at a.path fs ≡ None → AreOrdered (placed a fs)) → AreOrdered (placed a (b ∷ fs))
    differ true e none rest = cc
    differ false e none rest = by (is_before b a) refl e (rest none)

-- what was taken out isn't there
pub file_at-without_same : (p : List ℕ) (fs : List File) → file_at p (without_path fs p) ≡ None
file_at-without_same p [] = refl
file_at-without_same p (a ∷ fs) = by (bytes_eq a.path p) refl (file_at-without_same p fs)
  where
    by : (b : Bool) → bytes_eq a.path p ≡ b → file_at p (without_path fs p) ≡ None → file_at p (if b then without_path fs p else a ∷ without_path fs p) ≡ None
    by true e rest = rest
    by false e rest = ap (λ (c : Bool). if c then Some a else file_at p (without_path fs p)) e ∙ rest

ordered_reconciled : (fs : List File) (ls : List FileLine) → AreOrdered fs → AreOrdered (reconciled fs ls)
ordered_reconciled fs [] up = up
ordered_reconciled fs (Removes t changes ∷ ls) up = ordered_reconciled (without_path fs t.path) ls (ordered_without t.path fs up)
ordered_reconciled fs (Adds a changes ∷ ls) up =
    ordered_reconciled (placed a (without_path fs a.path)) ls (ordered_placed a (without_path fs a.path) (file_at-without_same a.path fs) (ordered_without a.path fs up))

pub none_ordered : AreOrdered []
unfolding IsStrictlySortedBy
none_ordered = tt

pub live_are_ordered : LiveAreOrdered
live_are_ordered said zero = ordered_reconciled [] (said 0).lines none_ordered
live_are_ordered said (suc v) = ordered_reconciled (live_by said v) (said (suc v)).lines (live_are_ordered said v)

-- ---- lists with the same files

apart_from : (p q : List ℕ) → order p q ≡ Less → bytes_eq q p ≡ false
apart_from p q less = other_path p q (sym (is_eq-slice_cmp p q) ∙ ap is_eq less)

-- none of the files behind a path has it
none_behind : (p : List ℕ) (fs : List File) → Precedes p fs → file_at p fs ≡ None
none_behind p [] all = refl
none_behind p (a ∷ fs) all = ap (λ (b : Bool). if b then Some a else file_at p fs) (apart_from p a.path all.0) ∙ none_behind p fs all.1

first_is : (a : File) (fs : List File) → file_at a.path (a ∷ fs) ≡ Some a
first_is a fs = ap (λ (b : Bool). if b then Some a else file_at a.path fs) (self_path a.path)

abbrev HaveSame : List File → List File → Type 0
HaveSame xs ys = (p : List ℕ) → file_at p xs ≡ file_at p ys

-- files whose first paths differ
first_missing : (a b : File) (xs ys : List File) → order a.path b.path ≡ Less → Precedes b.path ys → HaveSame (a ∷ xs) (b ∷ ys) → ⊥
first_missing a b xs ys less all same =
    let bad : Some a ≡ None = sym (first_is a xs) ∙ same a.path ∙ none_behind a.path (b ∷ ys) (less, precedes_more a.path b.path ys less all) in
    cc

rest_same : (a b : File) (xs ys : List File) → bytes_eq a.path b.path ≡ true → Precedes a.path xs → Precedes b.path ys → HaveSame (a ∷ xs) (b ∷ ys) → HaveSame xs ys
rest_same a b xs ys e before_xs before_ys same p = by (bytes_eq a.path p) refl
  where
    is : a.path ≡ b.path
    is = same_path a.path b.path e

    by : (c : Bool) → bytes_eq a.path p ≡ c → file_at p xs ≡ file_at p ys
    by true here =
        let at : a.path ≡ p = same_path a.path p here in
        subst (λ (q : List ℕ). file_at q xs ≡ None) at (none_behind a.path xs before_xs) ∙ sym (subst (λ (q : List ℕ). file_at q ys ≡ None) (sym is ∙ at) (none_behind b.path ys before_ys))
    by false there =
        sym (ap (λ (c : Bool). if c then Some a else file_at p xs) there) ∙ same p ∙ ap (λ (c : Bool). if c then Some b else file_at p ys) (ap (λ (q : List ℕ). bytes_eq q p) (sym is) ∙ there)

pub same_files : (xs ys : List File) → AreOrdered xs → AreOrdered ys → HaveSame xs ys → xs ≡ ys
unfolding IsStrictlySortedBy
same_files [] [] up_x up_y same = refl
same_files [] (b ∷ ys) up_x up_y same = let bad : None ≡ Some b = same b.path ∙ first_is b ys in cc
same_files (a ∷ xs) [] up_x up_y same = let bad : Some a ≡ None = sym (first_is a xs) ∙ same a.path in cc
same_files (a ∷ xs) (b ∷ ys) up_x up_y same = by (order a.path b.path) refl (λ s. same_files xs ys up_x.1 up_y.1 s)
  where
    by : (o : Ordering) → order a.path b.path ≡ o → (HaveSame xs ys → xs ≡ ys) → a ∷ xs ≡ b ∷ ys
    by Less e rest = absurd (first_missing a b xs ys e up_y.0 same)
    by Greater e rest = absurd (first_missing b a ys xs (nat_list_cmp_total.antisymm b.path a.path ∙ ap ordering_reverse e) up_x.0 (λ p. sym (same p)))
    by Equal e rest =
        let here : bytes_eq a.path b.path ≡ true = sym (is_eq-slice_cmp a.path b.path) ∙ ap is_eq e in
        let one : Some a ≡ Some b = sym (first_is a xs) ∙ same a.path ∙ ap (λ (c : Bool). if c then Some b else file_at a.path ys) (other_true here) in
        let file : a ≡ b = cc in
        let more = rest (rest_same a b xs ys here up_x.0 up_y.0 same) in
        λ i. file i ∷ more i
      where
        other_true : bytes_eq a.path b.path ≡ true → bytes_eq b.path a.path ≡ true
        other_true h = subst (λ (q : List ℕ). bytes_eq b.path q ≡ true) (sym (same_path a.path b.path h)) (self_path b.path)
