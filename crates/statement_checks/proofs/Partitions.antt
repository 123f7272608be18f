-- Places of partition columns, none of which is wrong after those before it.
use Rattle.std.proofs.Common.{◌≡◌, ◌==◌, ℕ, ◌+◌, nat_lt, Bool, true, false, not, ◌&&◌, ◌||◌, ◌≤◌, if◌then◌else◌, cond, List, [], ◌∷◌, ◌++◌, drop, length, Option, Some, None, Result, Ok, Err, refl, sym, ◌∙◌, ap, subst}
use Rattle.std.specs.List.{list_all, list_any}
use Rattle.std.proofs.lemmas.List.{append-nil, drop_all}
use Rattle.std.specs.Option.{option_map, option_or}
use Rattle.row_base.specs.Faults.{◌>>=◌}
use Rattle.row_base.specs.Schema.{first_after, is_wrong_place, repeats_name, is_column_count, schema_fault}
use Rattle.row_base.specs.declared.row.Kind.{Kind}
use Rattle.row_base.specs.declared.schema.Column.{Column}
use Rattle.row_base.specs.declared.schema.SchemaFault.TheVariants as schema
use Rattle.predicates.specs.Binding.{found_in}
use Rattle.predicates.specs.declared.fault.BindFault.{BindFault}
use Rattle.predicates.specs.declared.fault.BindFault.TheVariants as fault
use Rattle.statement_checks.specs.Names.{once, new_place_in}
use Rattle.statement_checks.specs.Tables.{partition_place_in, partition_in}
use Rattle.statement_checks.proofs.Bound.{bind_ok, inside, both}

-- a test that would be a fault didn't hold
passed : {A : Type 0} (b : Bool) (f : BindFault) (x y : A) → ◌≡◌ {A = Result A BindFault} (if b then Err f else Ok x) (Ok y) → (b ≡ false) × (x ≡ y)
passed true f x y e = absurd cc
passed false f x y e = (refl, inside x y e)

none_holds : (a b c : Bool) → a ≡ true → b ≡ false → c ≡ false → (not a || b || c) ≡ false
none_holds a b c p q r = rw (p, q, r) refl

-- a new place isn't among those before
new_is_new : (columns : List Column) (before : List ℕ) (name : List ℕ) (p : ℕ) → new_place_in columns before name ≡ Ok p → list_any (λ b. b == p) before ≡ false
new_is_new columns before name p e =
    let f = bind_ok (found_in columns name) (λ f. once (list_any (λ b. b == f.0) before) name >>= λ u. Ok f.0) p e in
    let o = bind_ok (once (list_any (λ b. b == f.0.0) before) name) (λ u. Ok f.0.0) p f.2 in
    subst (λ q. list_any (λ b. b == q) before ≡ false) (inside f.0.0 p o.2) (passed (list_any (λ b. b == f.0.0) before) (fault.Twice name) tt o.0 o.1).0

place_right : (columns : List Column) (before : List ℕ) (name : List ℕ) (p : ℕ) → partition_place_in columns before name ≡ Ok p → nat_lt p (length columns) ≡ true → is_wrong_place (length columns) before p ≡ false
place_right columns before name p e within =
    let q = bind_ok (new_place_in columns before name) (λ q. if length before + 1 == length columns then Err fault.Count else Ok q) p e in
    let left = passed (length before + 1 == length columns) fault.Count q.0 p q.2 in
    none_holds (nat_lt p (length columns)) (list_any (λ b. b == p) before) (length before + 1 == length columns) within
    (subst (λ x. list_any (λ b. b == x) before ≡ false) left.1 (new_is_new columns before name q.0 q.1)) left.0

right_after : (columns : List Column) (before : List ℕ) (names : List (List ℕ)) (ps : List ℕ) → partition_in columns before names ≡ Ok ps → list_all (λ p. nat_lt p (length columns)) ps ≡ true → first_after (is_wrong_place (length columns)) before ps ≡ None
unfolding partition_in
right_after columns before [] ps e within = subst (λ z. first_after (is_wrong_place (length columns)) before z ≡ None) (inside [] ps e) refl
right_after columns before (n ∷ ns) ps e within =
    let p = bind_ok (partition_place_in columns before n) (λ p. partition_in columns (before ++ p ∷ []) ns >>= λ rest. Ok (p ∷ rest)) ps e in
    let q = bind_ok (partition_in columns (before ++ p.0 ∷ []) ns) (λ rest. Ok (p.0 ∷ rest)) ps p.2 in
    let same : p.0 ∷ q.0 ≡ ps = inside (p.0 ∷ q.0) ps q.2 in
    let all = both (nat_lt p.0 (length columns)) (list_all (λ x. nat_lt x (length columns)) q.0) (subst (λ z. list_all (λ x. nat_lt x (length columns)) z ≡ true) (sym same) within) in
    subst (λ z. first_after (is_wrong_place (length columns)) before z ≡ None) same
    (ap (λ b. cond b (Some (length before, p.0)) (first_after (is_wrong_place (length columns)) (before ++ p.0 ∷ []) q.0)) (place_right columns before n p.0 p.1 all.0)
    ∙ right_after columns (before ++ p.0 ∷ []) ns q.0 q.1 all.1)

pub places_right : (columns : List Column) (names : List (List ℕ)) (ps : List ℕ) → partition_in columns [] names ≡ Ok ps → list_all (λ p. nat_lt p (length columns)) ps ≡ true → first_after (is_wrong_place (length columns)) [] ps ≡ None
places_right columns names ps e within = right_after columns [] names ps e within

-- where no name is left, the places so far are the places
pub places_made : (columns : List Column) (places : List ℕ) (names : List (List ℕ)) (i : ℕ) → length names ≤ i → (partition_in columns places (drop i names) >>= λ ps. Ok (places ++ ps)) ≡ partition_in columns [] names → partition_in columns [] names ≡ Ok places
unfolding partition_in
places_made columns places names i past e =
    sym e ∙ ap (λ ns. partition_in columns places ns >>= λ ps. Ok (places ++ ps)) (drop_all i names past) ∙ ap (λ (ps : List ℕ). Ok ps) (append-nil places)

-- columns that make a schema alone make one with places of which none is wrong
pub no_fault : (cs : List Column) (ps : List ℕ) → schema_fault cs [] ≡ None → first_after (is_wrong_place (length cs)) [] ps ≡ None → schema_fault cs ps ≡ None
no_fault cs ps columns places =
    ap (λ (f : Option (ℕ × ℕ)). if is_column_count (length cs) then option_or (option_map (λ x. schema.Twice x.0) (first_after repeats_name [] cs)) (option_map (λ x. schema.Partition x.1) f) else Some schema.Columns) places
    ∙ columns
