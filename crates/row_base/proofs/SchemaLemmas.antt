-- A schema has no fault exactly where it is one.
use Rattle.std.proofs.Common.{◌≡◌, ◌≢◌, ℕ, zero, suc, ◌+◌, ◌<◌, ◌≤◌, ◌==◌, nat_lt, Bool, true, false, not, ◌||◌, cond, List, [], length, get_or, take, ◌⊎◌, Option, Some, None, refl, sym, ◌∙◌, ap, subst, arith}
use Rattle.std.specs.List.{list_any, All, AllPairs}
use Rattle.std.specs.Option.{option_map, option_or}
use Rattle.std.specs.Cmp.Lexicographic.{pointwise, bytes_decides}
use Rattle.std.proofs.lemmas.Bool.{true≢false, false_from_ne_true}
use Rattle.std.proofs.lemmas.Bool.Decides.{nat_tests, Decides-eqb}
use Rattle.std.proofs.lemmas.List.{get_or-take, get_or_default, length-take-le}
use Rattle.std.proofs.lemmas.List.Folds.{list_any_none, list_any_at}
use Rattle.row_base.specs.declared.schema.Column.{Column}
use Rattle.row_base.specs.declared.schema.SchemaFault.{SchemaFault}
use Rattle.row_base.specs.declared.schema.SchemaFault.TheVariants as fault
use Rattle.row_base.specs.Schema.{first_after, repeats_name, is_wrong_place, is_column_count, schema_fault, IsSchema, IsSchemaFault}
use Rattle.row_base.proofs.FirstAfter.{first_after-None, first_after-none, first_wrong, inside}

-- the names differ exactly where none repeats one
names_differ : (cs : List Column) → first_after repeats_name [] cs ≡ None → AllPairs (λ c d. c.name ≢ d.name) cs
names_differ cs e i j d before within same =
    let name = (get_or cs j d).name in
    let miss = first_after-None repeats_name [] cs e j d within in
    let front : i < length (take j cs) = omega (arith, length-take-le j cs (omega arith)) in
    let hit = list_any_at (λ c. pointwise ◌==◌ c.name name) (take j cs) i d front
    ((bytes_decides (get_or (take j cs) i d).name name).1 (ap (λ (c : Column). c.name) (get_or-take j cs i d before) ∙ same)) in
    true≢false (sym hit ∙ miss)

none_repeats : (cs : List Column) → AllPairs (λ c d. c.name ≢ d.name) cs → first_after repeats_name [] cs ≡ None
none_repeats cs differ = first_after-none repeats_name [] cs
    (λ j d within. list_any_none (λ c. pointwise ◌==◌ c.name (get_or cs j d).name) (take j cs)
    (λ i e front.
    let before : i < j = omega (arith, length-take-le j cs (omega arith)) in
    false_from_ne_true _ (λ hit. differ i j d before within
    (ap (λ (c : Column). c.name) (get_or_default cs i d e (omega arith) ∙ sym (get_or-take j cs i e before))
    ∙ (bytes_decides (get_or (take j cs) i e).name (get_or cs j d).name).0 hit))))

-- what a right place is
place_parts : (b : Bool) (n p m : ℕ) → (not (nat_lt p n) || b || (m + 1 == n)) ≡ false → (p < n) × (b ≡ false) × (m + 1 ≢ n)
place_parts true n p m e = grind (arith, nat_tests)
place_parts false n p m e = grind (arith, nat_tests)

place_whole : (b : Bool) (n p m : ℕ) → p < n → b ≡ false → m + 1 ≢ n → (not (nat_lt p n) || b || (m + 1 == n)) ≡ false
place_whole b n p m within e apart = grind (arith, nat_tests)

-- fewer than n, where no front has n
fewer : (n len : ℕ) → 0 < n → ((i : ℕ) → i < len → i + 1 ≢ n) → (k : ℕ) → k ≤ len → k < n
fewer n len some apart zero h = some
fewer n len some apart (suc k) h = let before = fewer n len some apart k (omega arith) in let ne : k + 1 ≢ n = apart k (omega arith) in omega arith

right_place : (n : ℕ) (ps : List ℕ) → first_after (is_wrong_place n) [] ps ≡ None → (i : ℕ) (d : ℕ) → i < length ps
    → (get_or ps i d < n) × (list_any (λ p. p == get_or ps i d) (take i ps) ≡ false) × (i + 1 ≢ n)
right_place n ps e i d within =
    let parts = place_parts (list_any (λ p. p == get_or ps i d) (take i ps)) n (get_or ps i d) (length (take i ps)) (first_after-None (is_wrong_place n) [] ps e i d within) in
    let front : length (take i ps) ≡ i = length-take-le i ps (omega arith) in
    (parts.0, parts.1, let ne = parts.2 in omega arith)

places_once : (n : ℕ) (ps : List ℕ) → first_after (is_wrong_place n) [] ps ≡ None → AllPairs ◌≢◌ ps
places_once n ps e i j d before within same =
    let miss = (right_place n ps e j d within).1 in
    let front : i < length (take j ps) = omega (arith, length-take-le j ps (omega arith)) in
    let hit = list_any_at (λ p. p == get_or ps j d) (take j ps) i d front ((Decides-eqb (get_or (take j ps) i d) (get_or ps j d)).1 (get_or-take j ps i d before ∙ same)) in
    true≢false (sym hit ∙ miss)

none_wrong : (n : ℕ) (ps : List ℕ) → All (λ p. p < n) ps → AllPairs ◌≢◌ ps → length ps < n → first_after (is_wrong_place n) [] ps ≡ None
none_wrong n ps within once less = first_after-none (is_wrong_place n) [] ps
    (λ j d h.
    let front : length (take j ps) ≡ j = length-take-le j ps (omega arith) in
    let unlisted = list_any_none (λ p. p == get_or ps j d) (take j ps)
    (λ i e early.
    let before : i < j = omega arith in
    false_from_ne_true _ (λ hit. once i j d before h
    (get_or_default ps i d e (omega arith) ∙ sym (get_or-take j ps i e before) ∙ (Decides-eqb (get_or (take j ps) i e) (get_or ps j d)).0 hit))) in
    place_whole _ n (get_or ps j d) (length (take j ps)) (within j d h) unlisted (λ same. absurd (omega arith)))

count_parts : (n : ℕ) → is_column_count n ≡ true → (0 < n) × (n ≤ 64)
count_parts n e = grind (arith, nat_tests)

count_whole : (n : ℕ) → 0 < n → n ≤ 64 → is_column_count n ≡ true
count_whole n some few = grind (arith, nat_tests)

-- a schema has no fault where its count, its names and its places have none
fault_parts : (b : Bool) (x : Option (ℕ × Column)) (y : Option (ℕ × ℕ))
    → cond b (option_or (option_map (λ t. fault.Twice t.0) x) (option_map (λ t. fault.Partition t.1) y)) (Some fault.Columns) ≡ None
    → (b ≡ true) × (x ≡ None) × (y ≡ None)
fault_parts true None None e = (refl, refl, refl)
fault_parts true None (Some y) e = cc
fault_parts true (Some x) y e = cc
fault_parts false x y e = cc

pub schema_sound : (cs : List Column) (ps : List ℕ) → schema_fault cs ps ≡ None → IsSchema (record { columns = cs; partition = ps })
schema_sound cs ps e =
    let parts = fault_parts (is_column_count (length cs)) (first_after repeats_name [] cs) (first_after (is_wrong_place (length cs)) [] ps) e in
    let count = count_parts (length cs) parts.0 in
    record {
      least = count.0;
      most = count.1;
      names = names_differ cs parts.1;
      places = λ i d h. (right_place (length cs) ps parts.2 i d h).0;
      once = places_once (length cs) ps parts.2;
      data_left = fewer (length cs) (length ps) count.0 (λ i h. (right_place (length cs) ps parts.2 i 0 h).2) (length ps) (omega arith);
    }

pub schema_complete : (cs : List Column) (ps : List ℕ) → IsSchema (record { columns = cs; partition = ps }) → schema_fault cs ps ≡ None
schema_complete cs ps s =
    rw (count_whole (length cs) s.least s.most)
    (rw (none_repeats cs s.names) (rw (none_wrong (length cs) ps s.places s.once s.data_left)))

-- what a fault says
wrong_count : (n : ℕ) → is_column_count n ≡ false → (n ≡ 0) ⊎ (64 < n)
wrong_count n e = grind (arith, nat_tests)

pub schema_fault_is : (cs : List Column) (ps : List ℕ) (f : SchemaFault) → schema_fault cs ps ≡ Some f → IsSchemaFault cs ps f
schema_fault_is cs ps f e =
    by (is_column_count (length cs)) refl (first_after repeats_name [] cs) refl (first_after (is_wrong_place (length cs)) [] ps) refl e
  where
    told : (g : SchemaFault) → g ≡ f → IsSchemaFault cs ps g → IsSchemaFault cs ps f
    told g same t = subst (IsSchemaFault cs ps) same t

    by : (b : Bool) → is_column_count (length cs) ≡ b
        → (x : Option (ℕ × Column)) → first_after repeats_name [] cs ≡ x
        → (y : Option (ℕ × ℕ)) → first_after (is_wrong_place (length cs)) [] ps ≡ y
        → cond b (option_or (option_map (λ t. fault.Twice t.0) x) (option_map (λ t. fault.Partition t.1) y)) (Some fault.Columns) ≡ Some f
        → IsSchemaFault cs ps f
    by false n x p y q e = told fault.Columns (inside e) (wrong_count (length cs) n)
    by true n (Some t) p y q e = told (fault.Twice t.0) (inside e) (first_wrong repeats_name cs t.0 t.1 p).0
    by true n None p (Some t) q e =
        let w = first_wrong (is_wrong_place (length cs)) ps t.0 t.1 q in
        told (fault.Partition t.1) (inside e) (t.0, w.0, w.1 0)
    by true n None p None q e = cc
