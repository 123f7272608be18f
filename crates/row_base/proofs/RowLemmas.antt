-- Rows that fit, and settled rows.
use Rattle.std.proofs.Common.{◌≡◌, ◌≢◌, ℕ, zero, suc, ◌+◌, ◌<◌, ◌==◌, Bool, true, false, not, ◌&&◌, cond, List, [], ◌∷◌, length, get_or, take, set, ◌⊎◌, inl, inr, Option, Some, None, refl, sym, ◌∙◌, ap, arith, add-one, add-zero, zero-add}
use Rattle.std.specs.List.{list_any}
use Rattle.std.specs.Option.{option_or}
use Rattle.std.proofs.lemmas.Bool.Decides.{nat_tests}
use Rattle.row_base.specs.declared.row.Datum.{Datum}
use Rattle.row_base.specs.declared.row.Datum.TheVariants as datum
use Rattle.row_base.specs.declared.schema.Column.{Column}
use Rattle.row_base.specs.declared.schema.RowFault.{RowFault}
use Rattle.row_base.specs.declared.schema.RowFault.TheVariants as fault
use Rattle.row_base.specs.Schema.{TableSchema, datum_fault, first_datum_fault, row_fault, FitsSchema, IsRowFault, settled_datum, settled, is_of_kind, is_empty_text}

pub length-settled : (cs : List Column) (ds : List Datum) → length (settled cs ds) ≡ length ds
length-settled [] ds = refl
length-settled (c ∷ cs) [] = refl
length-settled (c ∷ cs) (d ∷ ds) = ap (λ (n : ℕ). suc n) (length-settled cs ds)

-- one column more is settled
pub settled_more : (cs : List Column) (ds : List Datum) (i : ℕ) (c : Column) (d : Datum) → i < length cs → i < length ds
    → settled (take (i + 1) cs) ds ≡ set (settled (take i cs) ds) i (settled_datum (get_or cs i c).kind (get_or ds i d))
settled_more [] ds i c d h k = absurd (omega arith)
settled_more (b ∷ cs) [] i c d h k = absurd (omega arith)
settled_more (b ∷ cs) (e ∷ ds) zero c d h k = refl
settled_more (b ∷ cs) (e ∷ ds) (suc i) c d h k =
    ap (λ n. settled (take n (b ∷ cs)) (e ∷ ds)) (add-one (suc i))
    ∙ ap (λ xs. settled_datum b.kind e ∷ xs) (ap (λ n. settled (take n cs) ds) (sym (add-one i)) ∙ settled_more cs ds i c d (omega arith) (omega arith))

-- what isn't settled yet is as it was
pub get_or-settled : (cs : List Column) (ds : List Datum) (i : ℕ) (d : Datum) → get_or (settled (take i cs) ds) i d ≡ get_or ds i d
get_or-settled [] ds zero d = refl
get_or-settled [] ds (suc i) d = refl
get_or-settled (c ∷ cs) ds zero d = refl
get_or-settled (c ∷ cs) [] (suc i) d = refl
get_or-settled (c ∷ cs) (e ∷ ds) (suc i) d = get_or-settled cs ds i d

-- a row has no wrong datum exactly where each is right
none_of : {A : Type 0} (x y : Option A) → option_or x y ≡ None → (x ≡ None) × (y ≡ None)
none_of None y e = (refl, e)
none_of (Some x) y e = cc

each_right : (ps : List ℕ) (at : ℕ) (cs : List Column) (ds : List Datum) → length ds ≡ length cs → first_datum_fault ps at cs ds ≡ None
    → (k : ℕ) (c : Column) (d : Datum) → k < length ds → datum_fault ps (at + k) (get_or cs k c) (get_or ds k d) ≡ None
each_right ps at cs [] long e k c d h = absurd (omega arith)
each_right ps at [] (x ∷ ds) long e k c d h = absurd (omega arith)
each_right ps at (b ∷ cs) (x ∷ ds) long e zero c d h = rw (add-zero at) ((none_of (datum_fault ps at b x) (first_datum_fault ps (at + 1) cs ds) e).0)
each_right ps at (b ∷ cs) (x ∷ ds) long e (suc k) c d h =
    let rest = each_right ps (at + 1) cs ds (omega arith) ((none_of (datum_fault ps at b x) (first_datum_fault ps (at + 1) cs ds) e).1) k c d (omega arith) in
    let same : at + suc k ≡ at + 1 + k = omega arith in
    ap (λ n. datum_fault ps n (get_or cs k c) (get_or ds k d)) same ∙ rest

right_each : (ps : List ℕ) (at : ℕ) (cs : List Column) (ds : List Datum) → length ds ≡ length cs
    → ((k : ℕ) (c : Column) (d : Datum) → k < length ds → datum_fault ps (at + k) (get_or cs k c) (get_or ds k d) ≡ None) → first_datum_fault ps at cs ds ≡ None
right_each ps at cs [] long right = by cs
  where
    by : (cs : List Column) → first_datum_fault ps at cs [] ≡ None
    by [] = refl
    by (c ∷ cs) = refl
right_each ps at [] (x ∷ ds) long right = refl
right_each ps at (b ∷ cs) (x ∷ ds) long right =
    let here : datum_fault ps at b x ≡ None = ap (λ n. datum_fault ps n b x) (sym (add-zero at)) ∙ right 0 b x (omega arith) in
    let rest = right_each ps (at + 1) cs ds (omega arith) (λ k c d h.
    let same : at + 1 + k ≡ at + suc k = omega arith in
    ap (λ n. datum_fault ps n (get_or cs k c) (get_or ds k d)) same ∙ right (suc k) c d (omega arith)) in
    ap (λ x. option_or x (first_datum_fault ps (at + 1) cs ds)) here ∙ rest

by_count : (b : Bool) (x : Option RowFault) → cond b x (Some fault.Count) ≡ None → (b ≡ true) × (x ≡ None)
by_count true x e = (refl, e)
by_count false x e = cc

same_count : (m n : ℕ) → (m == n) ≡ true → m ≡ n
same_count m n e = grind (arith, nat_tests)

count_same : (m n : ℕ) → m ≡ n → (m == n) ≡ true
count_same m n e = grind (arith, nat_tests)

not_same : (m n : ℕ) → (m == n) ≡ false → m ≢ n
not_same m n e same = grind (arith, nat_tests)

other_count : (m n : ℕ) → m ≢ n → (m == n) ≡ false
other_count m n e = grind (arith, nat_tests)

pub fits_schema : (s : TableSchema) (row : List Datum) → row_fault s row ≡ None → FitsSchema s row
fits_schema s row e =
    let parts = by_count (length row == length s.columns) (first_datum_fault s.partition 0 s.columns row) e in
    let long = same_count (length row) (length s.columns) parts.0 in
    record {
      count = long;
      each = λ k c d h. ap (λ n. datum_fault s.partition n (get_or s.columns k c) (get_or row k d)) (sym (zero-add k)) ∙ each_right s.partition 0 s.columns row long parts.1 k c d h;
    }

pub no_fault : (s : TableSchema) (row : List Datum) → FitsSchema s row → row_fault s row ≡ None
no_fault s row f =
    ap (λ b. cond b (first_datum_fault s.partition 0 s.columns row) (Some fault.Count)) (count_same (length row) (length s.columns) f.count)
    ∙ right_each s.partition 0 s.columns row f.count (λ k c d h. ap (λ n. datum_fault s.partition n (get_or s.columns k c) (get_or row k d)) (zero-add k) ∙ f.each k c d h)

-- the count that is wrong before is wrong once the row is settled
pub wrong_count : (s : TableSchema) (row : List Datum) → length row ≢ length s.columns → row_fault s (settled s.columns row) ≡ Some fault.Count
wrong_count s row apart =
    let other : (length (settled s.columns row) == length s.columns) ≡ false = ap (λ n. n == length s.columns) (length-settled s.columns row) ∙ other_count (length row) (length s.columns) apart in
    ap (λ b. cond b (first_datum_fault s.partition 0 s.columns (settled s.columns row)) (Some fault.Count)) other

pub right_count : (s : TableSchema) (row : List Datum) → length row ≡ length s.columns → row_fault s (settled s.columns row) ≡ first_datum_fault s.partition 0 s.columns (settled s.columns row)
right_count s row long =
    ap (λ b. cond b (first_datum_fault s.partition 0 s.columns (settled s.columns row)) (Some fault.Count))
    (count_same (length (settled s.columns row)) (length s.columns) (length-settled s.columns row ∙ long))

-- what a fault of a row says
record Found (ps : List ℕ) (at : ℕ) (cs : List Column) (ds : List Datum) (f : RowFault) : Type 0 where
  place : ℕ
  within : place < length ds
  here : (c : Column) (d : Datum) → datum_fault ps (at + place) (get_or cs place c) (get_or ds place d) ≡ Some f
  right : (j : ℕ) (c : Column) (d : Datum) → j < place → datum_fault ps (at + j) (get_or cs j c) (get_or ds j d) ≡ None

found : (ps : List ℕ) (at : ℕ) (cs : List Column) (ds : List Datum) (f : RowFault) → first_datum_fault ps at cs ds ≡ Some f → Found ps at cs ds f
found ps at [] ds f e = cc
found ps at (b ∷ cs) [] f e = cc
found ps at (b ∷ cs) (x ∷ ds) f e = by (datum_fault ps at b x) refl e (found ps (at + 1) cs ds f)
  where
    by : (r : Option RowFault) → datum_fault ps at b x ≡ r → option_or r (first_datum_fault ps (at + 1) cs ds) ≡ Some f
        → (first_datum_fault ps (at + 1) cs ds ≡ Some f → Found ps (at + 1) cs ds f) → Found ps at (b ∷ cs) (x ∷ ds) f
    by (Some g) r e rest = record {
      place = 0;
      within = omega arith;
      here = λ c d. ap (λ n. datum_fault ps n b x) (add-zero at) ∙ r ∙ e;
      right = λ j c d h. absurd (omega arith);
    }
    by None r e rest =
        let g = rest e in
        record {
          place = suc g.place;
          within = omega (arith, g.within);
          here = λ c d. moved at g.place (λ n. datum_fault ps n (get_or cs g.place c) (get_or ds g.place d)) ∙ g.here c d;
          right = earlier g;
        }
      where
        moved : (m n : ℕ) (h : ℕ → Option RowFault) → h (m + suc n) ≡ h (m + 1 + n)
        moved m n h = let same : m + suc n ≡ m + 1 + n = omega arith in ap h same

        earlier : (g : Found ps (at + 1) cs ds f) → (j : ℕ) (c : Column) (d : Datum) → j < suc g.place
            → datum_fault ps (at + j) (get_or (b ∷ cs) j c) (get_or (x ∷ ds) j d) ≡ None
        earlier g zero c d h = ap (λ n. datum_fault ps n b x) (add-zero at) ∙ r
        earlier g (suc i) c d h = moved at i (λ n. datum_fault ps n (get_or cs i c) (get_or ds i d)) ∙ g.right i c d (omega arith)

pub row_fault_is : (s : TableSchema) (row : List Datum) (f : RowFault) → row_fault s row ≡ Some f → IsRowFault s row f
row_fault_is s row f e = by (length row == length s.columns) refl e
  where
    by : (b : Bool) → (length row == length s.columns) ≡ b → cond b (first_datum_fault s.partition 0 s.columns row) (Some fault.Count) ≡ Some f → IsRowFault s row f
    by false n e = inl (cc, not_same (length row) (length s.columns) n)
    by true n e =
        let g = found s.partition 0 s.columns row f e in
        inr (record {
          place = g.place;
          count = same_count (length row) (length s.columns) n;
          within = g.within;
          here = λ c d. ap (λ k. datum_fault s.partition k (get_or s.columns g.place c) (get_or row g.place d)) (sym (zero-add g.place)) ∙ g.here c d;
          before = λ j c d h. ap (λ k. datum_fault s.partition k (get_or s.columns j c) (get_or row j d)) (sym (zero-add j)) ∙ g.right j c d h;
        })

-- a datum with nothing wrong is a null that its column allows, or of the column's kind
of_kind : (b e : Bool) (x y : RowFault) → cond (not b) (Some x) (cond e (Some y) None) ≡ None → b ≡ true
of_kind true e x y h = refl
of_kind false e x y h = cc

nullable_is : (b : Bool) (x : RowFault) → cond b None (Some x) ≡ None → b ≡ true
nullable_is true x h = refl
nullable_is false x h = cc

pub right_datum : (ps : List ℕ) (k : ℕ) (c : Column) (d : Datum) → datum_fault ps k c d ≡ None
    → ((d ≡ datum.Null) × (c.nullable ≡ true)) ⊎ (is_of_kind c.kind d ≡ true)
right_datum ps k c datum.Null e = inl (refl, nullable_is c.nullable (fault.Null k) e)
right_datum ps k c (datum.Long n) e = inr (of_kind (is_of_kind c.kind (datum.Long n)) false (fault.Kind k) (fault.EmptyPartition k) e)
right_datum ps k c (datum.Integer n) e = inr (of_kind (is_of_kind c.kind (datum.Integer n)) false (fault.Kind k) (fault.EmptyPartition k) e)
right_datum ps k c (datum.Boolean b) e = inr (of_kind (is_of_kind c.kind (datum.Boolean b)) false (fault.Kind k) (fault.EmptyPartition k) e)
right_datum ps k c (datum.Text t) e =
    inr (of_kind (is_of_kind c.kind (datum.Text t)) (is_empty_text (datum.Text t) && list_any (λ p. p == k) ps) (fault.Kind k) (fault.EmptyPartition k) e)
right_datum ps k c (datum.Date n) e = inr (of_kind (is_of_kind c.kind (datum.Date n)) false (fault.Kind k) (fault.EmptyPartition k) e)
