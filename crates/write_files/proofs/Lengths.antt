-- How many rows are of one group, and how many go into one file.
use Rattle.std.proofs.Common.{◌≡◌, ℕ, zero, suc, ◌<◌, ◌≤◌, ◌+◌, ◌-◌, nat_lt, nat_le, Bool, true, false, ◌&&◌, cond, List, [], ◌∷◌, ◌++◌, length, take, drop, get_or, Some, None, refl, sym, ap, ◌∙◌, arith, length-take-le}
use Rattle.std.specs.Ordering.{is_eq}
use Rattle.std.specs.Borrow.{Bor}
use Rattle.std.proofs.lemmas.List.{length-map, map_more, drop_all, drop-drop, append-nil, append_assoc}
use Rattle.std.proofs.lemmas.Bool.{true≢false}
use borrow.Author.Tests.{leb-true, leb-false, le-leb}
use Rattle.row_base.specs.declared.row.Datum.{Datum}
use Rattle.row_base.specs.RowOrder.{row_cmp}
use Rattle.row_base.specs.Schema.{TableSchema}
use Rattle.write_files.specs.declared.limits.TheConstants.{MAX_NEW_FILE_ROWS, MAX_NEW_FILE_SIZE}
use Rattle.write_files.specs.Order.{values_of}
use Rattle.write_files.specs.Pieces.{cut, cut_after, first_row, has_values, has_room, row_size, rows_size, room_after, room_behind, pieces_in, rows_now}
use Rattle.write_files.proofs.Cuts as cuts

-- borrowed rows
abbrev Slices : Type 0
Slices = List (Bor (List Datum))

abbrev now : Bor (List Datum) → List Datum
now r = r.now

-- ---- groups

first_taken : (rows : Slices) (i : ℕ) (x : Bor (List Datum)) → 0 < i → 0 < length rows → x ≡ get_or rows 0 x → first_row (rows_now (take i rows)) ≡ x.now
first_taken [] i x some has at = absurd (omega (arith, has))
first_taken (r ∷ rs) zero x some has at = absurd (omega (arith, some))
first_taken (r ∷ rs) (suc i) x some has at = sym (ap (λ b. b.now) at)

module _ (s : TableSchema) (rows : Slices) (i : ℕ) (x y : Bor (List Datum)) (some : 0 < i) (lt : i < length rows) (at : x ≡ get_or rows 0 x) (here : y ≡ get_or rows i y) where
  same_values : (b : Bool) → is_eq (row_cmp (values_of s x.now) (values_of s y.now)) ≡ b → has_values s (rows_now (take i rows)) (get_or rows i y).now ≡ b
  same_values b e =
      ap (λ r. is_eq (row_cmp (values_of s r) (values_of s (get_or rows i y).now))) (first_taken rows i x some (omega (arith, lt)) at)
      ∙ ap (λ (r : Bor (List Datum)). is_eq (row_cmp (values_of s x.now) (values_of s r.now))) (sym here) ∙ e

  pub group_more : is_eq (row_cmp (values_of s x.now) (values_of s y.now)) ≡ true
      → cut_after (has_values s) (rows_now (take (i + 1) rows)) (rows_now (drop (i + 1) rows)) ≡ cut_after (has_values s) (rows_now (take i rows)) (rows_now (drop i rows))
  group_more e = cuts.more now (has_values s) rows i y lt (same_values true e)

  pub group_stop : is_eq (row_cmp (values_of s x.now) (values_of s y.now)) ≡ false
      → cut_after (has_values s) (rows_now (take i rows)) (rows_now (drop i rows)) ≡ rows_now (take i rows) ∷ cut (has_values s) (rows_now (drop i rows))
  group_stop e = cuts.stop now (has_values s) rows i y lt (same_values false e)

-- ---- files

fits_by : (b : Bool) (size room : ℕ) (left : ℕ) → nat_le size room ≡ b → cond b (Some (room - size)) None ≡ Some left → (size + left ≡ room) × (size ≤ room)
fits_by true size room left e f = let le = leb-true size room e in let same : room - size ≡ left = cc in (omega (arith, le, same), le)
fits_by false size room left e f = cc

passes_by : (b : Bool) (size room : ℕ) → nat_le size room ≡ b → cond b (Some (room - size)) None ≡ None → room < size
passes_by true size room e f = cc
passes_by false size room e f = leb-false size room e

pub after_some : (room left : ℕ) (row : List Datum) → room_after room row ≡ Some left → (row_size row + left ≡ room) × (row_size row ≤ room)
after_some room left row e = fits_by (nat_le (row_size row) room) (row_size row) room left refl e

pub after_none : (room : ℕ) (row : List Datum) → room_after room row ≡ None → room < row_size row
after_none room row e = passes_by (nat_le (row_size row) room) (row_size row) room refl e

behind_some : (b : Bool) (room left : ℕ) (row : List Datum) → cond b (room_after room row) None ≡ Some left → (b ≡ true) × (room_after room row ≡ Some left)
behind_some true room left row e = (refl, e)
behind_some false room left row e = cc

behind_none : (b : Bool) (room : ℕ) (row : List Datum) → cond b (room_after room row) None ≡ None → (b ≡ true → room_after room row ≡ None)
behind_none true room row e t = e
behind_none false room row e t = absurd (true≢false (sym t))

both : (a b : Bool) → a ≡ true → b ≡ true → (a && b) ≡ true
both true true p q = refl
both true false p q = cc
both false b p q = cc

not_second : (a b : Bool) → (a ≡ true → b ≡ false) → (a && b) ≡ false
not_second true b h = h refl
not_second false b h = refl

over_le : (a b : ℕ) → b < a → nat_le a b ≡ false
over_le a b lt = by (nat_le a b) refl
  where
    by : (t : Bool) → nat_le a b ≡ t → t ≡ false
    by false e = refl
    by true e = absurd (omega (arith, lt, leb-true a b e))

module _ (rows : Slices) (i room : ℕ) (y : Bor (List Datum)) (some : 0 < i) (lt : i < length rows) (here : y ≡ get_or rows i y) (size : rows_size (rows_now (take i rows)) + room ≡ MAX_NEW_FILE_SIZE) where
  taken : length (rows_now (take i rows)) ≡ i
  taken = length-map (take i rows) now ∙ length-take-le i rows (omega (arith, lt))

  room_is : (b : Bool) → (nat_lt i MAX_NEW_FILE_ROWS && nat_le (rows_size (rows_now (take i rows)) + row_size y.now) MAX_NEW_FILE_SIZE) ≡ b → has_room (rows_now (take i rows)) (get_or rows i y).now ≡ b
  room_is b e =
      ap (λ n. nat_lt n MAX_NEW_FILE_ROWS && nat_le (rows_size (rows_now (take i rows)) + row_size (get_or rows i y).now) MAX_NEW_FILE_SIZE) taken
      ∙ ap (λ (r : Bor (List Datum)). nat_lt i MAX_NEW_FILE_ROWS && nat_le (rows_size (rows_now (take i rows)) + row_size r.now) MAX_NEW_FILE_SIZE) (sym here) ∙ e

  pub file_more : (left : ℕ) → room_behind i room y.now ≡ Some left
      → (rows_size (rows_now (take (i + 1) rows)) + left ≡ MAX_NEW_FILE_SIZE)
      × (cut_after has_room (rows_now (take (i + 1) rows)) (rows_now (drop (i + 1) rows)) ≡ cut_after has_room (rows_now (take i rows)) (rows_now (drop i rows)))
  file_more left e =
      let p = behind_some (nat_lt i MAX_NEW_FILE_ROWS) room left y.now e in
      let q = after_some room left y.now p.1 in
      let pushed : rows_size (rows_now (take (i + 1) rows)) ≡ rows_size (rows_now (take i rows)) + row_size y.now =
      ap rows_size (map_more now rows i y lt) ∙ cuts.rows_size_push (rows_now (take i rows)) (get_or rows i y).now ∙ ap (λ (r : Bor (List Datum)). rows_size (rows_now (take i rows)) + row_size r.now) (sym here) in (
        omega (arith, pushed, q.0, size),
        cuts.more now has_room rows i y lt (room_is true (both (nat_lt i MAX_NEW_FILE_ROWS) (nat_le (rows_size (rows_now (take i rows)) + row_size y.now) MAX_NEW_FILE_SIZE) p.0 (le-leb (rows_size (rows_now (take i rows)) + row_size y.now) MAX_NEW_FILE_SIZE (omega (arith, q.1, size))))),
      )

  pub file_stop : room_behind i room y.now ≡ None
      → cut_after has_room (rows_now (take i rows)) (rows_now (drop i rows)) ≡ rows_now (take i rows) ∷ cut has_room (rows_now (drop i rows))
  file_stop e =
      cuts.stop now has_room rows i y lt (room_is false (not_second (nat_lt i MAX_NEW_FILE_ROWS) (nat_le (rows_size (rows_now (take i rows)) + row_size y.now) MAX_NEW_FILE_SIZE)
      (λ t. let over = after_none room y.now (behind_none (nat_lt i MAX_NEW_FILE_ROWS) room y.now e t) in
      over_le (rows_size (rows_now (take i rows)) + row_size y.now) MAX_NEW_FILE_SIZE (omega (arith, over, size)))))

-- a first row that passes the limit by itself
pub file_alone : (rows : Slices) (x : Bor (List Datum)) → 0 < length rows → x ≡ get_or rows 0 x → room_after MAX_NEW_FILE_SIZE x.now ≡ None
    → cut has_room (rows_now rows) ≡ rows_now (take 1 rows) ∷ cut has_room (rows_now (drop 1 rows))
unfolding cut cut_after
file_alone [] x some at e = absurd (omega (arith, some))
file_alone (r ∷ []) x some at e = refl
file_alone (r ∷ t ∷ ts) x some at e =
    let over = after_none MAX_NEW_FILE_SIZE x.now e in
    let same : row_size x.now ≡ row_size r.now = ap (λ (b : Bor (List Datum)). row_size b.now) at in
    let none : has_room (r.now ∷ []) t.now ≡ false = not_second (nat_lt 1 MAX_NEW_FILE_ROWS) (nat_le (row_size r.now + 0 + row_size t.now) MAX_NEW_FILE_SIZE) (λ _. over_le (row_size r.now + 0 + row_size t.now) MAX_NEW_FILE_SIZE (omega (arith, over, same))) in
    rw none refl

-- the size of the first row
pub first_size : (rows : Slices) (x : Bor (List Datum)) (left : ℕ) → 0 < length rows → x ≡ get_or rows 0 x → room_after MAX_NEW_FILE_SIZE x.now ≡ Some left
    → rows_size (rows_now (take 1 rows)) + left ≡ MAX_NEW_FILE_SIZE
first_size [] x left some at e = absurd (omega (arith, some))
first_size (r ∷ rs) x left some at e =
    let q = after_some MAX_NEW_FILE_SIZE left x.now e in
    let same : row_size x.now ≡ row_size r.now = ap (λ (b : Bor (List Datum)). row_size b.now) at in
    omega (arith, q.0, same)

-- ---- what is left of rows

module _ (goes : List (List Datum) → List Datum → Bool) (rows : Slices) where
  pub none_cut : (at : ℕ) → length rows ≤ at → cut goes (rows_now (drop at rows)) ≡ []
  unfolding cut
  none_cut at le = ap (λ l. cut goes (rows_now l)) (drop_all at rows le)

  pub files_end : {A : Type 0} (view : List (List (List Datum)) → List A) (at : ℕ) (done : List A) → length rows ≤ at → view [] ≡ [] → done ++ view (cut goes (rows_now (drop at rows))) ≡ done
  files_end view at done le e = ap (λ l. done ++ view l) (none_cut at le) ∙ ap (λ l. done ++ l) e ∙ append-nil done

  pub groups_step : (old new : List (List (List Datum))) (rest group : Slices) (at n : ℕ) → rest ≡ drop at rows → group ≡ take n rest
      → new ≡ old ++ cut has_room (rows_now group)
      → cut goes (rows_now rest) ≡ rows_now (take n rest) ∷ cut goes (rows_now (drop n rest))
      → new ++ pieces_in (cut goes (rows_now (drop (at + n) rows))) ≡ old ++ pieces_in (cut goes (rows_now (drop at rows)))
  unfolding pieces_in
  groups_step old new rest group at n r g e f =
      let later = cut goes (rows_now (drop n rest)) in
      ap (λ l. new ++ pieces_in (cut goes (rows_now l))) (sym (drop-drop n at rows) ∙ ap (drop n) (sym r))
      ∙ ap (λ l. l ++ pieces_in later) e
      ∙ append_assoc old (cut has_room (rows_now group)) (pieces_in later)
      ∙ ap (λ l. old ++ (cut has_room (rows_now l) ++ pieces_in later)) g
      ∙ ap (λ l. old ++ pieces_in l) (sym f)
      ∙ ap (λ l. old ++ pieces_in (cut goes (rows_now l))) r

pub none_in : pieces_in [] ≡ []
unfolding pieces_in
none_in = refl
