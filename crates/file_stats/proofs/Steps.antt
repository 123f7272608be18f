-- Counts and bounds, one row at a time.
use Rattle.std.proofs.Common.{◌≡◌, ◌≤◌, ◌<◌, ℕ, ◌-◌, suc, zero, Bool, true, false, List, [], ◌∷◌, length, drop, arith, refl}
use Rattle.row_base.specs.declared.row.Datum.{Datum}
use Rattle.file_stats.specs.declared.bound.Bound.{Bound}
use Rattle.file_stats.specs.Columns.{is_null, cell, column_in, null_count, value_of, value_at, outer, bound_of}

bound_step : (b : Bound) (rows : List (List Datum)) (i k : ℕ) → i < length rows → bound_of b (column_in (drop i rows) k) ≡ outer b (value_at rows i k) (bound_of b (column_in (drop (suc i) rows) k))
unfolding bound_of
bound_step b [] i k l = absurd (omega (arith, l))
bound_step b (r ∷ rows) zero k l = refl
bound_step b (r ∷ rows) (suc i) k l = bound_step b rows i k (omega (arith, l))

-- the bound of the rows from the one before on
pub bound_before : (b : Bound) (rows : List (List Datum)) (i k : ℕ) → 0 < i → i ≤ length rows → bound_of b (column_in (drop (i - 1) rows) k) ≡ outer b (value_at rows (i - 1) k) (bound_of b (column_in (drop i rows) k))
bound_before b rows zero k p l = absurd (omega (arith, p))
bound_before b rows (suc i) k p l = let e : suc i - 1 ≡ i = omega arith in rw e (bound_step b rows i k (omega (arith, l)))

pub count_within : (rows : List (List Datum)) (k : ℕ) → null_count (column_in rows k) ≤ length rows
count_within [] k = omega arith
count_within (r ∷ rows) k = by (is_null (cell r k)) refl (count_within rows k)
  where
    by : (b : Bool) → is_null (cell r k) ≡ b → null_count (column_in rows k) ≤ length rows → null_count (column_in (r ∷ rows) k) ≤ length (r ∷ rows)
    by true e h = rw e (omega (arith, h))
    by false e h = rw e (omega (arith, h))
