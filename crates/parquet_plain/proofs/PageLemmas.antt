-- The pages of a chunk, one after another.
use Rattle.std.proofs.Common.{◌≡◌, ℕ, zero, suc, ◌+◌, ◌-◌, ◌<◌, ◌≤◌, nat_lt, List, Ok, refl, ap, ◌∙◌, arith}
use Rattle.std.proofs.lemmas.Bool.{cond-false, cond-true, lt-ltb, le-ltb}
use Rattle.row_base.specs.Faults.{◌>>=◌}
use Rattle.parquet_plain.specs.declared.chunk.Span.{Span}
use Rattle.parquet_plain.specs.declared.pages.Walk.{Walk}
use Rattle.parquet_plain.specs.declared.source.Leaf.{Leaf}
use Rattle.parquet_plain.specs.Reading.{with_page, with_pages}

-- at the end of the chunk no page follows
pub pages_end : (l : Leaf) (rows : ℕ) (span : Span) (file : List ℕ) (most : ℕ) (w : Walk) → span.ends ≤ w.at → with_pages l rows span file most w ≡ Ok w
unfolding with_pages
pages_end l rows span file zero w e = refl
pages_end l rows span file (suc most) w e =
    cond-false (nat_lt w.at span.ends) (with_page l rows span file w >>= with_pages l rows span file most) (Ok w) (le-ltb w.at span.ends e)

pages_none : (l : Leaf) (rows : ℕ) (span : Span) (file : List ℕ) (most : ℕ) (w : Walk) → most ≡ 0 → with_pages l rows span file most w ≡ Ok w
unfolding with_pages
pages_none l rows span file zero w e = refl
pages_none l rows span file (suc most) w e = absurd (omega (arith, e))

-- no page is read once there were as many as bytes
pub pages_out : (l : Leaf) (rows : ℕ) (span : Span) (file : List ℕ) (i j : ℕ) (w : Walk) → j ≤ i → with_pages l rows span file (j - i) w ≡ Ok w
pages_out l rows span file i j w e = pages_none l rows span file (j - i) w (omega arith)

pages_more : (l : Leaf) (rows : ℕ) (span : Span) (file : List ℕ) (most less : ℕ) (w : Walk) → most ≡ suc less → w.at < span.ends
    → with_pages l rows span file most w ≡ (with_page l rows span file w >>= with_pages l rows span file less)
unfolding with_pages
pages_more l rows span file zero less w e within = absurd (omega (arith, e))
pages_more l rows span file (suc most) less w e within =
    cond-true (nat_lt w.at span.ends) (with_page l rows span file w >>= with_pages l rows span file most) (Ok w) (lt-ltb w.at span.ends within)
    ∙ ap (λ n. with_page l rows span file w >>= with_pages l rows span file n) (omega (arith, e))

-- before the end of the chunk a page follows
pub pages_next : (l : Leaf) (rows : ℕ) (span : Span) (file : List ℕ) (i j : ℕ) (w : Walk) → i < j → w.at < span.ends
    → with_pages l rows span file (j - i) w ≡ (with_page l rows span file w >>= with_pages l rows span file (j - (i + 1)))
pages_next l rows span file i j w before within = pages_more l rows span file (j - i) (j - (i + 1)) w (omega arith) within
