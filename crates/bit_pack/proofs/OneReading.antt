-- A header, a piece and a list of pieces can be read in one way only.
use Rattle.std.proofs.Common.{◌≡◌, ◌⊎◌, ℕ, ◌+◌, ◌-◌, ◌*◌, ◌/◌, ◌%◌, ◌<◌, ◌≤◌, List, ◌++◌, length, take, drop, replicate, eqb, true, false, refl, sym, ap, ◌∙◌, subst, arith, append_assoc, inl, inr}
use Rattle.std.proofs.lemmas.Bool.{cases_order, eq-eqb, ne_eqb}
use Rattle.std.proofs.lemmas.List.{length-append, take-append-le, same_lists, get_or_default}
use Rattle.bit_pack.specs.Bits.{Packed}
use Rattle.bit_pack.specs.Numbers.{number_in}
use Rattle.bit_pack.specs.Hybrid.{varint_number, IsHeader, IsLongHeader, IsCutHeader, IsStretch, IsPiece, run, stretch, Pieces, none, more, Reads, StopsAt, byte_width, header_values, header_bytes, HasLargeHeader, EndsEarly, HasWideValue}

one_length : (bytes : List ℕ) (a b m n : ℕ) → IsHeader bytes a m → IsHeader bytes b n → a ≡ b
one_length bytes a b m n p q =
    elim (cases_order a b) [
      | inl same ↦ same
      | inr (inl lt) ↦
          let last : a - 1 + 1 < b = omega (arith, p.some) in
          absurd (omega (arith, p.ends, q.goes_on (a - 1) last))
      | inr (inr gt) ↦
          let last : b - 1 + 1 < a = omega (arith, q.some) in
          absurd (omega (arith, q.ends, p.goes_on (b - 1) last))
    ]

one_number : (bytes : List ℕ) (a b m n : ℕ) → IsHeader bytes a m → IsHeader bytes b n → m ≡ n
one_number bytes a b m n p q = p.means ∙ ap (λ k. varint_number (take k bytes)) (one_length bytes a b m n p q) ∙ sym q.means

pub one_packed : (w : ℕ) (bytes xs ys : List ℕ) → length xs ≡ length ys → Packed w bytes xs → Packed w bytes ys → xs ≡ ys
one_packed w bytes xs ys same p q =
    same_lists xs ys same
    (λ k d lt. get_or_default xs k d 0 lt ∙ p.each k lt ∙ sym (q.each k (omega (arith, same))) ∙ get_or_default ys k 0 d (omega (arith, same)))

one_stretch : (w : ℕ) (bytes : List ℕ) (a b g h : ℕ) (xs ys : List ℕ) → IsStretch w bytes a g xs → IsStretch w bytes b h ys → (a ≡ b) × (g ≡ h) × (xs ≡ ys)
one_stretch w bytes a b g h xs ys p q =
    let here : a ≡ b = one_length bytes a b (2 * g + 1) (2 * h + 1) p.header q.header in
    let groups : g ≡ h = omega (arith, one_number bytes a b (2 * g + 1) (2 * h + 1) p.header q.header) in
    let same : length xs ≡ length ys = omega (arith, p.all, q.all, groups) in
    (here, groups, one_packed w (drop a bytes) xs ys same p.packed (subst (λ k. Packed w (drop k bytes) ys) (sym here) q.packed))

-- a piece has one length and stands for one list of values
one_piece : {w : ℕ} {bytes : List ℕ} {a b : ℕ} {xs ys : List ℕ} → IsPiece w bytes a xs → IsPiece w bytes b ys → (a ≡ b) × (xs ≡ ys)
one_piece {w} {bytes} (run a m x p) (run b n y q) =
    let here : a ≡ b = one_length bytes a b (2 * m) (2 * n) p.header q.header in
    let copies : m ≡ n = omega (arith, one_number bytes a b (2 * m) (2 * n) p.header q.header) in
    let value : x ≡ y = p.means ∙ ap (λ k. number_in (take (byte_width w) (drop k bytes))) here ∙ sym q.means in
    (ap (λ k. k + byte_width w) here, ap (λ k. replicate k x) copies ∙ ap (λ v. replicate n v) value)
one_piece {w} {bytes} (run a m x p) (stretch b h ys q) = absurd (omega (arith, one_number bytes a b (2 * m) (2 * h + 1) p.header q.header))
one_piece {w} {bytes} (stretch a g xs p) (run b n y q) = absurd (omega (arith, one_number bytes a b (2 * g + 1) (2 * n) p.header q.header))
one_piece {w} {bytes} (stretch a g xs p) (stretch b h ys q) =
    let e = one_stretch w bytes a b g h xs ys p q in
    (ap (λ k. k + g * w) e.0 ∙ ap (λ k. b + k * w) e.1, e.2)

-- of two readings one goes on where the other ends
abbrev GoesOn : ℕ → List ℕ → List ℕ → List ℕ → List ℕ → Type 0
GoesOn w here front rest all = (tail : List ℕ) × Pieces w here rest tail × (all ≡ front ++ tail)

in_line : {w : ℕ} {bytes r s xs ys : List ℕ} → Pieces w bytes r xs → Pieces w bytes s ys → GoesOn w r xs s ys ⊎ GoesOn w s ys r xs
in_line {ys = ys} none q = inl (ys, q, refl)
in_line {xs = xs} p none = inr (xs, p, refl)
in_line {w} {bytes} {r} {s} (more {values = xs} a first p ps) (more {values = ys} b second q qs) =
    let same = one_piece p q in
    let qs' : Pieces w (drop a bytes) s ys = subst (λ k. Pieces w (drop k bytes) s ys) (sym same.0) qs in
    elim (in_line ps qs') [
      | inl (tail, pieces, e) ↦ inl (tail, pieces, ap (λ (zs : List ℕ). zs ++ ys) (sym same.1) ∙ ap (λ (zs : List ℕ). first ++ zs) e ∙ sym (append_assoc first xs tail))
      | inr (tail, pieces, e) ↦ inr (tail, pieces, ap (λ (zs : List ℕ). zs ++ xs) same.1 ∙ ap (λ (zs : List ℕ). second ++ zs) e ∙ sym (append_assoc second ys tail))
    ]

longer : (count : ℕ) (all front tail : List ℕ) → all ≡ front ++ tail → count ≤ length front → take count all ≡ take count front
longer count all front tail e enough = ap (λ (xs : List ℕ). take count xs) e ∙ take-append-le count front tail enough

pub one : (w count : ℕ) (bytes first second : List ℕ) → Reads w bytes count first → Reads w bytes count second → first ≡ second
one w count bytes first second p q =
    elim (in_line p.pieces q.pieces) [
      | inl (tail, pieces, e) ↦ p.first ∙ sym (longer count q.all p.all tail e p.enough) ∙ sym q.first
      | inr (tail, pieces, e) ↦ p.first ∙ longer count p.all q.all tail e q.enough ∙ sym q.first
    ]

-- what has more pieces begins with a piece
begins : {w : ℕ} {bytes rest tail : List ℕ} → Pieces w bytes rest tail → 0 < length tail → (len : ℕ) × (values : List ℕ) × IsPiece w bytes len values
begins none some = absurd (omega arith)
begins (more len values piece others) some = (len, values, piece)

pub no_stop : (w count : ℕ) (bytes values : List ℕ) (Fails : List ℕ → Type 0)
    → ((rest : List ℕ) (len : ℕ) (xs : List ℕ) → Fails rest → IsPiece w rest len xs → ⊥)
    → Reads w bytes count values → StopsAt w bytes count Fails → ⊥
no_stop w count bytes values Fails apart p q =
    elim (in_line p.pieces q.pieces) [
      | inl (tail, pieces, e) ↦ omega (arith, p.enough, q.missing, ap length e, length-append p.all tail)
      | inr (tail, pieces, e) ↦
          let some : 0 < length tail = omega (arith, p.enough, q.missing, ap length e, length-append q.all tail) in
          let first = begins pieces some in
          apart q.rest first.0 first.1 q.fails first.2
    ]

even : (n : ℕ) → eqb ((2 * n) % 2) 0 ≡ true
even n = eq-eqb ((2 * n) % 2) 0 (omega arith)

odd : (n : ℕ) → eqb ((2 * n + 1) % 2) 0 ≡ false
odd n = ne_eqb ((2 * n + 1) % 2) 0 (λ e. omega (arith, e))

values_even : (m : ℕ) → header_values (2 * m) ≡ m
values_even m = rw (even m) (omega arith)

values_odd : (g : ℕ) → header_values (2 * g + 1) ≡ 8 * g
values_odd g = rw (odd g) (omega arith)

bytes_even : (w m : ℕ) → header_bytes w (2 * m) ≡ byte_width w
bytes_even w m = rw (even m) refl

bytes_odd : (w g : ℕ) → header_bytes w (2 * g + 1) ≡ g * w
bytes_odd w g =
    let half : (2 * g + 1) / 2 ≡ g = omega arith in
    rw (odd g, half) refl

long_apart : (bytes : List ℕ) (len n : ℕ) → IsLongHeader bytes → IsHeader bytes len n → ⊥
long_apart bytes len n long h =
    let last : len - 1 < 5 = omega (arith, h.some, h.few) in
    omega (arith, h.ends, long.goes_on (len - 1) last)

cut_apart : (bytes : List ℕ) (len n : ℕ) → IsCutHeader bytes → IsHeader bytes len n → ⊥
cut_apart bytes len n cut h =
    let last : len - 1 < length bytes = omega (arith, h.some, h.within) in
    omega (arith, h.ends, cut.goes_on (len - 1) last)

pub large_apart : {w : ℕ} {bytes : List ℕ} {len : ℕ} {xs : List ℕ} → HasLargeHeader bytes → IsPiece w bytes len xs → ⊥
large_apart {w} {bytes} (inl long) (run a m x p) = long_apart bytes a (2 * m) long p.header
large_apart {w} {bytes} (inl long) (stretch a g xs p) = long_apart bytes a (2 * g + 1) long p.header
large_apart {w} {bytes} (inr (b, n, h, large)) (run a m x p) =
    omega (arith, large, p.few, ap header_values (one_number bytes b a n (2 * m) h p.header) ∙ values_even m)
large_apart {w} {bytes} (inr (b, n, h, large)) (stretch a g xs p) =
    omega (arith, large, p.few, ap header_values (one_number bytes b a n (2 * g + 1) h p.header) ∙ values_odd g)

pub short_apart : {w : ℕ} {bytes : List ℕ} {len : ℕ} {xs : List ℕ} → EndsEarly w bytes → IsPiece w bytes len xs → ⊥
short_apart {w} {bytes} (inl cut) (run a m x p) = cut_apart bytes a (2 * m) cut p.header
short_apart {w} {bytes} (inl cut) (stretch a g xs p) = cut_apart bytes a (2 * g + 1) cut p.header
short_apart {w} {bytes} (inr (b, n, h, few, missing)) (run a m x p) =
    omega (arith, missing, p.within, one_length bytes b a n (2 * m) h p.header, ap (λ k. header_bytes w k) (one_number bytes b a n (2 * m) h p.header) ∙ bytes_even w m)
short_apart {w} {bytes} (inr (b, n, h, few, missing)) (stretch a g xs p) =
    omega (arith, missing, p.within, one_length bytes b a n (2 * g + 1) h p.header, ap (λ k. header_bytes w k) (one_number bytes b a n (2 * g + 1) h p.header) ∙ bytes_odd w g)

pub wide_apart : {w : ℕ} {bytes : List ℕ} {len : ℕ} {xs : List ℕ} → HasWideValue w bytes → IsPiece w bytes len xs → ⊥
wide_apart {w} {bytes} (b, n, h, few, within, wide) (run a m x p) =
    omega (arith, wide, p.narrow, p.means, ap (λ k. number_in (take (byte_width w) (drop k bytes))) (one_length bytes b a (2 * n) (2 * m) h p.header))
wide_apart {w} {bytes} (b, n, h, few, within, wide) (stretch a g xs p) = omega (arith, one_number bytes b a (2 * n) (2 * g + 1) h p.header)

-- what stops reading stops it at one place
ends_here : {w : ℕ} {here rest tail : List ℕ} → Pieces w here rest tail → ((len : ℕ) (xs : List ℕ) → IsPiece w here len xs → ⊥) → here ≡ rest
ends_here none apart = refl
ends_here (more len first piece others) apart = absurd (apart len first piece)

pub stops_apart : (w count : ℕ) (bytes : List ℕ) (F G : List ℕ → Type 0)
    → ((rest : List ℕ) (len : ℕ) (xs : List ℕ) → F rest → IsPiece w rest len xs → ⊥)
    → ((rest : List ℕ) (len : ℕ) (xs : List ℕ) → G rest → IsPiece w rest len xs → ⊥)
    → ((rest : List ℕ) → F rest → G rest → ⊥)
    → StopsAt w bytes count F → StopsAt w bytes count G → ⊥
stops_apart w count bytes F G apart_f apart_g apart p q =
    elim (in_line p.pieces q.pieces) [
      | inl (tail, pieces, e) ↦
          let same : p.rest ≡ q.rest = ends_here pieces (λ len xs piece. apart_f p.rest len xs p.fails piece) in
          apart q.rest (subst F same p.fails) q.fails
      | inr (tail, pieces, e) ↦
          let same : q.rest ≡ p.rest = ends_here pieces (λ len xs piece. apart_g q.rest len xs q.fails piece) in
          apart p.rest p.fails (subst G same q.fails)
    ]

pub large_short : (w : ℕ) (bytes : List ℕ) → HasLargeHeader bytes → EndsEarly w bytes → ⊥
large_short w bytes (inl long) (inl cut) = omega (arith, long.within, cut.few)
large_short w bytes (inl long) (inr (b, n, h, few, missing)) = long_apart bytes b n long h
large_short w bytes (inr (a, m, k, large)) (inl cut) = cut_apart bytes a m cut k
large_short w bytes (inr (a, m, k, large)) (inr (b, n, h, few, missing)) =
    omega (arith, large, few, ap header_values (one_number bytes a b m n k h))

pub large_wide : (w : ℕ) (bytes : List ℕ) → HasLargeHeader bytes → HasWideValue w bytes → ⊥
large_wide w bytes (inl long) (b, n, h, few, within, wide) = long_apart bytes b (2 * n) long h
large_wide w bytes (inr (a, m, k, large)) (b, n, h, few, within, wide) =
    omega (arith, large, few, ap header_values (one_number bytes a b m (2 * n) k h) ∙ values_even n)

pub short_wide : (w : ℕ) (bytes : List ℕ) → EndsEarly w bytes → HasWideValue w bytes → ⊥
short_wide w bytes (inl cut) (b, n, h, few, within, wide) = cut_apart bytes b (2 * n) cut h
short_wide w bytes (inr (a, m, k, small, missing)) (b, n, h, few, within, wide) =
    omega (arith, missing, within, one_length bytes a b m (2 * n) k h, ap (λ i. header_bytes w i) (one_number bytes a b m (2 * n) k h) ∙ bytes_even w n)
