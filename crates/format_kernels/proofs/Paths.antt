-- The paths of added files: each differs from those before it, and is its own name.
use Rattle.std.proofs.Common.{◌≡◌, ℕ, zero, suc, ◌-◌, ◌^◌, ◌<◌, true, false, List, [], ◌∷◌, ◌++◌, length, replicate, refl, sym, ap, ◌∙◌, arith, codes, Some}
use Rattle.std.specs.List.{list_all}
use Rattle.std.specs.Fmt.{decimal}
use Rattle.std.specs.Str.{bytes_eq, is_utf8}
use Rattle.std.specs.Str.Parse.{digits_value}
use Rattle.std.proofs.Math.Bool.{and-false}
use Rattle.std.proofs.lemmas.Bool.{false_from_ne_true}
use Rattle.std.proofs.lemmas.List.{append_cancel_left, append_cancel_right}
use Rattle.std.proofs.lemmas.Fmt.{digits_value-decimal}
use Rattle.std.proofs.lemmas.Slice.Eq.{bytes_eq-Decides}
use Rattle.std.proofs.lemmas.Str.{is_utf8-from_IsUtf8}
use Rattle.percent_encoding.specs.Percent.{percent_decode}
use Rattle.percent_encoding.proofs.PercentLemmas.{percent_decode-nil, percent_decode_not_percent}
use Rattle.log_actions.specs.Paths.{name_of_path, ends_scheme, is_absolute}
use Rattle.format_kernels.specs.Commits.{five_or_more, path_of}
use Rattle.row_base.proofs.Numerals.{by_test}
use Rattle.format_kernels.proofs.Plain.{is_plain, plain_both, plain_decimal, plain_zeros, plain_parts, plain_utf8}

path_plain : (n : ℕ) → n < 2 ^ 64 → list_all is_plain (path_of n) ≡ true
unfolding path_of
path_plain n low =
    let zeros = replicate (5 - length (decimal n)) 48 in
    plain_both (codes "part-") (zeros ++ decimal n ++ codes "-018bcfe5-6800-8000-8000-000100000001-c000.parquet") refl
    (plain_both (zeros ++ decimal n) (codes "-018bcfe5-6800-8000-8000-000100000001-c000.parquet")
    (plain_both zeros (decimal n) (plain_zeros (5 - length (decimal n))) (plain_decimal n low)) refl)

plain_decoded : (bs : List ℕ) → list_all is_plain bs ≡ true → percent_decode bs ≡ bs
plain_decoded [] h = percent_decode-nil
plain_decoded (b ∷ bs) h =
    let parts = plain_parts b bs h in
    percent_decode_not_percent b bs parts.0 ∙ ap (λ (xs : List ℕ). b ∷ xs) (plain_decoded bs parts.3)

plain_scheme : (bs : List ℕ) → list_all is_plain bs ≡ true → ends_scheme bs ≡ false
plain_scheme [] h = refl
plain_scheme (b ∷ bs) h =
    let parts = plain_parts b bs h in
    rw (parts.1, plain_scheme bs parts.3, and-false) refl

pub path_named : (n : ℕ) → n < 2 ^ 64 → name_of_path (path_of n) ≡ Some (path_of n)
unfolding name_of_path
path_named n low =
    let plain = path_plain n low in
    let text : is_utf8 (path_of n) ≡ true = is_utf8-from_IsUtf8 (path_of n) (plain_utf8 (path_of n) plain) in
    rw (plain_decoded (path_of n) plain, text) refl

-- behind its first letter
path_rest : ℕ → List ℕ
path_rest n = codes "art-" ++ (five_or_more n ++ codes "-018bcfe5-6800-8000-8000-000100000001-c000.parquet")

pub path_inside : (n : ℕ) → n < 2 ^ 64 → is_absolute (path_of n) ≡ false
unfolding is_absolute path_of path_rest
path_inside n low = plain_scheme (path_rest n) (plain_parts 112 (path_rest n) (path_plain n low)).3

-- ---- each path differs from those before it

zeros_value : (k : ℕ) (ds : List ℕ) → digits_value 10 (replicate k 48 ++ ds) ≡ digits_value 10 ds
zeros_value zero ds = refl
zeros_value (suc k) ds = zeros_value k ds

five_value : (n : ℕ) → n < 2 ^ 64 → digits_value 10 (five_or_more n) ≡ n
five_value n low = zeros_value (5 - length (decimal n)) (decimal n) ∙ digits_value-decimal by_test n low

path_injective : (m n : ℕ) → m < 2 ^ 64 → n < 2 ^ 64 → path_of m ≡ path_of n → m ≡ n
unfolding path_of
path_injective m n low high e =
    let tail = codes "-018bcfe5-6800-8000-8000-000100000001-c000.parquet" in
    let behind : five_or_more m ++ tail ≡ five_or_more n ++ tail = append_cancel_left (codes "part-") (five_or_more m ++ tail) (five_or_more n ++ tail) e in
    let same : five_or_more m ≡ five_or_more n = append_cancel_right (five_or_more m) (five_or_more n) tail behind in
    sym (five_value m low) ∙ ap (λ (ds : List ℕ). digits_value 10 ds) same ∙ five_value n high

pub other_path : (m n : ℕ) → m < n → n < 2 ^ 64 → bytes_eq (path_of m) (path_of n) ≡ false
other_path m n lt low =
    false_from_ne_true (bytes_eq (path_of m) (path_of n)) (λ (same : bytes_eq (path_of m) (path_of n) ≡ true).
    let e : m ≡ n = path_injective m n (omega arith) low ((bytes_eq-Decides (path_of m) (path_of n)).0 same) in
    omega arith)
