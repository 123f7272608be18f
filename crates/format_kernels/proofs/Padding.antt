-- A number that is filled up with zeros to five digits.
use Rattle.std.proofs.Common.{◌≡◌, ℕ, ◌-◌, ◌^◌, false, List, [], ◌++◌, length, replicate, ap, ◌∙◌, arith}
use Rattle.std.specs.Fmt.{decimal, padded_integral, char_count, format_spec}
use Rattle.std.proofs.lemmas.List.{append-nil}
use Rattle.format_kernels.specs.Commits.{five_or_more}

pub five_written : (n : ℕ) → padded_integral (format_spec 32 0 4 5 (2 ^ 64 - 1)) false [] (decimal n) ≡ five_or_more n
unfolding padded_integral char_count
five_written n =
    let left : 5 - length (decimal n) - 0 - 0 ≡ 5 - length (decimal n) = omega arith in
    ap (λ k. replicate k 48 ++ (decimal n ++ [])) left ∙ ap (λ (ds : List ℕ). replicate (5 - length (decimal n)) 48 ++ ds) (append-nil (decimal n))
