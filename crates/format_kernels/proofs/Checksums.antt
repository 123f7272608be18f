-- The checksum of one run more.
use Rattle.std.proofs.Common.{◌≡◌, ℕ, ◌+◌, ◌%◌, List, refl, add-one}
use Rattle.std.specs.Prelude.{slice_get}
use Rattle.format_kernels.specs.Kernels.{summed, checksum_of, value_count}

pub no_run : (items : List ℕ) → 0 ≡ checksum_of items 0
unfolding checksum_of
no_run items = refl

pub one_run : (items seen : List ℕ) (run sum new : ℕ) → sum ≡ checksum_of items run → seen ≡ items → new ≡ summed sum (slice_get seen (run % value_count))
    → new ≡ checksum_of items (run + 1)
unfolding checksum_of
one_run items seen run sum new e same is = rw (add-one run, is, e, same) refl
