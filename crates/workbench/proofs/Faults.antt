-- Values that were read of a hybrid are the ones that there are, and where reading fails there are none, unless memory ran out.
use Rattle.std.proofs.Common.{◌≡◌, ◌⊎◌, inl, inr, ℕ, ◌<◌, ◌≤◌, List, refl, ap, ◌∙◌, arith}
use Rattle.bit_pack.specs.Bits.{most_values}
use Rattle.bit_pack.specs.Hybrid.{Reads, StopsAt, HasLargeHeader, EndsEarly, HasWideValue}
use Rattle.bit_pack.specs.declared.fault.PackFault.{PackFault}
use Rattle.bit_pack.specs.declared.fault.PackFault.TheVariants as packs
use Rattle.bit_pack.proofs.OneReading.{one, no_stop, large_apart, short_apart, wide_apart}
use Rattle.workbench.specs.Reading.{checksum_from, values_text}

-- values that were read are the ones that there are
pub values_read : (width count sum : ℕ) (bytes found seen values text : List ℕ) → Reads width bytes count found → seen ≡ found → sum ≡ checksum_from 0 seen
    → text ≡ values_text count sum → Reads width bytes count values → text ≡ values_text count (checksum_from 0 values)
values_read width count sum bytes found seen values text here same summed e there =
    let one_list : seen ≡ values = same ∙ one width count bytes found values here there in
    e ∙ ap (λ (k : ℕ). values_text count k) (summed ∙ ap (λ (vs : List ℕ). checksum_from 0 vs) one_list)

-- what a fault leaves open, where there are values to read: that memory ran out
pub no_values : (width count : ℕ) (bytes values : List ℕ) (e : PackFault) (P : Type 0) → (e ≡ packs.NoMemory → P)
    → ((asked : ℕ) → e ≡ packs.Width asked → (asked ≡ width) × ((32 < width) ⊎ StopsAt width bytes count (HasWideValue width)))
    → (e ≡ packs.Count → ((width ≤ 32) × (most_values < count)) ⊎ StopsAt width bytes count HasLargeHeader)
    → (e ≡ packs.Short → StopsAt width bytes count (EndsEarly width))
    → Reads width bytes count values → P
no_values width count bytes values packs.Short P says wide large short reads =
    absurd (no_stop width count bytes values (EndsEarly width) (λ rest len xs fails piece. short_apart fails piece) reads (short refl))
no_values width count bytes values (packs.Width asked) P says wide large short reads = elim ((wide asked refl).1) [
  | inl past ↦ let narrow : width ≤ 32 = reads.narrow in absurd (omega arith)
  | inr stops ↦ absurd (no_stop width count bytes values (HasWideValue width) (λ rest len xs fails piece. wide_apart fails piece) reads stops)
]
no_values width count bytes values packs.Count P says wide large short reads = elim (large refl) [
  | inl past ↦ let few : count ≤ most_values = reads.few in absurd (omega (arith, past.1))
  | inr stops ↦ absurd (no_stop width count bytes values HasLargeHeader (λ rest len xs fails piece. large_apart fails piece) reads stops)
]
no_values width count bytes values packs.NoMemory P says wide large short reads = says refl
