use Rattle.bit_pack.specs.Hybrid.{HasLargeHeader, EndsEarly, HasWideValue}
use Rattle.bit_pack.proofs.OneReading.{stops_apart, large_apart, short_apart, wide_apart, large_short, large_wide, short_wide}
use Rattle.bit_pack.proofs.laws.one_fault.Goals as goal

pub returns-clause-large_short : goal.returns-clause-large_short
returns-clause-large_short c = λ w count bytes. stops_apart w count bytes HasLargeHeader (EndsEarly w) (λ rest len xs fails piece. large_apart fails piece) (λ rest len xs fails piece. short_apart fails piece) (large_short w)

pub returns-clause-large_wide : goal.returns-clause-large_wide
returns-clause-large_wide c = λ w count bytes. stops_apart w count bytes HasLargeHeader (HasWideValue w) (λ rest len xs fails piece. large_apart fails piece) (λ rest len xs fails piece. wide_apart fails piece) (large_wide w)

pub returns-clause-short_wide : goal.returns-clause-short_wide
returns-clause-short_wide c = λ w count bytes. stops_apart w count bytes (EndsEarly w) (HasWideValue w) (λ rest len xs fails piece. short_apart fails piece) (λ rest len xs fails piece. wide_apart fails piece) (short_wide w)
