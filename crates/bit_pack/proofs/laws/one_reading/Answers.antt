use Rattle.bit_pack.specs.Hybrid.{HasLargeHeader, EndsEarly, HasWideValue}
use Rattle.bit_pack.proofs.OneReading.{one, no_stop, large_apart, short_apart, wide_apart}
use Rattle.bit_pack.proofs.laws.one_reading.Goals as goal

pub returns-clause-one : goal.returns-clause-one
returns-clause-one c = one

pub returns-clause-large : goal.returns-clause-large
returns-clause-large c = λ w count bytes values. no_stop w count bytes values HasLargeHeader (λ rest len xs fails piece. large_apart fails piece)

pub returns-clause-short : goal.returns-clause-short
returns-clause-short c = λ w count bytes values. no_stop w count bytes values (EndsEarly w) (λ rest len xs fails piece. short_apart fails piece)

pub returns-clause-wide : goal.returns-clause-wide
returns-clause-wide c = λ w count bytes values. no_stop w count bytes values (HasWideValue w) (λ rest len xs fails piece. wide_apart fails piece)
