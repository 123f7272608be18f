-- What a reader stands for.
use Rattle.std.specs.Prelude.{Result, Ok, Err}

-- a result, by what it stands for
abbrev pub result_by : {R S E : Type 0} → (R → S) → Result R E → Result S E
result_by f (Ok r) = Ok (f r)
result_by f (Err e) = Err e
