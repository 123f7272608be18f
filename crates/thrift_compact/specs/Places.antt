-- A place in bytes, and what a call makes of it.
use Rattle.std.specs.Prelude.{◌≡◌, ℕ, List, Result, Ok, Err}
use Rattle.thrift_compact.specs.declared.fault.ThriftFault.{ThriftFault}

-- bytes, and the place of the next byte to be read
pub record Place : Type 0 where
  pub bytes : List ℕ
  pub at : ℕ

-- What a call answered, seen by `view`, is what reading gives, a value and the place behind it, and the place moves
-- there; a fault is the one that reading gives, and the place stays.
abbrev pub Moves : {X Y : Type 0} → (X → Y) → Place → Place → Result X ThriftFault → Result (Y × ℕ) ThriftFault → Type 0
Moves view old new (Ok x) read = (read ≡ Ok (view x, new.at)) × (new.bytes ≡ old.bytes)
Moves view old new (Err e) read = (read ≡ Err e) × (new ≡ old)

-- What a call answered, seen by `view`, is what reading gives.
abbrev pub Gives : {X Y : Type 0} → (X → Y) → Result X ThriftFault → Result Y ThriftFault → Type 0
Gives view (Ok x) read = read ≡ Ok (view x)
Gives view (Err e) read = read ≡ Err e
