-- Bytes of a file that hold Thrift values, and a place in them.
use Rattle.std.specs.Prelude.{◌≡◌, ℕ, ◌≤◌, List, length, Result, Ok, Err}
use Rattle.parquet_meta.specs.declared.fault.FileFault.{FileFault}
use Rattle.parquet_meta.specs.Faults.{FaultOf}

-- bytes of a file, and the place of the first of them in the file
pub record Piece : Type 0 where
  pub bytes : List ℕ
  pub start : ℕ

-- a piece, and the place in it of the next byte to be read
pub record Reading : Type 0 where
  pub piece : Piece
  pub at : ℕ

-- reading gives a value and the place behind it, and the next byte is the one there
abbrev pub Came : {Y : Type 0} → Reading → Reading → Y → Result (Y × ℕ) FileFault → Type 0
Came old new value read = (read ≡ Ok (value, new.at)) × (new.piece ≡ old.piece) × (old.at ≤ new.at) × (new.at ≤ length old.piece.bytes)

-- what a call answered, seen by `view`, is what reading gives. Want of memory may always come
abbrev pub MovesBy : {X Y : Type 0} → (X → Y) → Reading → Reading → Result X FileFault → Result (Y × ℕ) FileFault → Type 0
MovesBy view old new (Ok x) read = Came old new (view x) read
MovesBy view old new (Err f) read = FaultOf f read

-- the same for a call whose answer is seen as it is
abbrev pub Moves : {X : Type 0} → Reading → Reading → Result X FileFault → Result (X × ℕ) FileFault → Type 0
Moves old new (Ok x) read = Came old new x read
Moves old new (Err f) read = FaultOf f read

-- the same for a call that changes what is known
abbrev pub Puts : {X D : Type 0} → Reading → Reading → D → Result X FileFault → Result (D × ℕ) FileFault → Type 0
Puts old new known (Ok x) read = Came old new known read
Puts old new known (Err f) read = FaultOf f read
