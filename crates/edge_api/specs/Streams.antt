-- What a whole read and a whole write do to the bytes that a source has left and a sink has taken, where these are told,
-- and the calls of the source and the sink in memory.
use Rattle.std.specs.Prelude.{◌<◌, ◌≤◌, ℕ, ◌+◌, ◌-◌, ◌^◌, min, Bool, List, ◌++◌, length, take, drop, Option, nat_eq}
use Rattle.std.specs.List.{list_any}
use Rattle.std.specs.Io.KnownBytes.{Consumes, IsAtEnd, Appends}

-- these bytes and no others were left
abbrev pub ReadsAll : Option (List ℕ) → Option (List ℕ) → List ℕ → Type 0
ReadsAll old new bytes = Consumes old new bytes × IsAtEnd new

-- more bytes than the limit came
abbrev pub GivesMore : Option (List ℕ) → Option (List ℕ) → ℕ → Type 0
GivesMore old new limit = (bytes : List ℕ) × Consumes old new bytes × (limit < length bytes)

-- as many bytes as the limit came at most
abbrev pub GivesAtMost : Option (List ℕ) → Option (List ℕ) → ℕ → Type 0
GivesAtMost old new limit = (bytes : List ℕ) × Consumes old new bytes × (length bytes ≤ limit)

-- a first part of the text was written
abbrev pub AppendsPrefix : Option (List ℕ) → Option (List ℕ) → List ℕ → Type 0
AppendsPrefix old new text = (n : ℕ) × Appends old new (take n text)

-- a count after one more, which stands still at the end of 64 bits
abbrev pub one_more : ℕ → ℕ
one_more count = min (count + 1) (2 ^ 64 - 1)

-- a source in memory: the bytes that are left, the numbers of the calls that fail, the calls so far, and those that failed
pub record SourceState : Type 0 where
  pub left : List ℕ
  pub failing : List ℕ
  pub calls : ℕ
  pub faults : ℕ

-- a sink in memory: the bytes that were written, the numbers of the calls that fail, the calls so far, and those that failed
pub record SinkState : Type 0 where
  pub written : List ℕ
  pub failing : List ℕ
  pub calls : ℕ
  pub faults : ℕ

-- the call after so many calls is among the failing ones
abbrev pub is_failing : List ℕ → ℕ → Bool
is_failing failing calls = list_any (λ number. nat_eq number (one_more calls)) failing

-- a read into so much room
abbrev pub after_read : SourceState → ℕ → SourceState
after_read s room = record s { left = drop (min room (length s.left)) s.left; calls = one_more s.calls }

-- a read that failed
abbrev pub after_failed_read : SourceState → SourceState
after_failed_read s = record s { calls = one_more s.calls; faults = one_more s.faults }

-- a write of a piece
abbrev pub after_write : SinkState → List ℕ → SinkState
after_write s piece = record s { written = s.written ++ piece; calls = one_more s.calls }

-- a write that failed
abbrev pub after_failed_write : SinkState → SinkState
after_failed_write s = record s { calls = one_more s.calls; faults = one_more s.faults }
