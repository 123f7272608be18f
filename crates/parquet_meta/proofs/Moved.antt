-- A cursor over a piece, and a reader of the file.
use Rattle.std.proofs.Common.{◌≡◌, ℕ, ◌+◌, ◌<◌, ◌≤◌, ◌^◌, List, length, refl, ap, subst, arith, Result, Ok, Err}
use Rattle.std.specs.Prelude.{ℤ, IfErr, IfOk}
use Rattle.thrift_compact.specs.declared.fault.ThriftFault.{ThriftFault}
use Rattle.thrift_compact.specs.declared.wire.Wire.{Wire}
use Rattle.thrift_compact.specs.declared.wire.Field.{Field}
use Rattle.thrift_compact.specs.declared.wire.Field.TheVariants as fields
use Rattle.thrift_compact.specs.Places.{Place, Moves}
use Rattle.thrift_compact.specs.Values.{number_at, binary_at, field_at, list_at}
use Rattle.thrift_compact.specs.Skipped.{skipped_at}
use Rattle.thrift_compact.specs.Spelled.{SpellsField, SpellsNext, short, long}
use Rattle.thrift_compact.specs.Laws.{Stands}
use Rattle.thrift_compact.proofs.Standing.{size_of}
use Rattle.thrift_compact.proofs.ReadingLaws.{number_found, binary_found}
use Rattle.thrift_compact.proofs.HeaderLaws.{list_found, field_found}
use Rattle.thrift_compact.proofs.SkippingLaws.{skipped_found}
use Rattle.parquet_meta.specs.Faults.{place_of, located}
use Rattle.parquet_meta.specs.Pieces.{Piece, Reading, MovesBy}
use Rattle.parquet_meta.proofs.Bounds.{Stays, behind_it}

-- where a cursor is, in a piece of the file
abbrev pub at_in : ℕ → Place → Reading
at_in start place = record { piece = record { bytes = place.bytes; start = start }; at = place.at }

stays_fault : {A : Type 0} (end : A → ℕ) (n : ℕ) (r : Result A ThriftFault) (f : ThriftFault) → r ≡ Err f → Stays end n r → place_of f ≤ n
stays_fault end n (Ok x) f e h = absurd cc
stays_fault end n (Err g) f e h = let same : g ≡ f = cc in subst (λ (k : ThriftFault). place_of k ≤ n) same h

stays_end : {A : Type 0} (end : A → ℕ) (n : ℕ) (r : Result A ThriftFault) (x : A) → r ≡ Ok x → Stays end n r → end x ≤ n
stays_end end n (Ok y) x e h = let same : y ≡ x = cc in subst (λ k. end k ≤ n) same h
stays_end end n (Err g) x e h = absurd cc

pub fault_fits : {X Y : Type 0} (view : X → Y) (old new : Place) (start : ℕ) (r : Result X ThriftFault) (read : Result (Y × ℕ) ThriftFault)
    → start + length old.bytes < 2 ^ 64 → Moves view old new r read → Stays behind_it (length old.bytes) read → IfErr r (λ f. start + place_of f < 2 ^ 64)
fault_fits view old new start (Ok x) read fits moves stays = tt
fault_fits view old new start (Err f) read fits moves stays =
    let within = stays_fault behind_it (length old.bytes) read f moves.0 stays in
    omega (arith, within, fits)

pub place_fits : {X Y : Type 0} (view : X → Y) (old new : Place) (start : ℕ) (r : Result X ThriftFault) (read : Result (Y × ℕ) ThriftFault)
    → old.at ≤ length old.bytes → start + length old.bytes < 2 ^ 64 → Moves view old new r read → Stays behind_it (length old.bytes) read
    → (new.at ≤ length new.bytes) × (start + length new.bytes < 2 ^ 64)
place_fits view old new start (Ok x) read here fits moves stays =
    let within : new.at ≤ length old.bytes = stays_end behind_it (length old.bytes) read (view x, new.at) moves.0 stays in
    let same : length new.bytes ≡ length old.bytes = ap length moves.1 in
    (omega (arith, within, same), omega (arith, fits, same))
place_fits view old new start (Err f) read here fits moves stays =
    let len : length new.bytes ≡ length old.bytes = ap (λ (p : Place). length p.bytes) moves.1 in
    let at : new.at ≡ old.at = ap (λ (p : Place). p.at) moves.1 in
    (omega (arith, here, len, at), omega (arith, fits, len))

-- reading doesn't go back
abbrev pub Goes : {A : Type 0} → ℕ → Result (A × ℕ) ThriftFault → Type 0
Goes at (Ok x) = at ≤ x.1
Goes at (Err f) = Unit {0}

goes_end : {A : Type 0} (at : ℕ) (r : Result (A × ℕ) ThriftFault) (x : A) (end : ℕ) → r ≡ Ok (x, end) → Goes at r → at ≤ end
goes_end at (Ok y) x end e h = let same : y ≡ (x, end) = cc in subst (λ k. at ≤ k) (ap (λ k. k.1) same) h
goes_end at (Err g) x end e h = absurd cc

pub moved : {X Y : Type 0} (view : X → Y) (old new : Place) (start : ℕ) (r : Result X ThriftFault) (read : Result (Y × ℕ) ThriftFault)
    → Moves view old new r read → Stays behind_it (length old.bytes) read → Goes old.at read
    → MovesBy view (at_in start old) (at_in start new) (located start r) (located start read)
moved view old new start (Ok x) read moves stays goes =
    let within : new.at ≤ length old.bytes = stays_end behind_it (length old.bytes) read (view x, new.at) moves.0 stays in
    let ahead : old.at ≤ new.at = goes_end old.at read (view x) new.at moves.0 goes in
    let same : record { bytes = new.bytes; start = start } ≡ record { bytes = old.bytes; start = start }
    = ap (λ (bs : List ℕ). let p : Piece = record { bytes = bs; start = start } in p) moves.1 in
    (ap (located start) moves.0, same, ahead, within)
moved view old new start (Err f) read moves stays goes = ap (located start) moves.0

goes_from : {A : Type 0} (at : ℕ) (r : Result (A × ℕ) ThriftFault) → ((x : A) (end : ℕ) → r ≡ Ok (x, end) → at ≤ end) → Goes at r
goes_from at (Ok x) h = h x.0 x.1 refl
goes_from at (Err f) h = tt

-- what stands from a place on ends behind it
stands_ahead : (bytes : List ℕ) (at end : ℕ) (text : List ℕ) → Stands bytes at text end → at ≤ end
stands_ahead bytes at end text s = let size = size_of bytes at text end s in omega (arith, size.0)

pub number_goes : (bytes : List ℕ) (at : ℕ) → at ≤ length bytes → Goes at (number_at bytes at)
number_goes bytes at within = goes_from at (number_at bytes at) (λ x end e. let found = number_found bytes at x end within e in stands_ahead bytes at end found.0 found.2)

pub binary_goes : (bytes : List ℕ) (at : ℕ) → at ≤ length bytes → Goes at (binary_at bytes at)
binary_goes bytes at within = goes_from at (binary_at bytes at) (λ x end e. let found = binary_found bytes at x end within e in stands_ahead bytes at end found.0 found.2)

pub list_goes : (bytes : List ℕ) (at : ℕ) → Goes at (list_at bytes at)
list_goes bytes at = goes_from at (list_at bytes at) (λ x end e. let found = list_found bytes at x end e in stands_ahead bytes at end found.0 found.2)

pub field_goes : (bytes : List ℕ) (last : ℤ) (at : ℕ) → Goes at (field_at bytes last at)
field_goes bytes last at = goes_from at (field_at bytes last at) (λ x end e. let found = field_found bytes last at x end e in stands_ahead bytes at end found.0 found.2)

pub skipped_goes : (bytes : List ℕ) (wire : Wire) (at : ℕ) → at ≤ length bytes → Goes at (skipped_at bytes wire at)
skipped_goes bytes wire at within = goes_from at (skipped_at bytes wire at) (λ x end e. let found = skipped_found 16 bytes wire at x end within e in stands_ahead bytes at end found.0 found.2)

-- a field's header takes a byte at least
header_some : (last : ℤ) (field : Field) (text : List ℕ) → SpellsField last text field → 0 < length text
header_some last fields.Stop text h = omega (arith, ap length h)
header_some last (fields.Next id wire) text h = next_some last id wire text h.0
  where
    next_some : (last id : ℤ) (wire : Wire) (text : List ℕ) → SpellsNext last id wire text → 0 < length text
    next_some last id wire text (short byte typed above sum) = omega arith
    next_some last id wire text (long byte number typed spelled) = omega arith

pub field_advances : (start : ℕ) (old new : Place) (last : ℤ) (r : Result Field ThriftFault) → Moves (λ f. f) old new r (field_at old.bytes last old.at)
    → IfOk (located start r) (λ _. old.at < new.at)
field_advances start old new last (Ok f) moves =
    let found = field_found old.bytes last old.at f new.at moves.0 in
    let size = size_of old.bytes old.at found.0 new.at found.2 in
    omega (arith, size.0, header_some last f found.0 found.1)
field_advances start old new last (Err f) moves = tt
