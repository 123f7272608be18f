-- A number fails exactly where none stands.
use Rattle.std.proofs.Common.{◌≡◌, ℕ, zero, suc, ◌+◌, ◌^◌, ◌<◌, ◌≤◌, Bool, true, false, cond, ltb, List, [], ◌∷◌, ◌++◌, length, take, drop, refl, sym, ap, ◌∙◌, subst, arith, inl, inr, Result, Ok, Err}
use Rattle.std.proofs.lemmas.Bool.{cases_lt, lt-ltb, le-ltb, ltb-false}
use Rattle.std.proofs.lemmas.List.{append-nil, length-append, length-drop, length-take-le, take-append-drop}
use Rattle.thrift_compact.specs.declared.fault.ThriftFault.{ThriftFault}
use Rattle.thrift_compact.specs.declared.fault.ThriftFault.TheVariants as faults
use Rattle.thrift_compact.specs.Varints.{Varint, number, ends, long, continued, varint, unzigzag}
use Rattle.row_base.specs.Faults.{◌>>=◌}
use Rattle.thrift_compact.specs.Values.{varint_here, varint_at, number_at}
use Rattle.thrift_compact.specs.Laws.{GoOn, NumberFault, cut, many, wide}
use Rattle.thrift_compact.proofs.Standing.{front_of, stands_make}
use Rattle.thrift_compact.proofs.ReadingLaws.{IsFront, varint_found, varint_again}

-- ---- varints

continued_ends : (byte : ℕ) (v : Varint) → continued byte v ≡ ends → v ≡ ends
unfolding continued
continued_ends byte (number high few) e = absurd cc
continued_ends byte ends e = refl
continued_ends byte long e = absurd cc

continued_long : (byte : ℕ) (v : Varint) → continued byte v ≡ long → v ≡ long
unfolding continued
continued_long byte (number high few) e = absurd cc
continued_long byte ends e = absurd cc
continued_long byte long e = refl

ends_found : (most : ℕ) (bytes : List ℕ) → varint most bytes ≡ ends → GoOn bytes × (length bytes < most)
unfolding varint GoOn
ends_found zero bytes e = absurd cc
ends_found (suc most) [] e = (tt, omega arith)
ends_found (suc most) (byte ∷ bytes) e = elim (cases_lt byte 128) [
  | inl small ↦ let never : number byte 1 ≡ ends = rw (lt-ltb byte 128 small) at e in absurd cc
  | inr large ↦
      let inner = ends_found most bytes (continued_ends byte (varint most bytes) (rw (le-ltb byte 128 large) at e)) in
      ((large, inner.0), omega (arith, inner.1))
]

long_found : (most : ℕ) (bytes : List ℕ) → varint most bytes ≡ long → GoOn (take most bytes) × (most ≤ length bytes)
unfolding varint GoOn
long_found zero bytes e = (tt, omega arith)
long_found (suc most) [] e = absurd cc
long_found (suc most) (byte ∷ bytes) e = elim (cases_lt byte 128) [
  | inl small ↦ let never : number byte 1 ≡ long = rw (lt-ltb byte 128 small) at e in absurd cc
  | inr large ↦
      let inner = long_found most bytes (continued_long byte (varint most bytes) (rw (le-ltb byte 128 large) at e)) in
      ((large, inner.0), omega (arith, inner.1))
]

ends_only : (most : ℕ) (text : List ℕ) → GoOn text → length text < most → varint most text ≡ ends
unfolding varint continued GoOn
ends_only zero text goes few = absurd (omega arith)
ends_only (suc most) [] goes few = refl
ends_only (suc most) (byte ∷ text) goes few = rw (le-ltb byte 128 goes.0, ends_only most text goes.1 (omega arith)) refl

long_only : (most : ℕ) (text rest : List ℕ) → GoOn text → length text ≡ most → varint most (text ++ rest) ≡ long
unfolding varint continued GoOn
long_only zero text rest goes all = refl
long_only (suc most) [] rest goes all = absurd (omega arith)
long_only (suc most) (byte ∷ text) rest goes all = rw (le-ltb byte 128 goes.0, long_only most text rest goes.1 (omega arith)) refl

-- ---- numbers

pub fault_inside : {A : Type 0} (d e : ThriftFault) → ◌≡◌ {A = Result A ThriftFault} (Err d) (Err e) → d ≡ e
fault_inside d e h = cc

pub bind_fault : {A B : Type 0} (r : Result A ThriftFault) (f : A → B) (e : ThriftFault) → (r >>= λ x. Ok (f x)) ≡ Err e → r ≡ Err e
bind_fault (Ok x) f e h = absurd cc
bind_fault (Err d) f e h = ap Err (fault_inside d e h)

pub narrow_fault : {A : Type 0} (b : Bool) (x : A) (d e : ThriftFault) → cond b (Ok x) (Err d) ≡ Err e → (b ≡ false) × (d ≡ e)
narrow_fault true x d e h = absurd cc
narrow_fault false x d e h = (refl, fault_inside d e h)

here_fault : (bytes : List ℕ) (at : ℕ) (v : Varint) (fault : ThriftFault) → at ≤ length bytes → varint 10 (drop at bytes) ≡ v
    → varint_here bytes at v ≡ Err fault → NumberFault bytes at fault
unfolding IsFront
here_fault bytes at (number value len) fault within is h =
    let p = narrow_fault (ltb value (2 ^ 64)) (value, at + len) (faults.Long at) fault h in
    let front = varint_found 10 (drop at bytes) value len is in
    subst (λ f. NumberFault bytes at f) p.1
    (wide front.0 (at + length front.0) value front.5 (omega (arith, front.3, front.4)) (ltb-false value (2 ^ 64) p.0)
    (stands_make bytes at front.0 front.1 (at + length front.0) within front.2 refl))
here_fault bytes at ends fault within is h =
    let found = ends_found 10 (drop at bytes) is in
    let left = length-drop at bytes in
    subst (λ f. NumberFault bytes at f) (fault_inside (faults.Short (length bytes)) fault h)
    (cut (drop at bytes) found.0 found.1 (stands_make bytes at (drop at bytes) [] (length bytes) within (sym (append-nil (drop at bytes))) (omega (arith, left))))
here_fault bytes at long fault within is h =
    let found = long_found 10 (drop at bytes) is in
    let text = take 10 (drop at bytes) in
    subst (λ f. NumberFault bytes at f) (fault_inside (faults.Long at) fault h)
    (many text (at + length text) found.0 (length-take-le 10 (drop at bytes) found.1)
    (stands_make bytes at text (drop 10 (drop at bytes)) (at + length text) within (sym (take-append-drop 10 (drop at bytes))) refl))

pub varint_fault_found : (bytes : List ℕ) (at : ℕ) (fault : ThriftFault) → at ≤ length bytes → varint_at bytes at ≡ Err fault → NumberFault bytes at fault
unfolding varint_at
varint_fault_found bytes at fault within e = here_fault bytes at (varint 10 (drop at bytes)) fault within refl e

pub number_fault_found : (bytes : List ℕ) (at : ℕ) (fault : ThriftFault) → at ≤ length bytes → number_at bytes at ≡ Err fault → NumberFault bytes at fault
unfolding number_at
number_fault_found bytes at fault within e = varint_fault_found bytes at fault within (bind_fault (varint_at bytes at) (λ n. (unzigzag n.0, n.1)) fault e)

-- what is read of a varint decides the fault
fails : (bytes : List ℕ) (at : ℕ) (v : Varint) (fault : ThriftFault) → varint 10 (drop at bytes) ≡ v → varint_here bytes at v ≡ Err fault → varint_at bytes at ≡ Err fault
unfolding varint_at
fails bytes at v fault is h =
    ap (λ k. varint_here bytes at k) is ∙ h

nothing : (xs : List ℕ) → length xs ≡ 0 → xs ≡ []
nothing [] e = refl
nothing (x ∷ xs) e = absurd (omega arith)

pub varint_fault_only : (bytes : List ℕ) (at : ℕ) (fault : ThriftFault) → NumberFault bytes at fault → varint_at bytes at ≡ Err fault
varint_fault_only bytes at fault (cut text goes few s) =
    let front = front_of bytes at text (length bytes) s in
    let long_as = ap length front in
    let whole : length (drop at bytes) ≡ length text = omega (arith, length-drop at bytes, s.ends) in
    let none : s.rest ≡ [] = nothing s.rest (omega (arith, long_as, whole, length-append text s.rest)) in
    let all : drop at bytes ≡ text = front ∙ ap (λ (bs : List ℕ). text ++ bs) none ∙ append-nil text in
    fails bytes at ends fault (ap (λ (bs : List ℕ). varint 10 bs) all ∙ ends_only 10 text goes few) refl
varint_fault_only bytes at fault (many text end goes all s) =
    fails bytes at long fault (ap (λ (bs : List ℕ). varint 10 bs) (front_of bytes at text end s) ∙ long_only 10 text s.rest goes all) refl
varint_fault_only bytes at fault (wide text end value spelled few past s) =
    fails bytes at (number value (length text)) fault
    (ap (λ (bs : List ℕ). varint 10 bs) (front_of bytes at text end s) ∙ varint_again text s.rest value 10 spelled few)
    (rw (le-ltb value (2 ^ 64) past) refl)

pub number_fault_only : (bytes : List ℕ) (at : ℕ) (fault : ThriftFault) → NumberFault bytes at fault → number_at bytes at ≡ Err fault
unfolding number_at
number_fault_only bytes at fault h = rw (varint_fault_only bytes at fault h) refl
