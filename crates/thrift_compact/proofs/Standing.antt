-- Texts that stand in bytes, and single steps of reading.
use Rattle.std.proofs.Common.{◌≡◌, ℕ, ◌+◌, ◌≤◌, Bool, true, false, cond, ltb, List, [], ◌∷◌, ◌++◌, length, take, drop, get_or, refl, sym, ap, ◌∙◌, arith, Result, Ok, Err}
use Rattle.std.proofs.lemmas.Bool.{ltb-false, le-ltb}
use Rattle.std.proofs.lemmas.List.{append_assoc, length-append, take-append-drop, length-take-le, length-drop, drop_at, drop-drop, drop_more, get_or-append-add}
use Rattle.thrift_compact.specs.declared.fault.ThriftFault.{ThriftFault}
use Rattle.thrift_compact.specs.declared.fault.ThriftFault.TheVariants as faults
use Rattle.row_base.specs.Faults.{◌>>=◌}
use Rattle.thrift_compact.specs.Values.{behind, byte_at}
use Rattle.thrift_compact.specs.Laws.{Stands}

-- ---- steps

pub bind_ok : {A B : Type 0} (r : Result A ThriftFault) (f : A → Result B ThriftFault) (y : B) → (r >>= f) ≡ Ok y → (x : A) × (r ≡ Ok x) × (f x ≡ Ok y)
bind_ok (Ok x) f y e = (x, refl, e)
bind_ok (Err d) f y e = absurd cc

pub bind_from : {A B : Type 0} (r : Result A ThriftFault) (f : A → Result B ThriftFault) (x : A) → r ≡ Ok x → (r >>= f) ≡ f x
bind_from r f x e = rw e refl

pub ok_inside : {A : Type 0} (x y : A) → ◌≡◌ {A = Result A ThriftFault} (Ok x) (Ok y) → x ≡ y
ok_inside x y e = cc

pub guard_ok : {A : Type 0} (b : Bool) (d : ThriftFault) (r : Result A ThriftFault) (y : A) → cond b (Err d) r ≡ Ok y → (b ≡ false) × (r ≡ Ok y)
guard_ok true d r y e = absurd cc
guard_ok false d r y e = (refl, e)

pub holds_ok : {A : Type 0} (b : Bool) (x : A) (d : ThriftFault) (y : A) → cond b (Ok x) (Err d) ≡ Ok y → (b ≡ true) × (x ≡ y)
holds_ok true x d y e = (refl, cc)
holds_ok false x d y e = absurd cc

-- ---- texts

pub front_of : (bytes : List ℕ) (at : ℕ) (text : List ℕ) (end : ℕ) → (s : Stands bytes at text end) → drop at bytes ≡ text ++ s.rest
front_of bytes at text end s = ap (λ (bs : List ℕ). drop at bs) s.whole ∙ drop_at s.front (text ++ s.rest) at s.begins

pub size_of : (bytes : List ℕ) (at : ℕ) (text : List ℕ) (end : ℕ) → Stands bytes at text end → (end ≡ at + length text) × (end ≤ length bytes)
size_of bytes at text end s =
    let whole : length bytes ≡ length (s.front ++ (text ++ s.rest)) = ap length s.whole in
    let outer = length-append s.front (text ++ s.rest) in
    let inner = length-append text s.rest in
    (sym s.ends, omega (arith, whole, outer, inner, s.begins, s.ends))

pub stands_make : (bytes : List ℕ) (at : ℕ) (text rest : List ℕ) (end : ℕ) → at ≤ length bytes → drop at bytes ≡ text ++ rest → at + length text ≡ end → Stands bytes at text end
stands_make bytes at text rest end within e ends = record {
  front = take at bytes;
  rest = rest;
  whole = sym (take-append-drop at bytes) ∙ ap (λ (bs : List ℕ). take at bytes ++ bs) e;
  begins = length-take-le at bytes within;
  ends = ends;
}

pub stands_nothing : (bytes : List ℕ) (at : ℕ) → at ≤ length bytes → Stands bytes at [] at
stands_nothing bytes at within = stands_make bytes at [] (drop at bytes) at within refl (omega arith)

pub stands_first : (bytes : List ℕ) (at : ℕ) (a b : List ℕ) (end : ℕ) → Stands bytes at (a ++ b) end → Stands bytes at a (at + length a)
stands_first bytes at a b end s = record {
  front = s.front;
  rest = b ++ s.rest;
  whole = s.whole ∙ ap (λ (bs : List ℕ). s.front ++ bs) (append_assoc a b s.rest);
  begins = s.begins;
  ends = refl;
}

pub stands_second : (bytes : List ℕ) (at : ℕ) (a b : List ℕ) (end : ℕ) → Stands bytes at (a ++ b) end → Stands bytes (at + length a) b end
stands_second bytes at a b end s =
    let outer = length-append s.front a in
    let inner = length-append a b in
    record {
      front = s.front ++ a;
      rest = s.rest;
      whole = s.whole ∙ ap (λ (bs : List ℕ). s.front ++ bs) (append_assoc a b s.rest) ∙ sym (append_assoc s.front a (b ++ s.rest));
      begins = omega (arith, outer, s.begins);
      ends = omega (arith, inner, s.ends);
    }

pub stands_join : (bytes : List ℕ) (at middle end : ℕ) (a b : List ℕ) → Stands bytes at a middle → Stands bytes middle b end → Stands bytes at (a ++ b) end
stands_join bytes at middle end a b s t =
    let left : s.rest ≡ b ++ t.rest
    = sym (drop_at a s.rest (length a) refl)
    ∙ ap (λ (bs : List ℕ). drop (length a) bs) (sym (front_of bytes at a middle s))
    ∙ drop-drop (length a) at bytes
    ∙ ap (λ k. drop k bytes) s.ends
    ∙ front_of bytes middle b end t in
    let inner = length-append a b in
    record {
      front = s.front;
      rest = t.rest;
      whole = s.whole ∙ ap (λ (bs : List ℕ). s.front ++ (a ++ bs)) left ∙ ap (λ (bs : List ℕ). s.front ++ bs) (sym (append_assoc a b t.rest));
      begins = s.begins;
      ends = omega (arith, inner, s.ends, t.ends);
    }

-- ---- bytes

pub behind_found : (bytes : List ℕ) (at count end : ℕ) → behind bytes at count ≡ Ok end
    → (length (take count (drop at bytes)) ≡ count) × Stands bytes at (take count (drop at bytes)) end
behind_found bytes at count end e =
    let p = guard_ok (ltb (length bytes) (at + count)) (faults.Short (length bytes)) (Ok (at + count)) end e in
    let within : at + count ≤ length bytes = ltb-false (length bytes) (at + count) p.0 in
    let here : at + count ≡ end = ok_inside (at + count) end p.1 in
    let left = length-drop at bytes in
    let long : length (take count (drop at bytes)) ≡ count = length-take-le count (drop at bytes) (omega (arith, left)) in
    (long, stands_make bytes at (take count (drop at bytes)) (drop count (drop at bytes)) end (omega arith) (sym (take-append-drop count (drop at bytes))) (omega (arith, long)))

pub behind_only : (bytes : List ℕ) (at count end : ℕ) (text : List ℕ) → length text ≡ count → Stands bytes at text end → behind bytes at count ≡ Ok end
behind_only bytes at count end text long s =
    let size = size_of bytes at text end s in
    let same : at + count ≡ end = omega (arith, size.0) in
    rw (le-ltb (length bytes) (at + count) (omega (arith, size.1, same)), same) refl

pub byte_found : (bytes : List ℕ) (at byte end : ℕ) → byte_at bytes at ≡ Ok (byte, end) → Stands bytes at (byte ∷ []) end
unfolding byte_at
byte_found bytes at byte end e =
    let p = bind_ok (behind bytes at 1) (λ to. Ok (get_or bytes at 0, to)) (byte, end) e in
    let same = ok_inside (get_or bytes at 0, p.0) (byte, end) p.2 in
    let first : get_or bytes at 0 ≡ byte = ap (λ (k : ℕ × ℕ). k.0) same in
    let last : p.0 ≡ end = ap (λ (k : ℕ × ℕ). k.1) same in
    let q = guard_ok (ltb (length bytes) (at + 1)) (faults.Short (length bytes)) (Ok (at + 1)) p.0 p.1 in
    let within : at + 1 ≤ length bytes = ltb-false (length bytes) (at + 1) q.0 in
    let here : at + 1 ≡ p.0 = ok_inside (at + 1) p.0 q.1 in
    stands_make bytes at (byte ∷ []) (drop (at + 1) bytes) end (omega arith) (drop_more bytes at 0 (omega arith) ∙ ap (λ (k : ℕ). k ∷ drop (at + 1) bytes) first) (omega arith)

pub byte_only : (bytes : List ℕ) (at byte end : ℕ) → Stands bytes at (byte ∷ []) end → byte_at bytes at ≡ Ok (byte, end)
unfolding byte_at
byte_only bytes at byte end s =
    let here : get_or bytes at 0 ≡ byte
    = ap (λ (bs : List ℕ). get_or bs at 0) s.whole
    ∙ ap (λ k. get_or (s.front ++ (byte ∷ s.rest)) k 0) (omega (arith, s.begins))
    ∙ get_or-append-add s.front (byte ∷ s.rest) 0 0 in
    bind_from (behind bytes at 1) (λ to. Ok (get_or bytes at 0, to)) end (behind_only bytes at 1 end (byte ∷ []) refl s)
    ∙ ap (λ (k : ℕ). Ok (k, end)) here
