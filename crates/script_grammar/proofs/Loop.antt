-- Items behind commas, as a loop reads them.
use Rattle.std.proofs.Common.{◌≡◌, ℕ, zero, suc, ◌+◌, ◌-◌, ◌≤◌, ◌<◌, List, [], ◌∷◌, ◌++◌, length, Option, Some, None, refl, sym, ap, ◌∙◌, append_assoc, arith, length-append}
use Rattle.std.proofs.lemmas.List.{append-nil}
use Rattle.script_tokens.specs.Gives.{Fails}
use Rattle.row_base.specs.Readings.{◌>>=◌}
use Rattle.script_grammar.specs.Shape.{comma_at, more_at, many_at}
use Rattle.script_tokens.specs.declared.fault.ParseError.{ParseError}
use Rattle.script_tokens.specs.declared.fault.ParseError.TheVariants as errors
use Rattle.script_grammar.proofs.Laws.{Tokens, comma_is}

-- what was read before, and what is still read
abbrev pub with_front : {A : Type 0} → List A → Option (List A × Tokens) → Option (List A × Tokens)
with_front front r = r >>= λ x. Some (front ++ x.0, x.1)

-- after some items, what the rest gives completes what the whole gives
pub record Led {A : Type 0} (f : Tokens → Option (A × Tokens)) (ts : Tokens) (items : List A) (rest : Tokens) : Type 0 where
  pub reads : with_front items (more_at f (length ts + 1 - length items) rest) ≡ many_at f ts
  pub room : length rest + length items ≤ length ts + 1

regroup : {A : Type 0} (front : List A) (n : A) (r : Option (List A × Tokens)) → with_front front (r >>= λ x. Some (n ∷ x.0, x.1)) ≡ with_front (front ++ n ∷ []) r
regroup front n (Some x) = ap (λ (ns : List _). Some (ns, x.1)) (simp append_assoc)
regroup front n None = refl

module _ {A : Type 0} (f : Tokens → Option (A × Tokens)) (shrinks : (ts : Tokens) (x : A × Tokens) → f ts ≡ Some x → length x.1 ≤ length ts) where
  pub begins : (ts : Tokens) (v : A) (rest : Tokens) → f ts ≡ Some (v, rest) → Led f ts (v ∷ []) rest
  unfolding many_at
  begins ts v rest h = record {
    reads = let one : length ts + 1 - 1 ≡ length ts = omega arith in rw (one, h) refl;
    room = omega (arith, shrinks ts (v, rest) h);
  }

  pub goes_on : (ts : Tokens) (items : List A) (rest tail : Tokens) (v : A) (after : Tokens) → comma_at rest ≡ Some tail → f tail ≡ Some (v, after) → Led f ts items rest → Led f ts (items ++ v ∷ []) after
  unfolding more_at
  goes_on ts items rest tail v after c h led =
      let size : length rest ≡ suc (length tail) = ap length (comma_is rest tail c) in
      let grown : length (items ++ v ∷ []) ≡ length items + 1 = length-append items (v ∷ []) in
      let k : length ts + 1 - length items ≡ suc (length ts + 1 - length (items ++ v ∷ [])) = omega (arith, led.room) in
      let one : with_front items (more_at f (length ts + 1 - length items) rest) ≡ with_front (items ++ v ∷ []) (more_at f (length ts + 1 - length (items ++ v ∷ [])) after) =
      rw (k, c, h) (regroup items v (more_at f (length ts + 1 - length (items ++ v ∷ [])) after)) in
      record { reads = sym one ∙ led.reads; room = omega (arith, led.room, shrinks tail (v, after) h) }

  pub ends : (e : ParseError) (ts : Tokens) (items : List A) (rest tail : Tokens) → comma_at rest ≡ Some tail → Fails e (f tail) → Led f ts items rest → Fails e (many_at f ts)
  unfolding more_at
  ends errors.NoMemory ts items rest tail c h led = tt
  ends errors.Form ts items rest tail c h led =
      let size : length rest ≡ suc (length tail) = ap length (comma_is rest tail c) in
      let k : length ts + 1 - length items ≡ suc (length ts - length items) = omega (arith, led.room) in
      let one : with_front items (more_at f (length ts + 1 - length items) rest) ≡ None = rw (k, c, h) refl in
      sym led.reads ∙ one

  fuel_free : (fuel : ℕ) (rest : Tokens) → comma_at rest ≡ None → more_at f fuel rest ≡ Some ([], rest)
  unfolding more_at
  fuel_free zero rest c = rw c refl
  fuel_free (suc n) rest c = rw c refl

  pub is_done : (ts : Tokens) (items : List A) (rest : Tokens) → comma_at rest ≡ None → Led f ts items rest → many_at f ts ≡ Some (items, rest)
  is_done ts items rest c led =
      sym led.reads ∙ ap (with_front items) (fuel_free (length ts + 1 - length items) rest c) ∙ ap (λ (l : List A). Some (l, rest)) (append-nil items)

  pub ends_first : (e : ParseError) (ts : Tokens) → Fails e (f ts) → Fails e (many_at f ts)
  unfolding many_at
  ends_first errors.NoMemory ts h = tt
  ends_first errors.Form ts h = rw h refl

  pub shorter : (rest tail : Tokens) (v : A) (after : Tokens) → comma_at rest ≡ Some tail → f tail ≡ Some (v, after) → length after < length rest
  shorter rest tail v after c h =
      let size : length rest ≡ suc (length tail) = ap length (comma_is rest tail c) in
      omega (arith, shrinks tail (v, after) h)
