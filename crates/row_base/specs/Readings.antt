-- What a call returned, beside what there is to read, where a fault says no more than that there is nothing.
use Rattle.std.specs.Prelude.{◌≡◌, Bool, Option, Some, None, Result, Ok, Err, option_and_then}
use Rattle.std.specs.Bool.{MatchBool}

-- what is read next, where there is something to go on with
infixl 10 ◌>>=◌
abbrev pub ◌>>=◌ : {A B : Type 0} → Option A → (A → Option B) → Option B
o >>= f = option_and_then f o

-- a fault comes where there is nothing to read; want of memory may always come
abbrev pub Fails : {E X : Type 0} → (E → Bool) → E → Option X → Type 0
Fails is_memory e r = MatchBool (is_memory e) (Unit {0}) (r ≡ None)

-- what a call returned, seen by `view`, is what there is to read
abbrev pub Gives : {X Y E : Type 0} → (E → Bool) → (X → Y) → Result X E → Option Y → Type 0
Gives is_memory view (Ok x) r = r ≡ Some (view x)
Gives is_memory view (Err e) r = Fails is_memory e r
