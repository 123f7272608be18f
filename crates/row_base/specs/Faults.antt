-- What a call returned, beside what there is to read, where reading says which fault there is.
use Rattle.std.specs.Prelude.{◌≡◌, Bool, Result, Ok, Err}
use Rattle.std.specs.Bool.{MatchBool}

-- what is read next, where there is something to go on with
infixl 10 ◌>>=◌
abbrev pub ◌>>=◌ : {E A B : Type 0} → Result A E → (A → Result B E) → Result B E
Ok x >>= f = f x
Err e >>= f = Err e

-- a fault is the one that there is; want of memory may always come
abbrev pub FaultOf : {E X : Type 0} → (E → Bool) → E → Result X E → Type 0
FaultOf is_memory e r = MatchBool (is_memory e) (Unit {0}) (r ≡ Err e)

-- what a call returned is what there is to read
abbrev pub Reads : {E X : Type 0} → (E → Bool) → Result X E → Result X E → Type 0
Reads is_memory (Ok x) r = r ≡ Ok x
Reads is_memory (Err e) r = FaultOf is_memory e r
