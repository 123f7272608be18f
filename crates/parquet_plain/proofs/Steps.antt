-- Single steps of reading, taken apart and put together.
use Rattle.std.proofs.Common.{◌≡◌, Bool, true, false, if◌then◌else◌, not, refl, Result, Ok, Err}
use Rattle.parquet_meta.specs.declared.fault.FileFault.{FileFault}
use Rattle.row_base.specs.Faults.{◌>>=◌}

pub bind_ok : {A B : Type 0} (r : Result A FileFault) (f : A → Result B FileFault) (y : B) → (r >>= f) ≡ Ok y → (x : A) × (r ≡ Ok x) × (f x ≡ Ok y)
bind_ok (Ok x) f y e = (x, refl, e)
bind_ok (Err k) f y e = absurd cc

pub bind_at : {A B : Type 0} (r : Result A FileFault) (f : A → Result B FileFault) (x : A) → r ≡ Ok x → (r >>= f) ≡ f x
bind_at r f x e = rw e refl

pub if_ok : {A : Type 0} (b : Bool) (r : Result A FileFault) (k : FileFault) (y : A) → (if b then r else Err k) ≡ Ok y → (b ≡ true) × (r ≡ Ok y)
if_ok true r k y e = (refl, e)
if_ok false r k y e = absurd cc

pub unless_ok : {A : Type 0} (b : Bool) (r : Result A FileFault) (k : FileFault) (y : A) → (if b then Err k else r) ≡ Ok y → (b ≡ false) × (r ≡ Ok y)
unless_ok true r k y e = absurd cc
unless_ok false r k y e = (refl, e)

pub if_at : {A : Type 0} (b : Bool) (x y : A) → b ≡ true → (if b then x else y) ≡ x
if_at b x y e = rw e refl

pub unless_at : {A : Type 0} (b : Bool) (x y : A) → b ≡ false → (if b then x else y) ≡ y
unless_at b x y e = rw e refl

pub ok_inside : {A : Type 0} (x y : A) → ◌≡◌ {A = Result A FileFault} (Ok x) (Ok y) → x ≡ y
ok_inside x y e = cc

pub not_false : (b : Bool) → not b ≡ false → b ≡ true
not_false true e = refl
not_false false e = absurd cc

pub false_not : (b : Bool) → b ≡ true → not b ≡ false
false_not true e = refl
false_not false e = absurd cc

pub not_is_true : (b : Bool) → not b ≡ true → b ≡ false
not_is_true true e = absurd cc
not_is_true false e = refl

pub true_not : (b : Bool) → b ≡ false → not b ≡ true
true_not true e = absurd cc
true_not false e = refl
