-- The puts that took effect, with one more behind them.
use Rattle.std.proofs.Common.{◌≡◌, ℕ, Bool, true, false, List, [], ◌∷◌, ◌++◌, refl, ◌∙◌, ap}
use Rattle.std.specs.Prelude.{Option, Some, None, if◌then◌else◌}
use Rattle.std.specs.Str.{bytes_eq}
use Rattle.table_changes.proofs.Files.{other_path}
use Rattle.table_laws.specs.History.{Put, put_under}
use Rattle.table_laws.specs.Views.{PutOnce}

abbrev pub or_else : {A : Type 0} → Option A → Option A → Option A
or_else None y = y
or_else (Some x) y = Some x

pub put_under-push : (ps : List Put) (p : Put) (n : List ℕ) → put_under (ps ++ p ∷ []) n ≡ or_else (put_under ps n) (put_under (p ∷ []) n)
put_under-push [] p n = refl
put_under-push (q ∷ ps) p n =
    elim (bytes_eq q.name n) as (λ b. (if b then Some q else put_under (ps ++ p ∷ []) n) ≡ or_else (if b then Some q else put_under ps n) (put_under (p ∷ []) n)) [ true ↦ refl | false ↦ put_under-push ps p n ]

-- a put of a name that has none leaves each name put once
pub push_once : (ps : List Put) (q : Put) → PutOnce ps → put_under ps q.name ≡ None → PutOnce (ps ++ q ∷ [])
push_once [] q all free = (refl, tt)
push_once (p ∷ ps) q all free = by (bytes_eq p.name q.name) refl free (push_once ps q all.1)
  where
    by : (b : Bool) → bytes_eq p.name q.name ≡ b → (if b then Some p else put_under ps q.name) ≡ None → (put_under ps q.name ≡ None → PutOnce (ps ++ q ∷ [])) → PutOnce (p ∷ ps ++ q ∷ [])
    by true e h rest = cc
    by false e h rest = (
      put_under-push ps q p.name ∙ ap (λ (o : Option Put). or_else o (put_under (q ∷ []) p.name)) all.0 ∙ ap (λ (b : Bool). if b then Some q else None) (other_path p.name q.name e),
      rest h,
    )
