-- Values that statements may set are read by the rules of a table.
use Rattle.std.proofs.Common.{◌≡◌, ◌==◌, not, ℕ, Bool, true, false, if◌then◌else◌, List, refl, sym, subst}
use Rattle.std.specs.Prelude.{codes, is_some}
use Rattle.std.specs.List.{starts_with}
use Rattle.std.specs.Str.{bytes_eq}
use Rattle.std.proofs.lemmas.Slice.Eq.{bytes_eq-Decides}
use Rattle.table_rules.specs.Intervals.{interval_in}
use Rattle.table_rules.specs.Properties as rules
use Rattle.statement_checks.specs.Properties.{ValuesAreRead}

-- one test more in a chain of tests
one_more : (a b p c d e : Bool) (va vb vp vc vd ve n : Bool)
    → (p ≡ true → (if a then va else (if b then vb else (if c then vc else (if d then vd else (if e then ve else true))))) ≡ true)
    → (if a then va else (if b then vb else (if p then vp else (if c then vc else (if d then vd else (if e then ve else n)))))) ≡ true
    → (if a then va else (if b then vb else (if c then vc else (if d then vd else (if e then ve else true))))) ≡ true
one_more true b p c d e va vb vp vc vd ve n other taken = taken
one_more false true p c d e va vb vp vc vd ve n other taken = taken
one_more false false true c d e va vb vp vc vd ve n other taken = other refl
one_more false false false true d e va vb vp vc vd ve n other taken = taken
one_more false false false false true e va vb vp vc vd ve n other taken = taken
one_more false false false false false true va vb vp vc vd ve n other taken = taken
one_more false false false false false false va vb vp vc vd ve n other taken = refl

pub values_read : ValuesAreRead
values_read key value taken =
    one_more
    (bytes_eq key (codes "delta.appendOnly")) (bytes_eq key (codes "delta.checkpointInterval")) (bytes_eq key (codes "delta.checkpointPolicy"))
    (bytes_eq key (codes "delta.deletedFileRetentionDuration")) (bytes_eq key (codes "delta.isolationLevel")) (bytes_eq key (codes "delta.logRetentionDuration"))
    (is_some (rules.append_only_in value)) (is_some (rules.checkpoint_interval_in value)) (bytes_eq value (codes "v2"))
    (is_some (interval_in value)) (is_some (rules.level_in value)) (is_some (interval_in value))
    (not (starts_with ◌==◌ key (codes "delta.")))
    (λ p. subst (λ k. rules.takes k value ≡ true) (sym ((bytes_eq-Decides key (codes "delta.checkpointPolicy")).0 p)) refl)
    taken
