-- Which property is named where several are bad.
use Rattle.std.proofs.Common.{◌≡◌, ◌≢◌, ℕ, Bool, true, false, if◌then◌else◌, List, [], ◌∷◌, codes, Option, Some, None, Result, Ok, Err, refl, sym, ap, ◌∙◌, inl, inr, rules, subst}
use Rattle.std.specs.Option.{is_some, IsSomeAnd}
use Rattle.std.specs.Result.{OnOk, IfErr}
use Rattle.std.specs.List.{find}
use Rattle.std.specs.Str.{bytes_eq}
use Rattle.std.specs.Ordering.{nat_cmp}
use Rattle.std.specs.Cmp.Lexicographic.{slice_cmp}
use Rattle.std.specs.declared.cmp.Ordering.TheVariants.{Greater}
use Rattle.std.proofs.lemmas.Bool.{cases_Bool}
use Rattle.std.proofs.lemmas.Slice.Eq.{bytes_eq-Decides}
use Rattle.json_lines.specs.Kinds.{TextEntry}
use Rattle.log_actions.specs.declared.fault.Feature.{Feature}
use Rattle.log_actions.specs.declared.fault.Feature.TheVariants as feature
use Rattle.table_rules.specs.declared.rules.TheConstants.{DEFAULT_RETENTION, DEFAULT_LOG_RETENTION}
use Rattle.table_rules.specs.declared.fault.FeatureFault.{FeatureFault}
use Rattle.table_rules.specs.declared.fault.FeatureFault.TheVariants as faults
use Rattle.table_rules.specs.declared.rules.Level.{Level}
use Rattle.table_rules.specs.declared.rules.Level.TheVariants.{WriteSerializable}
use Rattle.table_rules.specs.declared.rules.Rules.{Rules}
use Rattle.row_base.specs.Faults.{◌>>=◌}
use Rattle.table_rules.specs.Faults.{Judges}
use Rattle.table_rules.specs.Intervals.{interval_in}
use Rattle.table_rules.specs.Properties.{level_in, checkpoint_interval_in, append_only_in, entry_of, value_of, or_refused, append_only_of, checkpoint_interval_of, retention_of, level_of, log_retention_of, rules_in, takes, IsBad, IsLeastBad, NamesLeast}

-- the entry that is found has the key
found_key : (key : List ℕ) (entries : List TextEntry) (e : TextEntry) → entry_of key entries ≡ Some e → e.name ≡ key
unfolding entry_of
found_key key [] e h = cc
found_key key (x ∷ xs) e h = elim (cases_Bool (bytes_eq x.name key)) [
  | inl same_key ↦ let same : x ≡ e = first (bytes_eq x.name key) same_key h in sym (ap (λ (y : TextEntry). y.name) same) ∙ (bytes_eq-Decides x.name key).0 same_key
  | inr other ↦ found_key key xs e (later (bytes_eq x.name key) other h)
]
  where
    first : (test : Bool) → test ≡ true → (if test then Some x else find (λ y. bytes_eq y.name key) xs) ≡ Some e → x ≡ e
    first true is h = cc
    first false is h = cc

    later : (test : Bool) → test ≡ false → (if test then Some x else find (λ y. bytes_eq y.name key) xs) ≡ Some e → find (λ y. bytes_eq y.name key) xs ≡ Some e
    later true is h = cc
    later false is h = h

abbrev Refuses : {A : Type 0} → (List ℕ → Option A) → Option TextEntry → Type 0
Refuses read o = IsSomeAnd o (λ e. is_some (read e.value) ≡ false)

answered : {A : Type 0} (key : List ℕ) (v : Option A) (x : A) → or_refused key v ≡ Ok x → is_some v ≡ false → ⊥
answered key None x e bad = cc
answered key (Some y) x e bad = cc

-- a property that has a value isn't bad
not_bad : {A : Type 0} (read : List ℕ → Option A) (default x : A) (o : Option TextEntry) → value_of read default o ≡ Ok x → Refuses read o → ⊥
not_bad read default x None e bad = bad
not_bad read default x (Some entry) e bad = answered entry.name (read entry.value) x e bad

named : {A : Type 0} (key : List ℕ) (v : Option A) (f : Feature) → or_refused key v ≡ Err f → (f ≡ feature.Property key) × (is_some v ≡ false)
named key None f e = let same : feature.Property key ≡ f = cc in (sym same, refl)
named key (Some y) f e = cc

-- one that has none is bad, and is named by its key
refused : {A : Type 0} (read : List ℕ → Option A) (default : A) (key : List ℕ) (f : Feature) (o : Option TextEntry) → ((e : TextEntry) → o ≡ Some e → e.name ≡ key)
    → value_of read default o ≡ Err f → (f ≡ feature.Property key) × Refuses read o
refused read default key f None at e = cc
refused read default key f (Some entry) at e =
    let q = named entry.name (read entry.value) f e in
    (q.0 ∙ ap feature.Property (at entry refl), q.1)

other_takes : (key text : List ℕ) → bytes_eq key (codes "delta.appendOnly") ≡ false → bytes_eq key (codes "delta.checkpointInterval") ≡ false
    → bytes_eq key (codes "delta.deletedFileRetentionDuration") ≡ false → bytes_eq key (codes "delta.isolationLevel") ≡ false
    → bytes_eq key (codes "delta.logRetentionDuration") ≡ false → takes key text ≡ true
other_takes key text a b c d e = rw (a, b, c, d, e) refl

never_bad : (key : List ℕ) (o : Option TextEntry) → ((text : List ℕ) → takes key text ≡ true) → IsSomeAnd o (λ e. takes key e.value ≡ false) → ⊥
never_bad key None all bad = bad
never_bad key (Some entry) all bad = let is = all entry.value in cc

-- a key that is bad is one of the five
bad_cases : (entries : List TextEntry) (P : List ℕ → Type 0)
    → (IsBad entries (codes "delta.appendOnly") → P (codes "delta.appendOnly"))
    → (IsBad entries (codes "delta.checkpointInterval") → P (codes "delta.checkpointInterval"))
    → (IsBad entries (codes "delta.deletedFileRetentionDuration") → P (codes "delta.deletedFileRetentionDuration"))
    → (IsBad entries (codes "delta.isolationLevel") → P (codes "delta.isolationLevel"))
    → (IsBad entries (codes "delta.logRetentionDuration") → P (codes "delta.logRetentionDuration"))
    → (key : List ℕ) → IsBad entries key → P key
bad_cases entries P one two three four five key bad =
    elim (cases_Bool (bytes_eq key (codes "delta.appendOnly"))) [
      | inl same_key ↦ at (codes "delta.appendOnly") one same_key
      | inr a ↦ elim (cases_Bool (bytes_eq key (codes "delta.checkpointInterval"))) [
        | inl same_key ↦ at (codes "delta.checkpointInterval") two same_key
        | inr b ↦ elim (cases_Bool (bytes_eq key (codes "delta.deletedFileRetentionDuration"))) [
          | inl same_key ↦ at (codes "delta.deletedFileRetentionDuration") three same_key
          | inr c ↦ elim (cases_Bool (bytes_eq key (codes "delta.isolationLevel"))) [
            | inl same_key ↦ at (codes "delta.isolationLevel") four same_key
            | inr d ↦ elim (cases_Bool (bytes_eq key (codes "delta.logRetentionDuration"))) [
              | inl same_key ↦ at (codes "delta.logRetentionDuration") five same_key
              | inr e ↦ absurd (never_bad key (entry_of key entries) (λ text. other_takes key text a b c d e) bad)
            ]
          ]
        ]
      ]
    ]
  where
    at : (known : List ℕ) → (IsBad entries known → P known) → bytes_eq key known ≡ true → P key
    at known p same_key =
        let same : key ≡ known = (bytes_eq-Decides key known).0 same_key in
        let Q : List ℕ → Type 0 = λ k. IsBad entries k → P k in
        subst Q (sym same) p bad

abbrev NotAfter : List ℕ → List ℕ → Type 0
NotAfter key other = slice_cmp nat_cmp key other ≢ Greater

record Least (entries : List TextEntry) (f : Feature) : Type 0 where
  key : List ℕ
  is_named : f ≡ feature.Property key
  is_least : IsLeastBad entries key

least_of : (entries : List TextEntry) (key : List ℕ) (f : Feature) → f ≡ feature.Property key → IsBad entries key
    → (IsBad entries (codes "delta.appendOnly") → NotAfter key (codes "delta.appendOnly"))
    → (IsBad entries (codes "delta.checkpointInterval") → NotAfter key (codes "delta.checkpointInterval"))
    → (IsBad entries (codes "delta.deletedFileRetentionDuration") → NotAfter key (codes "delta.deletedFileRetentionDuration"))
    → (IsBad entries (codes "delta.isolationLevel") → NotAfter key (codes "delta.isolationLevel"))
    → (IsBad entries (codes "delta.logRetentionDuration") → NotAfter key (codes "delta.logRetentionDuration"))
    → Least entries f
least_of entries key f named bad one two three four five = record {
  key = key;
  is_named = named;
  is_least = record { is_bad = bad; is_least = bad_cases entries (NotAfter key) one two three four five };
}

abbrev Says : List TextEntry → Result Rules Feature → Type 0
Says entries (Ok rules) = (key : List ℕ) → ¬ (IsBad entries key)
Says entries (Err f) = Least entries f

abbrev chain : Result Bool Feature → Result ℕ Feature → Result ℕ Feature → Result Level Feature → Result ℕ Feature → Result Rules Feature
chain a i r l g =
    a >>= λ append_only. i >>= λ interval. r >>= λ retention. l >>= λ level. g >>= λ log_retention.
    Ok (record { level = level; retention = retention; interval = interval; append_only = append_only })

decide : (entries : List TextEntry) (a : Result Bool Feature) (i r : Result ℕ Feature) (l : Result Level Feature) (g : Result ℕ Feature)
    → append_only_of entries ≡ a → checkpoint_interval_of entries ≡ i → retention_of entries ≡ r → level_of entries ≡ l → log_retention_of entries ≡ g
    → Says entries (chain a i r l g)
decide entries (Err f) i r l g ea ei er el eg =
    let q = refused append_only_in false (codes "delta.appendOnly") f (entry_of (codes "delta.appendOnly") entries) (found_key (codes "delta.appendOnly") entries) ea in
    least_of entries (codes "delta.appendOnly") f q.0 q.1 (λ _ e. cc) (λ _ e. cc) (λ _ e. cc) (λ _ e. cc) (λ _ e. cc)
decide entries (Ok a) (Err f) r l g ea ei er el eg =
    let q = refused checkpoint_interval_in 10 (codes "delta.checkpointInterval") f (entry_of (codes "delta.checkpointInterval") entries) (found_key (codes "delta.checkpointInterval") entries) ei in
    least_of entries (codes "delta.checkpointInterval") f q.0 q.1
    (λ b. absurd (not_bad append_only_in false a (entry_of (codes "delta.appendOnly") entries) ea b)) (λ _ e. cc) (λ _ e. cc) (λ _ e. cc) (λ _ e. cc)
decide entries (Ok a) (Ok i) (Err f) l g ea ei er el eg =
    let q = refused interval_in DEFAULT_RETENTION (codes "delta.deletedFileRetentionDuration") f (entry_of (codes "delta.deletedFileRetentionDuration") entries) (found_key (codes "delta.deletedFileRetentionDuration") entries) er in
    least_of entries (codes "delta.deletedFileRetentionDuration") f q.0 q.1
    (λ b. absurd (not_bad append_only_in false a (entry_of (codes "delta.appendOnly") entries) ea b))
    (λ b. absurd (not_bad checkpoint_interval_in 10 i (entry_of (codes "delta.checkpointInterval") entries) ei b)) (λ _ e. cc) (λ _ e. cc) (λ _ e. cc)
decide entries (Ok a) (Ok i) (Ok r) (Err f) g ea ei er el eg =
    let q = refused level_in WriteSerializable (codes "delta.isolationLevel") f (entry_of (codes "delta.isolationLevel") entries) (found_key (codes "delta.isolationLevel") entries) el in
    least_of entries (codes "delta.isolationLevel") f q.0 q.1
    (λ b. absurd (not_bad append_only_in false a (entry_of (codes "delta.appendOnly") entries) ea b))
    (λ b. absurd (not_bad checkpoint_interval_in 10 i (entry_of (codes "delta.checkpointInterval") entries) ei b))
    (λ b. absurd (not_bad interval_in DEFAULT_RETENTION r (entry_of (codes "delta.deletedFileRetentionDuration") entries) er b)) (λ _ e. cc) (λ _ e. cc)
decide entries (Ok a) (Ok i) (Ok r) (Ok l) (Err f) ea ei er el eg =
    let q = refused interval_in DEFAULT_LOG_RETENTION (codes "delta.logRetentionDuration") f (entry_of (codes "delta.logRetentionDuration") entries) (found_key (codes "delta.logRetentionDuration") entries) eg in
    least_of entries (codes "delta.logRetentionDuration") f q.0 q.1
    (λ b. absurd (not_bad append_only_in false a (entry_of (codes "delta.appendOnly") entries) ea b))
    (λ b. absurd (not_bad checkpoint_interval_in 10 i (entry_of (codes "delta.checkpointInterval") entries) ei b))
    (λ b. absurd (not_bad interval_in DEFAULT_RETENTION r (entry_of (codes "delta.deletedFileRetentionDuration") entries) er b))
    (λ b. absurd (not_bad level_in WriteSerializable l (entry_of (codes "delta.isolationLevel") entries) el b)) (λ _ e. cc)
decide entries (Ok a) (Ok i) (Ok r) (Ok l) (Ok g) ea ei er el eg =
    bad_cases entries (λ _. ⊥)
    (λ b. not_bad append_only_in false a (entry_of (codes "delta.appendOnly") entries) ea b)
    (λ b. not_bad checkpoint_interval_in 10 i (entry_of (codes "delta.checkpointInterval") entries) ei b)
    (λ b. not_bad interval_in DEFAULT_RETENTION r (entry_of (codes "delta.deletedFileRetentionDuration") entries) er b)
    (λ b. not_bad level_in WriteSerializable l (entry_of (codes "delta.isolationLevel") entries) el b)
    (λ b. not_bad interval_in DEFAULT_LOG_RETENTION g (entry_of (codes "delta.logRetentionDuration") entries) eg b)

says : (entries : List TextEntry) → Says entries (rules_in entries)
says entries = decide entries (append_only_of entries) (checkpoint_interval_of entries) (retention_of entries) (level_of entries) (log_retention_of entries) refl refl refl refl refl

-- where there are rules, no property is bad
pub none_bad : (entries : List TextEntry) (r : Result Rules FeatureFault) → Judges r (rules_in entries) → OnOk r ((key : List ℕ) → ¬ (IsBad entries key))
none_bad entries (Ok x) h = subst (Says entries) h (says entries)
none_bad entries (Err f) h = search rules

least_by : (entries : List TextEntry) (f : Feature) → Least entries f → NamesLeast entries (faults.Unsupported f)
least_by entries f h = (h.key, h.is_named, h.is_least)

-- a property that is named is the least that is bad
pub least_bad : (entries : List TextEntry) (r : Result Rules FeatureFault) → Judges r (rules_in entries) → IfErr r (NamesLeast entries)
least_bad entries (Ok x) h = search rules
least_bad entries (Err (faults.Unsupported f)) h = least_by entries f (subst (Says entries) h (says entries))
least_bad entries (Err faults.NoMemory) h = search rules
