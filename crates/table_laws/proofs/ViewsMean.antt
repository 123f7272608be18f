-- Short journals, of which the words of Views hold and are refuted.
-- Names of commits aren't computed: they are told apart by commits_differ.
-- views_mean is the law.
use Rattle.std.proofs.Common.{◌≡◌, ℕ, zero, suc, ◌≤◌, ◌<◌, ◌^◌, Bool, true, false, List, [], ◌∷◌, ◌++◌, refl, sym, ◌∙◌, ap, subst, arith}
use Rattle.std.specs.Prelude.{Option, Some, None, if◌then◌else◌, option_map}
use Rattle.std.specs.Str.{bytes_eq}
use Rattle.std.proofs.lemmas.Slice.Eq.{bytes_eq-Decides}
use Rattle.edge_api.specs.declared.call.Tag.{Tag}
use Rattle.edge_api.specs.declared.call.Call.TheVariants.{PutNew, List as ListNames}
use Rattle.edge_api.specs.declared.call.Answer.TheVariants.{Names}
use Rattle.edge_api.specs.declared.call.Listed.{Listed}
use Rattle.edge_api.specs.declared.call.Object.{Object}
use Rattle.edge_api.specs.Journal.{Entries, Objects, Moment, same_tag, entries_of, object_at}
use Rattle.table_rules.specs.Names.{log_prefix, commit_text}
use Rattle.table_rules.specs.Properties.{entry_of}
use Rattle.table_rules.proofs.Names.{commit_is_read, commits_differ}
use Rattle.line_texts.proofs.Laws.{columns_read_back}
use Rattle.snapshot_replay.specs.Table.{table_commit}
use Rattle.statement_calls.specs.Listing.{commit_of, later, newest}
use Rattle.actor_core.specs.Entries.{own}
use Rattle.actor_core.proofs.Owners.{same_tag_is}
use Rattle.table_changes.specs.Table.{Commit, WriteSerializable, level_of}
use Rattle.table_laws.specs.Commits.{meta_of}
use Rattle.table_laws.specs.History.{Put, put_under, put_if_free, body_of, history}
use Rattle.table_laws.specs.Runs.{or_first, listed_by, version_read, started_at}
use Rattle.table_laws.specs.Views.{IsNewest, IsLater, PutOnce}
use Rattle.table_laws.specs.Starts.{AtEachMoment, PutsFollowStarts, NewerLandLater}
use Rattle.table_laws.specs.ViewsMean.{maker, first, second, puts, lists, lists_none, starts, lands, table_put, ViewsMean}
use Rattle.table_laws.proofs.Shown.{one_under, one_itself, some_same}
use Rattle.table_laws.proofs.Readings.{is_some}
use Rattle.table_laws.proofs.Effects.{commit_is}
use Rattle.table_laws.proofs.FilesMean.{no_some, same_head, no_parts, small_one, first_holds, last_refuted}

self_name : (n : List ℕ) → bytes_eq n n ≡ true
self_name n = (bytes_eq-Decides n n).1 refl

-- names of two versions' commits
apart : (v w : ℕ) → v < 2 ^ 64 → w < 2 ^ 64 → (v ≡ w → ⊥) → bytes_eq (commit_text v) (commit_text w) ≡ false
apart v w small also differ = by (bytes_eq (commit_text v) (commit_text w)) refl
  where
    by : (b : Bool) → bytes_eq (commit_text v) (commit_text w) ≡ b → b ≡ false
    by false e = refl
    by true e = absurd (differ (commits_differ v w small also ((bytes_eq-Decides (commit_text v) (commit_text w)).0 e)))

abbrev put_of : Tag → ℕ → Put
put_of tag v = record { tag = tag; name = commit_text v; body = []; at = 0 }

abbrev one_listed : ℕ → List Listed
one_listed v = record { name = commit_text v; put_at = 0 } ∷ []

-- a listing of one version shows it
shows_one : (v : ℕ) → v < 2 ^ 64 → newest (one_listed v) ≡ Some v
shows_one v small = ap (λ (o : Option ℕ). later o None) (ap commit_of (commit_is_read v small))

reads_one : (v : ℕ) → v < 2 ^ 64 → listed_by (ListNames log_prefix) (Names (one_listed v)) ≡ Some v
reads_one v small = ap (λ (b : Bool). if b then newest (one_listed v) else None) (self_name log_prefix) ∙ shows_one v small

no_listing : (n b prefix : List ℕ) → PutNew n b ≡ ListNames prefix → ⊥
no_listing n b prefix h = cc

same_names : (a b : List Listed) → Names a ≡ Names b → a ≡ b
same_names a b h = cc

only_newest : IsNewest (put_of maker 0 ∷ []) (Some 0)
only_newest = (
  is_some (put_under (put_of maker 0 ∷ []) (commit_text 0)) (put_of maker 0) (one_itself (put_of maker 0)),
  λ w more small. ap (λ (b : Bool). if b then Some (put_of maker 0) else None) (apart 0 w (omega arith) small (λ same. absurd (omega (arith, more, same)))),
)

abbrev read_two : Tag → ℕ → ℕ → Bool → Bool → Option ℕ
read_two t v w b c = version_read (if b then (lists first v).entry ∷ (if c then (lists second w).entry ∷ [] else []) else (if c then (lists second w).entry ∷ [] else []))

-- of two statements that list, the later one is the second and the other the first
two_reads : (earlier later : Tag) (v w x y : ℕ) → v < 2 ^ 64 → w < 2 ^ 64 → IsLater earlier later → version_read (own earlier (entries_of (lists first v ∷ lists second w ∷ []))) ≡ Some x
    → version_read (own later (entries_of (lists first v ∷ lists second w ∷ []))) ≡ Some y → (v ≡ x) × (w ≡ y)
two_reads earlier later v w x y small also is h k = by (same_tag earlier first) refl (same_tag earlier second) refl (same_tag later first) refl (same_tag later second) refl h k
  where
    first_is : (t : Tag) → same_tag t first ≡ true → t.statement ≡ 1
    first_is t e = ap (λ (u : Tag). u.statement) (same_tag_is t first e)

    second_is : (t : Tag) → same_tag t second ≡ true → t.statement ≡ 2
    second_is t e = ap (λ (u : Tag). u.statement) (same_tag_is t second e)

    by : (a : Bool) → same_tag earlier first ≡ a → (b : Bool) → same_tag earlier second ≡ b → (c : Bool) → same_tag later first ≡ c → (d : Bool) → same_tag later second ≡ d
        → read_two earlier v w a b ≡ Some x → read_two later v w c d ≡ Some y → (v ≡ x) × (w ≡ y)
    by true e b f true g d i h k = let lt = is.1 in let p = first_is earlier e in let q = first_is later g in absurd (omega (arith, lt, p, q))
    by true e b f false g false i h k = absurd (no_some y k)
    by true e b f false g true i h k = (
      some_same v x (sym (ap (λ (o : Option ℕ). or_first o (version_read (if b then (lists second w).entry ∷ [] else []))) (reads_one v small)) ∙ h),
      some_same w y (sym (ap (λ (o : Option ℕ). or_first o None) (reads_one w also)) ∙ k),
    )
    by false e true f true g d i h k = let lt = is.1 in let p = second_is earlier f in let q = first_is later g in absurd (omega (arith, lt, p, q))
    by false e true f false g true i h k = let lt = is.1 in let p = second_is earlier f in let q = second_is later i in absurd (omega (arith, lt, p, q))
    by false e true f false g false i h k = absurd (no_some y k)
    by false e false f c g d i h k = absurd (no_some x h)

-- what the second statement reads
second_reads : (v : ℕ) → v < 2 ^ 64 → (later : Tag) → IsLater first later → (y : ℕ) → version_read (own later ((puts first 1).entry ∷ (lists second v).entry ∷ [])) ≡ Some y → v ≡ y
second_reads v small later is y k = by (same_tag later first) refl (same_tag later second) refl k
  where
    by : (c : Bool) → same_tag later first ≡ c → (d : Bool) → same_tag later second ≡ d
        → version_read (if c then (puts first 1).entry ∷ (if d then (lists second v).entry ∷ [] else []) else (if d then (lists second v).entry ∷ [] else [])) ≡ Some y → v ≡ y
    by true g d i k = let lt = is.1 in let q : later.statement ≡ 1 = ap (λ (u : Tag). u.statement) (same_tag_is later first g) in absurd (omega (arith, lt, q))
    by false g true i k = some_same v y (sym (ap (λ (o : Option ℕ). or_first o None) (reads_one v small)) ∙ k)
    by false g false i k = absurd (no_some y k)

newest_holds : (before after : List Moment) (m : Moment) (listed : List Listed) → puts maker 0 ∷ lists first 0 ∷ [] ≡ before ++ m ∷ after → m.entry.call ≡ ListNames log_prefix → m.entry.answer ≡ Names listed → IsNewest (history [] before) (newest listed)
newest_holds [] after m listed parts call answer = absurd (no_listing (commit_text 0) [] log_prefix (ap (λ (x : Moment). x.entry.call) (same_head (puts maker 0) m (lists first 0 ∷ []) after parts).0 ∙ call))
newest_holds (x ∷ []) after m listed parts call answer =
    let one = same_head (puts maker 0) x (lists first 0 ∷ []) (m ∷ after) parts in
    let two = same_head (lists first 0) m [] after one.1 in
    let shown : one_listed 0 ≡ listed = same_names (one_listed 0) listed (ap (λ (y : Moment). y.entry.answer) two.0 ∙ answer) in
    subst (λ (y : Moment). IsNewest (history [] (y ∷ [])) (newest listed)) one.0
    (subst (λ (l : List Listed). IsNewest (put_of maker 0 ∷ []) (newest l)) shown (subst (λ (o : Option ℕ). IsNewest (put_of maker 0 ∷ []) o) (sym (shows_one 0 (omega arith))) only_newest))
newest_holds (x ∷ y ∷ before) after m listed parts call answer =
    absurd (no_parts before after m (same_head (lists first 0) y [] (before ++ m ∷ after) (same_head (puts maker 0) x (lists first 0 ∷ []) (y ∷ (before ++ m ∷ after)) parts).1).1)

abbrev object_put : Object
object_put = record { body = []; put_at = 0 }

-- the second of two puts, by whether its name is that of the first
abbrev puts_then : ℕ → Bool → List Put
puts_then v same = put_of first 0 ∷ (put_if_free (if same then Some object_put else None) (put_of second v) ++ [])

once_holds : PutOnce (puts_then 1 (bytes_eq (commit_text 0) (commit_text 1)))
once_holds =
    subst (λ (b : Bool). PutOnce (puts_then 1 b)) (sym (apart 0 1 (omega arith) small_one (λ same. absurd (omega (arith, same)))))
    (ap (λ (b : Bool). if b then Some (put_of second 1) else None) (apart 1 0 small_one (omega arith) (λ same. absurd (omega (arith, same)))), (refl, tt))

-- the objects once the first is deleted
abbrev left_after : Bool → Objects
left_after gone = if gone then [] else (commit_text 0, object_put) ∷ []

twice_refuted : PutOnce (put_of first 0 ∷ (put_if_free (object_at (left_after (bytes_eq (commit_text 0) (commit_text 0))) (commit_text 0)) (put_of second 0) ++ [])) → ⊥
twice_refuted h =
    let both : PutOnce (put_of first 0 ∷ put_of second 0 ∷ []) = subst (λ (b : Bool). PutOnce (put_of first 0 ∷ (put_if_free (object_at (left_after b) (commit_text 0)) (put_of second 0) ++ []))) (self_name (commit_text 0)) h in
    no_some (put_of second 0) (sym both.0 ∙ one_itself (put_of second 0))

abbrev landed : Tag → ℕ → ℕ → Put
landed tag v clock = record { tag = tag; name = commit_text v; body = []; at = clock }

no_more : (x : Moment) (before after : List Moment) → [] ≡ x ∷ (before ++ after) → ⊥
no_more x before after h = cc

-- what is put after its statement's start
follows_holds : AtEachMoment PutsFollowStarts (starts first 1 ∷ lands first 0 1 ∷ [])
follows_holds [] after parts = λ name p h. absurd (no_some p h)
follows_holds (x ∷ []) after parts =
    subst (λ (y : Moment). PutsFollowStarts (y ∷ [])) (same_head (starts first 1) x (lands first 0 1 ∷ []) after parts).0 (λ name p h. absurd (no_some p h))
follows_holds (x ∷ y ∷ []) after parts =
    let one = same_head (starts first 1) x (lands first 0 1 ∷ []) (y ∷ after) parts in
    let two = same_head (lands first 0 1) y [] after one.1 in
    subst (λ (z : Moment). PutsFollowStarts (z ∷ y ∷ [])) one.0 (subst (λ (z : Moment). PutsFollowStarts (starts first 1 ∷ z ∷ [])) two.0 (λ name p h.
    subst (λ (q : Put). (start : ℕ) × (started_at (own q.tag (entries_of (starts first 1 ∷ lands first 0 1 ∷ []))) ≡ Some start) × (start ≤ q.at)) (one_under (landed first 0 1) p name h).1 (1, refl, omega arith)))
follows_holds (x ∷ y ∷ z ∷ before) after parts =
    absurd (no_more z before after (same_head (lands first 0 1) y [] (z ∷ (before ++ after)) (same_head (starts first 1) x (lands first 0 1 ∷ []) (y ∷ z ∷ (before ++ after)) parts).1).1)

-- a version that lands at the start of a statement that doesn't read it
abbrev last_of : Bool → Entries
last_of c = if c then (lands second 1 2).entry ∷ [] else []

abbrev listed_of : Bool → Bool → Entries
listed_of b c = if b then (lists first 0).entry ∷ last_of c else last_of c

abbrev told_if : Bool → Bool → Option ℕ
told_if b c = started_at (if b then (starts first 2).entry ∷ listed_of b c else listed_of b c)

starts_two : (tag : Tag) (start : ℕ) → started_at (own tag (entries_of (starts first 2 ∷ lists first 0 ∷ lands second 1 2 ∷ []))) ≡ Some start → start ≡ 2
starts_two tag start h = by (same_tag tag first) (same_tag tag second) h
  where
    by : (b c : Bool) → told_if b c ≡ Some start → start ≡ 2
    by true c k = sym (some_same 2 start k)
    by false true k = absurd (no_some start k)
    by false false k = absurd (no_some start k)

later_three : NewerLandLater (starts first 2 ∷ lists first 0 ∷ lands second 1 2 ∷ [])
later_three tag read start v p reads started above small is =
    let same = starts_two tag start started in
    subst (λ (q : Put). start ≤ q.at) (one_under (landed second 1 2) p (commit_text v) is).1 (omega (arith, same))

later_holds : AtEachMoment NewerLandLater (starts first 2 ∷ lists first 0 ∷ lands second 1 2 ∷ [])
later_holds [] after parts = λ tag read start v p reads started above small is. absurd (no_some p is)
later_holds (x ∷ []) after parts =
    subst (λ (a : Moment). NewerLandLater (a ∷ [])) (same_head (starts first 2) x (lists first 0 ∷ lands second 1 2 ∷ []) after parts).0 (λ tag read start v p reads started above small is. absurd (no_some p is))
later_holds (x ∷ y ∷ []) after parts =
    let one = same_head (starts first 2) x (lists first 0 ∷ lands second 1 2 ∷ []) (y ∷ after) parts in
    let two = same_head (lists first 0) y (lands second 1 2 ∷ []) after one.1 in
    subst (λ (a : Moment). NewerLandLater (a ∷ y ∷ [])) one.0 (subst (λ (a : Moment). NewerLandLater (starts first 2 ∷ a ∷ [])) two.0 (λ tag read start v p reads started above small is. absurd (no_some p is)))
later_holds (x ∷ y ∷ z ∷ []) after parts =
    let one = same_head (starts first 2) x (lists first 0 ∷ lands second 1 2 ∷ []) (y ∷ z ∷ after) parts in
    let two = same_head (lists first 0) y (lands second 1 2 ∷ []) (z ∷ after) one.1 in
    let three = same_head (lands second 1 2) z [] after two.1 in
    subst (λ (a : Moment). NewerLandLater (a ∷ y ∷ z ∷ [])) one.0 (subst (λ (a : Moment). NewerLandLater (starts first 2 ∷ a ∷ z ∷ [])) two.0 (subst (λ (a : Moment). NewerLandLater (starts first 2 ∷ lists first 0 ∷ a ∷ [])) three.0 later_three))
later_holds (x ∷ y ∷ z ∷ w ∷ before) after parts =
    let one = same_head (starts first 2) x (lists first 0 ∷ lands second 1 2 ∷ []) (y ∷ z ∷ w ∷ (before ++ after)) parts in
    let two = same_head (lists first 0) y (lands second 1 2 ∷ []) (z ∷ w ∷ (before ++ after)) one.1 in
    absurd (no_more w before after (same_head (lands second 1 2) z [] (w ∷ (before ++ after)) two.1).1)

-- a table without properties is at the weaker level
weaker : (columns : List (List ℕ)) → level_of (Some (meta_of columns)) ≡ WriteSerializable
unfolding entry_of
weaker columns = refl

pub views_mean : ViewsMean
views_mean = record {
  newest = newest_holds;
  stale = λ h. no_some (put_of maker 0) (sym (h (puts maker 0 ∷ []) [] (lists_none first) [] refl refl refl 0 (omega arith)) ∙ one_itself (put_of maker 0));
  rises = λ earlier later v w is h k. let two = two_reads earlier later 0 1 v w (omega arith) small_one is h k in let a = two.0 in let b = two.1 in omega (arith, a, b);
  falls = λ h. let le = h first second 1 0 (refl, omega arith) (ap (λ (o : Option ℕ). or_first o None) (reads_one 1 small_one)) (ap (λ (o : Option ℕ). or_first o None) (reads_one 0 (omega arith))) in omega (arith, le);
  covers = λ p later v w small there is h.
      let put = one_under (put_of first 1) p (commit_text v) there in
      let same : suc zero ≡ v = commits_differ 1 v small_one small put.0 in
      let whose : IsLater first later = subst (λ (q : Put). IsLater q.tag later) (sym put.1) is in
      let reads = second_reads 1 small_one later whose w h in
      omega (arith, same, reads);
  forgets = λ h. let le = h (put_of first 1) second 1 0 small_one (one_itself (put_of first 1)) (refl, omega arith) (ap (λ (o : Option ℕ). or_first o None) (reads_one 0 (omega arith))) in omega (arith, le);
  once = once_holds;
  twice = twice_refuted;
  files_first = first_holds;
  files_last = last_refuted;
  follows = follows_holds;
  precedes = λ h. let k = h (lands first 0 1 ∷ []) (starts first 1 ∷ []) refl (commit_text 0) (landed first 0 1) (one_itself (landed first 0 1)) in no_some k.0 k.1;
  later = later_holds;
  early = λ h. let le = h (starts first 2 ∷ lists first 0 ∷ lands second 1 1 ∷ []) [] refl first 0 2 1 (landed second 1 1) (ap (λ (o : Option ℕ). or_first o None) (reads_one 0 (omega arith))) refl (omega arith) small_one (one_itself (landed second 1 1)) in omega (arith, le);
  level = λ columns rows words. ap (λ (t : Commit). level_of t.meta) (commit_is (table_put columns ∷ []) 0 (table_put columns).body (table_commit columns) (ap body_of (one_itself (table_put columns))) (ap (option_map table_commit) (columns_read_back columns words))) ∙ weaker columns;
  strict = λ columns. refl;
  no_table = λ rows h. cc;
}
