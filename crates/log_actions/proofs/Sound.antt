-- What a text says is whole, but for what isn't written.
use Rattle.std.proofs.Common.{◌≡◌, ◌≤◌, ℕ, ◌^◌, ◌-◌, Bool, true, false, if◌then◌else◌, nat_le, List, [], ◌∷◌, ◌++◌, codes, Option, Some, None, option_map, option_and_then, Result, Ok, Err, refl, ap, subst, arith}
use Rattle.std.specs.Prelude.{IfSome, unwrap_or}
use Rattle.std.proofs.lemmas.Bool.Decides.{nat_tests}
use Rattle.serde_json.specs.Data.{Data, null, boolean, number, string, array, object}
use Rattle.serde_json.specs.Find.{as_str, as_bool, as_number, as_u64}
use Rattle.row_base.specs.Readings.{◌>>=◌}
use Rattle.json_lines.specs.Kinds.{TextEntry, NullableEntry, as_itself, as_integer, up_to, as_texts, as_text_map, as_nullable_map, present, needed, optional, if_there}
use Rattle.json_lines.specs.Lines.{object_of_line}
use Rattle.json_lines.specs.Single.{single_member}
use Rattle.log_actions.specs.declared.action.Format.{Format}
use Rattle.log_actions.specs.declared.action.Protocol.{Protocol}
use Rattle.log_actions.specs.declared.action.MetaData.{MetaData}
use Rattle.log_actions.specs.declared.action.AddFile.{AddFile}
use Rattle.log_actions.specs.declared.action.RemoveFile.{RemoveFile}
use Rattle.log_actions.specs.declared.action.Txn.{Txn}
use Rattle.log_actions.specs.declared.action.CheckpointMetadata.{CheckpointMetadata}
use Rattle.log_actions.specs.declared.action.Sidecar.{Sidecar}
use Rattle.log_actions.specs.declared.action.Action.{Action}
use Rattle.log_actions.specs.declared.action.Action.TheVariants as actions
use Rattle.log_actions.specs.declared.name.ActionName.{ActionName}
use Rattle.log_actions.specs.declared.name.ActionName.TheVariants as names
use Rattle.log_actions.specs.declared.fault.Feature.{Feature}
use Rattle.log_actions.specs.declared.fault.Feature.TheVariants as features
use Rattle.log_actions.specs.declared.fault.LogFaultKind.{LogFaultKind}
use Rattle.log_actions.specs.declared.fault.LogFaultKind.TheVariants as kinds
use Rattle.log_actions.specs.Paths.{name_of_path, is_absolute}
use Rattle.log_actions.specs.Actions.{as_version, as_amount, as_stamp, protocol_of, format_of, metadata_of, add_of, remove_of, txn_of, said_in, commit_info_of, checkpoint_of, sidecar_of, action_by, action_of, name_of, feature_in}
use Rattle.log_actions.specs.Twice.{is_twice}
use Rattle.log_actions.specs.Commit.{or_fault, unless_unsupported, admitted, judged_member, judged_object, judged}
use Rattle.log_actions.specs.Grammar.{Says, nothing, blank, line, Commit}
use Rattle.log_actions.specs.Whole.{IsVersion, IsAmount, IsStamp, IsMap, IsWhole, AreWhole, IsWritten, AreWritten}
use Rattle.log_actions.proofs.Ordered.{Each, Each-map, Each-then, Ordered, ordered_line, ordered_single, ordered_at, map_ascends, values_ascend}

-- whatever it is
any_then : {A B : Type 0} (Q : B → Type 0) (f : A → Option B) (o : Option A) → ((x : A) → Each Q (f x)) → Each Q (option_and_then f o)
any_then Q f None h = tt
any_then Q f (Some x) h = h x

each_itself : {A : Type 0} (o : Option A) → Each (λ x. o ≡ Some x) o
each_itself None = tt
each_itself (Some x) = refl

if_each : {A : Type 0} (P : A → Type 0) (o : Option A) → Each P o → IfSome o P
if_each P None h = tt
if_each P (Some x) h = h

up_bounded : (limit n : ℕ) (b : Bool) → nat_le n limit ≡ b → Each (λ m. m ≤ limit) (if b then Some n else None)
up_bounded limit n true e = grind (arith, nat_tests)
up_bounded limit n false e = tt

integer_bounded : (limit : ℕ) (d : Data) → Each (λ n. n ≤ limit) (as_integer limit d)
unfolding as_integer
integer_bounded limit d = any_then (λ n. n ≤ limit) (up_to limit) (option_and_then as_u64 (as_number d)) (λ n. up_bounded limit n (nat_le n limit) refl)

needed_each : {A : Type 0} (P : A → Type 0) (kind : Data → Option A) (q : List ℕ) (d : Data) → Ordered d → ((x : Data) → Ordered x → Each P (kind x)) → Each P (needed kind q d)
unfolding needed
needed_each P kind q d o h = Each-then Ordered P kind (present q d) h (ordered_at q d o)

there_each : {A : Type 0} (P : A → Type 0) (kind : Data → Option A) (o : Option Data) → Each Ordered o → ((x : Data) → Ordered x → Each P (kind x)) → Each (λ y. IfSome y P) (if_there kind o)
there_each P kind None e h = tt
there_each P kind (Some d) e h = Each-map P (λ y. IfSome y P) Some (kind d) (λ x p. p) (h d e)

optional_each : {A : Type 0} (P : A → Type 0) (kind : Data → Option A) (q : List ℕ) (d : Data) → Ordered d → ((x : Data) → Ordered x → Each P (kind x)) → Each (λ y. IfSome y P) (optional kind q d)
unfolding optional
optional_each P kind q d o h = there_each P kind (present q d) (ordered_at q d o) h

version_in : (q : List ℕ) (d : Data) → Ordered d → Each IsVersion (needed as_version q d)
version_in q d o = needed_each IsVersion as_version q d o (λ x _. integer_bounded (2 ^ 64 - 1) x)

amount_in : (q : List ℕ) (d : Data) → Ordered d → Each IsAmount (needed as_amount q d)
amount_in q d o = needed_each IsAmount as_amount q d o (λ x _. integer_bounded (2 ^ 63 - 1) x)

stamp_in : (q : List ℕ) (d : Data) → Ordered d → Each IsStamp (needed as_stamp q d)
stamp_in q d o = needed_each IsStamp as_stamp q d o (λ x _. integer_bounded (2 ^ 62) x)

maybe_amount : (q : List ℕ) (d : Data) → Ordered d → Each (λ y. IfSome y IsAmount) (optional as_amount q d)
maybe_amount q d o = optional_each IsAmount as_amount q d o (λ x _. integer_bounded (2 ^ 63 - 1) x)

maybe_map : (q : List ℕ) (d : Data) → Ordered d → Each (λ y. IfSome y IsMap) (optional as_text_map q d)
maybe_map q d o = optional_each IsMap as_text_map q d o map_ascends

values_in : (q : List ℕ) (d : Data) → Ordered d → Each IsMap (needed as_nullable_map q d)
values_in q d o = needed_each IsMap as_nullable_map q d o values_ascend

maybe_values : (q : List ℕ) (d : Data) → Ordered d → Each (λ y. IfSome y IsMap) (optional as_nullable_map q d)
maybe_values q d o = optional_each IsMap as_nullable_map q d o values_ascend

any_bind : {A B : Type 0} (Q : B → Type 0) (f : A → Option B) (o : Option A) → ((x : A) → Each Q (f x)) → Each Q (o >>= f)
any_bind Q f o h = any_then Q f o h

Each-bind : {A B : Type 0} (P : A → Type 0) (Q : B → Type 0) (f : A → Option B) (o : Option A) → ((x : A) → P x → Each Q (f x)) → Each P o → Each Q (o >>= f)
Each-bind P Q f o h e = Each-then P Q f o h e

-- what is known of each action that was read
abbrev OfProtocol : Protocol → Type 0
OfProtocol p = IsWhole (actions.Protocol p)

abbrev OfFormat : Format → Type 0
OfFormat f = IfSome f.options IsMap

abbrev OfMeta : MetaData → Type 0
OfMeta m = IsWhole (actions.Meta m)

-- a file or a sidecar is whole where its path isn't absolute
abbrev IfInside : List ℕ → Type 0 → Type 0
IfInside path P = is_absolute path ≡ false → P

abbrev OfAdd : AddFile → Type 0
OfAdd f = IfInside f.path (IsWhole (actions.Add f))

abbrev OfRemove : RemoveFile → Type 0
OfRemove f = IfInside f.path (IsWhole (actions.Remove f))

abbrev OfTxn : Txn → Type 0
OfTxn t = IsVersion t.version

abbrev OfCheckpoint : CheckpointMetadata → Type 0
OfCheckpoint c = IsWhole (actions.Checkpoint c)

abbrev OfSidecar : Sidecar → Type 0
OfSidecar s = IfInside s.path (IsWhole (actions.Sidecar s))

protocol_sound : (d : Data) → Ordered d → Each (λ p. IsWhole (actions.Protocol p)) (protocol_of d)
unfolding protocol_of
protocol_sound d o =
    Each-bind IsVersion OfProtocol _ _ (λ reader r. Each-bind IsVersion OfProtocol _ _ (λ writer w. any_bind OfProtocol _ (optional as_texts (codes "readerFeatures") d) (λ reads. any_bind OfProtocol _ (optional as_texts (codes "writerFeatures") d) (λ writes. (r, w)))) (version_in (codes "minWriterVersion") d o)) (version_in (codes "minReaderVersion") d o)

format_sound : (d : Data) → Ordered d → Each (λ f. IfSome f.options IsMap) (format_of d)
unfolding format_of
format_sound d o = any_bind OfFormat _ (needed as_str (codes "provider") d) (λ provider. Each-bind (λ (y : Option (List TextEntry)). IfSome y IsMap) OfFormat _ _ (λ options h. h) (maybe_map (codes "options") d o))

metadata_sound : (d : Data) → Ordered d → Each (λ m. IsWhole (actions.Meta m)) (metadata_of d)
unfolding metadata_of
metadata_sound d o =
    Each-bind (λ y. IfSome y IsAmount) OfMeta _ _ (λ created c. any_bind OfMeta _ (needed as_str (codes "id") d) (λ id. any_bind OfMeta _ (optional as_str (codes "name") d) (λ name. any_bind OfMeta _ (optional as_str (codes "description") d) (λ description.
    Each-bind (λ (f : Format). IfSome f.options IsMap) OfMeta _ _ (λ format f. any_bind OfMeta _ (needed as_str (codes "schemaString") d) (λ schema. any_bind OfMeta _ (needed as_texts (codes "partitionColumns") d) (λ columns.
    Each-bind (λ (y : Option (List TextEntry)). IfSome y IsMap) OfMeta _ _ (λ configuration m. (f, c, m)) (maybe_map (codes "configuration") d o))))
    (needed_each (λ (f : Format). IfSome f.options IsMap) format_of (codes "format") d o format_sound)))))
    (maybe_amount (codes "createdTime") d o)

add_sound : (d : Data) → Ordered d → Each (λ f. IfInside f.path (IsWhole (actions.Add f))) (add_of d)
unfolding add_of
add_sound d o =
    any_bind OfAdd _ (needed as_str (codes "path") d) (λ path. Each-bind (λ name. name_of_path path ≡ Some name) OfAdd _ _ (λ name n.
    Each-bind IsMap OfAdd _ _ (λ values v. Each-bind IsAmount OfAdd _ _ (λ size s. Each-bind IsAmount OfAdd _ _ (λ time t. any_bind OfAdd _ (needed as_bool (codes "dataChange") d) (λ change. any_bind OfAdd _ (optional as_str (codes "stats") d) (λ stats.
    Each-bind (λ (y : Option (List TextEntry)). IfSome y IsMap) OfAdd _ _ (λ tags m. λ inside. (record { named = n; inside = inside }, v, s, t, m)) (maybe_map (codes "tags") d o))))
    (amount_in (codes "modificationTime") d o)) (amount_in (codes "size") d o)) (values_in (codes "partitionValues") d o)) (each_itself (name_of_path path)))

time_or_none : (o : Option ℕ) → IfSome o IsAmount → IsAmount (unwrap_or o 0)
time_or_none None h = omega arith
time_or_none (Some n) h = h

remove_sound : (d : Data) → Ordered d → Each (λ f. IfInside f.path (IsWhole (actions.Remove f))) (remove_of d)
unfolding remove_of
remove_sound d o =
    any_bind OfRemove _ (needed as_str (codes "path") d) (λ path. Each-bind (λ name. name_of_path path ≡ Some name) OfRemove _ _ (λ name n.
    Each-bind (λ y. IfSome y IsAmount) OfRemove _ _ (λ time t. any_bind OfRemove _ (needed as_bool (codes "dataChange") d) (λ change. any_bind OfRemove _ (optional as_bool (codes "extendedFileMetadata") d) (λ extended. Each-bind (λ (y : Option (List NullableEntry)). IfSome y IsMap) OfRemove _ _ (λ values v. Each-bind (λ y. IfSome y IsAmount) OfRemove _ _ (λ size s.
    Each-bind (λ (y : Option (List TextEntry)). IfSome y IsMap) OfRemove _ _ (λ tags m. λ inside. (record { named = n; inside = inside }, time_or_none time t, v, s, m)) (maybe_map (codes "tags") d o))
    (maybe_amount (codes "size") d o)) (maybe_values (codes "partitionValues") d o)))) (maybe_amount (codes "deletionTimestamp") d o)) (each_itself (name_of_path path)))

txn_sound : (d : Data) → Ordered d → Each (λ t. IsVersion t.version) (txn_of d)
unfolding txn_of
txn_sound d o = any_bind OfTxn _ (needed as_str (codes "appId") d) (λ app. Each-bind IsVersion OfTxn _ _ (λ version v. any_bind OfTxn _ (optional as_amount (codes "lastUpdated") d) (λ updated. v)) (version_in (codes "version") d o))

said_sound : (d : Data) → Ordered d → IsWhole (actions.Info (said_in d))
unfolding said_in
said_sound d o = (if_each IsStamp _ (stamp_in (codes "timestamp") d o), if_each IsVersion _ (version_in (codes "readVersion") d o))

itself_sound : (d : Data) → Ordered d → Each (λ i. IsWhole (actions.Info i)) (option_map said_in (as_itself d))
itself_sound null o = tt
itself_sound (boolean b) o = tt
itself_sound (number n) o = tt
itself_sound (string s) o = tt
itself_sound (array ds) o = tt
itself_sound (object ms) o = said_sound (object ms) o

commit_info_sound : (d : Data) → Ordered d → Each (λ i. IsWhole (actions.Info i)) (commit_info_of d)
unfolding commit_info_of
commit_info_sound d o = itself_sound d o

checkpoint_sound : (d : Data) → Ordered d → Each (λ c. IsWhole (actions.Checkpoint c)) (checkpoint_of d)
unfolding checkpoint_of
checkpoint_sound d o = Each-bind IsVersion OfCheckpoint _ _ (λ version v. Each-bind (λ (y : Option (List TextEntry)). IfSome y IsMap) OfCheckpoint _ _ (λ tags m. (v, m)) (maybe_map (codes "tags") d o)) (version_in (codes "version") d o)

sidecar_sound : (d : Data) → Ordered d → Each (λ s. IfInside s.path (IsWhole (actions.Sidecar s))) (sidecar_of d)
unfolding sidecar_of
sidecar_sound d o =
    any_bind OfSidecar _ (needed as_str (codes "path") d) (λ path. Each-bind (λ name. name_of_path path ≡ Some name) OfSidecar _ _ (λ name n.
    Each-bind IsAmount OfSidecar _ _ (λ size s. Each-bind (λ y. IfSome y IsAmount) OfSidecar _ _ (λ time t. λ inside. ((name, record { named = n; inside = inside }), s, t)) (maybe_amount (codes "modificationTime") d o))
    (amount_in (codes "sizeInBytes") d o)) (each_itself (name_of_path path)))

-- whole, where nothing of it is unsupported or left out
abbrev Sound : Data → Action → Type 0
Sound d a = feature_in d a ≡ None → IsWritten a → IsWhole a

not_absolute : (b : Bool) (o : Option Feature) → (if b then Some features.AbsolutePath else o) ≡ None → b ≡ false
not_absolute true o e = cc
not_absolute false o e = refl

by_sound : (n : ActionName) (d : Data) → Ordered d → Each (Sound d) (action_by n d)
unfolding feature_in
by_sound names.Protocol d o = Each-map (λ p. IsWhole (actions.Protocol p)) (Sound d) actions.Protocol (protocol_of d) (λ p h _ _. h) (protocol_sound d o)
by_sound names.Meta d o = Each-map (λ m. IsWhole (actions.Meta m)) (Sound d) actions.Meta (metadata_of d) (λ m h _ _. h) (metadata_sound d o)
by_sound names.Add d o = Each-map (λ f. IfInside f.path (IsWhole (actions.Add f))) (Sound d) actions.Add (add_of d) (λ f h e _. h (not_absolute (is_absolute f.path) _ e)) (add_sound d o)
by_sound names.Remove d o = Each-map (λ f. IfInside f.path (IsWhole (actions.Remove f))) (Sound d) actions.Remove (remove_of d) (λ f h e _. h (not_absolute (is_absolute f.path) _ e)) (remove_sound d o)
by_sound names.Txn d o = Each-map (λ (t : Txn). IsVersion t.version) (Sound d) actions.Txn (txn_of d) (λ t h _ w. (h, w)) (txn_sound d o)
by_sound names.Info d o = Each-map (λ i. IsWhole (actions.Info i)) (Sound d) actions.Info (commit_info_of d) (λ i h _ _. h) (commit_info_sound d o)
by_sound names.Checkpoint d o = Each-map (λ c. IsWhole (actions.Checkpoint c)) (Sound d) actions.Checkpoint (checkpoint_of d) (λ c h _ _. h) (checkpoint_sound d o)
by_sound names.Sidecar d o = Each-map (λ s. IfInside s.path (IsWhole (actions.Sidecar s))) (Sound d) actions.Sidecar (sidecar_of d) (λ s h e _. h (not_absolute (is_absolute s.path) None e)) (sidecar_sound d o)
by_sound names.Other d o = λ _ w. w

-- lines
abbrev IfFine : (Action → Type 0) → Result Action LogFaultKind → Type 0
IfFine P (Ok a) = P a
IfFine P (Err k) = Unit {0}

fine : {A : Type 0} (P : A → Type 0) (Q : Action → Type 0) (k : LogFaultKind) (o : Option A) (f : A → Result Action LogFaultKind) → ((x : A) → P x → IfFine Q (f x)) → Each P o → IfFine Q (or_fault k o f)
fine P Q k None f h e = tt
fine P Q k (Some x) f h e = h x e

abbrev Stands : List Action → Action → Type 0
Stands earlier a = (IsWritten a → IsWhole a) × (is_twice earlier a ≡ false)

admitted_stands : (b : Bool) (o : Option Feature) (earlier : List Action) (d : Data) (a : Action) → is_twice earlier a ≡ b → feature_in d a ≡ o → Sound d a
    → IfFine (Stands earlier) (if b then Err kinds.Twice else unless_unsupported o a)
admitted_stands true o earlier d a twice asks h = tt
admitted_stands false None earlier d a twice asks h = (h asks, twice)
admitted_stands false (Some f) earlier d a twice asks h = tt

member_stands : (earlier : List Action) (name : List ℕ) (d : Data) → Ordered d → IfFine (Stands earlier) (judged_member earlier name d)
unfolding action_of
member_stands earlier name d o =
    fine (Sound d) (Stands earlier) kinds.Shape (action_of name d) (admitted earlier d) (λ a h. admitted_stands (is_twice earlier a) (feature_in d a) earlier d a refl refl h) (by_sound (name_of name) d o)

judged_stands : (earlier : List Action) (l : List ℕ) → IfFine (Stands earlier) (judged earlier l)
unfolding judged
judged_stands earlier l =
    fine Ordered (Stands earlier) kinds.Json (object_of_line l) (judged_object earlier)
    (λ d o. fine (λ m. Ordered m.1) (Stands earlier) kinds.Shape (single_member d) (λ m. judged_member earlier m.0 m.1) (λ m p. member_stands earlier m.0 m.1 p) (ordered_single d o)) (ordered_line l)

answer_in : Result Action LogFaultKind → Action → Action
answer_in (Ok b) a = b
answer_in (Err k) a = a

same : (b a : Action) → (let r : Result Action LogFaultKind = Ok b in r) ≡ Ok a → b ≡ a
unfolding answer_in
same b a e = ap (λ r. answer_in r b) e

stands : (earlier : List Action) (r : Result Action LogFaultKind) (a : Action) → r ≡ Ok a → IfFine (Stands earlier) r → Stands earlier a
stands earlier (Ok b) a e h = subst (Stands earlier) (same b a e) h
stands earlier (Err k) a e h = cc

whole_says : (earlier : List Action) (ls : List (List ℕ)) (all : List Action) → Says earlier ls all → AreWritten all → AreWhole earlier all
whole_says _ _ _ (nothing earlier) w = tt
whole_says _ _ _ (blank earlier l ls all is says) w = whole_says earlier ls all says w
whole_says _ _ _ (line earlier l ls a all is reads says) w =
    let s = stands earlier (judged earlier l) a reads (judged_stands earlier l) in
    (s.0 w.0, s.1, whole_says (earlier ++ a ∷ []) ls all says w.1)

pub whole_commit : (bytes : List ℕ) (all : List Action) → Commit bytes all → AreWritten all → AreWhole [] all
whole_commit bytes all c w = whole_says [] _ all c.says w
