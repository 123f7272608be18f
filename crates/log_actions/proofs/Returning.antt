-- The text that is written reads as its actions.
use Rattle.std.proofs.Common.{◌≡◌, ◌≤◌, ◌<◌, ℕ, suc, ◌+◌, length, drop, drop-cons, get_or, subst, arith, Result, Err, Vec, Global, true, false, if◌then◌else◌, List, [], ◌∷◌, ◌++◌, codes, Option, Some, None, option_map, option_and_then, is_some, Ok, refl, sym, ap, ◌∙◌, append_assoc}
use Rattle.std.specs.List.{flat_map}
use Rattle.std.specs.Result.{IfOk, OnOk}
use Rattle.std.proofs.lemmas.List.{append-nil}
use Rattle.serde_json.specs.Data.{Data, object, Members}
use Rattle.serde_json.specs.Written.{compact_text}
use Rattle.json_lines.specs.Kinds.{as_itself, present}
use Rattle.json_lines.specs.Lines.{lines, is_blank, object_of_line}
use Rattle.json_lines.specs.Single.{single_member}
use Rattle.json_lines.specs.Written.{single_object}
use Rattle.json_lines.proofs.LineEnds.{lines-compact}
use Rattle.log_actions.specs.declared.action.Action.{Action}
use Rattle.log_actions.specs.declared.action.Action.TheVariants.{Protocol, Meta, Add, Remove, Txn, Info, Checkpoint, Sidecar, Ignored}
use Rattle.log_actions.specs.declared.fault.Feature.TheVariants as features
use Rattle.log_actions.specs.declared.fault.LogFaultKind.TheVariants as kinds
use Rattle.log_actions.specs.Paths.{is_absolute}
use Rattle.log_actions.specs.Actions.{name_of, action_of, feature_in}
use Rattle.log_actions.specs.Twice.{is_twice}
use Rattle.log_actions.specs.Commit.{judged, judged_object, admitted, or_fault, onward, actions_from, max_bytes}
use Rattle.log_actions.specs.Grammar.{Commit}
use Rattle.log_actions.proofs.Saying.{says_short}
use Rattle.log_actions.specs.Written.{Fields, members_of, protocol_fields, metadata_fields, add_fields, remove_fields, txn_fields, commit_info_fields, checkpoint_fields, sidecar_fields, action_data, line_of_data, line_of_action, text_of}
use Rattle.log_actions.specs.Whole.{IsPath, IsWhole, AreWhole, Returns, IfReturned, ReturnsIfWhole, AllReturn}
use Rattle.log_actions.proofs.Fields.{IfThere}
use Rattle.log_actions.proofs.Members.{present_in}
use Rattle.log_actions.proofs.Judging.{admitted_fine}
use Rattle.log_actions.proofs.Backs.{protocol_back, metadata_back, add_back, remove_back, txn_back, commit_info_back, checkpoint_back, sidecar_back}
use Rattle.log_actions.proofs.Fitting.{Fitting, action_fits}

-- the line of a value says the action behind earlier ones
record LineOf (earlier : List Action) (a : Action) (d : Data) : Type 0 where
  solid : is_blank (compact_text d) ≡ false
  judges : judged earlier (compact_text d) ≡ Ok a

line_of : (name : List ℕ) (ms : Members) (earlier : List Action) (a : Action) → Returns (single_object name ms) → action_of name (object ms) ≡ Some a → is_twice earlier a ≡ false
    → feature_in (object ms) a ≡ None → LineOf earlier a (single_object name ms)
unfolding judged object_of_line single_member
line_of name ms earlier a returns reads new plain = record {
  solid = refl;
  judges =
      ap (λ o. or_fault kinds.Json (option_and_then as_itself o) (judged_object earlier)) returns
      ∙ ap (λ o. or_fault kinds.Shape o (admitted earlier (object ms))) reads
      ∙ admitted_fine earlier (object ms) a new plain;
}

no_feature : (fs : Fields) (path name : List ℕ) → IsPath path name → present (codes "deletionVector") (object (members_of fs)) ≡ None
    → (if is_absolute path then Some features.AbsolutePath else (if is_some (present (codes "deletionVector") (object (members_of fs))) then Some features.DeletionVector else None)) ≡ None
no_feature fs path name p absent = rw (p.inside, absent) refl

lines_of : (earlier : List Action) (a : Action) → IsWhole a → is_twice earlier a ≡ false → IfReturned (action_data a) → IfThere (LineOf earlier a) (action_data a)
unfolding action_data action_of name_of feature_in
lines_of earlier (Protocol p) h new returns = line_of (codes "protocol") (members_of (protocol_fields p)) earlier (Protocol p) returns (ap (option_map Protocol) (protocol_back p h)) new refl
lines_of earlier (Meta m) h new returns = line_of (codes "metaData") (members_of (metadata_fields m)) earlier (Meta m) returns (ap (option_map Meta) (metadata_back m h)) new refl
lines_of earlier (Add f) h new returns =
    line_of (codes "add") (members_of (add_fields f)) earlier (Add f) returns (ap (option_map Add) (add_back f h)) new
    (no_feature (add_fields f) f.path f.name h.0 (present_in (codes "deletionVector") (add_fields f)))
lines_of earlier (Remove f) h new returns =
    line_of (codes "remove") (members_of (remove_fields f)) earlier (Remove f) returns (ap (option_map Remove) (remove_back f h)) new
    (no_feature (remove_fields f) f.path f.name h.0 (present_in (codes "deletionVector") (remove_fields f)))
lines_of earlier (Txn t) h new returns = line_of (codes "txn") (members_of (txn_fields t)) earlier (Txn t) returns (ap (option_map Txn) (txn_back t h)) new refl
lines_of earlier (Info i) h new returns = line_of (codes "commitInfo") (members_of (commit_info_fields i)) earlier (Info i) returns (ap (option_map Info) (commit_info_back i h)) new refl
lines_of earlier (Checkpoint c) h new returns =
    line_of (codes "checkpointMetadata") (members_of (checkpoint_fields c)) earlier (Checkpoint c) returns (ap (option_map Checkpoint) (checkpoint_back c h)) new refl
lines_of earlier (Sidecar s) h new returns = line_of (codes "sidecar") (members_of (sidecar_fields s)) earlier (Sidecar s) returns (ap (option_map Sidecar) (sidecar_back s h)) new
    (ap (λ b. if b then Some features.AbsolutePath else None) h.0.1.inside)
lines_of earlier Ignored h new returns = tt

has_data : (a : Action) → IsWhole a → is_some (action_data a) ≡ true
unfolding action_data
has_data (Protocol p) h = refl
has_data (Meta m) h = refl
has_data (Add f) h = refl
has_data (Remove f) h = refl
has_data (Txn t) h = refl
has_data (Info i) h = refl
has_data (Checkpoint c) h = refl
has_data (Sidecar s) h = refl
has_data Ignored h = absurd h

-- one line, before the lines of what follows
one_more : (o : Option Data) (a : Action) (n : ℕ) (done : List Action) (rest : List ℕ) → is_some o ≡ true → IfThere (Fitting 4) o → IfThere (LineOf done a) o
    → actions_from n done (lines (line_of_data o ++ rest)) ≡ actions_from (n + 1) (done ++ a ∷ []) (lines rest)
unfolding actions_from
one_more None a n done rest some fits line = cc
one_more (Some d) a n done rest some fits line =
    ap (λ bs. actions_from n done (lines bs)) (append_assoc (compact_text d) (10 ∷ []) rest)
    ∙ ap (actions_from n done) (lines-compact d rest fits.fits)
    ∙ ap (λ b. if b then actions_from (n + 1) done (lines rest) else onward n (judged done (compact_text d)) (λ x. actions_from (n + 1) (done ++ x ∷ []) (lines rest))) line.solid
    ∙ ap (λ r. onward n r (λ x. actions_from (n + 1) (done ++ x ∷ []) (lines rest))) line.judges

pub reads_from : (more : List Action) (n : ℕ) (done : List Action) → AreWhole done more → AllReturn more → actions_from n done (lines (text_of more)) ≡ Ok (done ++ more)
unfolding actions_from text_of
reads_from [] n done whole returns = ap Ok (sym (append-nil done))
reads_from (a ∷ more) n done whole returns =
    one_more (action_data a) a n done (text_of more) (has_data a whole.0) (action_fits a whole.0) (lines_of done a whole.0 whole.1 (returns.0 whole.0))
    ∙ reads_from more (n + 1) (done ++ a ∷ []) whole.2 returns.1
    ∙ ap Ok (append_assoc done (a ∷ []) more)

-- one action more is written
pub one_back : (all : List Action) (i : ℕ) (a : Action) → i < length all → a ≡ get_or all i a → ReturnsIfWhole a → AllReturn (drop (i + 1) all) → AllReturn (drop i all)
one_back all i a within is returns rest =
    let next : i + 1 ≡ suc i = omega arith in
    let parts : drop i all ≡ get_or all i a ∷ drop (suc i) all = drop-cons all i a within in
    subst AllReturn (sym parts) (subst ReturnsIfWhole is returns, subst (λ k. AllReturn (drop k all)) next rest)

-- the text that was written says its actions
pub commit_back : {E : Type 0} (r : Result (Vec ℕ Global) E) (all : List Action) → IfOk r (λ v. v.items ≡ flat_map line_of_action all) → OnOk r (AllReturn all)
    → IfOk r (λ v. AreWhole [] all → length v.items ≤ max_bytes → Commit v.items all)
unfolding text_of
commit_back (Ok v) all is returns = λ whole short. says_short v.items all short (ap (λ bs. actions_from 1 [] (lines bs)) is ∙ reads_from all 1 [] whole returns)
commit_back (Err e) all is returns = tt
