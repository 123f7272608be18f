-- What a commit says, sorted out of its actions (PROTOCOL.md, "Actions").
use Rattle.std.specs.Prelude.{◌≡◌, ℕ, Bool, false, List, [], ◌∷◌, ◌++◌, Option, Some, None}
use Rattle.std.specs.Option.{option_or}
use Rattle.log_actions.specs.declared.action.CommitInfo.{CommitInfo}
use Rattle.log_actions.specs.declared.action.MetaData.{MetaData}
use Rattle.log_actions.specs.declared.action.Protocol.{Protocol as ProtocolValue}
use Rattle.log_actions.specs.declared.action.Action.{Action}
use Rattle.log_actions.specs.declared.action.Action.TheVariants.{Protocol, Meta, Add, Remove, Txn, Info, Checkpoint, Sidecar, Ignored}
use Rattle.table_files.specs.Files.{FileLine, Removes, Adds, file_in, tombstone_in}

-- a commit: what it says about itself, the protocol and the metadata that it sets, applications with the numbers of their
-- transactions, and its files line by line
pub record Commit : Type 0 where
  pub info : Option CommitInfo
  pub protocol : Option ProtocolValue
  pub meta : Option MetaData
  pub txns : List (List ℕ × ℕ)
  pub lines : List FileLine

-- the newer of two, where there is a newer one
abbrev pub newer : {A : Type 0} → Option A → Option A → Option A
newer old None = old
newer old (Some new) = Some new

abbrev pub nothing_said : Commit
nothing_said = record { info = None; protocol = None; meta = None; txns = []; lines = [] }

-- an action before others
abbrev pub with_action : Action → Commit → Commit
with_action (Protocol p) t = record t { protocol = newer (Some p) t.protocol }
with_action (Meta m) t = record t { meta = newer (Some m) t.meta }
with_action (Add f) t = record t { lines = Adds (file_in f) f.data_change ∷ t.lines }
with_action (Remove f) t = record t { lines = Removes (tombstone_in f) f.data_change ∷ t.lines }
with_action (Txn x) t = record t { txns = (x.app_id, x.version) ∷ t.txns }
with_action (Info i) t = record t { info = Some i }
with_action (Checkpoint c) t = t
with_action (Sidecar s) t = t
with_action Ignored t = t

-- what these actions say. Of several that say something about the commit itself the first counts
abbrev pub commit_of : List Action → Commit
commit_of [] = nothing_said
commit_of (a ∷ more) = with_action a (commit_of more)

-- it calls itself a blind append
abbrev pub calls_blind : Option Bool → Bool
calls_blind None = false
calls_blind (Some said) = said

abbrev pub info_is_blind : Option CommitInfo → Bool
info_is_blind None = false
info_is_blind (Some i) = calls_blind i.is_blind_append

abbrev pub is_blind : Commit → Bool
is_blind t = info_is_blind t.info

-- a part of a commit before the rest. Of what is said about the commit itself the first counts
abbrev pub before : Commit → Commit → Commit
before s t = record {
  info = option_or s.info t.info;
  protocol = newer s.protocol t.protocol;
  meta = newer s.meta t.meta;
  txns = s.txns ++ t.txns;
  lines = s.lines ++ t.lines;
}

-- actions may be sorted part by part
abbrev pub EachPartIsSorted : Type 0
EachPartIsSorted = (xs ys : List Action) → commit_of (xs ++ ys) ≡ before (commit_of xs) (commit_of ys)
