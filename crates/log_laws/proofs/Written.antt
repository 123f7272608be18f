-- What the text says that is written of a plan's actions.
-- Below Reading; nothing above the crate cites it.
-- The crate's law on plans one by one stands here (written_reads).
use Rattle.std.proofs.Common.{◌≡◌, ◌≤◌, ◌^◌, ℕ, Bool, true, false, List, [], ◌∷◌, ◌++◌, map, refl, sym, ◌∙◌, ap, arith}
use Rattle.std.specs.Prelude.{Option, Some, None, if◌then◌else◌, nat_le}
use Rattle.std.proofs.lemmas.Bool.Decides.{nat_tests}
use Rattle.log_actions.specs.declared.action.AddFile.{AddFile}
use Rattle.log_actions.specs.declared.action.Txn.{Txn}
use Rattle.log_actions.specs.declared.action.Action.{Action}
use Rattle.log_actions.specs.declared.action.Action.TheVariants as actions
use Rattle.log_actions.specs.Whole.{AreWhole}
use Rattle.log_actions.proofs.Saying.{reads_all}
use Rattle.log_state.specs.Stamps.{if_stamp, first_info, stamp_in}
use Rattle.log_state.specs.Table.{Table}
use Rattle.table_rules.specs.declared.rules.Level.{Level}
use Rattle.table_files.specs.Files.{File, FileLine, Adds, file_in}
use Rattle.table_files.specs.Commits.{Commit, commit_of}
use Rattle.table_changes.specs.Table.{adds_lines}
use Rattle.commit_plans.specs.declared.plan.CommitPlan.{CommitPlan}
use Rattle.commit_plans.specs.Plans.{info_at, next_stamp, actions_at, table_plan, txn_actions}
use Rattle.commit_plans.proofs.Wholes.{table_is_whole, insert_is_whole}
use Rattle.log_laws.specs.Written.{AllChange, Reads, said_by, numbers_of, insert_behind, insert_said, WrittenReads, MakingReads, InsertReads}

if_small : (n : ℕ) → n ≤ 2 ^ 62 → if_stamp n ≡ Some n
if_small n le = by (nat_le n (2 ^ 62)) refl
  where
    by : (b : Bool) → nat_le n (2 ^ 62) ≡ b → (if b then Some n else None) ≡ Some n
    by true e = refl
    by false e = absurd (grind (arith, nat_tests))

pub stamp_read : (plan : CommitPlan) (now : ℕ) → next_stamp plan.last now ≤ 2 ^ 62 → stamp_in (actions_at plan now) ≡ Some (next_stamp plan.last now)
unfolding stamp_in first_info
stamp_read plan now small = if_small (next_stamp plan.last now) small

pub written_reads : WrittenReads
written_reads text plan now whole writes = record {
  actions = reads_all text (actions_at plan now) (writes.back whole);
  stamp = stamp_read plan now whole.0.0;
  blind = refl;
  says = refl;
}

-- with what the commit says in other words
pub in_words : (text : List ℕ) (plan : CommitPlan) (now : ℕ) (said other : Commit) → said ≡ other → Reads text plan now said → Reads text plan now other
in_words text plan now said other same r = record { actions = r.actions; stamp = r.stamp; blind = r.blind; says = r.says ∙ same }

-- the changes of an insert
pub adds_said : (files : List AddFile) → AllChange files
    → commit_of (map actions.Add files) ≡ record { info = None; protocol = None; meta = None; txns = []; lines = adds_lines true (map file_in files) }
adds_said [] all = refl
adds_said (f ∷ fs) all = λ i. record {
  info = (adds_said fs all.1 i).info;
  protocol = (adds_said fs all.1 i).protocol;
  meta = (adds_said fs all.1 i).meta;
  txns = (adds_said fs all.1 i).txns;
  lines = Adds (file_in f) (all.0 i) ∷ (adds_said fs all.1 i).lines;
}

pub making_reads : MakingReads
making_reads text id start level schema partition properties now amount sorted small writes =
    written_reads text (table_plan id start level schema partition properties) now (table_is_whole id start level schema partition properties now amount small sorted) writes

-- with the transaction
txn_said : (txn : Option Txn) (files : List AddFile) → AllChange files
    → commit_of (txn_actions txn ++ map actions.Add files) ≡ record { info = None; protocol = None; meta = None; txns = numbers_of txn; lines = adds_lines true (map file_in files) }
txn_said None files changes = adds_said files changes
txn_said (Some t) files changes = ap (λ (c : Commit). record c { txns = (t.app_id, t.version) ∷ c.txns }) (adds_said files changes)

pub insert_is : (last : Option ℕ) (table : Table) (id : List ℕ) (level : Level) (txn : Option Txn) (files : List AddFile) (now : ℕ) → AllChange files
    → said_by (insert_behind last table id level txn files) now ≡ insert_said last table id level txn files now
insert_is last table id level txn files now changes = ap (λ (t : Commit). record t { info = Some (info_at (insert_behind last table id level txn files) now) }) (txn_said txn files changes)

pub insert_reads : InsertReads
insert_reads text last table id level txn files now version below small known whole apart changes writes =
    let plan = insert_behind last table id level txn files in
    in_words text plan now (said_by plan now) (insert_said last table id level txn files now) (insert_is last table id level txn files now changes)
    (written_reads text plan now (insert_is_whole table id level txn files last now version below small known whole apart) writes)
