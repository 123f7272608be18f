-- A table is made, a file is appended, and another takes its place: what the laws ask can be met.
-- Nothing above the crate cites it.
-- The crate's examples stand here (table_is_replayed, inserts_are_made).
use Rattle.std.proofs.Common.{◌≡◌, ◌⊎◌, inl, inr, ℕ, zero, suc, ◌<◌, Bool, true, false, List, [], ◌∷◌, refl, sym, ◌∙◌, ap, subst, arith}
use Rattle.std.specs.Prelude.{Option, Some, None, if◌then◌else◌, codes}
use Rattle.std.specs.List.{Contains}
use Rattle.std.specs.List.Sorted.{IsStrictlySortedBy}
use Rattle.std.specs.Str.{bytes_eq}
use Rattle.edge_api.specs.declared.call.Tag.{Tag}
use Rattle.log_actions.specs.declared.action.AddFile.{AddFile}
use Rattle.log_actions.specs.declared.action.RemoveFile.{RemoveFile}
use Rattle.log_actions.specs.declared.action.Action.{Action}
use Rattle.log_actions.specs.declared.action.Action.TheVariants.{Add, Remove}
use Rattle.log_state.specs.Newest.{newest, live_by}
use Rattle.log_state.specs.Listed.{AreLive}
use Rattle.log_state.specs.Stamps.{first_info, stamp_in}
use Rattle.log_state.specs.Table.{Table, applied, action_of, IsTableOf}
use Rattle.log_state.proofs.InOrder.{first, none, first_or}
use Rattle.log_state.proofs.Tables.{table_more}
use Rattle.table_rules.specs.Names.{data_text}
use Rattle.table_rules.specs.declared.rules.Level.TheVariants.{WriteSerializable}
use Rattle.table_rules.proofs.Paths.{data_is_path}
use Rattle.commit_plans.specs.Made.{made_protocol, made_metadata}
use Rattle.commit_plans.specs.Plans.{next_stamp, actions_at}
use Rattle.log_laws.specs.Written.{Writes, insert_behind}
use Rattle.log_laws.specs.Versions.{stamp_below, actions_by, IsMade, IsMaking, IsInsert, HasRead, plan_of, clock_of, said_of}
use Rattle.log_laws.specs.Example.{file, removed, first_path, second_path, makes, appends, replaces, commits, no_table, made_table, table, two, TableIsReplayed, PremisesAreMet, InsertsAreMade}
use Rattle.log_laws.proofs.Applied.{each_commit_applies}
use Rattle.log_laws.proofs.Reading.{inserts_read}

-- ---- replay

nothing_left : IsTableOf [] no_table
unfolding newest
nothing_left = record { version = refl; stamp = refl; reconciled = record { protocol = refl; meta = refl; txn = λ app. refl; action = λ path. refl } }

leaves_made : IsTableOf (actions_at makes 5 ∷ []) made_table
leaves_made = table_more [] (actions_at makes 5) no_table made_table 0 refl (each_commit_applies no_table 0 (actions_at makes 5)) nothing_left

leaves : IsTableOf commits table
leaves =
    let two_commits = applied made_table 1 (actions_at (appends first_path) 3) in
    table_more (actions_at makes 5 ∷ actions_at (appends first_path) 3 ∷ []) replaces two_commits table 2 refl (each_commit_applies two_commits 2 replaces)
    (table_more (actions_at makes 5 ∷ []) (actions_at (appends first_path) 3) made_table two_commits 1 refl (each_commit_applies made_table 1 (actions_at (appends first_path) 3)) leaves_made)

live : AreLive table (file second_path ∷ [])
unfolding IsStrictlySortedBy
live = record { order = (tt, tt); each = λ f. (there f, back f) }
  where
    there : (f : AddFile) → Contains (file second_path ∷ []) f → live_by (action_of table f.path) ≡ Some f
    there f h = by (first_or (file second_path) f [] h)
      where
        by : (file second_path ≡ f) ⊎ Contains [] f → live_by (action_of table f.path) ≡ Some f
        by (inl is) = subst (λ (g : AddFile). live_by (action_of table g.path) ≡ Some g) is refl
        by (inr more) = absurd (none f more)

    left : (f : AddFile) (r : RemoveFile) (b c : Bool) → live_by (if b then Some (Remove r) else (if c then Some (Add (file second_path)) else None)) ≡ Some f → file second_path ≡ f
    left f r true c h = let bad : None ≡ Some f = h in cc
    left f r false true h = let one : Some (file second_path) ≡ Some f = h in cc
    left f r false false h = let bad : None ≡ Some f = h in cc

    back : (f : AddFile) → live_by (action_of table f.path) ≡ Some f → Contains (file second_path ∷ []) f
    back f h = subst (λ (g : AddFile). Contains (file second_path ∷ []) g) (left f (removed first_path) (bytes_eq f.path first_path) (bytes_eq f.path second_path) h) (first (file second_path) [])

stamp_is : table.stamp ≡ Some 7
unfolding stamp_in first_info
stamp_is = refl

pub table_is_replayed : TableIsReplayed
table_is_replayed = record {
  leaves = leaves;
  says = (refl, (refl, (refl, tt)));
  live = live;
  files_before = refl;
  files = refl;
  meta = refl;
  number = refl;
  stamp = stamp_is;
}

-- ---- texts

module _ (tag : Tag) (a b : List ℕ) (first_text : Writes a (actions_at makes 5)) (second_text : Writes b (actions_at (appends (data_text tag 5 0)) 3)) where
  abbrev path : List ℕ
  path = data_text tag 5 0

  making : IsMaking a
  unfolding IsStrictlySortedBy
  making = record {
    id = codes "one";
    start = 5;
    level = WriteSerializable;
    schema = codes "{}";
    partition = [];
    properties = [];
    now = 5;
    amount = omega arith;
    sorted = tt;
    in_time = omega arith;
    writes = first_text;
  }

  abbrev texts : ℕ → List ℕ
  texts = two a b

  first_fact : (k : ℕ) → k < 1 → IsMade texts k
  first_fact zero lt = making
  first_fact (suc k) lt = absurd (omega arith)

  -- the making reads, so the insert was planned over its table and its stamp
  first_stamp : stamp_below (actions_by texts) 1 ≡ Some 5
  unfolding first_fact making
  first_stamp = (inserts_read texts 1 (omega arith) first_fact 0 (omega arith)).stamp

  first_said : actions_by texts 0 ≡ actions_at makes 5
  unfolding first_fact making
  first_said = (inserts_read texts 1 (omega arith) first_fact 0 (omega arith)).says

  insert : IsInsert texts 1
  unfolding IsStrictlySortedBy
  insert = record {
    read = 0;
    table = made_table;
    id = codes "two";
    level = WriteSerializable;
    txn = None;
    files = file path ∷ [];
    now = 3;
    below = omega arith;
    loaded = subst (λ (all : List Action). IsTableOf (all ∷ []) made_table) (sym first_said) leaves_made;
    known = tt;
    whole = ((data_is_path tag 5 0 (omega arith), tt, omega arith, omega arith, tt), tt);
    apart = (tt, tt);
    changes = (refl, tt);
    in_time = omega arith;
    writes = subst (λ (o : Option ℕ). Writes b (actions_at (insert_behind o made_table (codes "two") WriteSerializable None (file path ∷ [])) 3)) (sym first_stamp) second_text;
  }

  facts : (k : ℕ) → k < 2 → IsMade texts k
  facts zero lt = making
  facts (suc zero) lt = insert
  facts (suc (suc k)) lt = absurd (omega arith)

  second_stamp : stamp_below (actions_by texts) 2 ≡ Some 6
  unfolding facts insert
  second_stamp = (inserts_read texts 2 (omega arith) facts 1 (omega arith)).stamp ∙ ap (λ (o : Option ℕ). Some (next_stamp o 3)) first_stamp

pub inserts_are_made : InsertsAreMade
inserts_are_made tag a b first_text second_text = record { facts = facts tag a b first_text second_text; stamp = second_stamp tag a b first_text second_text }
