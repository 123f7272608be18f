-- Commits of one statement are one, and version 0 makes a table. No text is read for it: what took effect wasn't lost, and no statement puts a commit again
-- that wasn't lost (Standing).
-- Ends cites it.
use Rattle.std.proofs.Common.{◌≡◌, ℕ, zero, suc, ◌<◌, ◌^◌, List, refl, sym, ◌∙◌, ap}
use Rattle.std.specs.Prelude.{Option, Some, option_map}
use Rattle.edge_api.specs.declared.call.Tag.{Tag}
use Rattle.edge_api.specs.Journal.{Objects}
use Rattle.op_types.specs.declared.statement.Statement.{Statement}
use Rattle.op_types.specs.declared.reply.Reply.{Reply}
use Rattle.table_rules.specs.Names.{commit_text}
use Rattle.table_rules.specs.Told.{IsTag}
use Rattle.line_texts.specs.Texts.{columns_of_text}
use Rattle.line_texts.proofs.Laws.{columns_read_back}
use Rattle.snapshot_replay.specs.Table.{table_commit}
use Rattle.call_phases.specs.Phases.{Entries}
use Rattle.statement_calls.specs.Answered.{names_of}
use Rattle.table_laws.specs.History.{Put, put_under}
use Rattle.table_laws.specs.Laws.{MakesTable}
use Rattle.table_laws.proofs.Standing.{Stands, no_later}

module _ (K : Tag → List ℕ → List ℕ → Type 0) (script : Tag → Option Statement) (replies : Tag → Option Reply) (tags : (tag : Tag) (statement : Statement) → script tag ≡ Some statement → IsTag tag)
    (past : Entries) (os : Objects) (ps : List Put) (clock : ℕ) (s : Stands K script replies tags past os ps clock) where
  -- what a statement makes that makes a table
  pub makes_table : (p : Put) → put_under ps (commit_text 0) ≡ Some p → MakesTable script p
  makes_table p is =
      let made = s.table p is in
      let names = names_of (made.0).columns in
      record {
        spec = made.0;
        is_statement = made.1;
        text = made.2;
        reads = λ words. ap (λ (text : List ℕ). option_map table_commit (columns_of_text text)) made.2 ∙ ap (option_map table_commit) (columns_read_back names words);
      }

  -- what makes a table commits no later version
  no_table : (w : ℕ) (p q : Put) → suc w < 2 ^ 64 → put_under ps (commit_text 0) ≡ Some p → put_under ps (commit_text (suc w)) ≡ Some q → p.tag ≡ q.tag → ⊥
  no_table w p q small is there same =
      let made = s.table p is in
      no_later K script replies tags past ps w q (s.commits w q small there) made.0 (sym (ap script same) ∙ made.1)

  -- commits of one statement are one
  pub once : (v w : ℕ) (p q : Put) → v < 2 ^ 64 → w < 2 ^ 64 → put_under ps (commit_text v) ≡ Some p → put_under ps (commit_text w) ≡ Some q → p.tag ≡ q.tag → v ≡ w
  once zero zero p q small also is there same = refl
  once zero (suc w) p q small also is there same = absurd (no_table w p q also is there same)
  once (suc v) zero p q small also is there same = absurd (no_table v q p small there is (sym same))
  once (suc v) (suc w) p q small also is there same = ap (λ (n : ℕ). suc n) (s.single v w p q small also is there same)
