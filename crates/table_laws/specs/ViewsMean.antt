-- What the words of Views and Starts, FilesComeFirst and level_for mean: for each a short journal of which it holds, and one of which it is refuted.
-- Laws have no body that a wrong program could turn, so these stand in place of edits.
-- No crate cites them; views_mean has them as its clause.
use Rattle.std.specs.Prelude.{◌≡◌, ℕ, false, true, List, [], ◌∷◌}
use Rattle.std.specs.List.{list_all}
use Rattle.edge_api.specs.declared.call.Tag.{Tag}
use Rattle.edge_api.specs.declared.call.Call.{Call}
use Rattle.edge_api.specs.declared.call.Call.TheVariants.{PutNew, List as ListNames, Delete, Now}
use Rattle.edge_api.specs.declared.call.Answer.{Answer}
use Rattle.edge_api.specs.declared.call.Answer.TheVariants.{Stored, Names, Gone, Time}
use Rattle.edge_api.specs.Journal.{Moment}
use Rattle.table_rules.specs.Names.{log_prefix, commit_text, data_text}
use Rattle.line_texts.specs.Texts.{text_of_columns, text_of_add, text_of_rows, is_word}
use Rattle.table_changes.specs.Rows.{Row}
use Rattle.table_changes.specs.Table.{Serializable, WriteSerializable}
use Rattle.table_changes.specs.Statements.{insert_of, check_of}
use Rattle.table_laws.specs.Operations.{NoRow, passes, may}
use Rattle.table_laws.specs.History.{Put, level_for}
use Rattle.table_laws.specs.Laws.{FilesComeFirst}
use Rattle.table_laws.specs.Views.{ListingIsNewest, ReadsNeverFall, ReadsCoverCommits, NamesPutOnce}
use Rattle.table_laws.specs.Starts.{AtEachMoment, PutsFollowStarts, NewerLandLater}

-- actor 0 makes the table, and session 1 has two statements
abbrev pub maker : Tag
maker = record { actor = 0; statement = 1 }

abbrev pub first : Tag
first = record { actor = 1; statement = 1 }

abbrev pub second : Tag
second = record { actor = 1; statement = 2 }

-- a call that was answered without a fault
abbrev pub answered : Tag → Call → Answer → Moment
answered tag call answer = record { entry = record { tag = tag; call = call; answer = answer }; clock = 0; took_effect = false }

-- a version's commit is put, and goes; a listing shows one version, or none
abbrev pub puts : Tag → ℕ → Moment
puts tag version = answered tag (PutNew (commit_text version) []) Stored

abbrev pub deletes : Tag → ℕ → Moment
deletes tag version = answered tag (Delete (commit_text version)) Gone

abbrev pub lists : Tag → ℕ → Moment
lists tag version = answered tag (ListNames log_prefix) (Names (record { name = commit_text version; put_at = 0 } ∷ []))

abbrev pub lists_none : Tag → Moment
lists_none tag = answered tag (ListNames log_prefix) (Names [])

-- a data file without rows is put, and the commit of a version that adds it
abbrev pub puts_file : Tag → Moment
puts_file tag = answered tag (PutNew (data_text tag 0 0) (text_of_rows [])) Stored

abbrev pub adds_file : Tag → ℕ → Moment
adds_file tag version = answered tag (PutNew (commit_text version) (text_of_add (data_text tag 0 0))) Stored

-- the clock is read, and a version's commit is put at a clock
abbrev pub starts : Tag → ℕ → Moment
starts tag clock = record { entry = record { tag = tag; call = Now; answer = Time clock }; clock = clock; took_effect = false }

abbrev pub lands : Tag → ℕ → ℕ → Moment
lands tag version clock = record { entry = record { tag = tag; call = PutNew (commit_text version) []; answer = Stored }; clock = clock; took_effect = false }

-- the put of a table of these columns
abbrev pub table_put : List (List ℕ) → Put
table_put columns = record { tag = maker; name = commit_text 0; body = text_of_columns columns; at = 0 }

pub record ViewsMean : Type 0 where
  -- a listing shows the commit that was put; it doesn't show none
  pub newest : ListingIsNewest (puts maker 0 ∷ lists first 0 ∷ [])
  pub stale : ListingIsNewest (puts maker 0 ∷ lists_none first ∷ []) → ⊥
  -- a session reads 0 and then 1, and not 1 and then 0
  pub rises : ReadsNeverFall (lists first 0 ∷ lists second 1 ∷ [])
  pub falls : ReadsNeverFall (lists first 1 ∷ lists second 0 ∷ []) → ⊥
  -- a session that has committed 1 reads 1, and not 0
  pub covers : ReadsCoverCommits (puts first 1 ∷ lists second 1 ∷ [])
  pub forgets : ReadsCoverCommits (puts first 1 ∷ lists second 0 ∷ []) → ⊥
  -- two names are put once each; where an object has gone, its name is put twice
  pub once : NamesPutOnce (puts first 0 ∷ puts second 1 ∷ [])
  pub twice : NamesPutOnce (puts first 0 ∷ deletes first 0 ∷ puts second 0 ∷ []) → ⊥
  -- a file is put before the commit that adds it, and not after it
  pub files_first : FilesComeFirst (puts_file first ∷ adds_file first 1 ∷ [])
  pub files_last : FilesComeFirst (adds_file first 1 ∷ puts_file first ∷ []) → ⊥
  -- a statement puts once it has started, and not before
  pub follows : AtEachMoment PutsFollowStarts (starts first 1 ∷ lands first 0 1 ∷ [])
  pub precedes : AtEachMoment PutsFollowStarts (lands first 0 1 ∷ starts first 1 ∷ []) → ⊥
  -- a statement that starts at 2 and reads 0 leaves that version 1 lands at 2, and not at 1
  pub later : AtEachMoment NewerLandLater (starts first 2 ∷ lists first 0 ∷ lands second 1 2 ∷ [])
  pub early : AtEachMoment NewerLandLater (starts first 2 ∷ lists first 0 ∷ lands second 1 1 ∷ []) → ⊥
  -- an insert is checked at the level of the table that it read, and a check of all rows at the stricter one; without a table there is no weaker level
  pub level : (columns : List (List ℕ)) (rows : List Row) → list_all is_word columns ≡ true → level_for (table_put columns ∷ []) (insert_of NoRow rows) 0 ≡ WriteSerializable
  pub strict : (columns : List (List ℕ)) → level_for (table_put columns ∷ []) (check_of passes may NoRow (λ x. true) (λ meta. meta)) 0 ≡ Serializable
  pub no_table : (rows : List Row) → level_for [] (insert_of NoRow rows) 0 ≡ WriteSerializable → ⊥
