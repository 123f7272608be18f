-- What statements do to the rows and files of a table, as values.
use Rattle.std.specs.Prelude.{◌≡◌, ◌⊎◌, ℕ, ◌+◌, Bool, true, false, if◌then◌else◌, List, [], ◌∷◌, ◌++◌, Option, Some, None, option_map}
use Rattle.std.specs.List.{filter}
use Rattle.row_base.specs.Bags.{count_of, SameRows, others}
use Rattle.table_changes.specs.Rows.{Row}
use Rattle.table_changes.specs.Table.{File, Level, MetaData, rows_in, paths_of}
use Rattle.table_changes.specs.Conflicts.{LooksAt, is_literal, is_scan, may_remove, may_set, Reads}

-- an operation, by the scopes that statements name
pub record Operation (Scope : Type 0) : Type 0 where
  -- which lines of a winner it looks at
  pub kind : LooksAt
  pub scope : Scope
  -- what comes in place of the scope's rows, where that is defined
  pub gives : List Row → Option (List Row)
  -- whether a live file is got
  pub gets : List File → File → Bool
  -- whether it is taken out, by the rows of the files too
  pub takes : (File → List Row) → List File → File → Bool
  -- the new files' rows
  pub writes : (File → List Row) → List File → Option (List Row)
  -- what a blind append brings
  pub inserts : List Row
  -- what it makes of the table's metadata
  pub sets : Option MetaData → Option MetaData
  -- it moves rows alone
  pub moves : Bool
  -- it is checked at the stricter level, whatever the table's
  pub strict : Bool

abbrev pub SameIfGiven : Option (List Row) → Option (List Row) → Type 0
SameIfGiven None None = Unit {0}
SameIfGiven None (Some ys) = ⊥
SameIfGiven (Some xs) None = ⊥
SameIfGiven (Some xs) (Some ys) = SameRows xs ys

-- two views agree on files
abbrev pub Agree : (File → List Row) → (File → List Row) → List File → Type 0
Agree view other [] = Unit {0}
Agree view other (a ∷ fs) = (view a ≡ other a) × Agree view other fs

module _ {Scope : Type 0} where
  abbrev pub got_files : Operation Scope → List File → List File
  got_files op fs = filter (op.gets fs) fs

  abbrev pub taken_files : (File → List Row) → Operation Scope → List File → List File
  taken_files view op fs = filter (op.takes view fs) fs

  abbrev pub inserted : Operation Scope → List Row
  inserted op = if is_literal op.kind then op.inserts else []

module _ {Scope : Type 0} (passes : Scope → Row → Bool) where
  -- the rows after an operation, by those before, where it is defined
  abbrev pub operated : Operation Scope → List Row → Option (List Row)
  operated op rows = option_map (λ ys. others (passes op.scope) rows ++ ys) (op.gives (filter (passes op.scope) rows))

  module _ (may : Scope → File → Bool) where
    -- what a winner is checked against, by the live files of the version that was read
    abbrev pub reads_of : Level → Option (List ℕ) → (File → List Row) → Operation Scope → List File → Reads
    reads_of level app view op fs = record {
      level = level;
      kind = op.kind;
      may = may op.scope;
      got = paths_of (got_files op fs);
      removed = paths_of (taken_files view op fs);
      app = app;
    }

    -- it is of a kind that may set the metadata, takes no file out and writes no row
    pub record SetsAlone (op : Operation Scope) : Type 0 where
      pub kind : may_set op.kind ≡ true
      pub takes_none : (view : File → List Row) (fs : List File) (a : File) → op.takes view fs a ≡ false
      pub writes_none : (view : File → List Row) (fs : List File) (new : List Row) → op.writes view fs ≡ Some new → new ≡ []

    pub record IsSound (op : Operation Scope) : Type 0 where
      -- the same rows give the same rows, whatever their order
      pub respects : (xs ys : List Row) → SameRows xs ys → SameIfGiven (op.gives xs) (op.gives ys)
      -- one that isn't checked against new files names no rows
      pub quiet : (is_scan op.kind ≡ true) ⊎ ((x : Row) → passes op.scope x ≡ false)
      -- an operation that reads rows gets each file that may match, and takes out such as it got
      pub complete : is_scan op.kind ≡ true → (fs : List File) (a : File) → may op.scope a ≡ true → op.gets fs a ≡ true
      pub got : is_scan op.kind ≡ true → (view : File → List Row) (fs : List File) (a : File) → op.takes view fs a ≡ true → op.gets fs a ≡ true
      -- one that looks at no file takes none out
      pub leaves : may_remove op.kind ≡ false → (view : File → List Row) (fs : List File) (a : File) → op.takes view fs a ≡ false
      -- it leaves the metadata as it is, or sets that alone
      pub alone : ((meta : Option MetaData) → op.sets meta ≡ meta) ⊎ SetsAlone op
      -- only what it got decides
      pub local : (view other : File → List Row) (fs : List File) → Agree view other (got_files op fs) → (op.writes view fs ≡ op.writes other fs) × (taken_files view op fs ≡ taken_files other op fs)
      -- the new rows and the scope's old ones are the rows taken out and what comes in the scope's place
      pub balance : (view : File → List Row) (fs : List File) (new : List Row) → op.writes view fs ≡ Some new
          → (ys : List Row) × (op.gives (filter (passes op.scope) (rows_in view (got_files op fs))) ≡ Some ys)
          × ((x : Row) → count_of x new + count_of x (filter (passes op.scope) (rows_in view (got_files op fs))) ≡ count_of x (rows_in view (taken_files view op fs)) + count_of x ys)
      -- what only moves rows writes those that it takes out
      pub moved : op.moves ≡ true → (view : File → List Row) (fs : List File) (new : List Row) → op.writes view fs ≡ Some new → SameRows new (rows_in view (taken_files view op fs))
      -- it refuses only where what comes in the scope's place isn't defined
      pub refuses : (view : File → List Row) (fs : List File) → op.writes view fs ≡ None → op.gives (filter (passes op.scope) (rows_in view (got_files op fs))) ≡ None
      -- a blind append writes exactly what it inserts
      pub brings : is_literal op.kind ≡ true → (view : File → List Row) (fs : List File) (new : List Row) → op.writes view fs ≡ Some new → SameRows new op.inserts
