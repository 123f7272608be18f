-- Commits and files of versions, by what was put and read of them.
use Rattle.std.proofs.Common.{◌≡◌, ◌≤◌, ℕ, zero, suc, Bool, true, false, List, [], ◌∷◌, ◌++◌, map, length, refl, sym, ◌∙◌, ap, subst, arith}
use Rattle.std.specs.Prelude.{Option, Some, None, IsSome, if◌then◌else◌, option_map, option_and_then}
use Rattle.std.specs.Str.{bytes_eq}
use Rattle.std.specs.List.{filter}
use Rattle.std.specs.Ordering.{is_lt, nat_cmp}
use Rattle.std.specs.Cmp.Lexicographic.{slice_cmp}
use Rattle.std.proofs.lemmas.Slice.Eq.{bytes_eq-Decides}
use Rattle.row_base.specs.declared.row.ScannedFile.{ScannedFile}
use Rattle.table_rules.specs.Names.{commit_text}
use Rattle.line_texts.specs.Texts.{columns_of_text}
use Rattle.snapshot_replay.specs.Table.{Add, Snapshot, table_commit}
use Rattle.snapshot_replay.specs.Table.{Commit as LogCommit, paths_of as said_paths}
use Rattle.statement_calls.specs.Texts.{read_commit}
use Rattle.statement_calls.specs.Answered.{rows_of_files}
use Rattle.table_changes.specs.Rows.{Row}
use Rattle.table_changes.specs.Table.{File, MetaData, FileLine, Removes, Adds, without_path, placed, reconciled, times, rows_in, adds_lines, lines_of}
use Rattle.table_laws.specs.Commits.{file_of}
use Rattle.table_laws.specs.History.{Put, put_under, body_of, or_nothing, commit_at, rows_of}
use Rattle.table_laws.specs.Laws.{AllAre, added_files}
use Rattle.table_changes.proofs.Files.{is_one, times-cons, times-placed, times-without_other, times-without_same}
use Rattle.table_laws.proofs.Lawful.{AllScanned}
use Rattle.table_laws.proofs.Sessions.{LoadedTo}
use Rattle.table_laws.proofs.Shown.{InPut}
use Rattle.table_laws.proofs.Effects.{file_is}

pub some_put : (o : Option Put) → IsSome o → (p : Put) × (o ≡ Some p)
some_put None h = cc
some_put (Some p) h = (p, refl)

pub some_of_body : (o : Option Put) (b : List ℕ) → body_of o ≡ Some b → IsSome o
some_of_body None b h = cc
some_of_body (Some p) b h = refl

pub is_some : (o : Option Put) (p : Put) → o ≡ Some p → IsSome o
is_some None p h = cc
is_some (Some q) p h = refl

-- none of these files has the path
abbrev pub AllApart : List ℕ → List File → Type 0
AllApart p [] = Unit {0}
AllApart p (a ∷ fs) = (bytes_eq a.path p ≡ false) × AllApart p fs

-- a path that is not there and not added is not there later
none_added : (p : List ℕ) (changes : Bool) (added fs : List File) → times p fs ≡ 0 → AllApart p added → times p (reconciled fs (adds_lines changes added)) ≡ 0
none_added p changes [] fs none apart = none
none_added p changes (a ∷ added) fs none apart = none_added p changes added (placed a (without_path fs a.path)) here apart.1
  where
    here : times p (placed a (without_path fs a.path)) ≡ 0
    here =
        let s = times-placed p a (without_path fs a.path) in
        let t : times p (without_path fs a.path) ≡ times p fs = times-without_other p a.path fs apart.0 in
        let u : is_one p a ≡ 0 = ap (λ (b : Bool). if b then 1 else 0) apart.0 in
        omega (arith, s, t, u, none)

pub none_more : (p : List ℕ) (stamp : ℕ) (changes : Bool) (gone added fs : List File) → times p fs ≡ 0 → AllApart p added → times p (reconciled fs (lines_of stamp changes gone added)) ≡ 0
none_more p stamp changes [] added fs none apart = none_added p changes added fs none apart
none_more p stamp changes (g ∷ gone) added fs none apart = none_more p stamp changes gone added (without_path fs g.path) (by (bytes_eq g.path p) refl) apart
  where
    by : (b : Bool) → bytes_eq g.path p ≡ b → times p (without_path fs g.path) ≡ 0
    by true e = subst (λ (n : List ℕ). times p (without_path fs n) ≡ 0) (sym ((bytes_eq-Decides g.path p).0 e)) (times-without_same p fs)
    by false e = times-without_other p g.path fs e ∙ none

-- commit 0 adds nothing, whatever its text
pub empty_first : (ps : List Put) → (commit_at ps 0).lines ≡ []
empty_first ps = by (body_of (put_under ps (commit_text 0)))
  where
    read : (o : Option (List (List ℕ))) → (or_nothing (option_map table_commit o)).lines ≡ []
    read None = refl
    read (Some columns) = refl

    by : (o : Option (List ℕ)) → (or_nothing (option_and_then (read_commit 0) o)).lines ≡ []
    by None = refl
    by (Some text) = read (columns_of_text text)

pub same_commit : (a b : LogCommit) → Some a ≡ Some b → a ≡ b
same_commit a b h = cc

-- the first path that is added
abbrev pub first_added : List FileLine → Option (List ℕ)
first_added [] = None
first_added (Removes t changes ∷ ls) = first_added ls
first_added (Adds a changes ∷ ls) = Some a.path

abbrev pub first_path : List File → Option (List ℕ)
first_path [] = None
first_path (a ∷ fs) = Some a.path

pub added_is : (stamp : ℕ) (changes : Bool) (gone added : List File) → first_added (lines_of stamp changes gone added) ≡ first_path added
added_is stamp changes [] [] = refl
added_is stamp changes [] (a ∷ added) = refl
added_is stamp changes (g ∷ gone) added = added_is stamp changes gone added

-- the files that are added
pub files_added : (stamp : ℕ) (changes : Bool) (gone added : List File) → added_files (lines_of stamp changes gone added) ≡ added
files_added stamp changes [] [] = refl
files_added stamp changes [] (a ∷ added) = ap (λ (fs : List File). a ∷ fs) (files_added stamp changes [] added)
files_added stamp changes (g ∷ gone) added = files_added stamp changes gone added

-- the files that were got hold the rows under their paths
pub scanned_rows : (ps : List Put) (at : Option MetaData) (adds : List Add) (fs : List ScannedFile) → AllScanned (InPut ps) (said_paths adds) fs → rows_of_files fs ≡ rows_in (rows_of ps at) (map file_of adds)
scanned_rows ps at [] [] h = refl
scanned_rows ps at [] (f ∷ fs) h = absurd h
scanned_rows ps at (a ∷ adds) [] h = absurd h
scanned_rows ps at (a ∷ adds) (f ∷ fs) h =
    ap (λ (l : List Row). l ++ rows_of_files fs) (file_is ps at (file_of a) h.0.0 f.rows h.0.1 h.0.2)
    ∙ ap (λ (l : List Row). rows_of ps at (file_of a) ++ l) (scanned_rows ps at adds fs h.1)

pub scanned_long : (G : List ℕ → List ℕ → Type 0) (paths : List (List ℕ)) (fs : List ScannedFile) → AllScanned G paths fs → length fs ≡ length paths
scanned_long G [] [] h = refl
scanned_long G [] (f ∷ fs) h = absurd h
scanned_long G (p ∷ paths) [] h = absurd h
scanned_long G (p ∷ paths) (f ∷ fs) h = ap (λ (n : ℕ). suc n) (scanned_long G paths fs h.1)

pub length-paths : (adds : List Add) → length (said_paths adds) ≡ length (map file_of adds)
length-paths [] = refl
length-paths (a ∷ adds) = ap (λ (n : ℕ). suc n) (length-paths adds)

pub length-files : (adds : List Add) → length adds ≡ length (map file_of adds)
length-files [] = refl
length-files (a ∷ adds) = ap (λ (n : ℕ). suc n) (length-files adds)

-- the commit of version 0 was read by whoever loaded a version
pub first_loaded : (G : List ℕ → List ℕ → Type 0) (n : ℕ) (s : Snapshot) → LoadedTo G (suc n) s → (text : List ℕ) × G (commit_text 0) text × (t : LogCommit) × (read_commit 0 text ≡ Some t)
first_loaded G zero s h = (h.1, h.4, h.2, h.5)
first_loaded G (suc n) s h = first_loaded G n h.0 h.3

-- what all files are stays so after a commit that adds some that are so
module _ (P : File → Type 0) where
  without_all : (path : List ℕ) (fs : List File) → AllAre P fs → AllAre P (without_path fs path)
  without_all path [] h = tt
  without_all path (a ∷ fs) h = by (bytes_eq a.path path) (without_all path fs h.1)
    where
      by : (b : Bool) → AllAre P (without_path fs path) → AllAre P (if b then without_path fs path else a ∷ without_path fs path)
      by true rest = rest
      by false rest = (h.0, rest)

  placed_all : (a : File) (fs : List File) → P a → AllAre P fs → AllAre P (placed a fs)
  placed_all a [] one h = (one, tt)
  placed_all a (b ∷ fs) one h = by (is_lt (slice_cmp nat_cmp b.path a.path)) (placed_all a fs one h.1)
    where
      by : (c : Bool) → AllAre P (placed a fs) → AllAre P (if c then b ∷ placed a fs else a ∷ b ∷ fs)
      by true rest = (h.0, rest)
      by false rest = (one, h)

  adds_all : (changes : Bool) (added fs : List File) → AllAre P fs → AllAre P added → AllAre P (reconciled fs (adds_lines changes added))
  adds_all changes [] fs h new = h
  adds_all changes (a ∷ added) fs h new = adds_all changes added (placed a (without_path fs a.path)) (placed_all a (without_path fs a.path) new.0 (without_all a.path fs h)) new.1

  pub lines_all : (stamp : ℕ) (changes : Bool) (gone added fs : List File) → AllAre P fs → AllAre P added → AllAre P (reconciled fs (lines_of stamp changes gone added))
  lines_all stamp changes [] added fs h new = adds_all changes added fs h new
  lines_all stamp changes (g ∷ gone) added fs h new = lines_all stamp changes gone added (without_path fs g.path) (without_all g.path fs h) new

  -- and so are those of them that are picked
  pub picked_are : (t : File → Bool) (fs : List File) → AllAre P fs → AllAre P (filter t fs)
  picked_are t [] h = tt
  picked_are t (a ∷ fs) h = by (t a) (picked_are t fs h.1)
    where
      by : (b : Bool) → AllAre P (filter t fs) → AllAre P (if b then a ∷ filter t fs else filter t fs)
      by true rest = (h.0, rest)
      by false rest = rest

-- a path isn't there oftener among files that are picked
pub times-picked : (p : List ℕ) (t : File → Bool) (fs : List File) → times p (filter t fs) ≤ times p fs
times-picked p t [] = omega arith
times-picked p t (a ∷ fs) = by (t a) (times-picked p t fs)
  where
    by : (b : Bool) → times p (filter t fs) ≤ times p fs → times p (if b then a ∷ filter t fs else filter t fs) ≤ times p (a ∷ fs)
    by true rest = let one = times-cons p a (filter t fs) in let all = times-cons p a fs in omega arith
    by false rest = let all = times-cons p a fs in omega arith
