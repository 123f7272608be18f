-- The live files of a table, in byte order of path, are those of its version; and what one more commit makes of what is kept under texts.
-- Above Ordered; nothing above the crate cites it.
-- The crate's laws on lists and maps stand here (listing_agrees, each_commit_applies).
use Rattle.std.proofs.Common.{◌≡◌, ◌⊎◌, inl, inr, ℕ, Bool, true, false, List, [], ◌∷◌, map, refl, sym, ◌∙◌, ap, subst}
use Rattle.std.specs.Prelude.{Option, Some, None, if◌then◌else◌, option_map}
use Rattle.std.specs.List.{Contains}
use Rattle.std.specs.List.Sorted.{IsStrictlySortedBy}
use Rattle.std.specs.Str.{bytes_eq}
use Rattle.log_actions.specs.declared.action.AddFile.{AddFile}
use Rattle.log_state.specs.Listed.{Lists}
use Rattle.log_state.specs.Newest.{live_by}
use Rattle.log_state.specs.Table.{action_of}
use Rattle.log_state.proofs.InOrder.{first, later, none, first_or}
use Rattle.table_files.specs.Files.{File, file_in}
use Rattle.table_files.specs.Commits.{Commit}
use Rattle.table_changes.specs.Table.{paths_of, file_at}
use Rattle.table_changes.proofs.Files.{same_path, self_path}
use Rattle.log_laws.specs.Replay.{files_at, ListingAgrees}
use Rattle.log_laws.proofs.Ordered.{order, AreOrdered, none_ordered, live_are_ordered, same_files}

-- the file of a path has it
path_is : (p : List ℕ) (fs : List File) (f : File) → file_at p fs ≡ Some f → f.path ≡ p
path_is p [] f is = cc
path_is p (a ∷ fs) f is = by (bytes_eq a.path p) refl is (path_is p fs f)
  where
    by : (b : Bool) → bytes_eq a.path p ≡ b → (if b then Some a else file_at p fs) ≡ Some f → (file_at p fs ≡ Some f → f.path ≡ p) → f.path ≡ p
    by true e is rest = let one : a ≡ f = cc in ap (λ (g : File). g.path) (sym one) ∙ same_path a.path p e
    by false e is rest = rest is

paths_same : (files : List AddFile) → map (λ (f : AddFile). f.path) files ≡ paths_of (map file_in files)
paths_same [] = refl
paths_same (f ∷ fs) = ap (λ (ps : List (List ℕ)). f.path ∷ ps) (paths_same fs)

-- a file of the list with a path, and it is the one that is found
record Member (p : List ℕ) (files : List AddFile) : Type 0 where
  file : AddFile
  among : Contains files file
  path : bytes_eq file.path p ≡ true
  is : file_at p (map file_in files) ≡ Some (file_in file)

-- no file of the list has the path
record IsNone (p : List ℕ) (files : List AddFile) : Type 0 where
  is : file_at p (map file_in files) ≡ None
  apart : (f : AddFile) → Contains files f → bytes_eq f.path p ≡ false

member : (p : List ℕ) (files : List AddFile) → IsNone p files ⊎ Member p files
member p [] = inl (record { is = refl; apart = λ f h. absurd (none f h) })
member p (a ∷ more) = by (bytes_eq a.path p) refl (member p more)
  where
    at : (b : Bool) → bytes_eq a.path p ≡ b → file_at p (map file_in (a ∷ more)) ≡ (if b then Some (file_in a) else file_at p (map file_in more))
    at b e = ap (λ (c : Bool). if c then Some (file_in a) else file_at p (map file_in more)) e

    by : (b : Bool) → bytes_eq a.path p ≡ b → IsNone p more ⊎ Member p more → IsNone p (a ∷ more) ⊎ Member p (a ∷ more)
    by true e rest = inr (record { file = a; among = first a more; path = e; is = at true e })
    by false e (inl no_more) = inl (record { is = at false e ∙ no_more.is; apart = λ f h. differ f (first_or a f more h) })
      where
        differ : (f : AddFile) → (a ≡ f) ⊎ Contains more f → bytes_eq f.path p ≡ false
        differ f (inl same) = ap (λ (g : AddFile). bytes_eq g.path p) (sym same) ∙ e
        differ f (inr rest) = no_more.apart f rest
    by false e (inr m) = inr (record { file = m.file; among = later a m.file more m.among; path = m.path; is = at false e ∙ m.is })

-- values under their own texts: what is found in the list is what there is
module _ (at : List ℕ → Option AddFile) (files : List AddFile) (lists : Lists (λ f. f.path) at files) (own : (p : List ℕ) (f : AddFile) → at p ≡ Some f → f.path ≡ p) where
  found_as : (p : List ℕ) → file_at p (map file_in files) ≡ option_map file_in (at p)
  found_as p = by (member p files)
    where
      missing : (o : Option AddFile) → at p ≡ o → IsNone p files → None ≡ option_map file_in o
      missing None e no_more = refl
      missing (Some f) e no_more =
          let under : f.path ≡ p = own p f e in
          let among : Contains files f = (lists.each f).1 (ap at under ∙ e) in
          let bad : true ≡ false = sym (subst (λ (q : List ℕ). bytes_eq f.path q ≡ true) under (self_path f.path)) ∙ no_more.apart f among in
          cc

      by : IsNone p files ⊎ Member p files → file_at p (map file_in files) ≡ option_map file_in (at p)
      by (inl no_more) = no_more.is ∙ missing (at p) refl no_more
      by (inr m) = m.is ∙ sym (ap (option_map file_in) (ap at (sym (same_path m.file.path p m.path)) ∙ (lists.each m.file).0 m.among))

ordered_at : (said : ℕ → Commit) (w : Option ℕ) → AreOrdered (files_at said w)
ordered_at said None = none_ordered
ordered_at said (Some v) = live_are_ordered said v

pub listing_agrees : ListingAgrees
listing_agrees said t files is lists =
    same_files (map file_in files) (files_at said t.version) (subst (IsStrictlySortedBy order) (paths_same files) lists.order) (ordered_at said t.version)
    (λ p. found_as (λ path. live_by (action_of t path)) files lists (λ q f h. path_is q (files_at said t.version) (file_in f) (sym (is.file q) ∙ ap (option_map file_in) h)) p ∙ is.file p)
