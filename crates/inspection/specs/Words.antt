-- The words that are accepted, and what is said of others.
use Rattle.std.specs.Prelude.{ℕ, ◌&&◌, if◌then◌else◌, List, [], ◌∷◌, Option, Some, None, codes}
use Rattle.std.specs.Str.{bytes_eq}
use Rattle.inspection.specs.declared.words.Words.{Words}
use Rattle.inspection.specs.declared.words.Words.TheVariants.{Journal, Objects}

-- what the words of a command line ask for
abbrev pub words_of : List (List ℕ) → Option Words
words_of [] = None
words_of (word ∷ []) = if bytes_eq word (codes "journal") then Some Journal else None
words_of (word ∷ flag ∷ []) = None
words_of (word ∷ flag ∷ folder ∷ []) = if bytes_eq word (codes "objects") && bytes_eq flag (codes "--to") then Some (Objects folder) else None
words_of (word ∷ flag ∷ folder ∷ more ∷ words) = None

-- what is said of words that aren't accepted
abbrev pub words_text : List ℕ
words_text = codes "words: journal, objects --to FOLDER\n"

-- what is said of a folder that is there already
abbrev pub folder_text : List ℕ
folder_text = codes "folder is there\n"
