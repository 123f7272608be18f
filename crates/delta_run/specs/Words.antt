-- The words that are accepted.
use Rattle.std.specs.Prelude.{ℕ, if◌then◌else◌, List, [], ◌∷◌, Option, Some, None, codes}
use Rattle.std.specs.Str.{bytes_eq}
use Rattle.delta_run.specs.declared.words.Words.{Words}
use Rattle.delta_run.specs.declared.words.Words.TheVariants.{Step}

-- what the words of a command line ask for
abbrev pub words_of : List (List ℕ) → Option Words
words_of [] = None
words_of (word ∷ []) = if bytes_eq word (codes "step") then Some Step else None
words_of (word ∷ more ∷ words) = None

-- what is said of words that aren't accepted
abbrev pub words_text : List ℕ
words_text = codes "words: step, threads, dir --path P, gen --size N\n"
