-- What a judge hands back.
use Rattle.std.specs.Prelude.{◌≡◌, ℕ, List}
use Rattle.committer.specs.declared.judge.Verdict.{Verdict}
use Rattle.committer.specs.declared.judge.Verdict.TheVariants as verdict

-- a clear verdict holds the winner that was judged
abbrev pub ClearHolds : {C : Type 0} → List ℕ → Verdict C → Type 0
ClearHolds winner (verdict.Clear held) = held ≡ winner
ClearHolds winner (verdict.Clash c) = Unit {0}
