-- The table at a version, one version after another.
use Rattle.std.proofs.Common.{◌≡◌, ℕ, suc, ◌+◌, refl, subst, arith}
use Rattle.snapshot_replay.specs.Table.{Commit, applied, snapshot_at}

pub later_version : (f : ℕ → Commit) (v w : ℕ) → w ≡ v + 1 → applied (snapshot_at f v) (f w) ≡ snapshot_at f w
later_version f v w is = let e : suc v ≡ w = omega (arith, is) in subst (λ n. applied (snapshot_at f v) (f n) ≡ snapshot_at f n) e refl
