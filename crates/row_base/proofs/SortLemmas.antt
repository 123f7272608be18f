-- Rows in order, by what is borrowed of them.
use Rattle.std.proofs.Common.{◌+◌, ◌<◌, Bool, List, [], ◌∷◌, map, length, arith}
use Rattle.std.proofs.lemmas.List.{get_or-map, length-map}
use Rattle.std.specs.List.Sorted.{IsSortedBy}

pub sorted_map : {X Y : Type 0} (f : X → Y) (lt : Y → Y → Bool) (xs : List X) → IsSortedBy (λ a b. lt (f a) (f b)) xs → IsSortedBy lt (map f xs)
sorted_map f lt [] up k d low high = absurd (omega (arith, high))
sorted_map f lt (x ∷ xs) up k d low high =
    let long : k + 1 < length (x ∷ xs) = omega (arith, high, length-map (x ∷ xs) f) in
    rw (get_or-map f (x ∷ xs) (k + 1) x d long, get_or-map f (x ∷ xs) k x d (omega (arith, long))) (up k x low long)
