-- The kind of a prime family of three or more entries.
use Rattle.std.proofs.Common.{◌≡◌, ◌≢◌, ℕ, ◌≤◌, List, [], ◌∷◌, length, slice_index_or, arith, All}
use Rattle.std.proofs.lemmas.List.Elements.{All-map}
use Rattle.pair_split.specs.Family.{Entry, IsFamily, IsTight, IsPrime}
use Rattle.pair_split.specs.Edges.{entry_ends, family_skeleton}
use Rattle.pair_split.specs.Skeleton.{SameEnds, IsSkeleton}
use Rattle.pair_split.specs.Bridges.{entry_of, family_of}
use Rattle.pair_split.specs.declared.family.NamedEdge.{NamedEdge}
use Rattle.pair_split.specs.declared.components.Kind.TheVariants.{S, P, R}
use Rattle.pair_split.proofs.PrimeRigid.{prime-rigid}
use Rattle.pair_split.proofs.ThreeEntries.{three-bond, three-polygon}
use Rattle.pair_split.proofs.Marking.{nothing}

-- the skeleton of a family has no loops
pub skeleton-no_loops : (entries : List Entry) → IsFamily entries → All (λ (ends : ℕ × ℕ). ends.0 ≢ ends.1) (family_skeleton entries)
skeleton-no_loops entries family = All-map (λ (ends : ℕ × ℕ). ends.0 ≢ ends.1) entry_ends entries family.no_loops

-- a prime family of four or more entries is of kind R
pub kind-rigid : (entries : List Entry) → IsFamily entries → IsPrime entries → 4 ≤ length entries → IsSkeleton R (family_skeleton entries)
kind-rigid entries family prime four = record { of_kind = prime-rigid entries family prime four; no_loops = skeleton-no_loops entries family }

-- three entries of which the first two are parallel are of kind P
pub kind-bond : (first : NamedEdge) (rest : List NamedEdge) → length rest ≡ 2 → IsFamily (entry_of first ∷ family_of rest) → IsTight (entry_of first ∷ family_of rest)
    → SameEnds (entry_ends (entry_of first)) (entry_ends (entry_of (slice_index_or rest 0 nothing))) → IsSkeleton P (family_skeleton (entry_of first ∷ family_of rest))
kind-bond first [] l family tight s = absurd (omega (arith, l))
kind-bond first (f ∷ []) l family tight s = absurd (omega (arith, l))
kind-bond first (f ∷ h ∷ []) l family tight s = record { of_kind = three-bond (entry_of first) (entry_of f) (entry_of h) family tight s; no_loops = skeleton-no_loops (entry_of first ∷ entry_of f ∷ entry_of h ∷ []) family }
kind-bond first (f ∷ h ∷ k ∷ rest) l family tight s = absurd (omega (arith, l))

-- three entries of which the first two are not parallel are of kind S
pub kind-polygon : (first : NamedEdge) (rest : List NamedEdge) → length rest ≡ 2 → IsFamily (entry_of first ∷ family_of rest) → IsTight (entry_of first ∷ family_of rest)
    → (SameEnds (entry_ends (entry_of first)) (entry_ends (entry_of (slice_index_or rest 0 nothing))) → ⊥) → IsSkeleton S (family_skeleton (entry_of first ∷ family_of rest))
kind-polygon first [] l family tight n = absurd (omega (arith, l))
kind-polygon first (f ∷ []) l family tight n = absurd (omega (arith, l))
kind-polygon first (f ∷ h ∷ []) l family tight n = record { of_kind = three-polygon (entry_of first) (entry_of f) (entry_of h) family tight n; no_loops = skeleton-no_loops (entry_of first ∷ entry_of f ∷ entry_of h ∷ []) family }
kind-polygon first (f ∷ h ∷ k ∷ rest) l family tight n = absurd (omega (arith, l))
