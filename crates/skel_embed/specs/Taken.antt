-- Lists of edges that become the rotation system of a block, and why they do not.
use Rattle.std.specs.Prelude.{◌≡◌, ◌≢◌, ℕ, ◌+◌, ◌<◌, Bool, true, not, ◌==◌, List, [], length, map, filter, slice_index, slice_index_or}
use Rattle.permutations.specs.Cyclic.{predecessor}
use Rattle.multigraph.specs.Graph.{edge_count}
use Rattle.multigraph.specs.Part.{GraphPart}
use Rattle.rotations.specs.Rotation.{order_at, IsRotationSystem}
use Rattle.rotations.specs.PartLists.{ArrangePart, IsFirstBadInPart, outer_order}
use Rattle.faces.specs.Euler.{face_count, IsPlaneSystem}
use Rattle.pair_split.specs.Tutte.{Node, group}
use Rattle.skeletons.specs.Choices.{choice}
use Rattle.skel_embed.specs.Block.{BlockState, lock_at}
use Rattle.skel_embed.specs.declared.taking.TakeFault.{TakeFault}
use Rattle.skel_embed.specs.declared.taking.TakeFault.TheVariants.{BadRotation, NotGenusZero, Locked, Memory}

-- r is the rotation system of the part that the lists are, which are in the numbers of the whole graph
pub record IsGiven (part : GraphPart) (entries : List (ℕ × List ℕ)) (r : List (List ℕ)) : Type 0 where
  pub arranged : ArrangePart part entries
  pub system : IsRotationSystem part.graph r
  pub orders : (i : ℕ) → i < part.graph.vertex_count → map (slice_index part.edges) (order_at r i) ≡ outer_order part entries i

-- the lists are a rotation system with these numbers of vertices, edges and faces, and V - E + F is not 2
pub record IsNotPlane (part : GraphPart) (entries : List (ℕ × List ℕ)) (v e f : ℕ) : Type 0 where
  pub system : List (List ℕ)
  pub given : IsGiven part entries system
  pub vertices : v ≡ part.graph.vertex_count
  pub edges : e ≡ edge_count part.graph
  pub faces : f ≡ face_count part.graph system
  pub differs : v + f ≢ e + 2

-- k is the least locked node at which q has another choice than the block
pub record IsLeastOther (s : BlockState) (q : List (List ℕ)) (k : ℕ) : Type 0 where
  pub within : k < length s.tree
  pub locked : lock_at s.locks k ≡ true
  pub other : choice s.tree q k ≢ choice s.tree s.rotation k
  pub none_before : (j : ℕ) → j < k → lock_at s.locks j ≡ true → choice s.tree q j ≡ choice s.tree s.rotation j

-- the lists are a plane rotation system with another choice at this locked node, the least such
pub record IsLockedOut (s : BlockState) (part : GraphPart) (entries : List (ℕ × List ℕ)) (k : ℕ) : Type 0 where
  pub system : List (List ℕ)
  pub given : IsGiven part entries system
  pub plane : IsPlaneSystem part.graph system
  pub least : IsLeastOther s system k

-- the refusal is correct, whatever is locked: out of memory may happen for any lists
abbrev pub IsGivenRefusal : GraphPart → List (ℕ × List ℕ) → TakeFault → Type 0
IsGivenRefusal part entries (BadRotation v) = IsFirstBadInPart part entries v
IsGivenRefusal part entries (NotGenusZero v e f) = IsNotPlane part entries v e f
IsGivenRefusal part entries (Locked k) = ⊥
IsGivenRefusal part entries Memory = Unit {0}

-- the refusal is correct
abbrev pub IsTakeRefusal : BlockState → GraphPart → List (ℕ × List ℕ) → TakeFault → Type 0
IsTakeRefusal s part entries (BadRotation v) = IsFirstBadInPart part entries v
IsTakeRefusal s part entries (NotGenusZero v e f) = IsNotPlane part entries v e f
IsTakeRefusal s part entries (Locked k) = IsLockedOut s part entries k
IsTakeRefusal s part entries Memory = Unit {0}

-- whether another key is before e in the cyclic order l
abbrev pub begins_run : (ℕ → ℕ) → List ℕ → ℕ → Bool
begins_run key l e = not (key (predecessor l e) == key e)

-- the keys of the runs around v by the groups of node k, in the order in which these are met
abbrev pub runs_met : List Node → List (List ℕ) → ℕ → ℕ → List ℕ
runs_met nodes r k v = map (group nodes k) (filter (begins_run (group nodes k) (order_at r v)) (order_at r v))

-- no locked node has another choice in the second list of choices than in the first
abbrev pub NoneOther : List Bool → List (List ℕ) → List (List ℕ) → Type 0
NoneOther locks old new = (k : ℕ) → k < length locks → lock_at locks k ≡ true → slice_index_or new k [] ≡ slice_index_or old k []

-- k is the least that has
pub record IsFirstOther (locks : List Bool) (old new : List (List ℕ)) (k : ℕ) : Type 0 where
  pub within : k < length locks
  pub locked : lock_at locks k ≡ true
  pub other : slice_index_or new k [] ≢ slice_index_or old k []
  pub none_before : (j : ℕ) → j < k → lock_at locks j ≡ true → slice_index_or new j [] ≡ slice_index_or old j []
