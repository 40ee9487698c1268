-- Of private functions: edges dealt to the blocks, and blocks that have their parts of a rotation system of the component.
use Rattle.std.specs.Prelude.{◌≡◌, ℕ, ◌+◌, ◌<◌, Bool, false, List, [], ◌∷◌, length, take, drop, flat_map, slice_index, slice_index_or, Some}
use Rattle.permutations.specs.Members.{place_of}
use Rattle.multigraph.specs.Graph.{incident_edges}
use Rattle.multigraph.specs.Part.{GraphPart}
use Rattle.rotations.specs.PartLists.{IsFirstBadInPart}
use Rattle.faces.specs.Euler.{IsPlaneSystem}
use Rattle.arrangements.specs.Arranged.{of_block}
use Rattle.skel_embed.specs.Block.{BlockState, lock_at, IsBlockState}
use Rattle.skel_embed.specs.Taken.{IsGiven, IsNotPlane, IsLockedOut}
use Rattle.embed_enum.specs.Walk.{KeepsRest}
use Rattle.skeletons.specs.Lists.{KeepsChoices}
use Rattle.skeletons.specs.Moves as theory
use Rattle.whole_embed.specs.declared.members.Member.{Member}
use Rattle.whole_embed.specs.Component.{Component, BlockInPlane}
use Rattle.whole_embed.specs.Around.{outer_at, block_with}
use Rattle.whole_embed.specs.Cuts.{in_plane, member_at}
use Rattle.whole_embed.specs.Whole.{block_part}
use Rattle.whole_convert.specs.Target.{IsLeastLocked, IsLeastLockedBlock}
use Rattle.whole_convert.specs.declared.faults.WholeFault.{WholeFault}
use Rattle.whole_convert.specs.declared.faults.WholeFault.TheVariants.{BadRotation, NotGenusZero, Locked, Memory}

-- how many edges the part has at vertex v of the graph
abbrev pub degree_in : GraphPart → ℕ → ℕ
degree_in part v = length (incident_edges part.graph (place_of part.vertices v))

-- the sum of the degrees
abbrev pub total : (ℕ → ℕ) → List ℕ → ℕ
total degree [] = 0
total degree (v ∷ vs) = degree v + total degree vs

-- the list cut up into a piece for each vertex, as long as its degree
abbrev pub cut_up : (ℕ → ℕ) → List ℕ → List ℕ → List (ℕ × List ℕ)
cut_up degree [] edges = []
cut_up degree (v ∷ vs) edges = (v, take (degree v) edges) ∷ cut_up degree vs (drop (degree v) edges)

-- q is plane, and these are the edges of block b around all vertices, vertex by vertex, in the orders of q
pub record IsDealt (k : Component) (q : List (List ℕ)) (b : ℕ) (edges : List ℕ) : Type 0 where
  pub plane : IsPlaneSystem k.part.graph q
  pub edges_are : edges ≡ of_block (block_with k) b (flat_map (outer_at k.part q) k.part.vertices)

-- the refusal to make lists a rotation system of a connected part is correct
abbrev pub IsSystemRefusal : GraphPart → List (ℕ × List ℕ) → WholeFault → Type 0
IsSystemRefusal part entries (BadRotation v) = IsFirstBadInPart part entries v
IsSystemRefusal part entries (NotGenusZero v e f) = IsNotPlane part entries v e f
IsSystemRefusal part entries (Locked b j) = ⊥
IsSystemRefusal part entries Memory = Unit {0}

-- the block is as before but for its rotation system, which is the one that the lists are and keeps the choices of the locked nodes
pub record IsTaken (part : GraphPart) (entries : List (ℕ × List ℕ)) (old new : BlockState) : Type 0 where
  pub given : IsGiven part entries new.rotation
  pub keeps : KeepsChoices old.tree (lock_at old.locks) old.rotation new.rotation
  pub rest : KeepsRest old new
  pub state : IsBlockState new

-- the refusal to take the lists is correct, where they are a plane rotation system of block b
abbrev pub IsTakenRefusal : ℕ → GraphPart → List (ℕ × List ℕ) → BlockState → WholeFault → Type 0
IsTakenRefusal b part entries old (BadRotation v) = ⊥
IsTakenRefusal b part entries old (NotGenusZero v e f) = ⊥
IsTakenRefusal b part entries old (Locked c j) = (c ≡ b) × IsLockedOut old part entries j
IsTakenRefusal b part entries old Memory = Unit {0}

-- the part stays, and the block in the plane has the rotation system r, which keeps the choices of its locked nodes
pub record IsLedTo (old : Member) (r : List (List ℕ)) (new : Member) : Type 0 where
  pub part : new.part ≡ old.part
  pub before : BlockState
  pub after : BlockState
  pub old_is : old.plane ≡ Some before
  pub new_is : new.plane ≡ Some after
  pub rest : KeepsRest before after
  pub rotation : after.rotation ≡ r
  pub keeps : KeepsChoices before.tree (lock_at before.locks) before.rotation r

-- the refusal to lead block b to the rotation system r is correct
abbrev pub IsLeadRefusal : ℕ → BlockInPlane → List (List ℕ) → WholeFault → Type 0
IsLeadRefusal b block r (BadRotation v) = ⊥
IsLeadRefusal b block r (NotGenusZero v e f) = ⊥
IsLeadRefusal b block r (Locked c j) = (c ≡ b) × IsLeastLocked block r j
IsLeadRefusal b block r Memory = Unit {0}

-- the refusal to lead the blocks of the component to their parts of q is correct
abbrev pub IsLeadAllRefusal : Component → (ℕ → BlockInPlane) → List (List ℕ) → WholeFault → Type 0
IsLeadAllRefusal k block q (BadRotation v) = ⊥
IsLeadAllRefusal k block q (NotGenusZero v e f) = ⊥
IsLeadAllRefusal k block q (Locked b j) = IsLeastLockedBlock k block q b j
IsLeadAllRefusal k block q Memory = Unit {0}

-- the first n blocks of the component have their parts of q, and all others are as before
pub record AreLedBelow (k : Component) (old : List Member) (q : List (List ℕ)) (new : List Member) (n : ℕ) : Type 0 where
  pub count : length new ≡ length old
  pub led : (j : ℕ) → j < n → IsLedTo (member_at old (slice_index k.blocks j)) (block_part k (member_at old (slice_index k.blocks j)).part q) (member_at new (slice_index k.blocks j))
  pub others : (b : ℕ) → ((j : ℕ) → j < n → slice_index k.blocks j ≡ b → ⊥) → member_at new b ≡ member_at old b

-- whether number b is marked
abbrev pub is_marked : List Bool → ℕ → Bool
is_marked marks b = slice_index_or marks b false

-- both are in the plane, with the same graph and the same tree
pub record AreAlike (old new : Member) : Type 0 where
  pub before : BlockState
  pub after : BlockState
  pub old_is : old.plane ≡ Some before
  pub new_is : new.plane ≡ Some after
  pub graph : after.graph ≡ before.graph
  pub tree : after.tree ≡ before.tree

-- the moves from the rotation system of the one to that of the other
abbrev pub moves_between_members : Member → Member → List theory.Move
moves_between_members old new = theory.moves_between (in_plane old.part old.plane).nodes (in_plane old.part old.plane).rotation (in_plane new.part new.plane).rotation

-- the block of each edge of the component is below n
abbrev pub AreWithin : Component → ℕ → Type 0
AreWithin k n = (x : ℕ) → x < length k.edge_blocks → slice_index k.edge_blocks x < n
