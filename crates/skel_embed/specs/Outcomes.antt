-- What is answered of a block.
use Rattle.std.specs.Prelude.{◌≡◌, ℕ, ◌<◌, false, List, length, map}
use Rattle.multigraph.specs.Graph.{Multigraph, numbers_below}
use Rattle.kuratowski.specs.Subdivision.{IsWritten}
use Rattle.pair_split.specs.Tutte.{Node}
use Rattle.pair_split.specs.declared.components.Kind.TheVariants.{R}
use Rattle.skeletons.specs.Moves.{IsNodeOfKind}
use Rattle.skeletons.specs.Families.{skeleton_graph, system_at}
use Rattle.skel_embed.specs.First.{choice_in, IsFirst}
use Rattle.skel_embed.specs.Block.{lock_at}
use Rattle.skel_embed.specs.declared.blocks_in_plane.BySkeletons.{BySkeletons}
use Rattle.skel_embed.specs.declared.blocks_in_plane.BySkeletons.TheVariants.{Plane, Not}

-- a block with this graph and tree at the first member of the full list, and no node locked; or the graph and the tree with the
-- skeleton of a node and a subdivision of K5 or K3,3 in written form in it
abbrev pub IsFoundBySkeletons : Multigraph → List Node → BySkeletons → Type 0
IsFoundBySkeletons g nodes (Plane p) = (p.graph ≡ g) × (p.tree ≡ nodes) × IsFirst g nodes p.rotation × ((k : ℕ) → k < length nodes → lock_at p.locks k ≡ false)
IsFoundBySkeletons g nodes (Not h t k skeleton s) = (h ≡ g) × (t ≡ nodes) × IsNodeOfKind nodes k R × (skeleton ≡ skeleton_graph nodes k) × IsWritten skeleton s.kind s.branch s.paths

-- the choices that the members of the family give all nodes
abbrev pub choices_in : List Node → List (List (List ℕ)) → List (List ℕ)
choices_in nodes family = map (λ k. choice_in nodes k (system_at family k)) (numbers_below (length nodes))
