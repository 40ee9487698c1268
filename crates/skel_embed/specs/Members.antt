-- The first plane rotation systems of the skeletons, by what follows each item in them and the choices that they give, or a skeleton
-- that has none.
use Rattle.std.specs.Prelude.{◌≡◌, ℕ, ◌<◌, List, ◌++◌, length, map}
use Rattle.kuratowski.specs.Subdivision.{IsWritten}
use Rattle.multigraph.specs.Graph.{numbers_below}
use Rattle.pair_split.specs.Tutte.{Node, node_at}
use Rattle.pair_split.specs.declared.components.Kind.TheVariants.{R}
use Rattle.skeletons.specs.Moves.{IsNodeOfKind}
use Rattle.skeletons.specs.Families.{skeleton_graph, system_at}
use Rattle.skel_compose.specs.Followers.{row_at, IsRow}
use Rattle.skel_embed.specs.First.{choice_in, IsFirstMember, AreFirstMembers}
use Rattle.skel_embed.specs.Flat.{AreFlat}
use Rattle.skel_embed.specs.declared.members.Member.{Member}
use Rattle.skel_embed.specs.declared.members.Member.TheVariants as member
use Rattle.skel_embed.specs.declared.members.Members.{Members}
use Rattle.skel_embed.specs.declared.members.Members.TheVariants as members

-- a first member of node k, with the list of what follows each item in it, and the choice that it gives
pub record HasFirst (nodes : List Node) (k : ℕ) (row keys : List ℕ) : Type 0 where
  pub system : List (List ℕ)
  pub member : IsFirstMember nodes k system
  pub row_is : IsRow nodes k system row
  pub keys_are : keys ≡ choice_in nodes k system

-- the lists of the first n nodes are those of the members of the family
pub record AreRows (nodes : List Node) (n : ℕ) (family : List (List (List ℕ))) (table : List (List ℕ)) : Type 0 where
  pub each : length table ≡ n
  pub rows : (k : ℕ) → k < n → IsRow nodes k (system_at family k) (row_at table k)

-- the choices that the members of the family give the first n nodes
abbrev pub choices_below : List Node → List (List (List ℕ)) → ℕ → List (List ℕ)
choices_below nodes family n = map (λ k. choice_in nodes k (system_at family k)) (numbers_below n)

-- first members of the first n nodes, with their lists, and the choices that they give
pub record HaveFirst (nodes : List Node) (n : ℕ) (table : List (List ℕ)) (keys ends : List ℕ) : Type 0 where
  pub family : List (List (List ℕ))
  pub members : AreFirstMembers nodes n family
  pub rows : AreRows nodes n family table
  pub choices : AreFlat (choices_below nodes family n) keys ends

-- the list and the keys are those of a first member of node k
abbrev pub IsAppended : List Node → ℕ → List ℕ → List ℕ → List ℕ → Type 0
IsAppended nodes k row old new = (keys : List ℕ) × HasFirst nodes k row keys × (new ≡ old ++ keys)

-- the result for node k is correct, where its list is this one, and the keys of its choice were appended
abbrev pub IsMember : List Node → ℕ → List ℕ → List ℕ → List ℕ → Member → Type 0
IsMember nodes k row old new member.Plane = IsAppended nodes k row old new
IsMember nodes k row old new (member.Not graph s) = ((node_at nodes k).kind ≡ R) × (graph ≡ skeleton_graph nodes k) × IsWritten graph s.kind s.branch s.paths

-- the result for all nodes is correct
abbrev pub AreMembers : List Node → Members → Type 0
AreMembers nodes (members.Plane first) = HaveFirst nodes (length nodes) first.table first.keys.items first.ends.items
AreMembers nodes (members.Not k graph s) = IsNodeOfKind nodes k R × (graph ≡ skeleton_graph nodes k) × IsWritten graph s.kind s.branch s.paths
