-- The face steps of a polygon: a face that arrives at a vertex by one of the two items there leaves it by the other.
use Rattle.std.proofs.Common.{◌≡◌, ◌≢◌, ℕ, ◌+◌, ◌*◌, Bool, if◌then◌else◌, List, sym, ap, ◌∙◌, eq-eqb}
use Rattle.std.proofs.lemmas.Bool.{ne_eqb}
use Rattle.permutations.specs.Members.{place_of}
use Rattle.multigraph.specs.Graph.{Multigraph}
use Rattle.faces.specs.Euler.{dart_from}
use Rattle.pair_split.specs.Tutte.{Node, node_at, node_item}
use Rattle.pair_split.specs.declared.components.Item.{Item}
use Rattle.pair_split.specs.declared.components.Kind.TheVariants.{S}
use Rattle.skeletons.specs.Items.{nth_item, IsBlockTree}
use Rattle.skeletons.specs.Families.{skeleton_graph, AreSkeletonSystems}
use Rattle.skeletons.specs.Moves.{IsNodeOfKind}
use Rattle.skel_compose.specs.Followers.{IsItemEnd, follower}
use Rattle.skel_decompose.proofs.Stepped.{follower-dart}

-- a polygon, with a rotation system of its skeleton
module _ (g : Multigraph) (nodes : List Node) (b : IsBlockTree g nodes) (k : ℕ) (is : IsNodeOfKind nodes k S) (family : List (List (List ℕ))) (f : AreSkeletonSystems nodes family) (i v : ℕ) (m : IsItemEnd nodes k i v) where
  -- its dart that leaves the vertex
  module _ (items : List Item) (e : items ≡ (node_at nodes k).items) (x : ℕ) (q : x ≡ follower nodes family k i v) where
    pub leaves-first : (nth_item items x).a ≡ v → 2 * x ≡ dart_from (skeleton_graph nodes k) (place_of (node_at nodes k).vertices v) (follower nodes family k i v)
    leaves-first h = ap (λ (t : Bool). if t then 2 * x else 2 * x + 1) (sym (eq-eqb (node_item nodes k x).a v (ap (λ (z : List Item). (nth_item z x).a) (sym e) ∙ h))) ∙ follower-dart g nodes b k is.0 family f i v m x q

    pub leaves-second : (nth_item items x).a ≢ v → 2 * x + 1 ≡ dart_from (skeleton_graph nodes k) (place_of (node_at nodes k).vertices v) (follower nodes family k i v)
    leaves-second n = ap (λ (t : Bool). if t then 2 * x else 2 * x + 1) (sym (ne_eqb (node_item nodes k x).a v (λ h. n (ap (λ (z : List Item). (nth_item z x).a) e ∙ h)))) ∙ follower-dart g nodes b k is.0 family f i v m x q
