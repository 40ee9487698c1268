-- State of the walk over the nodes, from the top on.
use Rattle.std.specs.Prelude.{◌≡◌, ◌≢◌, ℕ, ◌<◌, true, List, length, slice_index_or, Option, Some}
use Rattle.multigraph.specs.Graph.{Multigraph}
use Rattle.dart_maps.specs.Map.{twin}
use Rattle.pair_split.specs.Tutte.{Node, components, node_at, node_item}
use Rattle.pair_split.specs.declared.components.Kind.TheVariants.{P}
use Rattle.pair_split.specs.declared.components.What.TheVariants.{Link}
use Rattle.skeleton_faces.specs.Faces.{IsSkeletonDart, AreAcross}
use Rattle.spqr_tree.specs.Keys.{parent_at, AreOrdered}
use Rattle.long_face.specs.Wanted.{Want, IsPair}
use Rattle.long_face.specs.Ready.{IsReady}
use Rattle.long_face.specs.Settled.{has_want, want_or, want_at, IsBest, IsWantedAt, IsSettled, AreSettled}
use Rattle.permutations.specs.Members.{is_distinct}

-- what is wanted of node p is a face of it, and p and k are linked
pub record IsAskable (nodes : List Node) (p k : ℕ) (above : Want) : Type 0 where
  pub near : p < length nodes
  pub far : k < length nodes
  pub link : (i : ℕ) × (i < length (node_at nodes p).items) × ((node_item nodes p i).what ≡ Link k)
  pub back : (h : ℕ) × (h < length (node_at nodes k).items) × ((node_item nodes k h).what ≡ Link p)
  pub dart : IsSkeletonDart nodes p above.dart
  pub pair : (node_at nodes p).kind ≡ P → IsPair (length (node_at nodes p).items) above

-- the dart of node k that is opposite a wanted dart of p, where there is one
pub record IsAsked (nodes : List Node) (family : List (List (List ℕ))) (p : ℕ) (above : Want) (k : ℕ) (dart : Option ℕ) : Type 0 where
  pub forced : (x e : ℕ) → AreAcross nodes p x k e → IsWantedAt nodes family p (Some above) x → dart ≡ Some (twin e)
  pub source : (d : ℕ) → dart ≡ Some d → (x : ℕ) × (e : ℕ) × AreAcross nodes p x k e × IsWantedAt nodes family p (Some above) x × (d ≡ twin e)

-- what is wanted of the top, or of another node by what is wanted of its parent
pub record IsSettledAt (nodes : List Node) (family : List (List (List ℕ))) (weight : ℕ → ℕ → ℕ) (top most : ℕ) (parents : List ℕ) (wants : List (Option Want)) (k : ℕ) : Type 0 where
  pub top_on : k ≡ top → (has_want (want_at wants k) ≡ true) × IsSkeletonDart nodes k (want_or (want_at wants k)).dart × IsBest nodes family weight k (want_or (want_at wants k)) most
  pub below : k ≢ top → IsSettled nodes family weight (parent_at parents k) (want_at wants (parent_at parents k)) k (want_at wants k)

-- so it is for the first n nodes of the order
pub record AreSettledUpTo (nodes : List Node) (family : List (List (List ℕ))) (weight : ℕ → ℕ → ℕ) (top most : ℕ) (parents order : List ℕ) (n : ℕ) (wants : List (Option Want)) : Type 0 where
  pub places : length wants ≡ length nodes
  pub each : (q : ℕ) → q < n → q < length order → IsSettledAt nodes family weight top most parents wants (slice_index_or order q 0)

-- what is wanted of the nodes, after the walk from the top
pub record IsWalked (g : Multigraph) (nodes : List Node) (family : List (List (List ℕ))) (weight : ℕ → ℕ → ℕ) (top most : ℕ) (wants : List (Option Want)) : Type 0 where
  pub ready : IsReady g nodes family weight top most
  pub parents : List ℕ
  pub order : List ℕ
  pub ordered : AreOrdered (components nodes) top parents order
  pub once : is_distinct order ≡ true
  pub settled : AreSettled nodes family weight top most parents wants
