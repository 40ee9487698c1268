-- How few items a node has, and how many numbers its darts.
use Rattle.std.proofs.Common.{◌≡◌, ◌≢◌, ℕ, ◌*◌, ◌<◌, ◌≤◌, ◌⊎◌, Bool, true, false, inl, inr, List, length, sym, ap, ◌∙◌, subst, arith}
use Rattle.std.proofs.lemmas.Bool.{true≢false}
use Rattle.std.proofs.lemmas.List.{length-map}
use Rattle.multigraph.specs.Graph.{Multigraph}
use Rattle.pair_split.specs.Split.{items_of, piece_ends}
use Rattle.pair_split.specs.Tutte.{Node, components, node_at, piece_of}
use Rattle.pair_split.specs.declared.components.Kind.{Kind}
use Rattle.pair_split.specs.declared.components.Kind.TheVariants.{S, P, R, B}
use Rattle.pair_split.proofs.NodeParts.{node-pieces}
use Rattle.skeletons.specs.Items.{IsBlockTree}
use Rattle.skeletons.proofs.NodeItems.{edge-item}
use Rattle.skeleton_runs.proofs.SkeletonGraph.{graph-edges}
use Rattle.skeleton_planes.proofs.OneSystem.{kind-of}
use Rattle.face_weights.specs.Numbers.{KnowFaces, numbers_at}

-- whether a node of this kind is neither a polygon nor a bond
is_other : Kind → Bool
is_other S = false
is_other P = false
is_other R = true
is_other B = true

pub other-kind : (kind : Kind) → (kind ≡ R) ⊎ (kind ≡ B) → (kind ≢ S) × (kind ≢ P)
unfolding is_other
other-kind kind c = elim c [
  | inl e ↦ (λ f. true≢false (sym (ap is_other e) ∙ ap is_other f), λ f. true≢false (sym (ap is_other e) ∙ ap is_other f))
  | inr e ↦ (λ f. true≢false (sym (ap is_other e) ∙ ap is_other f), λ f. true≢false (sym (ap is_other e) ∙ ap is_other f))
]

module _ (g : Multigraph) (nodes : List Node) (b : IsBlockTree g nodes) (k : ℕ) (l : k < length nodes) where
  -- a node has an item
  pub items-some : 0 < length (node_at nodes k).items
  items-some = let w = edge-item g nodes b.tree k 0 l b.block.has_edge in omega (arith, w.1)

  -- of a bond three
  pub items-several : (node_at nodes k).kind ≡ P → 3 ≤ length (node_at nodes k).items
  items-several e = subst (λ n. 3 ≤ n) (length-map (items_of (components nodes) k) piece_ends ∙ ap length (node-pieces nodes k) ∙ length-map (node_at nodes k).items piece_of) (kind-of g nodes b k P (l, e)).three

  -- two numbers of an item
  pub numbers-places : (family : List (List (List ℕ))) (faces : List (List ℕ)) → KnowFaces nodes family faces → length (numbers_at faces k) ≡ 2 * length (node_at nodes k).items
  numbers-places family faces know = (know.numbers k l).darts ∙ ap (λ n. 2 * n) (graph-edges g nodes b k l)
