-- The rests of one node, as the code has them.
use Rattle.std.proofs.Common.{◌≡◌, ◌≢◌, ℕ, ◌+◌, ◌*◌, ◌/◌, ◌<◌, ◌≤◌, ◌⊎◌, false, List, [], length, slice_index_or, max, inl, inr, refl, sym, ap, ◌∙◌, subst, arith}
use Rattle.std.proofs.lemmas.Bool.{both_ways}
use Rattle.std.proofs.lemmas.List.{length-map}
use Rattle.permutations.specs.Count.{sum_below}
use Rattle.permutations.proofs.Sums.{sum_below-le}
use Rattle.multigraph.specs.Graph.{Multigraph, edge_count, max_edges, IsWithinLimits}
use Rattle.pair_split.specs.Split.{items_of, piece_ends}
use Rattle.pair_split.specs.Tutte.{Node, components, node_at, piece_of}
use Rattle.pair_split.specs.declared.components.Kind.{Kind}
use Rattle.pair_split.specs.declared.components.Kind.TheVariants.{S, P, R, B}
use Rattle.pair_split.proofs.NodeParts.{node-pieces}
use Rattle.skeletons.specs.Items.{nth_item, IsBlockTree}
use Rattle.skeletons.specs.Families.{skeleton_graph, system_at}
use Rattle.skeleton_runs.proofs.SkeletonGraph.{graph-edges}
use Rattle.skeleton_planes.proofs.OneSystem.{kind-of}
use Rattle.pair_split.specs.declared.components.Item.{Item}
use Rattle.pair_split.specs.declared.components.What.TheVariants.{Link}
use Rattle.spqr_tree.specs.Keys.{parent_at}
use Rattle.spqr_tree.proofs.UpLinks.{first-in, link-within, link-to, link-once}
use Rattle.face_weights.specs.Weights.{weight_by}
use Rattle.face_weights.specs.Numbers.{number_at, NumberFaces, KnowFaces}
use Rattle.face_weights.specs.Rests.{IsFaceRest, IsOtherMost, IsRest}
use Rattle.face_weights.specs.Sums.{weight_in}
use Rattle.face_weights.specs.Passes.{weights_at, group_size, AreLight, LinkOnce}
use Rattle.face_weights.proofs.Terms.{sum-twice}
use Rattle.face_weights.proofs.FaceBounds.{own-weight}
use Rattle.face_weights.proofs.RestLemmas.{is_bond, rest-from_both}
use Rattle.face_weights.proofs.GroupSizes.{groups-sum}
use Rattle.face_weights.proofs.Totals.{share, total-face}

-- a node of another kind is no bond
pub not-bond : (kind other : Kind) → kind ≡ other → is_bond other ≡ false → kind ≢ P
not-bond kind other e f p = both_ways (is_bond kind) (ap is_bond e ∙ f) (ap is_bond p)

pub other-kind : (kind : Kind) → (kind ≡ S) ⊎ (kind ≡ R) ⊎ (kind ≡ B) → kind ≢ P
other-kind kind h = elim h [
  | inl s ↦ not-bond kind S s refl
  | inr t ↦ elim t [
    | inl r ↦ not-bond kind R r refl
    | inr b ↦ not-bond kind B b refl
  ]
]

-- the numbers of a node as they are read
pub row-numbers : (nodes : List Node) (family : List (List (List ℕ))) (rows : List (List ℕ)) → KnowFaces nodes family rows → (k : ℕ) → k < length nodes → (seen : List ℕ) → seen ≡ slice_index_or rows k []
    → NumberFaces (skeleton_graph nodes k) (system_at family k) seen
row-numbers nodes family rows know k l seen q = subst (NumberFaces (skeleton_graph nodes k) (system_at family k)) (sym q) (know.numbers k l)

-- a block with its tree
module _ (g : Multigraph) (nodes : List Node) (b : IsBlockTree g nodes) (k : ℕ) (l : k < length nodes) where
  -- a bond has several items
  pub bond-several : (node_at nodes k).kind ≡ P → 2 ≤ length (node_at nodes k).items
  bond-several e = let three : 3 ≤ length (node_at nodes k).items = subst (λ n. 3 ≤ n) (length-map (items_of (components nodes) k) piece_ends ∙ ap length (node-pieces nodes k) ∙ length-map (node_at nodes k).items piece_of) (kind-of g nodes b k P (l, e)).three in
      omega (arith, three)

  -- each node has an item
  pub node-some : 0 < length (node_at nodes k).items
  node-some = first-in g nodes b.tree b.block.has_edge k l

  -- the weights of the items are small together
  pub weights-few : IsWithinLimits g → (parents below above : List ℕ) (value : ℕ) (w : ℕ → ℕ) → value ≡ slice_index_or above k 0 → ((i : ℕ) → i < length (node_at nodes k).items → w i ≡ weights_at nodes parents below value k i)
      → AreLight nodes parents below above → sum_below (length (node_at nodes k).items) w ≤ 2 * max_edges
  weights-few small parents below above value w e weigh light =
      let less : sum_below (length (node_at nodes k).items) w ≤ sum_below (length (node_at nodes k).items) (λ i. group_size g nodes k i + group_size g nodes k i) =
      sum_below-le (length (node_at nodes k).items) w (λ i. group_size g nodes k i + group_size g nodes k i)
      (λ i a. let c : weights_at nodes parents below value k i ≤ 2 * group_size g nodes k i = subst (λ z. weights_at nodes parents below z k i ≤ 2 * group_size g nodes k i) (sym e) (light g b k i l a) in omega (arith, weigh i a, c)) in
      omega (arith, less, sum-twice (length (node_at nodes k).items) (group_size g nodes k), groups-sum g nodes b k, small.few_edges)

  module _ (family : List (List (List ℕ))) (weights : List ℕ) (number : length weights ≡ length (node_at nodes k).items) where
    -- the rests at the items of a bond
    pub rest-pairs : (i rest : ℕ) → (node_at nodes k).kind ≡ P → IsOtherMost (length weights) (weight_in weights) i rest → IsRest nodes family k (weight_in weights) i rest
    rest-pairs i rest e x = record { face = λ n. absurd (n e); other = λ p. subst (λ z. IsOtherMost z (weight_in weights) i rest) number x }

    -- and of another node
    pub rest-face : (i rest : ℕ) → (node_at nodes k).kind ≢ P → IsFaceRest (skeleton_graph nodes k) (system_at family k) (weight_in weights) i rest → IsRest nodes family k (weight_in weights) i rest
    rest-face i rest n x = record { face = λ z. x; other = λ p. absurd (n p) }

    -- where numbers tell its faces: how many there are, and of a number
    module _ (numbers : List ℕ) (n : NumberFaces (skeleton_graph nodes k) (system_at family k) numbers) where
      pub numbers-twice : length numbers ≡ 2 * length weights
      numbers-twice = omega (arith, n.darts, graph-edges g nodes b k l, number)

      pub numbers-edges : length weights ≡ edge_count (skeleton_graph nodes k)
      numbers-edges = omega (arith, graph-edges g nodes b k l, number)

      dart-in : (d : ℕ) → d < length numbers → d < 2 * edge_count (skeleton_graph nodes k)
      dart-in d m = subst (λ z. d < z) n.darts m

      pub numbers-within : (d : ℕ) → d < length numbers → number_at numbers d < length numbers
      numbers-within d m = subst (λ z. number_at numbers d < z) (sym n.darts) (n.within d (dart-in d m))

      -- the weights of the faces at their numbers: each is at least that of an item on the face, and they give the rests
      module _ (totals : List ℕ) (each : (t : ℕ) → t < length numbers → weight_in totals t ≡ sum_below (length numbers) (share numbers weights t)) where
        pub totals-own : (d : ℕ) → d < length numbers → weight_in weights (d / 2) ≤ weight_in totals (number_at numbers d)
        totals-own d m = omega (
          arith,
          total-face (skeleton_graph nodes k) (system_at family k) numbers weights totals n each d (dart-in d m),
          own-weight (skeleton_graph nodes k) (system_at family k) (weight_in weights) d (dart-in d m),
        )

        pub totals-rest : (i rest : ℕ) → (node_at nodes k).kind ≢ P → i < length (node_at nodes k).items → rest + weight_in weights i ≡ max (weight_in totals (number_at numbers (2 * i))) (weight_in totals (number_at numbers (2 * i + 1)))
            → IsRest nodes family k (weight_in weights) i rest
        totals-rest i rest other m e =
            let less : i < edge_count (skeleton_graph nodes k) = subst (λ z. i < z) (sym (graph-edges g nodes b k l)) m in
            rest-face i rest other (rest-from_both (skeleton_graph nodes k) (system_at family k) (weight_in weights) i rest (weight_in totals (number_at numbers (2 * i))) (weight_in totals (number_at numbers (2 * i + 1)))
            (total-face (skeleton_graph nodes k) (system_at family k) numbers weights totals n each (2 * i) (omega (arith, less)))
            (total-face (skeleton_graph nodes k) (system_at family k) numbers weights totals n each (2 * i + 1) (omega (arith, less))) less e)

  -- the items as they are read: their links lead to nodes, each at one item, and their weights
  module _ (items : List Item) (read : items ≡ (node_at nodes k).items) where
    pub items-within : (i j : ℕ) → i < length items → (nth_item items i).what ≡ Link j → j < length nodes
    items-within = subst (λ (z : List Item). (i j : ℕ) → i < length z → (nth_item z i).what ≡ Link j → j < length nodes) (sym read)
        (λ i j m e. link-within g nodes b.tree b.block.has_edge k j (link-to g nodes b.tree b.block.has_edge k i j m e))

    pub items-once : LinkOnce items
    items-once = subst LinkOnce (sym read) (λ i h j m n x y. link-once g nodes b.tree b.block.has_edge k i h j m n x y)

    pub items-weights : (parents below seen weights made : List ℕ) (above : ℕ) → seen ≡ below → weights ≡ made
        → ((i : ℕ) → i < length items → weight_in made i ≡ weight_by (parent_at parents k) (weight_in seen) above (nth_item items i).what)
        → (i : ℕ) → i < length (node_at nodes k).items → weight_in weights i ≡ weights_at nodes parents below above k i
    items-weights parents below seen weights made above r w h i m = ap (λ (z : List ℕ). weight_in z i) w
        ∙ subst (λ (z : List Item). i < length z → weight_in made i ≡ weight_by (parent_at parents k) (weight_in below) above (nth_item z i).what) read
        (λ n. subst (λ (z : List ℕ). weight_in made i ≡ weight_by (parent_at parents k) (weight_in z) above (nth_item items i).what) r (h i n)) m
