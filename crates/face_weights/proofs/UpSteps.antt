-- The pass up: the weight of the link to one node more.
use Rattle.std.proofs.Common.{◌≡◌, ◌≢◌, ℕ, ◌+◌, ◌*◌, ◌<◌, ◌≤◌, List, [], length, slice_index_or, slice_set, inl, inr, sym, ap, ◌∙◌, subst, arith}
use Rattle.std.proofs.lemmas.Bool.{cases_eq}
use Rattle.std.proofs.lemmas.List.{get_or-set_same, get_or-set_other}
use Rattle.multigraph.specs.Graph.{Multigraph}
use Rattle.faces.specs.Euler.{IsPlane}
use Rattle.pair_split.specs.Tutte.{Node, node_at, node_item}
use Rattle.pair_split.specs.declared.components.What.{What}
use Rattle.pair_split.specs.declared.components.What.TheVariants.{Link}
use Rattle.pair_split.proofs.Groups.{what-cases}
use Rattle.skeletons.specs.Items.{IsBlockTree}
use Rattle.skeletons.specs.Families.{skeleton_graph, system_at, AreSkeletonSystems}
use Rattle.spqr_tree.specs.Keys.{parent_at}
use Rattle.face_weights.specs.Rests.{IsRest}
use Rattle.skel_decompose.specs.Orders.{IsOrderOf}
use Rattle.face_weights.specs.Passes.{weights_at, group_size, AreLight, AreBelow}
use Rattle.face_weights.proofs.RestLemmas.{rest-other}
use Rattle.face_weights.proofs.GroupSizes.{rest-group, edge-group}
use Rattle.face_weights.proofs.InOrder.{weight-edge, weight-up, weight-down, node-at, place-once, link-from, child-parent, child-apart}

-- at first each link weighs nothing
pub light-first : (nodes : List Node) (parents below above : List ℕ) → ((k : ℕ) → slice_index_or below k 0 ≡ 0) → ((k : ℕ) → slice_index_or above k 0 ≡ 0) → AreLight nodes parents below above
light-first nodes parents below above zero none g b k i l m = elim (what-cases (node_item nodes k i).what) [
  | inl e ↦ omega (arith, weight-edge (parent_at parents k) (λ j. slice_index_or below j 0) (slice_index_or above k 0) (node_item nodes k i).what e.0 e.1, edge-group g nodes b k i e.0 m e.1)
  | inr j ↦ elim (cases_eq j.0 (parent_at parents k)) [
    | inl p ↦ omega (arith, weight-up (parent_at parents k) (λ j. slice_index_or below j 0) (slice_index_or above k 0) (node_item nodes k i).what j.0 j.1 p, none k)
    | inr p ↦ omega (arith, weight-down (parent_at parents k) (λ j. slice_index_or below j 0) (slice_index_or above k 0) (node_item nodes k i).what j.0 j.1 p, zero j.0)
  ]
]

-- a block with its tree, a plane family, and an order of the nodes
module _ (g : Multigraph) (nodes : List Node) (b : IsBlockTree g nodes) (family : List (List (List ℕ))) (systems : AreSkeletonSystems nodes family)
    (plane : (k : ℕ) → k < length nodes → IsPlane (skeleton_graph nodes k) (system_at family k)) (parents order : List ℕ) (o : IsOrderOf nodes parents order) where
  -- one node more
  module _ (p : ℕ) (l : p < length order) (below : List ℕ) (number : length below ≡ length nodes) (weights : ℕ → ℕ) (value : ℕ)
      (weigh : (i : ℕ) → i < length (node_at nodes (slice_index_or order p 0)).items → weights i ≡ weights_at nodes parents below 0 (slice_index_or order p 0) i)
      (rest : (h : ℕ) → h < length (node_at nodes (slice_index_or order p 0)).items → (node_item nodes (slice_index_or order p 0) h).what ≡ Link (parent_at parents (slice_index_or order p 0)) → IsRest nodes family (slice_index_or order p 0) weights h value) where
    -- the node
    abbrev k : ℕ
    k = slice_index_or order p 0

    -- the new list
    abbrev next : List ℕ
    next = slice_set below k value

    k-in : k < length nodes
    k-in = node-at g nodes b parents order o p l

    here : slice_index_or next k 0 ≡ value
    here = get_or-set_same below k value 0 (omega (arith, number, k-in))

    there : (j : ℕ) → j ≢ k → slice_index_or next j 0 ≡ slice_index_or below j 0
    there j n = get_or-set_other below k j value 0 n

    -- the weights of the items of this node and those after it stay
    stays : (q i : ℕ) → p ≤ q → q < length order → i < length (node_at nodes (slice_index_or order q 0)).items
        → weights_at nodes parents below 0 (slice_index_or order q 0) i ≡ weights_at nodes parents next 0 (slice_index_or order q 0) i
    stays q i s m a = elim (what-cases (node_item nodes (slice_index_or order q 0) i).what) [
      | inl e ↦ weight-edge parent (λ j. slice_index_or below j 0) 0 what e.0 e.1 ∙ sym (weight-edge parent (λ j. slice_index_or next j 0) 0 what e.0 e.1)
      | inr j ↦ elim (cases_eq j.0 parent) [
        | inl u ↦ weight-up parent (λ j. slice_index_or below j 0) 0 what j.0 j.1 u ∙ sym (weight-up parent (λ j. slice_index_or next j 0) 0 what j.0 j.1 u)
        | inr u ↦ weight-down parent (λ j. slice_index_or below j 0) 0 what j.0 j.1 u ∙ sym (there j.0 (child-apart g nodes b parents order o q p i j.0 m s a j.1 u)) ∙ sym (weight-down parent (λ j. slice_index_or next j 0) 0 what j.0 j.1 u)
      ]
    ]
      where
        parent : ℕ
        parent = parent_at parents (slice_index_or order q 0)

        what : What
        what = (node_item nodes (slice_index_or order q 0) i).what

    -- the weights of the links to these nodes
    pub below-more : AreBelow nodes family parents order (p + 1) below → AreBelow nodes family parents order p next
    below-more before q h t s m a link up = elim (cases_eq q p) [
      | inl e ↦ subst (λ z. IsRest nodes family (slice_index_or order z 0) (weights_at nodes parents next 0 (slice_index_or order z 0)) h (slice_index_or next (slice_index_or order z 0) 0)) (sym e)
          (own (subst (λ z. h < length (node_at nodes (slice_index_or order z 0)).items) e a) (subst (λ z. (node_item nodes (slice_index_or order z 0) h).what ≡ Link t) e link) (subst (λ z. t ≡ parent_at parents (slice_index_or order z 0)) e up))
      | inr n ↦
          let old : IsRest nodes family (slice_index_or order q 0) (weights_at nodes parents below 0 (slice_index_or order q 0)) h (slice_index_or below (slice_index_or order q 0) 0) = before q h t (omega (arith, s, n)) m a link up in
          let same : slice_index_or below (slice_index_or order q 0) 0 ≡ slice_index_or next (slice_index_or order q 0) 0 = sym (there (slice_index_or order q 0) (λ z. n (place-once g nodes b parents order o q p m l z))) in
          subst (λ z. IsRest nodes family (slice_index_or order q 0) (weights_at nodes parents next 0 (slice_index_or order q 0)) h z) same
          (rest-other g nodes b family systems plane (slice_index_or order q 0) (node-at g nodes b parents order o q m) (weights_at nodes parents below 0 (slice_index_or order q 0)) (weights_at nodes parents next 0 (slice_index_or order q 0)) h t
          (slice_index_or below (slice_index_or order q 0) 0) link (λ i c d. stays q i s m c) old)
    ]
      where
        own : h < length (node_at nodes k).items → (node_item nodes k h).what ≡ Link t → t ≡ parent_at parents k → IsRest nodes family k (weights_at nodes parents next 0 k) h (slice_index_or next k 0)
        own c w u = subst (λ z. IsRest nodes family k (weights_at nodes parents next 0 k) h z) (sym here)
            (rest-other g nodes b family systems plane k k-in weights (weights_at nodes parents next 0 k) h t value w (λ i c d. weigh i c ∙ stays p i (omega arith) l c) (rest h c (w ∙ ap Link u)))

    -- the links are light still
    pub light-more : AreLight nodes parents below [] → AreLight nodes parents next []
    light-more light f c x i xl il = elim (what-cases what) [
      | inl e ↦ subst (λ z. z ≤ 2 * group_size f nodes x i) (weight-edge parent (λ j. slice_index_or below j 0) 0 what e.0 e.1 ∙ sym (weight-edge parent (λ j. slice_index_or next j 0) 0 what e.0 e.1)) (light f c x i xl il)
      | inr j ↦ elim (cases_eq j.0 parent) [
        | inl u ↦ subst (λ z. z ≤ 2 * group_size f nodes x i) (weight-up parent (λ j. slice_index_or below j 0) 0 what j.0 j.1 u ∙ sym (weight-up parent (λ j. slice_index_or next j 0) 0 what j.0 j.1 u)) (light f c x i xl il)
        | inr u ↦ elim (cases_eq j.0 k) [
          | inr n ↦ subst (λ z. z ≤ 2 * group_size f nodes x i) (weight-down parent (λ j. slice_index_or below j 0) 0 what j.0 j.1 u ∙ sym (there j.0 n) ∙ sym (weight-down parent (λ j. slice_index_or next j 0) 0 what j.0 j.1 u)) (light f c x i xl il)
          | inl e ↦ subst (λ z. z ≤ 2 * group_size f nodes x i) (sym (weight-down parent (λ j. slice_index_or next j 0) 0 what j.0 j.1 u ∙ ap (λ z. slice_index_or next z 0) e ∙ here)) (child (j.1 ∙ ap Link e) (λ z. u (e ∙ z)))
        ]
      ]
    ]
      where
        parent : ℕ
        parent = parent_at parents x

        what : What
        what = (node_item nodes x i).what

        child : (node_item nodes x i).what ≡ Link k → k ≢ parent_at parents x → value ≤ 2 * group_size f nodes x i
        child w u =
            let back = link-from f nodes c parents order o x i k il w in
            let up : x ≡ parent_at parents k = sym (child-parent f nodes c parents order o x i k il w u) in
            rest-group f nodes c family systems plane k back.0 x i k-in back.1 back.2 il w weights value
            (λ n e d q. weigh n d ∙ weight-edge (parent_at parents k) (λ j. slice_index_or below j 0) 0 (node_item nodes k n).what e q)
            (λ n d. subst (λ z. z ≤ 2 * group_size f nodes k n) (sym (weigh n d)) (light f c k n k-in d))
            (rest back.0 back.1 (back.2 ∙ ap Link up))
