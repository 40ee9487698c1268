-- After both passes the weights bound the faces, and each is reached.
use Rattle.std.proofs.Common.{◌≡◌, ◌≢◌, ℕ, ◌+◌, ◌/◌, ◌<◌, List, length, map, slice_index_or, inl, inr, refl, sym, ap, ◌∙◌, subst, arith}
use Rattle.std.proofs.lemmas.Bool.{cases_eq}
use Rattle.std.proofs.lemmas.List.{length-map}
use Rattle.multigraph.specs.Graph.{Multigraph}
use Rattle.faces.specs.Euler.{IsPlane}
use Rattle.pair_split.specs.Tutte.{Node, node_at, node_item, piece_of}
use Rattle.pair_split.specs.declared.components.What.{What}
use Rattle.pair_split.specs.declared.components.What.TheVariants.{Link}
use Rattle.pair_split.proofs.Groups.{what-cases}
use Rattle.skeletons.specs.Items.{IsBlockTree}
use Rattle.skeletons.specs.Families.{skeleton_graph, system_at, AreSkeletonSystems}
use Rattle.skeleton_planes.proofs.SkeletonDarts.{dart-item}
use Rattle.skeleton_faces.specs.Faces.{IsSkeletonDart, AreAcross}
use Rattle.spqr_tree.specs.Keys.{parent_at}
use Rattle.face_weights.specs.Weights.{Weighing, weight_of}
use Rattle.face_weights.specs.Reached.{AreWeights}
use Rattle.face_weights.specs.Rests.{IsRest}
use Rattle.skel_decompose.specs.Orders.{IsOrderOf}
use Rattle.face_weights.specs.Passes.{AreLight, weights_at, AreBelow, IsDone, IsMost, AreDone}
use Rattle.face_weights.proofs.RestLemmas.{rest-once, rest-other}
use Rattle.face_weights.proofs.InOrder.{weight-edge, weight-up, weight-down, place-of, some, once, child-parent, parent-one}

-- a block with its tree, a plane family, an order of the nodes, and what the passes made
module _ (g : Multigraph) (nodes : List Node) (b : IsBlockTree g nodes) (family : List (List (List ℕ))) (systems : AreSkeletonSystems nodes family)
    (plane : (k : ℕ) → k < length nodes → IsPlane (skeleton_graph nodes k) (system_at family k)) (parents order : List ℕ) (o : IsOrderOf nodes parents order) (below above : List ℕ) (most top : ℕ)
    (number : length below ≡ length nodes) (also : length above ≡ length nodes) (up : AreBelow nodes family parents order 0 below) (down : AreDone nodes family parents order below above (length order) most top) (light : AreLight nodes parents below above) where
  -- all weights
  abbrev all : Weighing
  all = record { parents = parents; order = order; below = below; above = above; most = most; top = top }

  abbrev weight : ℕ → ℕ → ℕ
  weight = weight_of nodes all

  -- each item of a node is done
  done : (k i : ℕ) → k < length nodes → i < length (node_at nodes k).items → IsDone nodes family parents below above most k i
  done k i l a = let q = place-of g nodes b parents order o k l in
      subst (λ z. i < length (node_at nodes z).items → IsDone nodes family parents below above most z i) q.2 (λ c. down.each q.0 i q.1 q.1 c) a

  -- the weight of the link to a node is the rest at the node's link to its parent
  rest-up : (k i j : ℕ) → k < length nodes → i < length (node_at nodes k).items → (node_item nodes k i).what ≡ Link j → j ≡ parent_at parents k → IsRest nodes family k (weights_at nodes parents below 0 k) i (slice_index_or below k 0)
  rest-up k i j l a w u = let q = place-of g nodes b parents order o k l in
      subst (λ z. i < length (node_at nodes z).items → (node_item nodes z i).what ≡ Link j → j ≡ parent_at parents z → IsRest nodes family z (weights_at nodes parents below 0 z) i (slice_index_or below z 0)) q.2
      (λ c v t. up q.0 i j (omega arith) q.1 c v t) a w u

  -- only the link to the parent depends on the weight of it
  above-other : (k i j : ℕ) → i < length (node_at nodes k).items → (node_item nodes k i).what ≡ Link j → j ≡ parent_at parents k → (h : ℕ) → h < length (node_at nodes k).items → h ≢ i
      → weights_at nodes parents below 0 k h ≡ weights_at nodes parents below (slice_index_or above k 0) k h
  above-other k i j a w u h c n = elim (what-cases what) [
    | inl e ↦ weight-edge (parent_at parents k) (λ j. slice_index_or below j 0) 0 what e.0 e.1 ∙ sym (weight-edge (parent_at parents k) (λ j. slice_index_or below j 0) (slice_index_or above k 0) what e.0 e.1)
    | inr t ↦ elim (cases_eq t.0 (parent_at parents k)) [
      | inl q ↦ absurd (n (once g nodes b parents order o k h i t.0 c a t.1 (w ∙ ap Link (u ∙ sym q))))
      | inr q ↦ weight-down (parent_at parents k) (λ j. slice_index_or below j 0) 0 what t.0 t.1 q ∙ sym (weight-down (parent_at parents k) (λ j. slice_index_or below j 0) (slice_index_or above k 0) what t.0 t.1 q)
    ]
  ]
    where
      what : What
      what = (node_item nodes k h).what

  -- an item of a node, and the dart of a link
  item-in : (k d : ℕ) → IsSkeletonDart nodes k d → d / 2 < length (node_at nodes k).items
  item-in k d a = dart-item g nodes b k a.0 d a.1

  -- the rest at a link is the weight of the link back
  rest-across : (k d j e : ℕ) (a : AreAcross nodes k d j e) (x : IsDone nodes family parents below above most k (d / 2)) → x.rest ≡ weight j (e / 2)
  rest-across k d j e a x = elim (cases_eq j (parent_at parents k)) [
    | inl u ↦
        let m : d / 2 < length (node_at nodes k).items = item-in k d a.first in
        let other : k ≢ parent_at parents j = parent-one g nodes b parents order o k (d / 2) j m a.to u in
        let late : IsRest nodes family k (weights_at nodes parents below (slice_index_or above k 0) k) (d / 2) (slice_index_or below k 0) =
        rest-other g nodes b family systems plane k (a.first.0) (weights_at nodes parents below 0 k) (weights_at nodes parents below (slice_index_or above k 0) k) (d / 2) j (slice_index_or below k 0) a.to
        (above-other k (d / 2) j m a.to u) (rest-up k (d / 2) j (a.first.0) m a.to u) in
        rest-once nodes family k (weights_at nodes parents below (slice_index_or above k 0) k) (d / 2) x.rest (slice_index_or below k 0) x.is_rest late
        ∙ sym (weight-down (parent_at parents j) (λ n. slice_index_or below n 0) (slice_index_or above j 0) (node_item nodes j (e / 2)).what k a.from other)
    | inr n ↦ sym (x.child j a.to n)
        ∙ sym (weight-up (parent_at parents j) (λ n. slice_index_or below n 0) (slice_index_or above j 0) (node_item nodes j (e / 2)).what k a.from (sym (child-parent g nodes b parents order o k (d / 2) j (item-in k d a.first) a.to n)))
  ]

  -- the other direction
  back : (k d j e : ℕ) → AreAcross nodes k d j e → AreAcross nodes j e k d
  back k d j e a = record { first = a.second; second = a.first; to = a.from; from = a.to; end = sym a.end }

  -- a node reaches the greatest weight
  is-top : IsMost nodes family parents below above most top
  is-top = let r = down.reached (some g nodes b parents order o) in r.4

  pub weighed : AreWeights nodes family all
  weighed = record {
    sized = record { parents = o.ordered.places ∙ length-map nodes (λ node. record { kind = node.kind; items = map piece_of node.items }); below = number; above = also };
    ordered = o;
    light = light;
    edges = λ k i e w. weight-edge (parent_at parents k) (λ j. slice_index_or below j 0) (slice_index_or above k 0) (node_item nodes k i).what e w;
    table = record {
      links = λ k d j e a n.
          let x = done k (d / 2) (a.first.0) (item-in k d a.first) in
          let y = x.is_rest.face n in
          omega (arith, y.bounds d (a.first.1) refl, rest-across k d j e a x);
      faces = λ k d a n.
          let x = done k (d / 2) a.0 (item-in k d a) in
          let y = x.is_rest.face n in
          omega (arith, y.bounds d a.1 refl, x.within);
      bond_links = λ k d j e a p h l n.
          let x = done k (d / 2) (a.first.0) (item-in k d a.first) in
          let y = x.is_rest.other p in
          omega (arith, y.bounds h l n, rest-across k d j e a x);
      bonds = λ k i h l p m q n.
          let x = done k i l m in
          let y = x.is_rest.other p in
          omega (arith, y.bounds h q (λ z. n (sym z)), x.within);
    };
    reached = record {
      links = λ k d j e a n.
          let x = done j (e / 2) (a.second.0) (item-in j e a.second) in
          let y = x.is_rest.face n in
          (y.reached.0, (a.second.0, y.reached.1), y.reached.2, y.reached.3 ∙ ap (λ z. weight j (e / 2) + z) (rest-across j e k d (back k d j e a) x));
      bond_links = λ k d j e a p.
          let x = done j (e / 2) (a.second.0) (item-in j e a.second) in
          let y = x.is_rest.other p in
          (y.reached.0, y.reached.1, y.reached.2, y.reached.3 ∙ rest-across j e k d (back k d j e a) x);
    };
    top = record {
      node = is-top.node;
      face = λ n. let y = is-top.is_rest.face n in (y.reached.0, (is-top.node, y.reached.1), y.reached.3 ∙ is-top.reached);
      pair = λ p. let y = is-top.is_rest.other p in (is-top.item, y.reached.0, is-top.item_in, y.reached.1, λ z. y.reached.2 (sym z), ap (λ z. weight top is-top.item + z) y.reached.3 ∙ is-top.reached);
    };
  }
