-- The pass down: the weights of the links to the parents, for the children of one node more.
use Rattle.std.proofs.Common.{◌≡◌, ◌≢◌, ℕ, ◌+◌, ◌*◌, ◌<◌, ◌≤◌, List, length, slice_index_or, inl, inr, refl, sym, ap, ◌∙◌, subst, arith}
use Rattle.std.proofs.lemmas.Bool.{cases_eq, cases_lt}
use Rattle.multigraph.specs.Graph.{Multigraph}
use Rattle.faces.specs.Euler.{IsPlane}
use Rattle.pair_split.specs.Tutte.{Node, node_at, node_item}
use Rattle.pair_split.specs.declared.components.What.{What}
use Rattle.pair_split.specs.declared.components.What.TheVariants.{Link}
use Rattle.pair_split.proofs.Groups.{what-cases}
use Rattle.skeletons.specs.Items.{IsBlockTree}
use Rattle.skeletons.specs.Families.{skeleton_graph, system_at, AreSkeletonSystems}
use Rattle.skeleton_runs.proofs.SkeletonGraph.{graph-edges}
use Rattle.spqr_tree.specs.Keys.{parent_at}
use Rattle.face_weights.specs.Rests.{IsRest}
use Rattle.skel_decompose.specs.Orders.{IsOrderOf}
use Rattle.face_weights.specs.Passes.{weights_at, group_size, AreLight, AreHandedDown, IsDone, AreDone}
use Rattle.face_weights.proofs.RestLemmas.{rest-same}
use Rattle.face_weights.proofs.GroupSizes.{rest-group}
use Rattle.face_weights.proofs.InOrder.{weight-edge, weight-up, weight-down, node-at, place-once, link-from, child-parent, child-apart, parent-one}

-- a block with its tree, a plane family, and an order of the nodes
module _ (g : Multigraph) (nodes : List Node) (b : IsBlockTree g nodes) (family : List (List (List ℕ))) (systems : AreSkeletonSystems nodes family)
    (plane : (k : ℕ) → k < length nodes → IsPlane (skeleton_graph nodes k) (system_at family k)) (parents order : List ℕ) (o : IsOrderOf nodes parents order) (below : List ℕ) where
  -- one node more
  module _ (p : ℕ) (l : p < length order) (above next weights rests : List ℕ)
      (weigh : (i : ℕ) → i < length (node_at nodes (slice_index_or order p 0)).items → slice_index_or weights i 0 ≡ weights_at nodes parents below (slice_index_or above (slice_index_or order p 0) 0) (slice_index_or order p 0) i)
      (rest : (i : ℕ) → i < length (node_at nodes (slice_index_or order p 0)).items → IsRest nodes family (slice_index_or order p 0) (λ n. slice_index_or weights n 0) i (slice_index_or rests i 0))
      (handed : AreHandedDown (node_at nodes (slice_index_or order p 0)).items (parent_at parents (slice_index_or order p 0)) rests (length (node_at nodes (slice_index_or order p 0)).items) above next) where
    -- the node
    abbrev k : ℕ
    k = slice_index_or order p 0

    abbrev number : ℕ
    number = length (node_at nodes k).items

    k-in : k < length nodes
    k-in = node-at g nodes b parents order o p l

    -- nothing is noted for nodes up to this one
    stays : (q : ℕ) → q ≤ p → slice_index_or next (slice_index_or order q 0) 0 ≡ slice_index_or above (slice_index_or order q 0) 0
    stays q s = handed.others (slice_index_or order q 0) (λ i a w. elim (cases_eq (slice_index_or order q 0) (parent_at parents k)) [
      | inl e ↦ e
      | inr n ↦ absurd (child-apart g nodes b parents order o p q i (slice_index_or order q 0) l s a w n refl)
    ])

    -- nor for the children of others
    others : (x : ℕ) → parent_at parents x ≢ k → slice_index_or next x 0 ≡ slice_index_or above x 0
    others x n = handed.others x (λ i a w. elim (cases_eq x (parent_at parents k)) [
      | inl e ↦ e
      | inr d ↦ absurd (n (child-parent g nodes b parents order o k i x a w d))
    ])

    -- the weights of the node's items stay
    same : (i : ℕ) → i < number → slice_index_or weights i 0 ≡ weights_at nodes parents below (slice_index_or next k 0) k i
    same i a = weigh i a ∙ ap (λ z. weights_at nodes parents below z k i) (sym (stays p (omega arith)))

    -- the links are light still
    pub light-down : AreLight nodes parents below above → AreLight nodes parents below next
    light-down light f c x i xl il = elim (what-cases what) [
      | inl e ↦ keep (weight-edge parent (λ j. slice_index_or below j 0) (slice_index_or above x 0) what e.0 e.1 ∙ sym (weight-edge parent (λ j. slice_index_or below j 0) (slice_index_or next x 0) what e.0 e.1))
      | inr j ↦ elim (cases_eq j.0 parent) [
        | inr u ↦ keep (weight-down parent (λ j. slice_index_or below j 0) (slice_index_or above x 0) what j.0 j.1 u ∙ sym (weight-down parent (λ j. slice_index_or below j 0) (slice_index_or next x 0) what j.0 j.1 u))
        | inl u ↦ elim (cases_eq parent k) [
          | inr n ↦ keep (ap (λ z. weights_at nodes parents below z x i) (sym (others x n)))
          | inl e ↦ subst (λ z. z ≤ 2 * group_size f nodes x i) (sym (weight-up parent (λ j. slice_index_or below j 0) (slice_index_or next x 0) what j.0 j.1 u)) (child (j.1 ∙ ap Link (u ∙ e)) (sym e))
        ]
      ]
    ]
      where
        parent : ℕ
        parent = parent_at parents x

        what : What
        what = (node_item nodes x i).what

        keep : weights_at nodes parents below (slice_index_or above x 0) x i ≡ weights_at nodes parents below (slice_index_or next x 0) x i → weights_at nodes parents below (slice_index_or next x 0) x i ≤ 2 * group_size f nodes x i
        keep e = subst (λ z. z ≤ 2 * group_size f nodes x i) e (light f c x i xl il)

        child : (node_item nodes x i).what ≡ Link k → k ≡ parent_at parents x → slice_index_or next x 0 ≤ 2 * group_size f nodes x i
        child w up =
            let back = link-from f nodes c parents order o x i k il w in
            let not_up : x ≢ parent_at parents k = parent-one f nodes c parents order o x i k il w up in
            subst (λ z. z ≤ 2 * group_size f nodes x i) (sym (handed.each back.0 x back.1 back.2 not_up))
            (rest-group f nodes c family systems plane k back.0 x i k-in back.1 back.2 il w (λ n. slice_index_or weights n 0) (slice_index_or rests back.0 0)
            (λ n e d q. weigh n d ∙ weight-edge (parent_at parents k) (λ j. slice_index_or below j 0) (slice_index_or above k 0) (node_item nodes k n).what e q)
            (λ n d. subst (λ z. z ≤ 2 * group_size f nodes k n) (sym (weigh n d)) (light f c k n k-in d))
            (rest back.0 back.1))

    -- what is done stays done
    module _ (most top sum : ℕ) (bounds : (i : ℕ) → i < length (node_at nodes (slice_index_or order p 0)).items → slice_index_or weights i 0 + slice_index_or rests i 0 ≤ sum) where
      done-before : (q i higher : ℕ) → q < p → i < length (node_at nodes (slice_index_or order q 0)).items → most ≤ higher → IsDone nodes family parents below above most (slice_index_or order q 0) i → IsDone nodes family parents below next higher (slice_index_or order q 0) i
      done-before q i higher s a m d =
          let e : slice_index_or above (slice_index_or order q 0) 0 ≡ slice_index_or next (slice_index_or order q 0) 0 = sym (stays q (omega (arith, s))) in record {
            rest = d.rest;
            is_rest = subst (λ z. IsRest nodes family (slice_index_or order q 0) (weights_at nodes parents below z (slice_index_or order q 0)) i d.rest) e d.is_rest;
            within = omega (arith, m, subst (λ z. weights_at nodes parents below z (slice_index_or order q 0) i + d.rest ≤ most) e d.within);
            child = λ j w n. others j (λ z. omega (arith, s, place-once g nodes b parents order o q p (omega (arith, s, l)) l (sym (child-parent g nodes b parents order o (slice_index_or order q 0) i j a w n) ∙ z))) ∙ d.child j w n;
          }

      done-here : (i higher : ℕ) → i < number → sum ≤ higher → IsDone nodes family parents below next higher k i
      done-here i higher a m = record {
        rest = slice_index_or rests i 0;
        is_rest = rest-same nodes family k (λ n. slice_index_or weights n 0) (weights_at nodes parents below (slice_index_or next k 0) k) i (slice_index_or rests i 0) (graph-edges g nodes b k k-in) same a (rest i a);
        within = omega (arith, bounds i a, same i a, m);
        child = λ j w n. handed.each i j a w n;
      }

      each : (higher : ℕ) → most ≤ higher → sum ≤ higher → AreDone nodes family parents order below above p most top → (q i : ℕ) → q < p + 1 → q < length order → i < length (node_at nodes (slice_index_or order q 0)).items
          → IsDone nodes family parents below next higher (slice_index_or order q 0) i
      each higher m n d q i s t a = elim (cases_lt q p) [
        | inl u ↦ done-before q i higher u a m (d.each q i u t a)
        | inr u ↦ let e : q ≡ p = omega (arith, s, u) in subst (λ z. i < length (node_at nodes (slice_index_or order z 0)).items → IsDone nodes family parents below next higher (slice_index_or order z 0) i) (sym e) (λ c. done-here i higher c n) a
      ]

      -- where the node has the greatest sum so far
      pub done-greater : most ≤ sum → (i : ℕ) × (i < length (node_at nodes (slice_index_or order p 0)).items) × (slice_index_or weights i 0 + slice_index_or rests i 0 ≡ sum)
          → AreDone nodes family parents order below above p most top → AreDone nodes family parents order below next (p + 1) sum (slice_index_or order p 0)
      done-greater m r d = record {
        each = each sum m (omega arith) d;
        reached = λ z. (
          p,
          omega arith,
          l,
          refl,
          record {
            node = k-in;
            item = r.0;
            item_in = r.1;
            rest = slice_index_or rests r.0 0;
            is_rest = rest-same nodes family k (λ n. slice_index_or weights n 0) (weights_at nodes parents below (slice_index_or next k 0) k) r.0 (slice_index_or rests r.0 0) (graph-edges g nodes b k k-in) same r.1 (rest r.0 r.1);
            reached = ap (λ z. z + slice_index_or rests r.0 0) (sym (same r.0 r.1)) ∙ r.2;
          },
        );
      }

      -- and where it has not
      pub done-less : sum ≤ most → 0 < p → AreDone nodes family parents order below above p most top → AreDone nodes family parents order below next (p + 1) most top
      done-less m z d =
          let r = d.reached z in
          let e : slice_index_or above top 0 ≡ slice_index_or next top 0 = subst (λ x. slice_index_or above x 0 ≡ slice_index_or next x 0) r.3 (sym (stays r.0 (omega (arith, r.1)))) in record {
            each = each most (omega arith) m d;
            reached = λ y. (
              r.0,
              omega (arith, r.1),
              r.2,
              r.3,
              record {
                node = r.4.node;
                item = r.4.item;
                item_in = r.4.item_in;
                rest = r.4.rest;
                is_rest = subst (λ x. IsRest nodes family top (weights_at nodes parents below x top) r.4.item r.4.rest) e r.4.is_rest;
                reached = subst (λ x. weights_at nodes parents below x top r.4.item + r.4.rest ≡ most) e r.4.reached;
              },
            );
          }
