-- In a plane rotation system of a block the groups of each node of its tree stand in runs.
use Rattle.std.proofs.Common.{◌≡◌, ◌≢◌, ℕ, ◌<◌, ◌⊎◌, inl, inr, Bool, true, false, not, List, [], ◌∷◌, length, refl, sym, ap, ◌∙◌, subst, arith}
use Rattle.std.proofs.lemmas.Bool.{true≢false, eqb-true, not_from_true, not_from_false, false_from_ne_true}
use Rattle.permutations.specs.Members.{is_member}
use Rattle.permutations.specs.Cyclic.{FollowsAround}
use Rattle.permutations.specs.Runs.{NothingCrosses}
use Rattle.permutations.proofs.Members.{member-head, member-tail, distinct-head, no_member-head, no_member-tail}
use Rattle.permutations.proofs.CyclicOrder.{around-distinct}
use Rattle.permutations.proofs.RunsFromOrder.{runs-from_order}
use Rattle.multigraph.specs.Graph.{Multigraph, edge_count, is_end}
use Rattle.rotations.specs.Rotation.{order_at}
use Rattle.faces.proofs.DartLemmas.{order-distinct}
use Rattle.pair_split.specs.Skeleton.{is_end_of, SameEnds}
use Rattle.pair_split.specs.Split.{component_at, items_of, item_at, piece_ends, StandsFor, LinksTo, IsSplit}
use Rattle.pair_split.specs.Tutte.{Node, components, node_item, has_in_group, group, IsTutte}
use Rattle.pair_split.specs.declared.components.Kind.{Kind}
use Rattle.pair_split.specs.declared.components.Kind.TheVariants.{S, P, R, B}
use Rattle.pair_split.specs.declared.components.What.TheVariants.{Real, Link}
use Rattle.pair_split.specs.declared.components.Comp.{Comp}
use Rattle.pair_split.proofs.Subtrees.{link-in}
use Rattle.pair_split.proofs.TreeSides.{link-from, link-back, link-differs}
use Rattle.pair_split.proofs.Groups.{what-cases, same-end_back, side-other, in_group-link, group-some}
use Rattle.skeletons.specs.Items.{has_vertex, IsBlockTree}
use Rattle.skeletons.specs.Round.{StandInRuns}
use Rattle.faces.specs.Euler.{IsPlaneSystem}
use Rattle.skeletons.specs.Laws.{PlaneIsContiguous}
use Rattle.skeleton_runs.proofs.EdgesInOrder.{met-edge, met-end}
use Rattle.skeleton_runs.proofs.Items.{in_item, item-at, item-ends_differ}
use Rattle.skeleton_runs.proofs.Crossing.{OtherOf, other-of, group-uncrossed, others-uncrossed}
use Rattle.skeletons.proofs.NodeItems.{comp-in, item-in, vertex-node, keys-once}
use Rattle.skeleton_runs.proofs.NodeFits.{group-key, vertex-skeleton, vertex-fits}

-- a kind is that of bonds, that of small components, or neither
kind-cases : (kind : Kind) → (kind ≡ P) ⊎ ((kind ≡ B) ⊎ ((kind ≢ P) × (kind ≢ B)))
kind-cases P = inl refl
kind-cases B = inr (inl refl)
kind-cases S = inr (inr ((λ e. true≢false (ap sturdy e)), (λ e. true≢false (ap sturdy e))))
  where
    sturdy : Kind → Bool
    sturdy S = true
    sturdy P = false
    sturdy R = true
    sturdy B = false
kind-cases R = inr (inr ((λ e. true≢false (ap sturdy e)), (λ e. true≢false (ap sturdy e))))
  where
    sturdy : Kind → Bool
    sturdy S = true
    sturdy P = false
    sturdy R = true
    sturdy B = false

module _ (g : Multigraph) (nodes : List Node) (r : List (List ℕ)) (b : IsBlockTree g nodes) (p : IsPlaneSystem g r) where
  abbrev tree : IsTutte g nodes
  tree = b.tree

  abbrev comps : List Comp
  comps = components nodes

  abbrev split : IsSplit g comps
  split = tree.split

  -- a component with a link is not small
  linked-large : (k j : ℕ) → LinksTo comps k j → (component_at comps k).kind ≢ B
  linked-large k j l e =
      let k-in : k < length comps = link-from comps split.linked k j l in
      link-differs comps split.linked k j l (omega (arith, split.of_kind.small_alone k k-in e, k-in, link-in comps split.linked k j l))

  -- two linked components are not both bonds
  linked-bonds : (k j : ℕ) → LinksTo comps k j → (component_at comps k).kind ≡ P → (component_at comps j).kind ≢ P
  linked-bonds k j l x y = tree.no_bonds_joined k j l x y

  -- a vertex of the graph that is an end of item i of component k, and four edges round it
  module _ (k i v a c d f : ℕ) (k_in : k < length comps) (i_in : i < length (items_of comps k)) (v_in : v < g.vertex_count) (end : is_end_of v (piece_ends (item_at comps k i)) ≡ true)
      (o : FollowsAround (order_at r v) (a ∷ d ∷ c ∷ f ∷ [])) where
    -- where the component is a polygon or triconnected, the group crosses no others
    crossed-none : (component_at comps k).kind ≢ P → (component_at comps k).kind ≢ B
        → in_item g comps split k i a ≡ true → in_item g comps split k i c ≡ true → in_item g comps split k i d ≡ false → in_item g comps split k i f ≡ false → ⊥
    crossed-none np nb ia ic id if =
        let w : OtherOf (piece_ends (item_at comps k i)) v = other-of (piece_ends (item_at comps k i)) v (item-ends_differ g comps split k i k_in i_in) end in
        group-uncrossed g comps split b.graph b.block k i v w.other k_in i_in np nb w.differs end w.is_end r p.system p.plane v_in a d c f o ia ic id if

    others-none : (component_at comps k).kind ≢ P → (component_at comps k).kind ≢ B
        → in_item g comps split k i a ≡ false → in_item g comps split k i c ≡ false → in_item g comps split k i d ≡ true → in_item g comps split k i f ≡ true → ⊥
    others-none np nb ia ic id if =
        let w : OtherOf (piece_ends (item_at comps k i)) v = other-of (piece_ends (item_at comps k i)) v (item-ends_differ g comps split k i k_in i_in) end in
        others-uncrossed g comps split b.graph b.block k i v w.other k_in i_in np nb w.differs end w.is_end r p.system p.plane v_in a d c f o ia ic id if

  module _ (k v : ℕ) (h : has_vertex nodes k v ≡ true) where
    k-in : k < length comps
    k-in = comp-in g nodes tree k (vertex-node nodes k v h)

    v-in : v < g.vertex_count
    v-in = vertex-fits g nodes tree b.graph k v h

    module _ (a d c f : ℕ) (o : FollowsAround (order_at r v) (a ∷ d ∷ c ∷ f ∷ [])) where
      abbrev these : List ℕ
      these = a ∷ d ∷ c ∷ f ∷ []

      edge : (x : ℕ) → is_member x these ≡ true → x < edge_count g
      edge = met-edge g r b.graph p.system v a d c f v-in o

      at : (x : ℕ) → is_member x these ≡ true → is_end g v x ≡ true
      at = met-end g r b.graph p.system v a d c f v-in o

      in-a : is_member a these ≡ true
      in-a = member-head a (d ∷ c ∷ f ∷ [])

      in-d : is_member d these ≡ true
      in-d = member-tail d a (d ∷ c ∷ f ∷ []) (member-head d (c ∷ f ∷ []))

      in-c : is_member c these ≡ true
      in-c = member-tail c a (d ∷ c ∷ f ∷ []) (member-tail c d (c ∷ f ∷ []) (member-head c (f ∷ [])))

      in-f : is_member f these ≡ true
      in-f = member-tail f a (d ∷ c ∷ f ∷ []) (member-tail f d (c ∷ f ∷ []) (member-tail f c (f ∷ []) (member-head f [])))

      -- the first and the third differ
      a-c : a ≢ c
      a-c q = no_member-head a c (f ∷ []) (no_member-tail a d (c ∷ f ∷ []) (distinct-head a (d ∷ c ∷ f ∷ []) (around-distinct (order_at r v) these o (order-distinct g r v p.system v-in)))) (sym q)

      -- item i has a and c in its group, and neither of the others
      module _ (i : ℕ) (i_in : i < length (items_of comps k)) (ia : in_item g comps split k i a ≡ true) (ic : in_item g comps split k i c ≡ true) (id : in_item g comps split k i d ≡ false) (if : in_item g comps split k i f ≡ false) where
        end : is_end_of v (piece_ends (item_at comps k i)) ≡ true
        end = item-at g comps split k i a v (vertex-skeleton g nodes tree k v h) i_in (edge a in-a) (at a in-a) ia

        -- it is a link to component j
        linked-none : (j : ℕ) → (item_at comps k i).what ≡ Link j → ⊥
        linked-none j q = elim (kind-cases (component_at comps k).kind) [
          | inl bond ↦ across (linked-bonds k j link bond) (linked-large j k (link-back comps split.linked k j link))
          | inr e ↦ elim e [
            | inl small ↦ linked-large k j link small
            | inr large ↦ crossed-none k i v a c d f k-in i_in v-in end o large.0 large.1 ia ic id if
          ]
        ]
          where
            link : LinksTo comps k j
            link = (i, (i_in, q))

            -- seen from the other component the group is the rest
            across : (component_at comps j).kind ≢ P → (component_at comps j).kind ≢ B → ⊥
            across np nb = others-none j w.0 v a c d f (link-in comps split.linked k j link) w.1.0 v-in (same-end_back (piece_ends (item_at comps k i)) (piece_ends (item_at comps j w.0)) v w.2 end) o np nb
                (out a (edge a in-a) ia) (out c (edge c in-c) ic) (back d (edge d in-d) id) (back f (edge f in-f) if)
              where
                w : (h : ℕ) × StandsFor comps j h (Link k) × SameEnds (piece_ends (item_at comps k i)) (piece_ends (item_at comps j h))
                w = split.linked.back k j i (i_in, q)

                turned : (x : ℕ) → x < edge_count g → in_item g comps split j w.0 x ≡ not (in_item g comps split k i x)
                turned x l = in_group-link g comps split j k x (item_at comps j w.0).what w.1.1 ∙ side-other g comps split j k x (link-back comps split.linked k j link) l
                    ∙ ap not (sym (in_group-link g comps split k j x (item_at comps k i).what q))

                out : (x : ℕ) → x < edge_count g → in_item g comps split k i x ≡ true → in_item g comps split j w.0 x ≡ false
                out x l t = turned x l ∙ not_from_true (in_item g comps split k i x) t

                back : (x : ℕ) → x < edge_count g → in_item g comps split k i x ≡ false → in_item g comps split j w.0 x ≡ true
                back x l t = turned x l ∙ not_from_false (in_item g comps split k i x) t

        item-none : ⊥
        item-none = elim (what-cases (item_at comps k i).what) [
          | inl e ↦ a-c (sym (is e.0 e.1 a ia) ∙ is e.0 e.1 c ic)
          | inr e ↦ linked-none e.0 e.1
        ]
          where
            is : (e : ℕ) → (item_at comps k i).what ≡ Real e → (x : ℕ) → in_item g comps split k i x ≡ true → e ≡ x
            is e q x m = eqb-true e x (sym (ap (has_in_group comps k x) q) ∙ m)

      -- four edges whose groups cross
      four-none : group nodes k a ≡ group nodes k c → group nodes k d ≢ group nodes k a → group nodes k f ≢ group nodes k a → ⊥
      four-none q nd nf = from (group-some g comps split k a k-in (edge a in-a)) (group-some g comps split k c k-in (edge c in-c))
        where
          from : (i : ℕ) × (i < length (items_of comps k)) × (in_item g comps split k i a ≡ true) → (j : ℕ) × (j < length (items_of comps k)) × (in_item g comps split k j c ≡ true) → ⊥
          from i j = item-none i.0 i.1 i.2 (subst (λ z. in_item g comps split k z c ≡ true) same j.2) (out d (edge d in-d) nd) (out f (edge f in-f) nf)
            where
              key : group nodes k a ≡ (node_item nodes k i.0).key
              key = group-key g nodes tree k i.0 a (item-in g nodes tree k i.0 i.1) (edge a in-a) i.2

              same : j.0 ≡ i.0
              same = keys-once g nodes tree k j.0 i.0 (item-in g nodes tree k j.0 j.1) (item-in g nodes tree k i.0 i.1) (sym (group-key g nodes tree k j.0 c (item-in g nodes tree k j.0 j.1) (edge c in-c) j.2) ∙ sym q ∙ key)

              out : (x : ℕ) → x < edge_count g → group nodes k x ≢ group nodes k a → in_item g comps split k i.0 x ≡ false
              out x l n = false_from_ne_true (in_item g comps split k i.0 x) (λ t. n (group-key g nodes tree k i.0 x (item-in g nodes tree k i.0 i.1) l t ∙ sym key))

    -- so nothing crosses round the vertex
    pub uncrossed : NothingCrosses (group nodes k) (order_at r v)
    uncrossed a d c f o q nd nf = four-none a d c f o q nd nf

    -- and the groups stand in runs
    pub in-runs : StandInRuns nodes r k v
    in-runs = runs-from_order (group nodes k) (order_at r v) (order-distinct g r v p.system v-in) uncrossed

-- in every plane rotation system of a block the groups stand in runs
pub plane-contiguous : PlaneIsContiguous
plane-contiguous g nodes r b p k v h = in-runs g nodes r b p k v h
