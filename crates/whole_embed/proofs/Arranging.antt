-- The arrangements at a vertex of a component: what the blocks around it have to do with them.
use Rattle.std.proofs.Common.{◌≡◌, ℕ, ◌<◌, ◌≤◌, inl, inr, true, false, ◌&&◌, ◌==◌, nat_lt, List, [], ◌∷◌, length, filter, get_or, slice_index, slice_index_or, refl, sym, ap, ◌∙◌, subst, arith, Contains, eq-eqb, eqb-true}
use Rattle.std.specs.List.Sorted.{IsPermutation}
use Rattle.std.proofs.lemmas.Bool.{cases_Bool, cases_eq, both_ways, and_parts, and_from, cond-true, cond-false}
use Rattle.std.proofs.lemmas.List.{get_or_default}
use Rattle.permutations.specs.Members.{is_member, is_distinct, place_of}
use Rattle.permutations.specs.Cyclic.{first_or, from_least, FollowsAround}
use Rattle.permutations.proofs.Relation.{same-tests}
use Rattle.permutations.proofs.Members.{member-head, member-tail}
use Rattle.permutations.proofs.Filter.{filter-all, filter-ext}
use Rattle.permutations.proofs.CyclicOrder as cyclic
use Rattle.permutations.proofs.Arrangements.{permutation-member, permutation-distinct, permutation-from_members, contains-from_member, member-from_contains}
use Rattle.permutations.proofs.Places.{place-below, place-holds}
use Rattle.multigraph.specs.Graph.{Multigraph, edge_count, is_end, IsGraph, IsWithinLimits}
use Rattle.multigraph.specs.Part.{Rises, IsPart, IsEndOf}
use Rattle.rotations.specs.Rotation.{IsRotationSystem}
use Rattle.graph_theory.specs.Block.{SameBlock}
use Rattle.choice_lists.specs.Order.{IsRising}
use Rattle.faces.specs.Subgraph.{IsSubgraph}
use Rattle.faces.proofs.MapLists.{first-same}
use Rattle.blocks.specs.Blocks.{BlockStructure, block_at, IsBlockStructure, IsCutVertex}
use Rattle.blocks.proofs.BlockParts.{block-edges_in}
use Rattle.block_planes.proofs.OnParts.{part-subgraph}
use Rattle.arrangements.specs.Arranged.{of_block, keeps, cross, AreOrders, IsArrangement}
use Rattle.arrangements.specs.Refused.{Alternate}
use Rattle.arrangements.proofs.Lists.{same-equal}
use Rattle.arrangements.proofs.Laws.{cross_is_alternate, arrangements_are_listed}
use Rattle.whole_embed.specs.Component.{Component, BlockInPlane, component_vertices, component_edges, component_of, AreInPlane}
use Rattle.whole_embed.specs.Around.{edges_around, block_with, block_order, arrangements_around}
use Rattle.whole_embed.specs.Whole.{AreArranged, first_order, order_around}
use Rattle.whole_embed.proofs.Components.{vertex-in, edge-in, edge-component, block-in, block-edge, block_of-has, block_of-is, block_of-in, block_with-is, edges-same, cut-in, in-cut}
use Rattle.whole_embed.proofs.ComponentBlocks.{numbered, subgraph}
use Rattle.whole_embed.proofs.Outer.{at-member, member-edges_at, edges_at-rise, rises-distinct, first-least, round-member, member-round, round-distinct, round-least, round-written}

-- increasing by index and by the test
pub rising-from : (l : List ℕ) → Rises l → IsRising nat_lt l
rising-from l r i j d less within = let wi : i < length l = omega (arith, less, within) in
    let up : get_or l i d < get_or l j d = omega (arith, r i j less within, get_or_default l i d 0 wi, get_or_default l j d 0 within) in
    grind (arith, up)

module _ (g : Multigraph) (s : BlockStructure) (c : ℕ) (is : IsBlockStructure g s) (ok : IsGraph g) (limits : IsWithinLimits g) (block : ℕ → BlockInPlane) (planes : AreInPlane g s c block) where
  abbrev k : Component
  k = component_of g s c

  abbrev V : List ℕ
  V = component_vertices s c

  abbrev E : List ℕ
  E = component_edges g s c

  -- the edges at v are the edges of the graph that end there
  pub around-edge : (v e : ℕ) → is_member v V ≡ true → is_member e (edges_around k v) ≡ true → (is_member e E ≡ true) × (is_end g v e ≡ true)
  around-edge v e m t = at-member g k.part (numbered g s c is ok limits) (subgraph g s c is ok limits) v e m t

  pub edge-around : (v e : ℕ) → is_member v V ≡ true → e < edge_count g → is_end g v e ≡ true → is_member e (edges_around k v) ≡ true
  edge-around v e m l i = member-edges_at g k.part (numbered g s c is ok limits) (subgraph g s c is ok limits) v e (edge-component g s c is ok e v l i m) i

  pub around-rise : (v : ℕ) → Rises (edges_around k v)
  around-rise v = edges_at-rise g k.part (numbered g s c is ok limits) (subgraph g s c is ok limits) v

  around-distinct : (v : ℕ) → is_distinct (edges_around k v) ≡ true
  around-distinct v = rises-distinct (edges_around k v) (around-rise v)

  module _ (b : ℕ) (mb : is_member b k.blocks ≡ true) where
    -- the block as a part of the graph
    pub part-of : IsPart g (block_at s.blocks b) (block b).part
    part-of = planes.parts b mb

    pub sub-of : IsSubgraph (block b).part.graph g (slice_index (block b).part.edges) (slice_index (block b).part.vertices)
    sub-of = part-subgraph g ok (block_at s.blocks b) (block-edges_in g s.blocks b is.blocks (block-in g s c is b mb).0) (block b).part part-of

    pub system-of : IsRotationSystem (block b).part.graph (block b).rotation
    system-of = (planes.planes b mb).system

    -- its edges around v are those that end there
    pub order-member : (v e : ℕ) → is_member e (block_order block v b) ≡ true → (is_member e (block_at s.blocks b) ≡ true) × (is_end g v e ≡ true)
    order-member v e m =
        let w = round-member g (block b).part part-of.numbered sub-of (block b).rotation system-of v e m in
        (subst (λ (o : List ℕ). is_member e o ≡ true) part-of.edges_are w.0, w.1)

    pub member-order : (v e : ℕ) → is_member e (block_at s.blocks b) ≡ true → is_end g v e ≡ true → is_member e (block_order block v b) ≡ true
    member-order v e m i = member-round g (block b).part part-of.numbered sub-of (block b).rotation system-of v e (subst (λ (o : List ℕ). is_member e o ≡ true) (sym part-of.edges_are) m) i

    pub order-distinct : (v : ℕ) → is_distinct (block_order block v b) ≡ true
    order-distinct v = round-distinct g (block b).part part-of.numbered sub-of (block b).rotation system-of v

    pub order-least : (v e : ℕ) → is_member e (block_order block v b) ≡ true → first_or 0 (block_order block v b) ≤ e
    order-least v e m = round-least g (block b).part part-of.numbered sub-of (block b).rotation system-of v e m

    pub order-written : (v : ℕ) → from_least (block_order block v b) ≡ block_order block v b
    order-written v = round-written g (block b).part part-of.numbered sub-of (block b).rotation system-of v

    -- an edge of the component is of the block exactly where the table says so
    pub of-block : (e : ℕ) → is_member e E ≡ true → (block_with k e == b) ≡ is_member e (block_at s.blocks b)
    of-block e m = same-tests (block_with k e == b) (is_member e (block_at s.blocks b))
        (λ t. subst (λ (z : ℕ). is_member e (block_at s.blocks z) ≡ true) (sym (block_with-is g s c is ok e m) ∙ eqb-true (block_with k e) b t) (block_of-has g s c is ok e (edge-in g s c is e m).0).1)
        (λ t. eq-eqb (block_with k e) b (block_with-is g s c is ok e m ∙ block_of-is g s c is ok b e (block-in g s c is b mb).0 t))

  -- the block of an edge is one of the component, and has it
  pub with-in : (e : ℕ) → is_member e E ≡ true → is_member (block_with k e) k.blocks ≡ true
  with-in e m = subst (λ (z : ℕ). is_member z k.blocks ≡ true) (sym (block_with-is g s c is ok e m)) (block_of-in g s c is ok e m)

  pub with-has : (e : ℕ) → is_member e E ≡ true → is_member e (block_at s.blocks (block_with k e)) ≡ true
  with-has e m = subst (λ (z : ℕ). is_member e (block_at s.blocks z) ≡ true) (sym (block_with-is g s c is ok e m)) (block_of-has g s c is ok e (edge-in g s c is e m).0).1

  -- edges of the component are of one block exactly where the table has one number for them
  pub with-same : (e f : ℕ) → is_member e E ≡ true → is_member f E ≡ true → block_with k e ≡ block_with k f → SameBlock g e f
  with-same e f me mf q = edges-same g s c is ok (block_with k e) e f (block-in g s c is (block_with k e) (with-in e me)).0 (with-has e me) (subst (λ (z : ℕ). is_member f (block_at s.blocks z) ≡ true) (sym q) (with-has f mf))

  pub same-with : (e f : ℕ) → is_member e E ≡ true → is_member f E ≡ true → SameBlock g e f → block_with k e ≡ block_with k f
  same-with e f me mf q = (is.blocks.same (block_with k e) (block_with k f) e f (block-in g s c is (block_with k e) (with-in e me)).0 (block-in g s c is (block_with k f) (with-in f mf)).0 (with-has e me) (with-has f mf)).1 q

  -- each block of an edge at v has a cyclic order of its edges at v
  pub orders-around : (v : ℕ) → is_member v V ≡ true → AreOrders (block_with k) (block_order block v) (edges_around k v)
  orders-around v mv = record {
    rise = rising-from (edges_around k v) (around-rise v);
    distinct = λ e m. order-distinct (block_with k e) (with-in e (around-edge v e mv m).0) v;
    members = λ e x m.
        let b = block_with k e in
        let me : is_member e E ≡ true = (around-edge v e mv m).0 in
        let mb : is_member b k.blocks ≡ true = with-in e me in
        same-tests (is_member x (block_order block v b)) (is_member x (edges_around k v) && (block_with k x == b))
        (λ t. let w = order-member b mb v x t in
        let mx : is_member x E ≡ true = block-edge g s c is ok b x mb w.0 in
        and_from (is_member x (edges_around k v)) (block_with k x == b) (edge-around v x mv (edge-in g s c is x mx).0 w.1) (of-block b mb x mx ∙ w.0))
        (λ t. let p = and_parts (is_member x (edges_around k v)) (block_with k x == b) t in
        let w = around-edge v x mv p.0 in
        member-order b mb v x (sym (of-block b mb x w.0) ∙ p.1) w.1);
  }

  -- an order of all edges around v, from the least on, that keeps the cyclic order of each block, and in which no blocks cross
  pub record IsRight (v : ℕ) (o : List ℕ) : Type 0 where
    pub all : IsPermutation (edges_around k v) o
    pub first : first_or 0 o ≡ first_or 0 (edges_around k v)
    pub kept : (b : ℕ) → is_member b k.blocks ≡ true → is_member v (block b).part.vertices ≡ true → from_least (filter (λ e. is_member e (block b).part.edges) o) ≡ block_order block v b
    pub apart : (w x y z : ℕ) → FollowsAround o (w ∷ x ∷ y ∷ z ∷ []) → SameBlock g w y → SameBlock g x z → SameBlock g w x

  -- a member of such an order
  pub right-edge : (v : ℕ) (o : List ℕ) → is_member v V ≡ true → IsPermutation (edges_around k v) o → (e : ℕ) → is_member e o ≡ true → (is_member e E ≡ true) × (is_end g v e ≡ true)
  right-edge v o mv p e m = around-edge v e mv (sym (permutation-member (edges_around k v) o e p) ∙ m)

  -- a vertex of a block has an edge of it
  edge-there : (b v : ℕ) → is_member b k.blocks ≡ true → is_member v (block b).part.vertices ≡ true → (e : ℕ) × (is_member e (block_at s.blocks b) ≡ true) × (is_end g v e ≡ true) × (is_member e E ≡ true)
  edge-there b v mb mv =
      let w : IsEndOf g (block_at s.blocks b) v = ((part-of b mb).vertices v).0 (contains-from_member (block b).part.vertices v mv) in
      let m : is_member w.edge (block_at s.blocks b) ≡ true = member-from_contains (block_at s.blocks b) w.edge w.among in
      (w.edge, m, w.ends_there, block-edge g s c is ok b w.edge mb m)

  -- the edges of a block in a list of edges of the component, by its part and by the table
  filtered : (b : ℕ) → is_member b k.blocks ≡ true → (o : List ℕ) → ((e : ℕ) → is_member e o ≡ true → is_member e E ≡ true) → filter (λ e. is_member e (block b).part.edges) o ≡ of_block (block_with k) b o
  filtered b mb o inside = filter-ext (λ e. is_member e (block b).part.edges) (λ e. block_with k e == b) o (λ e m. ap (is_member e) (part-of b mb).edges_are ∙ sym (of-block b mb e (inside e m)))

  -- an arrangement is such an order
  pub right-cut : (v : ℕ) (o : List ℕ) → is_member v V ≡ true → IsArrangement (block_with k) (block_order block v) (edges_around k v) o → IsRight v o
  right-cut v o mv a = record {
    all = a.all;
    first = a.least_first;
    kept = λ b mb mp.
        let e = edge-there b v mb mp in
        let there : is_member e.0 o ≡ true = permutation-member (edges_around k v) o e.0 a.all ∙ edge-around v e.0 mv (edge-in g s c is e.0 e.3).0 e.2 in
        let at : block_with k e.0 ≡ b = eqb-true (block_with k e.0) b (of-block b mb e.0 e.3 ∙ e.1) in
        ap from_least (filtered b mb o (λ z m. (right-edge v o mv a.all z m).0))
        ∙ (same-equal (from_least (of_block (block_with k) b o)) (from_least (block_order block v b)) (subst (λ (z : ℕ). keeps (block_with k) (block_order block v) z o ≡ true) at (a.kept e.0 there))
        ∙ order-written b mb v);
    apart = λ w x y z f p q. elim (cases_eq (block_with k w) (block_with k x)) [
      | inl e ↦ with-same w x (of w (w ∷ x ∷ y ∷ z ∷ []) f (member-head w (x ∷ y ∷ z ∷ []))) (of x (w ∷ x ∷ y ∷ z ∷ []) f (member-tail x w (x ∷ y ∷ z ∷ []) (member-head x (y ∷ z ∷ [])))) e
      | inr n ↦ absurd (both_ways (cross (block_with k) (block_with k w) (block_with k x) o) (a.apart (block_with k w) (block_with k x))
          ((cross_is_alternate (block_with k) (block_with k w) (block_with k x) o (permutation-distinct (edges_around k v) o a.all (around-distinct v)) n).1 (four w x y z f p q)))
    ];
  }
    where
      of : (e : ℕ) (l : List ℕ) → FollowsAround o l → is_member e l ≡ true → is_member e E ≡ true
      of e l f m = (right-edge v o mv a.all e (cyclic.around-member o l e f m)).0

      four : (w x y z : ℕ) → FollowsAround o (w ∷ x ∷ y ∷ z ∷ []) → SameBlock g w y → SameBlock g x z → Alternate (block_with k) (block_with k w) (block_with k x) o
      four w x y z f p q =
          let l = w ∷ x ∷ y ∷ z ∷ [] in
          let mw : is_member w E ≡ true = of w l f (member-head w (x ∷ y ∷ z ∷ [])) in
          let mx : is_member x E ≡ true = of x l f (member-tail x w (x ∷ y ∷ z ∷ []) (member-head x (y ∷ z ∷ []))) in
          let my : is_member y E ≡ true = of y l f (member-tail y w (x ∷ y ∷ z ∷ []) (member-tail y x (y ∷ z ∷ []) (member-head y (z ∷ [])))) in
          let mz : is_member z E ≡ true = of z l f (member-tail z w (x ∷ y ∷ z ∷ []) (member-tail z x (y ∷ z ∷ []) (member-tail z y (z ∷ []) (member-head z [])))) in
          record { first = w; second = x; third = y; fourth = z; around = f; of_first = refl; of_second = refl; of_third = sym (same-with w y mw my p); of_fourth = sym (same-with x z mx mz q) }

  -- at a vertex that is not a cut vertex all edges are of one block
  pub one-block : (v e f : ℕ) → is_member v V ≡ true → is_member v k.cuts ≡ false → is_member e (edges_around k v) ≡ true → is_member f (edges_around k v) ≡ true → block_with k e ≡ block_with k f
  one-block v e f mv n me mf = elim (cases_eq (block_with k e) (block_with k f)) [
    | inl q ↦ q
    | inr d ↦
        let we = around-edge v e mv me in
        let wf = around-edge v f mv mf in
        let cut : IsCutVertex g v = record {
          first = e;
          second = f;
          first_edge = (edge-in g s c is e we.0).0;
          second_edge = (edge-in g s c is f wf.0).0;
          first_end = we.1;
          second_end = wf.1;
          apart = λ q. d (same-with e f we.0 wf.0 q);
        } in
        absurd (both_ways (is_member v k.cuts) n (in-cut g s c is v mv (is.cut_vertices.complete v (vertex-in g s c is v mv).0 cut)))
  ]

  -- the order of its one block is such an order
  right-one : (v : ℕ) (l : List ℕ) → is_member v V ≡ true → is_member v k.cuts ≡ false → edges_around k v ≡ l → IsRight v (first_order k block v l)
  right-one v [] mv n e = record {
    all = subst (λ (z : List ℕ). IsPermutation z []) (sym e) (permutation-from_members [] [] refl refl (λ z. refl));
    first = sym (ap (first_or 0) e);
    kept = λ b mb mp.
        let w = edge-there b v mb mp in
        absurd (both_ways (is_member w.0 []) refl (subst (λ (z : List ℕ). is_member w.0 z ≡ true) e (edge-around v w.0 mv (edge-in g s c is w.0 w.3).0 w.2)));
    apart = λ w x y z f p q. absurd (both_ways (is_member w []) refl (cyclic.around-member [] (w ∷ x ∷ y ∷ z ∷ []) w f (member-head w (x ∷ y ∷ z ∷ []))));
  }
  right-one v (d ∷ ds) mv n e = record {
    all = all;
    first = first-same o (edges_around k v) (λ z. permutation-member (edges_around k v) o z all) (order-least b mb v) (λ z m. first-least (edges_around k v) z (around-rise v) m);
    kept = λ a ma mp.
        let w = edge-there a v ma mp in
        let at : block_with k w.0 ≡ a = eqb-true (block_with k w.0) a (of-block a ma w.0 w.3 ∙ w.1) in
        let q : b ≡ a = one-block v d w.0 mv n here (edge-around v w.0 mv (edge-in g s c is w.0 w.3).0 w.2) ∙ at in
        ap from_least (filter-all (λ z. is_member z (block a).part.edges) o (λ z m.
        subst (λ (t : List ℕ). is_member z t ≡ true) (sym (part-of a ma).edges_are) (subst (λ (t : ℕ). is_member z (block_at s.blocks t) ≡ true) q (order-member b mb v z m).0)))
        ∙ (order-written b mb v ∙ ap (block_order block v) q);
    apart = λ w x y z f p q.
        let l = w ∷ x ∷ y ∷ z ∷ [] in
        let mw : is_member w o ≡ true = cyclic.around-member o l w f (member-head w (x ∷ y ∷ z ∷ [])) in
        let mx : is_member x o ≡ true = cyclic.around-member o l x f (member-tail x w (x ∷ y ∷ z ∷ []) (member-head x (y ∷ z ∷ []))) in
        edges-same g s c is ok b w x (block-in g s c is b mb).0 (order-member b mb v w mw).0 (order-member b mb v x mx).0;
  }
    where
      here : is_member d (edges_around k v) ≡ true
      here = subst (λ (z : List ℕ). is_member d z ≡ true) (sym e) (member-head d ds)

      b : ℕ
      b = block_with k d

      mb : is_member (block_with k d) k.blocks ≡ true
      mb = with-in d (around-edge v d mv here).0

      o : List ℕ
      o = block_order block v (block_with k d)

      all : IsPermutation (edges_around k v) (block_order block v (block_with k d))
      all = permutation-from_members (edges_around k v) o (around-distinct v) (order-distinct b mb v) (λ z. same-tests (is_member z (edges_around k v)) (is_member z o)
          (λ m. let w = around-edge v z mv m in member-order b mb v z (sym (of-block b mb z w.0) ∙ eq-eqb (block_with k z) b (one-block v z d mv n m here)) w.1)
          (λ m. let w = order-member b mb v z m in edge-around v z mv (is.blocks.edges b z (block-in g s c is b mb).0 w.0) w.1))

  module _ (lists : List (List ℕ)) (are : AreArranged k block lists) where
    -- the arrangement at a cut vertex
    pub cut-arranged : (v : ℕ) → is_member v k.cuts ≡ true → IsArrangement (block_with k) (block_order block v) (edges_around k v) (slice_index_or lists (place_of k.cuts v) [])
    cut-arranged v m =
        let i = place_of k.cuts v in
        let w : Contains (arrangements_around k block v) (slice_index_or lists i []) = subst (λ (z : ℕ). Contains (arrangements_around k block z) (slice_index_or lists i [])) (place-holds k.cuts v m) (are.each i (place-below k.cuts v m)) in
        ((arrangements_are_listed (block_with k) (block_order block v) (edges_around k v) (orders-around v (cut-in g s c is v m))).exactly (slice_index_or lists i [])).0 w

    -- around each vertex the component has such an order
    pub order-right : (v : ℕ) → is_member v V ≡ true → IsRight v (order_around k block lists v)
    order-right v mv = elim (cases_Bool (is_member v k.cuts)) [
      | inl t ↦ subst (IsRight v) (sym (cond-true (is_member v k.cuts) (slice_index_or lists (place_of k.cuts v) []) (first_order k block v (edges_around k v)) t)) (right-cut v (slice_index_or lists (place_of k.cuts v) []) mv (cut-arranged v t))
      | inr f ↦ subst (IsRight v) (sym (cond-false (is_member v k.cuts) (slice_index_or lists (place_of k.cuts v) []) (first_order k block v (edges_around k v)) f)) (right-one v (edges_around k v) mv f refl)
    ]
