-- Climbs from two edges that follow one another around a vertex write at each node in which the two are in different groups.
use Rattle.std.proofs.Common.{◌≡◌, ◌≢◌, ℕ, ◌<◌, ◌≤◌, ◌⊎◌, inl, inr, true, List, length, refl, sym, ap, ◌∙◌, subst, arith, eqb-true}
use Rattle.std.proofs.lemmas.Bool.{cases_eq}
use Rattle.permutations.specs.Cyclic.{successor}
use Rattle.multigraph.specs.Graph.{Multigraph, edge_count, is_end}
use Rattle.multigraph.proofs.OtherEnd.{end-in}
use Rattle.rotations.specs.Rotation.{order_at}
use Rattle.faces.proofs.DartLemmas.{order-distinct, order-member}
use Rattle.pair_split.specs.Tutte.{Node, components, node_at, node_item, has_in_group, group, IsTutte}
use Rattle.pair_split.specs.declared.components.What.TheVariants.{Real, Link}
use Rattle.skeletons.specs.Items.{ends_item, has_vertex}
use Rattle.skeletons.specs.Families.{keys_in}
use Rattle.skeletons.proofs.KeyRuns.{order-successor}
use Rattle.skeletons.proofs.NodeItems.{keys-once, group-item, item-vertex, edge-end}
use Rattle.skeletons.proofs.Towards.{Toward, toward, toward-link, side-group}
use Rattle.pair_split.proofs.Groups.{side-at}
use Rattle.skeletons.proofs.NodeItems.{stands-of}
use Rattle.skel_compose.specs.Homes.{IsHome}
use Rattle.skel_compose.proofs.Walk.{LeadsOn}
use Rattle.skel_compose.specs.Followers.{follower, HasFollower}
use Rattle.skel_decompose.specs.Followers.{IsInRuns, IsFamily, Keeps, IsLastOf, HasLast}
use Rattle.skel_decompose.proofs.Around.{next-edge, home-leads, follows-here}
use Rattle.spqr_tree.proofs.UpLinks.{first-in, link-to, link-within, parent-down}
use Rattle.skel_decompose.specs.Ups.{UpLink, up_at, HaveUps, rank_at, AreRanks}
use Rattle.skel_decompose.proofs.Below.{IsBelow, first, parent-in, parent-below, below-self, below-rank, below-chained, below-along, below-or-first, below-apart, up-group, up-below, up-ends}

-- u is the link to node k from its parent
pub record IsUpOf (nodes : List Node) (k : ℕ) (u : UpLink) : Type 0 where
  pub above : (node_item nodes k 0).what ≡ Link u.node
  pub is_item : u.item < length (node_at nodes u.node).items
  pub is_link : (node_item nodes u.node u.item).what ≡ Link k
  pub lesser : u.lesser ≡ (node_item nodes u.node u.item).a

-- a climb from edge x, which node c has, has come to item i of node k, an item of v
pub record IsClimb (nodes : List Node) (v x c k i : ℕ) : Type 0 where
  pub is_node : k < length nodes
  pub is_item : i < length (node_at nodes k).items
  pub end : ends_item v (node_item nodes k i) ≡ true
  pub own : group nodes k x ≡ (node_item nodes k i).key
  pub below : IsBelow nodes k c

-- what one of the climbs has still to come to
abbrev pub IsLeft : List Node → List ℕ → ℕ → ℕ → ℕ → ℕ → ℕ → Type 0
IsLeft nodes ranks ce cn k m j = (IsBelow nodes j ce × (rank_at ranks j ≤ rank_at ranks k)) ⊎ (IsBelow nodes j cn × (rank_at ranks j ≤ rank_at ranks m))

-- the climbs from edges e and next have come to items i and p of nodes k and m
pub record AreClimbs (nodes : List Node) (ranks : List ℕ) (r : List (List ℕ)) (family : List (List (List ℕ))) (table : List (List ℕ)) (v e next ce cn k i m p : ℕ) : Type 0 where
  pub here : IsClimb nodes v e ce k i
  pub there : IsClimb nodes v next cn m p
  pub passed : (j : ℕ) → j < length nodes → IsBelow nodes j ce → (rank_at ranks j ≤ rank_at ranks k) ⊎ (rank_at ranks m < rank_at ranks j)
  pub passed_there : (j : ℕ) → j < length nodes → IsBelow nodes j cn → (rank_at ranks j ≤ rank_at ranks m) ⊎ (rank_at ranks k < rank_at ranks j)
  pub left : (j h : ℕ) → IsLastOf nodes r v e j h → HasFollower nodes family table j h v ⊎ IsLeft nodes ranks ce cn k m j

module _ (g : Multigraph) (nodes : List Node) (r : List (List ℕ)) (d : IsInRuns g nodes r) where
  abbrev t : IsTutte g nodes
  t = d.block.tree

  -- of a node that is not the root the link from its parent is on the list
  pub up-of : (ups : List UpLink) → HaveUps nodes (length nodes) 1 ups → (k q : ℕ) → k < length nodes → (node_item nodes k 0).what ≡ Link q → IsUpOf nodes k (up_at ups k)
  up-of ups h k q l w =
      let n = parent-down g nodes t d.block.block.has_edge k q l w in
      let lq : q < length nodes = link-within g nodes t d.block.block.has_edge k q (link-to g nodes t d.block.block.has_edge k 0 q (first-in g nodes t d.block.block.has_edge k l) w) in
      subst (IsUpOf nodes k) (sym (h.before q n.0 k lq n.1 n.2)) (record { above = w; is_item = n.1; is_link = n.2; lesser = refl })

  module _ (ranks : List ℕ) (a : AreRanks nodes ranks) (family : List (List (List ℕ))) (f : IsFamily nodes r family)
      (v e next : ℕ) (le : e < edge_count g) (ve : is_end g v e ≡ true) (n : next ≡ successor (order_at r v) e) (ce xe cn xn : ℕ)
      (lce : ce < length nodes) (he : IsHome nodes ce xe e) (lcn : cn < length nodes) (hn : IsHome nodes cn xn next) where
    ln : next < edge_count g
    ln = subst (λ z. z < edge_count g) (sym n) (next-edge g nodes r d v e le ve).1

    vn : is_end g v next ≡ true
    vn = subst (λ z. is_end g v z ≡ true) (sym n) (next-edge g nodes r d v e le ve).2

    -- in different groups, the item of the next edge follows that of e
    follows : (k i p : ℕ) → k < length nodes → i < length (node_at nodes k).items → ends_item v (node_item nodes k i) ≡ true → group nodes k e ≡ (node_item nodes k i).key
        → p < length (node_at nodes k).items → group nodes k next ≡ (node_item nodes k p).key → group nodes k next ≢ group nodes k e → p ≡ follower nodes family k i v
    follows k i p lk li end own lp op apart = follows-here g nodes r d family f v e le ve k i p leads lp (sym op ∙ ap (group nodes k) n)
      where
        lv : v < g.vertex_count
        lv = end-in g v e d.block.graph le ve

        has : has_vertex nodes k v ≡ true
        has = item-vertex g nodes t k v i lk li end

        differ : group nodes k (successor (order_at r v) e) ≡ successor (keys_in nodes family k v) (group nodes k e)
        differ = order-successor (group nodes k) (order_at r v) (keys_in nodes family k v) e (order-distinct g r v d.system lv) (f.follows k v has) (order-member g r v e d.system lv le ve)
            (λ q. apart (ap (group nodes k) n ∙ q))

        leads : LeadsOn nodes family v e (successor (order_at r v) e) k i
        leads = record {
          is_node = lk;
          is_item = li;
          end = end;
          own = own;
          behind = ap (successor (keys_in nodes family k v)) (sym own) ∙ sym differ;
          apart = λ q. absurd (apart (ap (group nodes k) n ∙ q ∙ sym own));
        }

    -- an edge of v in the group of an item is in that of an item of v
    at-end : (k i x : ℕ) → k < length nodes → has_vertex nodes k v ≡ true → i < length (node_at nodes k).items → x < edge_count g → is_end g v x ≡ true → group nodes k x ≡ (node_item nodes k i).key → ends_item v (node_item nodes k i) ≡ true
    at-end k i x lk has li lx vx own = edge-end g nodes t k v i x has li lx vx (group-item g nodes t k i x lk li lx own)

    -- e and the next edge are in different groups where something is to be written, unless they are one
    apart : e ≢ next → (j h : ℕ) → IsLastOf nodes r v e j h → group nodes j e ≡ group nodes j next → ⊥
    apart other j h last q =
        let own : group nodes j next ≡ (node_item nodes j h).key = sym q ∙ last.own in
        let w : (node_item nodes j h).what ≡ Real e = last.apart (ap (group nodes j) (sym n) ∙ own) in
        other (eqb-true e next (sym (ap (has_in_group (components nodes) j next) w) ∙ group-item g nodes t j h next last.place.is_node last.place.is_item ln own))

    -- in a node of a lower rank than k below which k is, all edges that nodes below k have are in one group
    same-group : (j k x c y : ℕ) → j < length nodes → k < length nodes → IsBelow nodes j k → rank_at ranks j < rank_at ranks k → (w : Toward g nodes t j k) → x < edge_count g → c < length nodes → IsHome nodes c y x → IsBelow nodes k c → group nodes j x ≡ (node_item nodes j w.place).key
    same-group j k x c y lj lk jk less w lx lc home below = side-group g nodes t j w.place w.next x lj w.is_item w.is_link lx
        (side-at g (components nodes) t.split j w.next c y x (stands-of g nodes t c y (Real x) home.is_item home.is_edge)
        ∙ sym (below-along g nodes d.block d.limits (rank_at ranks) a.falls j w.next k c lj lk lc (toward-link g nodes t j k w) less below) ∙ w.beyond)

    -- the climbs start where the edges are
    pub starts : e ≢ next → (table : List (List ℕ)) → AreClimbs nodes ranks r family table v e next ce cn ce xe cn xn
    starts other table =
        let one = home-leads g nodes r d family f v e le ve ce xe lce he.is_item he.is_edge in
        let two = home-leads g nodes r d family f v next ln vn cn xn lcn hn.is_item hn.is_edge in
        record {
          here = record { is_node = lce; is_item = he.is_item; end = one.end; own = one.own; below = below-self g nodes d.block d.limits (rank_at ranks) a.falls ce lce };
          there = record { is_node = lcn; is_item = hn.is_item; end = two.end; own = two.own; below = below-self g nodes d.block d.limits (rank_at ranks) a.falls cn lcn };
          passed = λ j l y. inl (low j ce l lce y);
          passed_there = λ j l y. inl (low j cn l lcn y);
          left = λ j h last. inr (elim (below-or-first g nodes d.block d.limits (rank_at ranks) a.falls e ce xe le lce he j last.place.is_node) [
            | inl y ↦ inl (y, low j ce last.place.is_node lce y)
            | inr p ↦ elim (below-or-first g nodes d.block d.limits (rank_at ranks) a.falls next cn xn ln lcn hn j last.place.is_node) [
              | inl y ↦ inr (y, low j cn last.place.is_node lcn y)
              | inr q ↦ absurd (apart other j h last (p.2 ∙ sym q.2))
            ]
          ]);
        }
      where
        low : (j c : ℕ) → j < length nodes → c < length nodes → IsBelow nodes j c → rank_at ranks j ≤ rank_at ranks c
        low j c lj lc y = elim (cases_eq j c) [
          | inl q ↦ omega (arith, ap (rank_at ranks) q)
          | inr o ↦ omega (arith, below-rank g nodes d.block d.limits (rank_at ranks) a.falls j c lj lc y o)
        ]

    module _ (table : List (List ℕ)) (k i m p : ℕ) (s : AreClimbs nodes ranks r family table v e next ce cn k i m p) where
      -- one step up from node k or m to its parent q, of what is below
      up-passed : (c x q j : ℕ) → c < length nodes → x < length nodes → j < length nodes → (node_item nodes x 0).what ≡ Link q → IsBelow nodes x c → IsBelow nodes j c → rank_at ranks j ≤ rank_at ranks x → (j ≡ x) ⊎ (rank_at ranks j ≤ rank_at ranks q)
      up-passed c x q j lc lx lj w y z low = elim (cases_eq j x) [
        | inl e ↦ inl e
        | inr o ↦
            let less : rank_at ranks j < rank_at ranks x = elim (cases_eq (rank_at ranks j) (rank_at ranks x)) [ inl u ↦ absurd (o (a.once j x lj lx u)) | inr u ↦ omega (arith, low, u) ] in
            let under : IsBelow nodes j x = below-chained g nodes d.block d.limits (rank_at ranks) a.falls j x c lj lx lc z y less in
            inr (elim (cases_eq j q) [
              | inl u ↦ omega (arith, ap (rank_at ranks) u)
              | inr u ↦ omega (arith, below-rank g nodes d.block d.limits (rank_at ranks) a.falls j q lj (parent-in g nodes d.block d.limits (rank_at ranks) a.falls x q lx w) (parent-below g nodes d.block d.limits (rank_at ranks) a.falls j x q lx w under o lj) u)
            ])
      ]

      module _ (less : rank_at ranks m < rank_at ranks k) where
        -- the next edge is beyond the first item of k
        pub up : (q : ℕ) × ((node_item nodes k 0).what ≡ Link q) × (group nodes k next ≡ (node_item nodes k 0).key)
        up = elim (below-or-first g nodes d.block d.limits (rank_at ranks) a.falls next cn xn ln lcn hn k s.here.is_node) [
          | inr w ↦ w
          | inl y ↦ elim (s.passed_there k s.here.is_node y) [ inl l ↦ absurd (omega (arith, l, less)) | inr l ↦ absurd (omega (arith, l)) ]
        ]

        -- which follows that of e
        pub up-follows : 0 ≡ follower nodes family k i v
        up-follows = follows k i 0 s.here.is_node s.here.is_item s.here.end s.here.own (first g nodes d.block d.limits (rank_at ranks) a.falls k s.here.is_node) up.2
            (λ z. below-apart g nodes d.block d.limits (rank_at ranks) a.falls e ce xe le lce he k up.0 s.here.is_node s.here.below up.1 (sym z ∙ up.2))

        module _ (u : UpLink) (w : IsUpOf nodes k u) (new : List (List ℕ)) (keeps : Keeps nodes family table new) (has : HasFollower nodes family new k i v) where
          pub up-climbs : AreClimbs nodes ranks r family new v e next ce cn u.node u.item m p
          up-climbs = record {
            here = record {
              is_node = parent-in g nodes d.block d.limits (rank_at ranks) a.falls k u.node s.here.is_node w.above;
              is_item = w.is_item;
              end = sym (up-ends g nodes d.block d.limits (rank_at ranks) a.falls k u.node u.item v s.here.is_node w.above w.is_item w.is_link)
                  ∙ at-end k 0 next s.here.is_node (item-vertex g nodes t k v i s.here.is_node s.here.is_item s.here.end) (first g nodes d.block d.limits (rank_at ranks) a.falls k s.here.is_node) ln vn up.2;
              own = up-group g nodes d.block d.limits (rank_at ranks) a.falls e ce xe le lce he k u.node u.item s.here.is_node s.here.below w.above w.is_item w.is_link;
              below = up-below g nodes d.block d.limits (rank_at ranks) a.falls e ce xe le lce he k u.node u.item s.here.is_node s.here.below w.above w.is_item w.is_link;
            };
            there = s.there;
            passed = λ j l y. elim (s.passed j l y) [
              | inr z ↦ inr z
              | inl z ↦ elim (up-passed ce k u.node j lce s.here.is_node l w.above s.here.below y z) [
                | inl q ↦ inr (subst (λ x. rank_at ranks m < rank_at ranks x) (sym q) less)
                | inr q ↦ inl q
              ]
            ];
            passed_there = λ j l y. elim (s.passed_there j l y) [
              | inl z ↦ inl z
              | inr z ↦ inr (omega (arith, z, a.falls k u.node s.here.is_node w.above))
            ];
            left = λ j h last. elim (s.left j h last) [
              | inl y ↦ inl (keeps j h v last.place y)
              | inr y ↦ elim y [
                | inr z ↦ inr (inr z)
                | inl z ↦ elim (up-passed ce k u.node j lce s.here.is_node last.place.is_node w.above s.here.below z.0 z.1) [
                  | inr q ↦ inr (inl (z.0, q))
                  | inl q ↦ inl (written j h last q)
                ]
              ]
            ];
          }
            where
              written : (j h : ℕ) → IsLastOf nodes r v e j h → j ≡ k → HasFollower nodes family new j h v
              written j h last q = subst (λ z. HasFollower nodes family new z h v) (sym q) (subst (λ z. HasFollower nodes family new k z v)
                  (keys-once g nodes t k i h s.here.is_item (subst (λ z. h < length (node_at nodes z).items) q last.place.is_item)
                  (sym s.here.own ∙ subst (λ z. group nodes z e ≡ (node_item nodes z h).key) q last.own)) has)

      module _ (less : rank_at ranks k < rank_at ranks m) where
        -- e is beyond the first item of m
        pub up-there : (q : ℕ) × ((node_item nodes m 0).what ≡ Link q) × (group nodes m e ≡ (node_item nodes m 0).key)
        up-there = elim (below-or-first g nodes d.block d.limits (rank_at ranks) a.falls e ce xe le lce he m s.there.is_node) [
          | inr w ↦ w
          | inl y ↦ elim (s.passed m s.there.is_node y) [ inl l ↦ absurd (omega (arith, l, less)) | inr l ↦ absurd (omega (arith, l)) ]
        ]

        pub there-end : ends_item v (node_item nodes m 0) ≡ true
        there-end = at-end m 0 e s.there.is_node (item-vertex g nodes t m v p s.there.is_node s.there.is_item s.there.end) (first g nodes d.block d.limits (rank_at ranks) a.falls m s.there.is_node) le ve up-there.2

        -- which the item of the next edge follows
        pub there-follows : p ≡ follower nodes family m 0 v
        there-follows = follows m 0 p s.there.is_node (first g nodes d.block d.limits (rank_at ranks) a.falls m s.there.is_node) there-end up-there.2 s.there.is_item s.there.own
            (λ z. below-apart g nodes d.block d.limits (rank_at ranks) a.falls next cn xn ln lcn hn m up-there.0 s.there.is_node s.there.below up-there.1 (z ∙ up-there.2))

        module _ (u : UpLink) (w : IsUpOf nodes m u) (new : List (List ℕ)) (keeps : Keeps nodes family table new) (has : HasFollower nodes family new m 0 v) where
          pub there-climbs : AreClimbs nodes ranks r family new v e next ce cn k i u.node u.item
          there-climbs = record {
            here = s.here;
            there = record {
              is_node = parent-in g nodes d.block d.limits (rank_at ranks) a.falls m u.node s.there.is_node w.above;
              is_item = w.is_item;
              end = sym (up-ends g nodes d.block d.limits (rank_at ranks) a.falls m u.node u.item v s.there.is_node w.above w.is_item w.is_link) ∙ there-end;
              own = up-group g nodes d.block d.limits (rank_at ranks) a.falls next cn xn ln lcn hn m u.node u.item s.there.is_node s.there.below w.above w.is_item w.is_link;
              below = up-below g nodes d.block d.limits (rank_at ranks) a.falls next cn xn ln lcn hn m u.node u.item s.there.is_node s.there.below w.above w.is_item w.is_link;
            };
            passed = λ j l y. elim (s.passed j l y) [
              | inl z ↦ inl z
              | inr z ↦ inr (omega (arith, z, a.falls m u.node s.there.is_node w.above))
            ];
            passed_there = λ j l y. elim (s.passed_there j l y) [
              | inr z ↦ inr z
              | inl z ↦ elim (up-passed cn m u.node j lcn s.there.is_node l w.above s.there.below y z) [
                | inl q ↦ inr (subst (λ x. rank_at ranks k < rank_at ranks x) (sym q) less)
                | inr q ↦ inl q
              ]
            ];
            left = λ j h last. elim (s.left j h last) [
              | inl y ↦ inl (keeps j h v last.place y)
              | inr y ↦ elim y [
                | inl z ↦ inr (inl z)
                | inr z ↦ elim (up-passed cn m u.node j lcn s.there.is_node last.place.is_node w.above s.there.below z.0 z.1) [
                  | inr q ↦ inr (inr (z.0, q))
                  | inl q ↦ inl (written j h last q)
                ]
              ]
            ];
          }
            where
              written : (j h : ℕ) → IsLastOf nodes r v e j h → j ≡ m → HasFollower nodes family new j h v
              written j h last q = subst (λ z. HasFollower nodes family new z h v) (sym q) (subst (λ z. HasFollower nodes family new m z v)
                  (keys-once g nodes t m 0 h (first g nodes d.block d.limits (rank_at ranks) a.falls m s.there.is_node) (subst (λ z. h < length (node_at nodes z).items) q last.place.is_item)
                  (sym up-there.2 ∙ subst (λ z. group nodes z e ≡ (node_item nodes z h).key) q last.own)) has)

      -- where both are at one node, nothing is left but that node
      module _ (other : e ≢ next) (met : k ≡ m) where
        there-below : IsBelow nodes k cn
        there-below = subst (λ z. IsBelow nodes z cn) (sym met) s.there.below

        no-more : (j h : ℕ) → IsLastOf nodes r v e j h → j ≢ k → IsLeft nodes ranks ce cn k m j → ⊥
        no-more j h last o y = elim y [
          | inl z ↦ none ce lce z.0 s.here.below z.1
          | inr z ↦ none cn lcn z.0 there-below (subst (λ x. rank_at ranks j ≤ rank_at ranks x) (sym met) z.1)
        ]
          where
            none : (c : ℕ) → c < length nodes → IsBelow nodes j c → IsBelow nodes k c → rank_at ranks j ≤ rank_at ranks k → ⊥
            none c lc y z low =
                let lj : j < length nodes = last.place.is_node in
                let lk : k < length nodes = s.here.is_node in
                let less : rank_at ranks j < rank_at ranks k = elim (cases_eq (rank_at ranks j) (rank_at ranks k)) [ inl u ↦ absurd (o (a.once j k lj lk u)) | inr u ↦ omega (arith, low, u) ] in
                let under : IsBelow nodes j k = below-chained g nodes d.block d.limits (rank_at ranks) a.falls j k c lj lk lc y z less in
                let w : Toward g nodes t j k = toward g nodes t j k lj lk (λ u. o (sym u)) in
                apart other j h last (same-group j k e ce xe lj lk under less w le lce he s.here.below ∙ sym (same-group j k next cn xn lj lk under less w ln lcn hn there-below))

        own-there : group nodes k next ≡ (node_item nodes k p).key
        own-there = subst (λ z. group nodes z next ≡ (node_item nodes z p).key) (sym met) s.there.own

        lp : p < length (node_at nodes k).items
        lp = subst (λ z. p < length (node_at nodes z).items) (sym met) s.there.is_item

        -- where the items differ, that of the next edge follows that of e
        pub met-follows : i ≢ p → p ≡ follower nodes family k i v
        met-follows o = follows k i p s.here.is_node s.here.is_item s.here.end s.here.own lp own-there
            (λ z. o (keys-once g nodes t k i p s.here.is_item lp (sym s.here.own ∙ sym z ∙ own-there)))

        pub met-last : (new : List (List ℕ)) → Keeps nodes family table new → HasFollower nodes family new k i v → HasLast nodes r family new v e
        met-last new keeps has j h last = elim (s.left j h last) [
          | inl y ↦ keeps j h v last.place y
          | inr y ↦ elim (cases_eq j k) [
            | inr o ↦ absurd (no-more j h last o y)
            | inl q ↦ subst (λ z. HasFollower nodes family new z h v) (sym q) (subst (λ z. HasFollower nodes family new k z v)
                (keys-once g nodes t k i h s.here.is_item (subst (λ z. h < length (node_at nodes z).items) q last.place.is_item)
                (sym s.here.own ∙ subst (λ z. group nodes z e ≡ (node_item nodes z h).key) q last.own)) has)
          ]
        ]

        -- where they are one, nothing is left
        pub met-none : i ≡ p → HasLast nodes r family table v e
        met-none q j h last = elim (s.left j h last) [
          | inl y ↦ y
          | inr y ↦ elim (cases_eq j k) [
            | inr o ↦ absurd (no-more j h last o y)
            | inl z ↦ absurd (apart other j h last (ap (λ x. group nodes x e) z ∙ s.here.own ∙ ap (λ x. (node_item nodes k x).key) q ∙ sym own-there ∙ sym (ap (λ x. group nodes x next) z)))
          ]
        ]

    -- an edge that follows itself
    module _ (same : e ≡ next) where
      pub alone-follows : xe ≡ follower nodes family ce xe v
      alone-follows =
          let one = home-leads g nodes r d family f v e le ve ce xe lce he.is_item he.is_edge in
          follows-here g nodes r d family f v e le ve ce xe xe one he.is_item (sym one.own ∙ ap (group nodes ce) (same ∙ n))

      pub alone-last : (new : List (List ℕ)) → HasFollower nodes family new ce xe v → HasLast nodes r family new v e
      alone-last new has j h last =
          let w : (node_item nodes j h).what ≡ Real e = last.apart (ap (group nodes j) (sym (same ∙ n)) ∙ last.own) in
          let q = t.split.covers.once e ce xe j h (stands-of g nodes t ce xe (Real e) he.is_item he.is_edge) (stands-of g nodes t j h (Real e) last.place.is_item w) in
          subst (λ z. HasFollower nodes family new z h v) q.0 (subst (λ z. HasFollower nodes family new ce z v) q.1 has)
