-- The tree that hangs from the node with edge 0: the nodes below a node, and the ways up to it.
use Rattle.std.proofs.Common.{◌≡◌, ◌≢◌, ℕ, zero, suc, ◌<◌, ◌⊎◌, ◌==◌, ◌||◌, inl, inr, true, false, not, List, length, refl, sym, ap, ◌∙◌, subst, arith, eq-eqb, eqb-true}
use Rattle.std.proofs.lemmas.Bool.{cases_Bool, cases_eq, both_ways, or_cases, or_left}
use Rattle.multigraph.specs.Graph.{Multigraph, edge_count, IsWithinLimits}
use Rattle.pair_split.specs.Split.{is_beyond, side, LinksTo, AreLinked, IsSplit}
use Rattle.pair_split.specs.Tutte.{Node, components, node_at, node_item, group, IsTutte}
use Rattle.pair_split.specs.declared.components.Comp.{Comp}
use Rattle.pair_split.specs.declared.components.What.TheVariants.{Real, Link}
use Rattle.pair_split.proofs.Groups.{what-cases, side-at}
use Rattle.pair_split.proofs.TreeSides.{beyond-other, beyond-near, beyond-along, beyond-apart}
use Rattle.skeletons.specs.Items.{ends_item, IsBlockTree}
use Rattle.skeletons.proofs.NodeItems.{comp-in, stands-of}
use Rattle.skeletons.proofs.Towards.{side-group, group-side, far-item}
use Rattle.skel_compose.specs.Homes.{IsHome}
use Rattle.spqr_tree.proofs.UpLinks.{first-in, first-edge, edge-once, link-once, link-within}
use Rattle.skel_decompose.proofs.FirstParents.{root, root-in, root-first, towards}

-- node c is not beyond the first item of node j: it is j, or below it
abbrev pub IsBelow : List Node → ℕ → ℕ → Type 0
IsBelow nodes j c = (h : ℕ) → (node_item nodes j 0).what ≡ Link h → is_beyond (components nodes) j h c ≡ false

no-both : (e h : ℕ) → Real e ≡ Link h → ⊥
no-both e h q = absurd (cc)

pub link-same : (x y : ℕ) → Link x ≡ Link y → x ≡ y
link-same x y q = grind (arith, q)

module _ (g : Multigraph) (nodes : List Node) (b : IsBlockTree g nodes) (small : IsWithinLimits g) (rank : ℕ → ℕ)
    (falls : (k p : ℕ) → k < length nodes → (node_item nodes k 0).what ≡ Link p → rank p < rank k) where
  abbrev comps : List Comp
  comps = components nodes

  abbrev t : IsTutte g nodes
  t = b.tree

  abbrev split : IsSplit g comps
  split = t.split

  abbrev linked : AreLinked comps
  linked = split.linked

  pub first : (k : ℕ) → k < length nodes → 0 < length (node_at nodes k).items
  first k l = first-in g nodes t b.block.has_edge k l

  pub up-link : (k p : ℕ) → k < length nodes → (node_item nodes k 0).what ≡ Link p → LinksTo comps k p
  up-link k p l w = (0, stands-of g nodes t k 0 (Link p) (first k l) w)

  pub parent-in : (k p : ℕ) → k < length nodes → (node_item nodes k 0).what ≡ Link p → p < length nodes
  parent-in k p l w = link-within g nodes t b.block.has_edge k p (up-link k p l w)

  -- only the root is below no link, and it is below itself alone
  alone : (j c e : ℕ) → j < length nodes → c < length nodes → (node_item nodes c 0).what ≡ Real e → IsBelow nodes j c → j ≡ c
  alone j c e lj lc w below = elim (what-cases (node_item nodes j 0).what) [
    | inl r ↦ (edge-once g nodes t b.block.has_edge j 0 c 0 0 (first j lj) (first c lc) (zero-edge j r.0 lj r.1) (zero-edge c e lc w)).0
    | inr r ↦
        let same : root g nodes b small ≡ c = (edge-once g nodes t b.block.has_edge (root g nodes b small) 0 c 0 0 (first (root g nodes b small) (root-in g nodes b small)) (first c lc) (root-first g nodes b small) (zero-edge c e lc w)).0 in
        absurd (both_ways (is_beyond comps j r.0 c) (below r.0 r.1) (subst (λ z. is_beyond comps j r.0 z ≡ true) same (towards g nodes b small j lj r.0 r.1).1))
  ]
    where
      zero-edge : (k x : ℕ) → k < length nodes → (node_item nodes k 0).what ≡ Real x → (node_item nodes k 0).what ≡ Real 0
      zero-edge k x l y = y ∙ ap Real (first-edge g nodes t b.block.has_edge k x l y)

  -- what is below j but j itself has its parent below j
  pub parent-below : (j c q : ℕ) → c < length nodes → (node_item nodes c 0).what ≡ Link q → IsBelow nodes j c → j ≢ c → j < length nodes → IsBelow nodes j q
  parent-below j c q lc w below n lj h v = elim (cases_eq q j) [
    | inl e ↦ subst (λ z. is_beyond comps j h z ≡ false) (sym e) (beyond-near comps linked j h (up-link j h lj v))
    | inr o ↦ sym (beyond-along comps linked j h c q (up-link c q lc w) (λ z. n (sym z)) o) ∙ below h v
  ]

  -- a node is below itself
  pub below-self : (k : ℕ) → k < length nodes → IsBelow nodes k k
  below-self k l h w = beyond-near comps linked k h (up-link k h l w)

  -- what is below j is j or has a higher rank
  rank-below : (fuel j c : ℕ) → rank c < fuel → j < length nodes → c < length nodes → IsBelow nodes j c → j ≢ c → rank j < rank c
  rank-below zero j c m lj lc below n = absurd (omega (arith, m))
  rank-below (suc fuel) j c m lj lc below n = elim (what-cases (node_item nodes c 0).what) [
    | inl r ↦ absurd (n (alone j c r.0 lj lc r.1 below))
    | inr r ↦
        let less : rank r.0 < rank c = falls c r.0 lc r.1 in
        elim (cases_eq j r.0) [
          | inl e ↦ subst (λ z. rank z < rank c) (sym e) less
          | inr o ↦ omega (arith, less, rank-below fuel j r.0 (omega (arith, m, less)) lj (parent-in c r.0 lc r.1) (parent-below j c r.0 lc r.1 below n lj) o)
        ]
  ]

  pub below-rank : (j c : ℕ) → j < length nodes → c < length nodes → IsBelow nodes j c → j ≢ c → rank j < rank c
  below-rank j c lj lc below n = rank-below (suc (rank c)) j c (omega arith) lj lc below n

  -- of two nodes that c is below, that of the higher rank is below the other
  chained : (fuel j k c : ℕ) → rank c < fuel → j < length nodes → k < length nodes → c < length nodes → IsBelow nodes j c → IsBelow nodes k c → rank j < rank k → IsBelow nodes j k
  chained zero j k c m lj lk lc x y less = absurd (omega (arith, m))
  chained (suc fuel) j k c m lj lk lc x y less = elim (cases_eq k c) [
    | inl e ↦ subst (IsBelow nodes j) (sym e) x
    | inr n ↦ elim (what-cases (node_item nodes c 0).what) [
      | inl r ↦ absurd (n (alone k c r.0 lk lc r.1 y))
      | inr r ↦
          let apart : j ≢ c = λ e. omega (arith, less, below-rank k c lk lc y n, ap rank e) in
          chained fuel j k r.0 (omega (arith, m, falls c r.0 lc r.1)) lj lk (parent-in c r.0 lc r.1) (parent-below j c r.0 lc r.1 x apart lj) (parent-below k c r.0 lc r.1 y n lk) less
    ]
  ]

  pub below-chained : (j k c : ℕ) → j < length nodes → k < length nodes → c < length nodes → IsBelow nodes j c → IsBelow nodes k c → rank j < rank k → IsBelow nodes j k
  below-chained j k c lj lk lc x y less = chained (suc (rank c)) j k c (omega arith) lj lk lc x y less

  -- all that is below k is beyond the same link of a node of a lower rank that k is below
  along : (fuel j h k x : ℕ) → rank x < fuel → j < length nodes → k < length nodes → x < length nodes → LinksTo comps j h → rank j < rank k → IsBelow nodes k x → is_beyond comps j h k ≡ is_beyond comps j h x
  along zero j h k x m lj lk lx link less y = absurd (omega (arith, m))
  along (suc fuel) j h k x m lj lk lx link less y = elim (cases_eq k x) [
    | inl e ↦ ap (is_beyond comps j h) e
    | inr n ↦ elim (what-cases (node_item nodes x 0).what) [
      | inl r ↦ absurd (n (alone k x r.0 lk lx r.1 y))
      | inr r ↦
          let above : IsBelow nodes k r.0 = parent-below k x r.0 lx r.1 y n lk in
          let lp : r.0 < length nodes = parent-in x r.0 lx r.1 in
          along fuel j h k r.0 (omega (arith, m, falls x r.0 lx r.1)) lj lk lp link less above
          ∙ sym (beyond-along comps linked j h x r.0 (up-link x r.0 lx r.1)
          (λ e. omega (arith, less, below-rank k x lk lx y n, ap rank e))
          (λ e. elim (cases_eq k r.0) [
            | inl s ↦ omega (arith, less, ap rank s, ap rank e)
            | inr o ↦ omega (arith, less, below-rank k r.0 lk lp above o, ap rank e)
          ]))
    ]
  ]

  pub below-along : (j h k x : ℕ) → j < length nodes → k < length nodes → x < length nodes → LinksTo comps j h → rank j < rank k → IsBelow nodes k x → is_beyond comps j h k ≡ is_beyond comps j h x
  below-along j h k x lj lk lx link less y = along (suc (rank x)) j h k x (omega arith) lj lk lx link less y

  -- an edge that node c has
  module _ (e c x : ℕ) (le : e < edge_count g) (lc : c < length nodes) (home : IsHome nodes c x e) where
    home-side : (k h : ℕ) → side comps k h e ≡ is_beyond comps k h c
    home-side k h = side-at g comps split k h c x e (stands-of g nodes t c x (Real e) home.is_item home.is_edge)

    -- where c is not below k, the edge is beyond the first item, which is a link
    pub below-or-first : (k : ℕ) → k < length nodes → IsBelow nodes k c ⊎ ((q : ℕ) × ((node_item nodes k 0).what ≡ Link q) × (group nodes k e ≡ (node_item nodes k 0).key))
    below-or-first k lk = elim (what-cases (node_item nodes k 0).what) [
      | inl r ↦ inl (λ h w. absurd (no-both r.0 h (sym r.1 ∙ w)))
      | inr r ↦ elim (cases_Bool (is_beyond comps k r.0 c)) [
        | inl y ↦ inr (r.0, r.1, side-group g nodes t k 0 r.0 e lk (first k lk) r.1 le (home-side k r.0 ∙ y))
        | inr f ↦ inl (λ h w. subst (λ z. is_beyond comps k z c ≡ false) (link-same r.0 h (sym r.1 ∙ w)) f)
      ]
    ]

    -- where it is below, the edge is not
    pub below-apart : (k q : ℕ) → k < length nodes → IsBelow nodes k c → (node_item nodes k 0).what ≡ Link q → group nodes k e ≢ (node_item nodes k 0).key
    below-apart k q lk below w s = both_ways (is_beyond comps k q c) (below q w) (sym (home-side k q) ∙ group-side g nodes t k 0 q e lk (first k lk) w le s)

    -- and beyond the link to k from its parent, which c is below, too
    module _ (k q i : ℕ) (lk : k < length nodes) (below : IsBelow nodes k c) (w : (node_item nodes k 0).what ≡ Link q) (li : i < length (node_at nodes q).items) (y : (node_item nodes q i).what ≡ Link k) where
      down : LinksTo comps q k
      down = (i, stands-of g nodes t q i (Link k) li y)

      beyond : is_beyond comps q k c ≡ true
      beyond = beyond-other comps linked q k c down (comp-in g nodes t c lc) ∙ ap not (below q w)

      pub up-group : group nodes q e ≡ (node_item nodes q i).key
      up-group = side-group g nodes t q i k e (parent-in k q lk w) li y le (home-side q k ∙ beyond)

      pub up-below : IsBelow nodes q c
      up-below h z = beyond-apart comps linked q k h c down (up-link q h (parent-in k q lk w) z)
          (λ s. omega (arith, falls k q lk w, falls q k (parent-in k q lk w) (z ∙ ap Link (sym s)))) beyond

  -- the link to k from its parent has the ends of the first item
  pub up-ends : (k q i v : ℕ) → k < length nodes → (node_item nodes k 0).what ≡ Link q → i < length (node_at nodes q).items → (node_item nodes q i).what ≡ Link k → ends_item v (node_item nodes k 0) ≡ ends_item v (node_item nodes q i)
  up-ends k q i v lk w li y =
      let f = far-item g nodes t k 0 q (first k lk) w in
      f.3 v ∙ ap (λ z. ends_item v (node_item nodes q z)) (link-once g nodes t b.block.has_edge q f.0 i k f.1 li f.2 y)

  -- and the same lesser end
  pub up-lesser : (k q i : ℕ) → k < length nodes → (node_item nodes k 0).what ≡ Link q → i < length (node_at nodes q).items → (node_item nodes q i).what ≡ Link k → (node_item nodes k 0).a ≡ (node_item nodes q i).a
  up-lesser k q i lk w li y = same-lesser (node_item nodes k 0).a (node_item nodes k 0).b (node_item nodes q i).a (node_item nodes q i).b
      (t.in_order.ends_rise k 0 (first k lk)) (t.in_order.ends_rise q i li) (λ v. up-ends k q i v lk w li y)
    where
      same-lesser : (a c x y : ℕ) → a < c → x < y → ((v : ℕ) → ((a == v) || (c == v)) ≡ ((x == v) || (y == v))) → a ≡ x
      same-lesser a c x y l m s =
          let one : (x ≡ a) ⊎ (y ≡ a) = either x y a (sym (s a) ∙ or_left (a == a) (c == a) (eq-eqb a a refl)) in
          let two : (a ≡ x) ⊎ (c ≡ x) = either a c x (s x ∙ or_left (x == x) (y == x) (eq-eqb x x refl)) in
          elim one [
            | inl e ↦ sym e
            | inr e ↦ elim two [
              | inl f ↦ f
              | inr f ↦ absurd (omega (arith, l, m, e, f))
            ]
          ]
        where
          either : (p q v : ℕ) → ((p == v) || (q == v)) ≡ true → (p ≡ v) ⊎ (q ≡ v)
          either p q v h = elim (or_cases (p == v) (q == v) h) [ inl z ↦ inl (eqb-true p v z) | inr z ↦ inr (eqb-true q v z) ]
