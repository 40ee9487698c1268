-- All links of the tree of a block, as pairs of edges that can be glued one after the other: each node but the root with its
-- parent.
use Rattle.std.proofs.Common.{◌≡◌, ◌≢◌, ℕ, zero, suc, ◌*◌, ◌/◌, ◌<◌, ◌≤◌, ◌⊎◌, Bool, true, false, List, [], ◌∷◌, length, inl, inr, refl, sym, ap, ap₂, ◌∙◌, subst, arith, All}
use Rattle.std.proofs.lemmas.Bool.{cases_eq, both_ways, or_cases, or_left, or_right, false_from_ne_true}
use Rattle.std.proofs.lemmas.List.Elements.{All-nil, All-cons, All-head, All-tail, All-weaker}
use Rattle.permutations.specs.Relation.{connected}
use Rattle.permutations.proofs.Relation.{connected-apart, connected-symmetric}
use Rattle.multigraph.specs.Graph.{Multigraph, edge_count}
use Rattle.rotations.specs.Rotation.{IsRotationSystem}
use Rattle.dart_maps.specs.Map.{twin}
use Rattle.dart_maps.specs.Order.{one_of_four}
use Rattle.dart_maps.proofs.Darts.{twin-edge, twin-below}
use Rattle.dart_maps.proofs.FourDarts.{four-members, four-cases}
use Rattle.pair_split.specs.Skeleton.{SameEnds}
use Rattle.pair_split.specs.Split.{piece_ends, item_at, is_beyond, LinksTo, StandsFor, IsTree}
use Rattle.pair_split.specs.Tutte.{Node, components, node_at, node_item, piece_of}
use Rattle.pair_split.specs.declared.components.What.{What}
use Rattle.pair_split.specs.declared.components.What.TheVariants.{Real, Link}
use Rattle.pair_split.proofs.TreeSides.{beyond-far, beyond-near, beyond-along, beyond-neighbour, link-back}
use Rattle.pair_split.proofs.NodeParts.{node-piece}
use Rattle.skeletons.specs.Items.{IsBlockTree}
use Rattle.skeletons.specs.Families.{AreSkeletonSystems}
use Rattle.skeletons.proofs.NodeItems.{node-in, comp-in, stands-of, item-of}
use Rattle.skeleton_planes.proofs.LinkLists.{is_used, part_links, AreLinksOf}
use Rattle.skeleton_planes.proofs.Numbering.{coded, part_of, local_of, united}
use Rattle.skeleton_planes.proofs.Coded.{part-coded, local-coded, coded-twin}
use Rattle.skeleton_planes.proofs.Whole.{stepped, dart-fits, place_in, ends_in, begins_in}
use Rattle.skeleton_planes.proofs.LinkPairs.{link-pair}

-- a link goes to another node by one item
link-one : (x y : ℕ) → Link x ≡ Link y → x ≡ y
link-one x y e = ap far e
  where
    far : What → ℕ
    far (Real n) = 0
    far (Link n) = n

-- the same two ends, each time the lesser one first
same-order : (a b c d : ℕ) → a < b → c < d → SameEnds (a, b) (c, d) → (a ≡ c) × (b ≡ d)
same-order a b c d l m (inl e) = e
same-order a b c d l m (inr e) = absurd (omega (arith, l, m, e.0, e.1))

-- of a pair of darts the first is of an item of one node that is a link to another, the second of the link back
abbrev pub AreOfLink : Multigraph → List Node → ℕ × ℕ → Type 0
AreOfLink g nodes link = (k j i h : ℕ) × (link.0 ≡ coded (edge_count g) k (2 * i)) × (link.1 ≡ coded (edge_count g) j (2 * h))
    × (k < length nodes) × (j < length nodes) × (i < length (node_at nodes k).items) × (h < length (node_at nodes j).items) × ((node_item nodes k i).what ≡ Link j) × ((node_item nodes j h).what ≡ Link k)

-- a rotation system of a block, with the tree of the block and a family
module _ (g : Multigraph) (nodes : List Node) (b : IsBlockTree g nodes) (family : List (List (List ℕ))) (systems : AreSkeletonSystems nodes family) (r : List (List ℕ)) (system : IsRotationSystem g r) where
  -- the tree
  abbrev tree : IsTree (components nodes)
  tree = b.tree.split.linked.tree

  -- the link from one node to the other is that of a child below n, one of them
  abbrev IsBelow : ℕ → ℕ → ℕ → Type 0
  IsBelow n k j = ((k ≢ tree.root) × (tree.parent k ≡ j) × (k < n)) ⊎ ((j ≢ tree.root) × (tree.parent j ≡ k) × (j < n))

  -- the links of the children below n, as pairs of darts
  pub record Built (n : ℕ) : Type 0 where
    pub links : List (ℕ × ℕ)
    pub are : AreLinksOf (edge_count g * length nodes) (united (edge_count g) (stepped nodes family)) (place_in g nodes) (ends_in g nodes r) (begins_in g nodes r) (part_of (edge_count g)) links
    pub only : (k z : ℕ) → k < length nodes → z / 2 < length (node_at nodes k).items → is_used links (coded (edge_count g) k z) ≡ true → (j : ℕ) × ((node_item nodes k (z / 2)).what ≡ Link j) × IsBelow n k j
    pub all : (k i j : ℕ) → k < length nodes → i < length (node_at nodes k).items → (node_item nodes k i).what ≡ Link j → IsBelow n k j → is_used links (coded (edge_count g) k (2 * i)) ≡ true
    pub parents : All (λ link. (c : ℕ) × (c < n) × (c ≢ tree.root) × (part_of (edge_count g) link.0 ≡ c) × (part_of (edge_count g) link.1 ≡ tree.parent c)) links
    pub pairs : All (AreOfLink g nodes) links

  -- a node and its parent
  module _ (n : ℕ) (l : n < length nodes) (no_root : n ≢ tree.root) (s : Built n) where
    -- the node as a component
    ln : n < length (components nodes)
    ln = comp-in g nodes b.tree n l

    -- its parent
    abbrev p : ℕ
    p = tree.parent n

    -- the rank falls
    falls : tree.rank (tree.parent n) < tree.rank n
    falls = tree.rank_falls n ln no_root

    -- the link to it
    up : LinksTo (components nodes) n (tree.parent n)
    up = tree.to_parent n ln no_root

    -- the parent is a node
    lp : tree.parent n < length nodes
    lp = node-in g nodes b.tree p (tree.parent_in n ln no_root)

    -- the item of the link
    mine : (up.0 < length (node_at nodes n).items) × ((node_item nodes n up.0).what ≡ Link (tree.parent n))
    mine = item-of g nodes b.tree n up.0 (Link p) up.1

    -- the link back
    down : (h : ℕ) × StandsFor (components nodes) (tree.parent n) h (Link n) × SameEnds (piece_ends (item_at (components nodes) n up.0)) (piece_ends (item_at (components nodes) (tree.parent n) h))
    down = b.tree.split.linked.back n p up.0 up.1

    -- its item
    theirs : (down.0 < length (node_at nodes (tree.parent n)).items) × ((node_item nodes (tree.parent n) down.0).what ≡ Link n)
    theirs = item-of g nodes b.tree p down.0 (Link n) down.1

    -- the ends are the same
    ends : ((node_item nodes n up.0).a ≡ (node_item nodes (tree.parent n) down.0).a) × ((node_item nodes n up.0).b ≡ (node_item nodes (tree.parent n) down.0).b)
    ends = same-order (node_item nodes n up.0).a (node_item nodes n up.0).b (node_item nodes p down.0).a (node_item nodes p down.0).b (b.tree.in_order.ends_rise n up.0 mine.0) (b.tree.in_order.ends_rise p down.0 theirs.0)
        (subst (λ w. SameEnds (piece_ends w) (piece_ends (piece_of (node_item nodes p down.0)))) (node-piece nodes n up.0 mine.0)
        (subst (λ w. SameEnds (piece_ends (item_at (components nodes) n up.0)) (piece_ends w)) (node-piece nodes p down.0 theirs.0) down.2))

    -- a doubled number halved
    half : (x : ℕ) → (2 * x) / 2 ≡ x
    half x = omega arith

    -- the two darts
    abbrev d : ℕ
    d = coded (edge_count g) n (2 * up.0)

    -- the second
    abbrev e : ℕ
    e = coded (edge_count g) (tree.parent n) (2 * down.0)

    -- both have room
    fits-d : 2 * up.0 < 2 * edge_count g
    fits-d = dart-fits g nodes b family systems n (2 * up.0) l (subst (λ x. x < length (node_at nodes n).items) (sym (half up.0)) mine.0)

    -- the second
    fits-e : 2 * down.0 < 2 * edge_count g
    fits-e = dart-fits g nodes b family systems p (2 * down.0) lp (subst (λ x. x < length (node_at nodes p).items) (sym (half down.0)) theirs.0)

    -- a node is not the child of its child
    no-circle : tree.parent n ≢ tree.root → tree.parent (tree.parent n) ≡ n → ⊥
    no-circle q o = less (tree.rank n) (tree.rank p) falls (subst (λ x. tree.rank x < tree.rank p) o (tree.rank_falls p (tree.parent_in n ln no_root) q))
      where
        less : (x y : ℕ) → y < x → x < y → ⊥
        less x y i j = omega (arith, i, j)

    -- a number is not less than itself
    not-less : (x y : ℕ) → x ≡ y → y < x → ⊥
    not-less x y q i = omega (arith, q, i)

    -- the dart of the node isn't used yet
    fresh-d : is_used s.links (coded (edge_count g) n (2 * up.0)) ≡ false
    fresh-d = false_from_ne_true (is_used s.links d) (λ t. let w = s.only n (2 * up.0) l (subst (λ x. x < length (node_at nodes n).items) (sym (half up.0)) mine.0) t in
        let same : w.0 ≡ p = link-one w.0 p (sym w.1 ∙ ap (λ x. (node_item nodes n x).what) (half up.0) ∙ mine.1) in elim w.2 [
          | inl i ↦ not-less n n refl i.2
          | inr i ↦ no-circle (λ q. i.0 (same ∙ q)) (ap tree.parent (sym same) ∙ i.1)
        ])

    -- nor is that of the parent
    fresh-e : is_used s.links (coded (edge_count g) (tree.parent n) (2 * down.0)) ≡ false
    fresh-e = false_from_ne_true (is_used s.links e) (λ t. let w = s.only p (2 * down.0) lp (subst (λ x. x < length (node_at nodes p).items) (sym (half down.0)) theirs.0) t in
        let same : w.0 ≡ n = link-one w.0 n (sym w.1 ∙ ap (λ x. (node_item nodes p x).what) (half down.0) ∙ theirs.1) in elim w.2 [
          | inl i ↦ no-circle i.0 (i.1 ∙ same)
          | inr i ↦ not-less n w.0 (sym same) i.2
        ])

    -- the links so far don't join the two
    abbrev beyond : ℕ → Bool
    beyond x = is_beyond (components nodes) n (tree.parent n) x

    -- they keep what is beyond the link
    along : (c : ℕ) → c < n → c ≢ tree.root → beyond c ≡ beyond (tree.parent c)
    along c i q = elim (cases_eq (tree.parent c) n) [
      | inl o ↦ beyond-neighbour (components nodes) b.tree.split.linked n c p (link-back (components nodes) b.tree.split.linked c n (subst (LinksTo (components nodes) c) o child)) up
          (λ same. no-circle (λ u. q (same ∙ u)) (ap tree.parent (sym same) ∙ o)) ∙ sym (ap beyond o ∙ beyond-near (components nodes) b.tree.split.linked n p up)
      | inr o ↦ beyond-along (components nodes) b.tree.split.linked n p c (tree.parent c) child (λ same. not-less n c (sym same) i) o
    ]
      where
        child : LinksTo (components nodes) c (tree.parent c)
        child = tree.to_parent c (comp-in g nodes b.tree c (omega (arith, i, l))) q

    -- so does each of the list
    all-along : (links : List (ℕ × ℕ)) → All (λ link. (c : ℕ) × (c < n) × (c ≢ tree.root) × (part_of (edge_count g) link.0 ≡ c) × (part_of (edge_count g) link.1 ≡ tree.parent c)) links → All (λ link. beyond link.0 ≡ beyond link.1) (part_links (part_of (edge_count g)) links)
    all-along [] all = All-nil (λ (link : ℕ × ℕ). beyond link.0 ≡ beyond link.1)
    all-along (link ∷ links) all = let w = All-head (λ (link : ℕ × ℕ). (c : ℕ) × (c < n) × (c ≢ tree.root) × (part_of (edge_count g) link.0 ≡ c) × (part_of (edge_count g) link.1 ≡ tree.parent c)) link links all in
        All-cons (λ (link : ℕ × ℕ). beyond link.0 ≡ beyond link.1) (part_of (edge_count g) link.0, part_of (edge_count g) link.1) (part_links (part_of (edge_count g)) links)
        (ap beyond w.3 ∙ along w.0 w.1 w.2 ∙ ap beyond (sym w.4))
        (all-along links (All-tail (λ (link : ℕ × ℕ). (c : ℕ) × (c < n) × (c ≢ tree.root) × (part_of (edge_count g) link.0 ≡ c) × (part_of (edge_count g) link.1 ≡ tree.parent c)) link links all))

    -- the two nodes are apart
    apart : connected (part_links (part_of (edge_count g)) s.links) (part_of (edge_count g) (coded (edge_count g) n (2 * up.0))) (part_of (edge_count g) (coded (edge_count g) (tree.parent n) (2 * down.0))) ≡ false
    apart = ap₂ (connected (part_links (part_of (edge_count g)) s.links)) (part-coded (edge_count g) n (2 * up.0) fits-d) (part-coded (edge_count g) p (2 * down.0) fits-e)
        ∙ false_from_ne_true (connected (part_links (part_of (edge_count g)) s.links) n p) (λ t. both_ways (connected (part_links (part_of (edge_count g)) s.links) p n)
        (connected-apart (part_links (part_of (edge_count g)) s.links) beyond (all-along s.links s.parents) p n (beyond-far (components nodes) b.tree.split.linked n p) (beyond-near (components nodes) b.tree.split.linked n p up))
        (connected-symmetric (part_links (part_of (edge_count g)) s.links) n p t))

    -- what is below n is below n + 1
    more : (k j : ℕ) → IsBelow n k j → IsBelow (suc n) k j
    more k j (inl i) = inl (i.0, i.1, omega (arith, i.2))
    more k j (inr i) = inr (i.0, i.1, omega (arith, i.2))

    -- a code with another's number
    code-is : (k z m y : ℕ) → z < 2 * edge_count g → y < 2 * edge_count g → coded (edge_count g) k z ≡ coded (edge_count g) m y → (k ≡ m) × (z ≡ y)
    code-is k z m y i j q = (sym (part-coded (edge_count g) k z i) ∙ ap (part_of (edge_count g)) q ∙ part-coded (edge_count g) m y j, sym (local-coded (edge_count g) k z i) ∙ ap (local_of (edge_count g)) q ∙ local-coded (edge_count g) m y j)

    -- what is used now: the item of the link, or of the link back, or one used before
    used-link : (k z m y i j : ℕ) → z < 2 * edge_count g → y < 2 * edge_count g → y / 2 ≡ i → (node_item nodes m i).what ≡ Link j → coded (edge_count g) k z ≡ coded (edge_count g) m y → (k ≡ m) × ((node_item nodes k (z / 2)).what ≡ Link j)
    used-link k z m y i j fz fy o w q = let c = code-is k z m y fz fy q in (c.0, ap₂ (λ a x. (node_item nodes a x).what) c.0 (ap (λ x. x / 2) c.1 ∙ o) ∙ w)

    -- twins have room
    fits-twin : (x : ℕ) → x < 2 * edge_count g → twin x < 2 * edge_count g
    fits-twin x i = twin-below (edge_count g) x i

    -- only links of children below n + 1 are used
    next-only : (k z : ℕ) → k < length nodes → z / 2 < length (node_at nodes k).items → is_used ((d, e) ∷ s.links) (coded (edge_count g) k z) ≡ true → (j : ℕ) × ((node_item nodes k (z / 2)).what ≡ Link j) × IsBelow (suc n) k j
    next-only k z lk mz t = elim (or_cases (one_of_four d (twin d) e (twin e) x) (is_used s.links x) t) [
      | inr i ↦ let w = s.only k z lk mz i in (w.0, w.1, more k w.0 w.2)
      | inl i ↦ elim (four-cases d (twin d) e (twin e) x i) [
        | inl q ↦ to-parent (2 * up.0) fits-d (half up.0) q
        | inr q ↦ elim q [
          | inl q ↦ to-parent (twin (2 * up.0)) (fits-twin (2 * up.0) fits-d) (twin-edge (2 * up.0) ∙ half up.0) (q ∙ sym (coded-twin (edge_count g) n (2 * up.0)))
          | inr q ↦ elim q [
            | inl q ↦ to-child (2 * down.0) fits-e (half down.0) q
            | inr q ↦ to-child (twin (2 * down.0)) (fits-twin (2 * down.0) fits-e) (twin-edge (2 * down.0) ∙ half down.0) (q ∙ sym (coded-twin (edge_count g) p (2 * down.0)))
          ]
        ]
      ]
    ]
      where
        x : ℕ
        x = coded (edge_count g) k z

        fits : z < 2 * edge_count g
        fits = dart-fits g nodes b family systems k z lk mz

        to-parent : (y : ℕ) → y < 2 * edge_count g → y / 2 ≡ up.0 → coded (edge_count g) k z ≡ coded (edge_count g) n y → (j : ℕ) × ((node_item nodes k (z / 2)).what ≡ Link j) × IsBelow (suc n) k j
        to-parent y i o q = let w = used-link k z n y up.0 p fits i o mine.1 q in (p, w.1, inl (λ u. no_root (sym w.0 ∙ u), ap tree.parent w.0, next-less k w.0))
          where
            next-less : (k : ℕ) → k ≡ n → k < suc n
            next-less k q = omega (arith, q)

        to-child : (y : ℕ) → y < 2 * edge_count g → y / 2 ≡ down.0 → coded (edge_count g) k z ≡ coded (edge_count g) (tree.parent n) y → (j : ℕ) × ((node_item nodes k (z / 2)).what ≡ Link j) × IsBelow (suc n) k j
        to-child y i o q = let w = used-link k z p y down.0 n fits i o theirs.1 q in (n, w.1, inr (no_root, sym w.0, omega arith))

    -- an item of a node that is the link to the parent or back is the one
    one-item : (k j i h : ℕ) → i < length (node_at nodes k).items → h < length (node_at nodes k).items → (node_item nodes k i).what ≡ Link j → (node_item nodes k h).what ≡ Link j → i ≡ h
    one-item k j i h mi mh wi wh = b.tree.split.linked.once k j i h (stands-of g nodes b.tree k i (Link j) mi wi) (stands-of g nodes b.tree k h (Link j) mh wh)

    -- all of these are used
    next-all : (k i j : ℕ) → k < length nodes → i < length (node_at nodes k).items → (node_item nodes k i).what ≡ Link j → IsBelow (suc n) k j → is_used ((d, e) ∷ s.links) (coded (edge_count g) k (2 * i)) ≡ true
    next-all k i j lk mi w (inl o) = elim (cases_eq k n) [
      | inl q ↦ or_left (one_of_four d (twin d) e (twin e) (coded (edge_count g) k (2 * i))) (is_used s.links (coded (edge_count g) k (2 * i))) (subst (λ x. one_of_four d (twin d) e (twin e) x ≡ true) (sym (same q)) (four-members d (twin d) e (twin e)).0)
      | inr q ↦ or_right (one_of_four d (twin d) e (twin e) (coded (edge_count g) k (2 * i))) (is_used s.links (coded (edge_count g) k (2 * i))) (s.all k i j lk mi w (inl (o.0, o.1, omega (arith, o.2, q))))
    ]
      where
        same : k ≡ n → coded (edge_count g) k (2 * i) ≡ coded (edge_count g) n (2 * up.0)
        same q = ap₂ (λ a x. coded (edge_count g) a (2 * x)) q (one-item n p i up.0 (subst (λ a. i < length (node_at nodes a).items) q mi) mine.0 (ap (λ a. (node_item nodes a i).what) (sym q) ∙ w ∙ ap Link (sym o.1 ∙ ap tree.parent q)) mine.1)
    next-all k i j lk mi w (inr o) = elim (cases_eq j n) [
      | inl q ↦ or_left (one_of_four d (twin d) e (twin e) (coded (edge_count g) k (2 * i))) (is_used s.links (coded (edge_count g) k (2 * i))) (subst (λ x. one_of_four d (twin d) e (twin e) x ≡ true) (sym (same q (sym o.1 ∙ ap tree.parent q))) (four-members d (twin d) e (twin e)).2)
      | inr q ↦ or_right (one_of_four d (twin d) e (twin e) (coded (edge_count g) k (2 * i))) (is_used s.links (coded (edge_count g) k (2 * i))) (s.all k i j lk mi w (inr (o.0, o.1, omega (arith, o.2, q))))
    ]
      where
        same : j ≡ n → k ≡ tree.parent n → coded (edge_count g) k (2 * i) ≡ coded (edge_count g) (tree.parent n) (2 * down.0)
        same q u = ap₂ (λ a x. coded (edge_count g) a (2 * x)) u (one-item p n i down.0 (subst (λ a. i < length (node_at nodes a).items) u mi) theirs.0 (ap (λ a. (node_item nodes a i).what) (sym u) ∙ w ∙ ap Link q) theirs.1)

    -- the parents
    next-parents : All (λ link. (c : ℕ) × (c < suc n) × (c ≢ tree.root) × (part_of (edge_count g) link.0 ≡ c) × (part_of (edge_count g) link.1 ≡ tree.parent c)) ((coded (edge_count g) n (2 * up.0), coded (edge_count g) (tree.parent n) (2 * down.0)) ∷ s.links)
    next-parents = All-cons (λ (link : ℕ × ℕ). (c : ℕ) × (c < suc n) × (c ≢ tree.root) × (part_of (edge_count g) link.0 ≡ c) × (part_of (edge_count g) link.1 ≡ tree.parent c)) (d, e) s.links
        (n, omega arith, no_root, part-coded (edge_count g) n (2 * up.0) fits-d, part-coded (edge_count g) p (2 * down.0) fits-e)
        (All-weaker (λ (link : ℕ × ℕ). (c : ℕ) × (c < n) × (c ≢ tree.root) × (part_of (edge_count g) link.0 ≡ c) × (part_of (edge_count g) link.1 ≡ tree.parent c)) (λ (link : ℕ × ℕ). (c : ℕ) × (c < suc n) × (c ≢ tree.root) × (part_of (edge_count g) link.0 ≡ c) × (part_of (edge_count g) link.1 ≡ tree.parent c)) (λ link w. (w.0, omega (arith, w.1), w.2, w.3, w.4)) s.links s.parents)

    -- one link more
    next-built : Built (suc n)
    next-built = record {
      links = (d, e) ∷ s.links;
      are = (link-pair g nodes b family systems r system n p up.0 down.0 l lp mine.0 theirs.0 mine.1 theirs.1 ends.0 ends.1, fresh-d, fresh-e, apart, s.are);
      only = next-only;
      all = next-all;
      parents = next-parents;
      pairs = All-cons (AreOfLink g nodes) (d, e) s.links (n, p, up.0, down.0, refl, refl, l, lp, mine.0, theirs.0, mine.1, theirs.1) s.pairs;
    }

  -- all links
  pub built : (n : ℕ) → n ≤ length nodes → Built n
  built zero l = record {
    links = [];
    are = tt;
    only = λ k z lk mz t. absurd (both_ways false refl t);
    all = λ k i j lk mi w o. elim o [ inl i ↦ absurd (omega (arith, i.2)) | inr i ↦ absurd (omega (arith, i.2)) ];
    parents = All-nil (λ (link : ℕ × ℕ). (c : ℕ) × (c < zero) × (c ≢ tree.root) × (part_of (edge_count g) link.0 ≡ c) × (part_of (edge_count g) link.1 ≡ tree.parent c));
    pairs = All-nil (AreOfLink g nodes);
  }
  built (suc n) l = elim (cases_eq n tree.root) [
    | inr q ↦ next-built n (omega (arith, l)) q (built n (omega (arith, l)))
    | inl q ↦ let s = built n (omega (arith, l)) in record {
      links = s.links;
      are = s.are;
      only = λ k z lk mz t. let w = s.only k z lk mz t in (w.0, w.1, more-below n k w.0 w.2);
      all = λ k i j lk mi w o. s.all k i j lk mi w (elim o [
        | inl i ↦ inl (i.0, i.1, no-last n k i.2 (λ e. i.0 (e ∙ q)))
        | inr i ↦ inr (i.0, i.1, no-last n j i.2 (λ e. i.0 (e ∙ q)))
      ]);
      parents = All-weaker (λ (link : ℕ × ℕ). (c : ℕ) × (c < n) × (c ≢ tree.root) × (part_of (edge_count g) link.0 ≡ c) × (part_of (edge_count g) link.1 ≡ tree.parent c)) (λ (link : ℕ × ℕ). (c : ℕ) × (c < suc n) × (c ≢ tree.root) × (part_of (edge_count g) link.0 ≡ c) × (part_of (edge_count g) link.1 ≡ tree.parent c)) (λ link w. (w.0, omega (arith, w.1), w.2, w.3, w.4)) s.links s.parents;
      pairs = s.pairs;
    }
  ]
    where
      no-last : (n k : ℕ) → k < suc n → (k ≡ n → ⊥) → k < n
      no-last n k i q = omega (arith, i, q)

      more-below : (n k j : ℕ) → IsBelow n k j → IsBelow (suc n) k j
      more-below n k j (inl i) = inl (i.0, i.1, omega (arith, i.2))
      more-below n k j (inr i) = inr (i.0, i.1, omega (arith, i.2))
