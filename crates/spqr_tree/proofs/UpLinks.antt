-- The first item of a node has key 0: it is edge 0, or the link towards the node that has edge 0; the other links lead away from it.
use Rattle.std.proofs.Common.{◌≡◌, ◌≢◌, ℕ, zero, suc, ◌+◌, ◌<◌, inl, inr, Bool, true, false, List, [], length, map, sym, ap, ◌∙◌, subst, arith}
use Rattle.std.proofs.lemmas.Bool.{cases_Bool, cases_eq, both_ways, not_from_true, not_from_false}
use Rattle.std.proofs.lemmas.List.{length-map, get_or-map}
use Rattle.permutations.specs.Count.{count, some, least}
use Rattle.permutations.proofs.Count.{count-less}
use Rattle.permutations.proofs.Search.{least-passes, least-none, least-first}
use Rattle.skeletons.proofs.NodeItems.{first_key-is}
use Rattle.multigraph.specs.Graph.{Multigraph, edge_count}
use Rattle.pair_split.specs.Split.{items_of, item_at, StandsFor, is_beyond, side, LinksTo, AreLinked, IsSplit}
use Rattle.pair_split.specs.Tutte.{Node, piece_of, components, node_at, node_item, key_of, has_in_group, group, IsTutte}
use Rattle.pair_split.specs.declared.components.Comp.{Comp}
use Rattle.pair_split.specs.declared.components.Item.{Item}
use Rattle.pair_split.specs.declared.components.Piece.{Piece}
use Rattle.pair_split.specs.declared.components.What.{What}
use Rattle.pair_split.specs.declared.components.What.TheVariants.{Real, Link}
use Rattle.pair_split.proofs.Groups.{side-other, group-cases, group-some, group-once}
use Rattle.pair_split.proofs.Links.{stands-in}
use Rattle.pair_split.proofs.Subtrees.{link-in}
use Rattle.pair_split.proofs.TreeSides.{link-back, link-from, beyond-other, beyond-far, beyond-near, beyond-apart}
use Rattle.pair_split.proofs.NodeParts.{node-pieces, node-piece}
use Rattle.spqr_tree.specs.Keys.{nth_item}
use Rattle.spqr_tree.specs.Tour.{what_at, item_count}

-- what stands at a place: a link or an edge, and its number
abbrev is_link : What → Bool
is_link (Real e) = false
is_link (Link j) = true

abbrev pub number_of : What → ℕ
number_of (Real e) = e
number_of (Link j) = j

pub not-both : (w : What) (e j : ℕ) → w ≡ Real e → w ≡ Link j → ⊥
not-both w e j x y = both_ways (is_link w) (ap is_link x) (ap is_link y)

-- the least number is 0 just where 0 passes
least-zero : (n : ℕ) (p : ℕ → Bool) → 0 < n → least n p ≡ 0 → p 0 ≡ true
least-zero n p l e = elim (cases_Bool (some n p)) [
  | inl h ↦ subst (λ z. p z ≡ true) e (least-passes n p h)
  | inr h ↦ absurd (omega (arith, l, e, least-none n p h))
]

zero-least : (n : ℕ) (p : ℕ → Bool) → p 0 ≡ true → least n p ≡ 0
zero-least n p h = omega (arith, least-first n p 0 h)

module _ (g : Multigraph) (nodes : List Node) (t : IsTutte g nodes) (few : 0 < edge_count g) where
  abbrev comps : List Comp
  comps = components nodes

  abbrev split : IsSplit g comps
  split = t.split

  abbrev linked : AreLinked comps
  linked = split.linked

  number : length comps ≡ length nodes
  number = length-map nodes (λ (node : Node). as_component node)
    where
      as_component : Node → Comp
      as_component node = record { kind = node.kind; items = map piece_of node.items }

  pub node-in : (x : ℕ) → x < length comps → x < length nodes
  node-in x l = subst (λ z. x < z) number l

  pub comp-in : (x : ℕ) → x < length nodes → x < length comps
  comp-in x l = subst (λ z. x < z) (sym number) l

  -- the items of a node as pieces
  pieces-number : (k : ℕ) → length (items_of comps k) ≡ item_count nodes k
  pieces-number k = ap length (node-pieces nodes k) ∙ length-map (node_at nodes k).items piece_of

  piece-in : (k i : ℕ) → i < item_count nodes k → i < length (items_of comps k)
  piece-in k i l = subst (λ z. i < z) (sym (pieces-number k)) l

  pub item-in : (k i : ℕ) → i < length (items_of comps k) → i < item_count nodes k
  item-in k i l = subst (λ z. i < z) (pieces-number k) l

  pub what-at : (k i : ℕ) → i < item_count nodes k → (item_at comps k i).what ≡ what_at nodes k i
  what-at k i l = ap (λ (p : Piece). p.what) (node-piece nodes k i l)

  pub stands-of : (k i : ℕ) (what : What) → i < item_count nodes k → what_at nodes k i ≡ what → StandsFor comps k i what
  stands-of k i what l e = (piece-in k i l, what-at k i l ∙ e)

  pub item-of : (k i : ℕ) (what : What) → StandsFor comps k i what → (i < item_count nodes k) × (what_at nodes k i ≡ what)
  item-of k i what s = let l : i < item_count nodes k = item-in k i s.0 in (l, sym (what-at k i l) ∙ s.1)

  -- a link leads from a node to a node
  pub link-to : (k i j : ℕ) → i < item_count nodes k → what_at nodes k i ≡ Link j → LinksTo comps k j
  link-to k i j l e = (i, stands-of k i (Link j) l e)

  pub link-within : (k j : ℕ) → LinksTo comps k j → j < length nodes
  link-within k j l = node-in j (link-in comps linked k j l)

  -- a link with key 0 has edge 0 on its side, and no other has
  link-up : (x i p : ℕ) → i < item_count nodes x → what_at nodes x i ≡ Link p → (node_item nodes x i).key ≡ 0 → side comps x p 0 ≡ true
  link-up x i p l e z = least-zero (edge_count g) (side comps x p) few (sym (t.in_order.keys x i l ∙ ap (key_of g nodes x) e) ∙ z)

  link-key : (x i p : ℕ) → i < item_count nodes x → what_at nodes x i ≡ Link p → side comps x p 0 ≡ true → (node_item nodes x i).key ≡ 0
  link-key x i p l e z = t.in_order.keys x i l ∙ ap (key_of g nodes x) e ∙ zero-least (edge_count g) (side comps x p) z

  -- some item of a node has key 0
  zero-key : (k : ℕ) → k < length nodes → (i : ℕ) × (i < item_count nodes k) × ((node_item nodes k i).key ≡ 0)
  zero-key k l =
      let i = group-some g comps split k 0 (comp-in k l) few in
      let b = item-in k i.0 i.1 in
      elim (group-cases g comps split k 0 (item_at comps k i.0).what i.2) [
        | inl q ↦ (i.0, b, t.in_order.keys k i.0 b ∙ ap (key_of g nodes k) (sym (what-at k i.0 b) ∙ q))
        | inr q ↦ (i.0, b, link-key k i.0 q.0 b (sym (what-at k i.0 b) ∙ q.1) q.2)
      ]

  -- the keys of a node rise
  keys-rise : (k i h : ℕ) → k < length nodes → i < h → h < item_count nodes k → (node_item nodes k i).key < (node_item nodes k h).key
  keys-rise k i h m l b =
      let items = (node_at nodes k).items in
      omega (
        arith,
        t.in_order.keys_rise k m i h l (subst (λ z. h < z) (sym (length-map items (λ item. item.key))) b),
        get_or-map (λ (item : Item). item.key) items i (nth_item [] 0) 0 (omega (arith, l, b)),
        get_or-map (λ (item : Item). item.key) items h (nth_item [] 0) 0 b,
      )

  -- it is the first
  pub first-in : (k : ℕ) → k < length nodes → 0 < item_count nodes k
  first-in k l = let z = zero-key k l in omega (arith, z.1)

  pub first-key : (k : ℕ) → k < length nodes → (node_item nodes k 0).key ≡ 0
  first-key k l =
      let z = zero-key k l in
      elim (cases_eq z.0 0) [
        | inl q ↦ ap (λ i. (node_item nodes k i).key) (sym q) ∙ z.2
        | inr n ↦ absurd (omega (arith, n, z.2, keys-rise k 0 z.0 l (omega (arith, n)) z.1))
      ]

  zero-first : (k h : ℕ) → k < length nodes → h < item_count nodes k → (node_item nodes k h).key ≡ 0 → h ≡ 0
  zero-first k h l b e = elim (cases_eq h 0) [ inl q ↦ q | inr n ↦ absurd (omega (arith, n, e, keys-rise k 0 h l (omega (arith, n)) b)) ]

  -- an edge that is the first item is edge 0
  pub first-edge : (k e : ℕ) → k < length nodes → what_at nodes k 0 ≡ Real e → e ≡ 0
  first-edge k e l h = sym (t.in_order.keys k 0 (first-in k l) ∙ ap (key_of g nodes k) h) ∙ first-key k l

  link-node : (k i j : ℕ) → i < item_count nodes k → what_at nodes k i ≡ Link j → k < length nodes
  link-node k i j l e = node-in k (link-from comps linked k j (link-to k i j l e))

  -- behind a link that is not the first item the first item is the link back
  pub child-up : (k i j : ℕ) → i + 1 < item_count nodes k → what_at nodes k (i + 1) ≡ Link j → what_at nodes j 0 ≡ Link k
  child-up k i j l e =
      let m = link-to k (i + 1) j l e in
      let back = link-back comps linked k j m in
      let h = item-of j back.0 (Link k) back.1 in
      let away : side comps k j 0 ≡ false = elim (cases_Bool (side comps k j 0)) [
        | inl y ↦ absurd (omega (arith, zero-first k (i + 1) (link-node k (i + 1) j l e) l (link-key k (i + 1) j l e y)))
        | inr n ↦ n
      ] in
      let z : back.0 ≡ 0 = zero-first j back.0 (link-within k j m) h.0 (link-key j back.0 k h.0 h.1 (side-other g comps split j k 0 back few ∙ not_from_false (side comps k j 0) away)) in
      ap (what_at nodes j) (sym z) ∙ h.1

  -- a link that is the first item leads to a node with a link back, which is not its first item
  pub parent-down : (k p : ℕ) → k < length nodes → what_at nodes k 0 ≡ Link p → (i : ℕ) × (i + 1 < item_count nodes p) × (what_at nodes p (i + 1) ≡ Link k)
  parent-down k p l e =
      let m = link-to k 0 p (first-in k l) e in
      let back = link-back comps linked k p m in
      let h = item-of p back.0 (Link k) back.1 in
      later back.0 h.0 h.1 m back
    where
      later : (h : ℕ) → h < item_count nodes p → what_at nodes p h ≡ Link k → LinksTo comps k p → LinksTo comps p k → (i : ℕ) × (i + 1 < item_count nodes p) × (what_at nodes p (i + 1) ≡ Link k)
      later zero b h m back = absurd (both_ways (side comps k p 0) (side-other g comps split k p 0 m few ∙ not_from_true (side comps p k 0) (link-up p 0 k b h (first-key p (link-within k p m)))) (link-up k 0 p (first-in k l) e (first-key k l)))
      later (suc i) b h m back = (i, subst (λ z. z < item_count nodes p) (omega arith) b, subst (λ z. what_at nodes p z ≡ Link k) (omega arith) h)

  -- each link and each edge stands at one place
  pub link-once : (k i h j : ℕ) → i < item_count nodes k → h < item_count nodes k → what_at nodes k i ≡ Link j → what_at nodes k h ≡ Link j → i ≡ h
  link-once k i h j l b x y = linked.once k j i h (stands-of k i (Link j) l x) (stands-of k h (Link j) b y)

  pub edge-once : (k i j h e : ℕ) → i < item_count nodes k → h < item_count nodes j → what_at nodes k i ≡ Real e → what_at nodes j h ≡ Real e → (k ≡ j) × (i ≡ h)
  edge-once k i j h e l b x y = split.covers.once e k i j h (stands-of k i (Real e) l x) (stands-of j h (Real e) b y)

  -- it is one of the graph
  pub edge-within : (k i e : ℕ) → i < item_count nodes k → what_at nodes k i ≡ Real e → e < edge_count g
  edge-within k i e l x = (split.covers.edges e k i (stands-of k i (Real e) l x)).0

  -- an edge of the graph stands in some node
  pub edge-stands : (e : ℕ) → e < edge_count g → (k i : ℕ) × (k < length nodes) × (i < item_count nodes k) × (what_at nodes k i ≡ Real e)
  edge-stands e b = let w = split.covers.present e b in let m = item-of w.0 w.1 (Real e) w.2 in (w.0, w.1, node-in w.0 (stands-in comps w.0 w.1 (Real e) w.2), m.0, m.1)

  -- the first item of some node is edge 0
  pub root-stands : (k : ℕ) × (k < length nodes) × (what_at nodes k 0 ≡ Real 0)
  root-stands =
      let w = edge-stands 0 few in
      let z : w.1 ≡ 0 = zero-first w.0 w.1 w.2 w.3 (t.in_order.keys w.0 w.1 w.3 ∙ ap (key_of g nodes w.0) w.4) in
      (w.0, w.2, subst (λ i. what_at nodes w.0 i ≡ Real 0) z w.4)

  -- fewer nodes are beyond the next link
  pub falls : (x p q : ℕ) → LinksTo comps x p → LinksTo comps p q → q ≢ x → count (length nodes) (is_beyond comps p q) < count (length nodes) (is_beyond comps x p)
  falls x p q l m apart = count-less (length nodes) (is_beyond comps p q) (is_beyond comps x p) p
      (λ d b h. beyond-other comps linked x p d l (comp-in d b) ∙ not_from_false (is_beyond comps p x d) (beyond-apart comps linked p q x d m (link-back comps linked x p l) apart h))
      (link-within x p l) (beyond-near comps linked p q m) (beyond-far comps linked x p)

  -- the key of the item that has e in its group
  pub group-is : (k i e : ℕ) → i < item_count nodes k → e < edge_count g → has_in_group comps k e (what_at nodes k i) ≡ true → group nodes k e ≡ (node_item nodes k i).key
  group-is k i e l b h = first_key-is (has_in_group comps k e) (node_at nodes k).items (node_item nodes k i).key
      (λ x m y. ap (λ z. (node_item nodes k z).key) (group-once g comps split k e x i (piece-in k x m) (piece-in k i l) b (ap (has_in_group comps k e) (what-at k x m) ∙ y) (ap (has_in_group comps k e) (what-at k i l) ∙ h)))
      i l h
