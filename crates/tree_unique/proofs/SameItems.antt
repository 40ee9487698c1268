-- Nodes of two trees of one block that have the same groups: their items have the same keys and the same ends, and stand for the
-- same edges or are links with the same sides.
use Rattle.std.proofs.Common.{◌≡◌, ℕ, ◌<◌, ◌≤◌, ◌⊎◌, inl, inr, true, List, length, map, get_or, refl, sym, ap, ap₂, ◌∙◌, subst, arith}
use Rattle.std.proofs.lemmas.List.{get_or-map, length-map, ext_get_or}
use Rattle.permutations.specs.Members.{is_member}
use Rattle.permutations.specs.Count.{least}
use Rattle.permutations.proofs.Relation.{same-tests}
use Rattle.permutations.proofs.Search.{some-from, least-below, least-passes, least-first}
use Rattle.multigraph.specs.Graph.{Multigraph, edge_count, ends_of, is_end}
use Rattle.graph_theory.specs.Block.{IsOneBlock}
use Rattle.pair_split.specs.Skeleton.{is_end_of, is_vertex, IsOfKind}
use Rattle.pair_split.specs.Split.{component_at, items_of, item_at, piece_ends, skeleton, side, LinksTo, IsSplit}
use Rattle.pair_split.specs.Tutte.{Node, piece_of, components, node_at, node_item, key_of, IsTutte}
use Rattle.pair_split.specs.declared.components.Comp.{Comp}
use Rattle.pair_split.specs.declared.components.Piece.{Piece}
use Rattle.pair_split.specs.declared.components.Item.{Item}
use Rattle.pair_split.specs.declared.components.What.{What}
use Rattle.pair_split.specs.declared.components.What.TheVariants.{Real, Link}
use Rattle.pair_split.proofs.GraphFamily.{one_block-tight}
use Rattle.pair_split.proofs.GraphSides.{common-same}
use Rattle.graph_theory.proofs.Counting.{Two}
use Rattle.pair_split.proofs.Groups.{what-cases, same-end, same-end_back}
use Rattle.pair_split.proofs.LargeSides.{side-two}
use Rattle.pair_split.proofs.NodeParts.{node-pieces, node-piece, node-kind}
use Rattle.graph_theory.specs.Separation.{AreSameSide}
use Rattle.graph_theory.proofs.Rising.{HasAll, rises-same, members-same}
use Rattle.tree_unique.proofs.Items.{is_at, skeleton-at, skeleton-length, place, place-in, link-place, place-link, place-real, real-place}
use Rattle.tree_unique.proofs.Rising.{rising-pairs}
use Rattle.tree_unique.proofs.KindOnce.{kind-once}
use Rattle.tree_unique.proofs.Matched.{HaveSameGroups, same-groups_back}

-- an item where there is none
abbrev pub no_item : Item
no_item = record { key = 0; a = 0; b = 0; what = Real 0 }

pub node-size : (nodes : List Node) (k : ℕ) → length (items_of (components nodes) k) ≡ length (node_at nodes k).items
node-size nodes k = ap (λ (pieces : List Piece). length pieces) (node-pieces nodes k) ∙ length-map (node_at nodes k).items piece_of

pub nodes-length : (nodes : List Node) → length (components nodes) ≡ length nodes
nodes-length nodes = length-map nodes (λ node. record { kind = node.kind; items = map piece_of node.items })

-- the keys of a node
abbrev pub keys : List Node → ℕ → List ℕ
keys nodes k = map (λ (item : Item). item.key) (node_at nodes k).items

-- split components in which edges are in the same places
module _ (g : Multigraph) (block : IsOneBlock g) (comps : List Comp) (s : IsSplit g comps) (k : ℕ) (lk : k < length comps) (others : List Comp) (t : IsSplit g others) (x : ℕ) (lx : x < length others)
    (same : (e : ℕ) → e < edge_count g → place g comps s k lk e ≡ place g others t x lx e) (i : ℕ) (li : i < length (items_of comps k)) (lo : i < length (items_of others x)) where
  -- a link is no edge in the other
  real-link : (f j : ℕ) → (item_at comps k i).what ≡ Real f → (item_at others x i).what ≡ Link j → ⊥
  real-link f j r q =
      let l : LinksTo others x j = (i, (lo, q)) in
      let w : Two (edge_count g) (side others x j) = side-two g others t (one_block-tight g block) x j l in
      w.differ (place-real g comps s k lk i w.first f w.first_in (same w.first w.first_in ∙ link-place g others t x lx j w.first l w.first_in w.first_on) r
      ∙ sym (place-real g comps s k lk i w.second f w.second_in (same w.second w.second_in ∙ link-place g others t x lx j w.second l w.second_in w.second_on) r))

  -- an edge is the same edge
  real-real : (f d : ℕ) → (item_at comps k i).what ≡ Real f → (item_at others x i).what ≡ Real d → f ≡ d
  real-real f d r q = let w = real-place g comps s k lk i f li r in place-real g others t x lx i f d w.0 (sym (same f w.0) ∙ w.1) q

  -- a link has the same side
  pub link-link : (j h : ℕ) → (item_at comps k i).what ≡ Link j → (item_at others x i).what ≡ Link h → AreSameSide g (side comps k j) (side others x h)
  link-link j h r q e b =
      let l : LinksTo comps k j = (i, (li, r)) in
      let m : LinksTo others x h = (i, (lo, q)) in
      same-tests (side comps k j e) (side others x h e)
      (λ y. place-link g others t x lx h e m b (sym (same e b) ∙ link-place g comps s k lk j e l b y))
      (λ y. place-link g comps s k lk j e l b (same e b ∙ link-place g others t x lx h e m b y))

  -- an end is an end
  pub at-other : (v : ℕ) → is_at comps k i v ≡ true → is_at others x i v ≡ true
  at-other v h = elim (what-cases (item_at comps k i).what) [
    | inl r ↦ elim (what-cases (item_at others x i).what) [
      | inl q ↦
          let c = (s.covers.edges r.0 k i (li, r.1)).1 in
          let d = (t.covers.edges q.0 x i (lo, q.1)).1 in
          same-end (piece_ends (item_at others x i)) (ends_of g q.0) v d (subst (λ z. is_end g v z ≡ true) (real-real r.0 q.0 r.1 q.1) (same-end_back (piece_ends (item_at comps k i)) (ends_of g r.0) v c h))
      | inr q ↦ absurd (real-link r.0 q.0 r.1 q.1)
    ]
    | inr r ↦ elim (what-cases (item_at others x i).what) [
      | inl q ↦ absurd (link-real r.0 q.0 r.1 q.1)
      | inr q ↦ (t.sides_meet x q.0 i (lo, q.1) v).0 (common-same g (side comps k r.0) (side others x q.0) (link-link r.0 q.0 r.1 q.1) v ((s.sides_meet k r.0 i (li, r.1) v).1 h))
    ]
  ]
    where
      link-real : (j f : ℕ) → (item_at comps k i).what ≡ Link j → (item_at others x i).what ≡ Real f → ⊥
      link-real j f r q =
          let l : LinksTo comps k j = (i, (li, r)) in
          let w : Two (edge_count g) (side comps k j) = side-two g comps s (one_block-tight g block) k j l in
          w.differ (place-real g others t x lx i w.first f w.first_in (sym (same w.first w.first_in) ∙ link-place g comps s k lk j w.first l w.first_in w.first_on) q
          ∙ sym (place-real g others t x lx i w.second f w.second_in (sym (same w.second w.second_in) ∙ link-place g comps s k lk j w.second l w.second_in w.second_on) q))

  -- both stand for one edge, or both are links
  pub what-other : ((f : ℕ) × ((item_at comps k i).what ≡ Real f) × ((item_at others x i).what ≡ Real f)) ⊎ ((j h : ℕ) × ((item_at comps k i).what ≡ Link j) × ((item_at others x i).what ≡ Link h))
  what-other = elim (what-cases (item_at comps k i).what) [
    | inl r ↦ elim (what-cases (item_at others x i).what) [
      | inl q ↦ inl (r.0, r.1, q.1 ∙ ap Real (sym (real-real r.0 q.0 r.1 q.1)))
      | inr q ↦ absurd (real-link r.0 q.0 r.1 q.1)
    ]
    | inr r ↦ elim (what-cases (item_at others x i).what) [
      | inl q ↦
          let l : LinksTo comps k r.0 = (i, (li, r.1)) in
          let w : Two (edge_count g) (side comps k r.0) = side-two g comps s (one_block-tight g block) k r.0 l in
          absurd (w.differ (place-real g others t x lx i w.first q.0 w.first_in (sym (same w.first w.first_in) ∙ link-place g comps s k lk r.0 w.first l w.first_in w.first_on) q.1
          ∙ sym (place-real g others t x lx i w.second q.0 w.second_in (sym (same w.second w.second_in) ∙ link-place g comps s k lk r.0 w.second l w.second_in w.second_on) q.1)))
      | inr q ↦ inr (r.0, q.0, r.1, q.1)
    ]
  ]

module _ (g : Multigraph) (block : IsOneBlock g) (nodes : List Node) (t : IsTutte g nodes) (k : ℕ) (lk : k < length (components nodes)) where
  abbrev comps : List Comp
  comps = components nodes

  abbrev pl : ℕ → ℕ
  pl e = place g comps t.split k lk e

  -- the key of an item is the least edge of its place
  pub record IsLeast (i key : ℕ) : Type 0 where
    pub key_in : key < edge_count g
    pub key_place : pl key ≡ i
    pub key_least : (e : ℕ) → e < edge_count g → pl e ≡ i → key ≤ e

  pub key-least : (i : ℕ) → i < length (node_at nodes k).items → IsLeast i (node_item nodes k i).key
  key-least i l = subst (IsLeast i) (sym key_is) (elim (what-cases (item_at comps k i).what) [ inl r ↦ subst (λ (w : What). IsLeast i (key_of g nodes k w)) (sym r.1) (real r.0 r.1) | inr r ↦ subst (λ (w : What). IsLeast i (key_of g nodes k w)) (sym r.1) (link r.0 r.1) ])
    where
      li : i < length (items_of comps k)
      li = omega (arith, l, node-size nodes k)

      key_is : (node_item nodes k i).key ≡ key_of g nodes k (item_at comps k i).what
      key_is = t.in_order.keys k i l ∙ ap (key_of g nodes k) (sym (ap (λ (piece : Piece). piece.what) (node-piece nodes k i l)))

      real : (f : ℕ) → (item_at comps k i).what ≡ Real f → IsLeast i f
      real f r = let w = real-place g comps t.split k lk i f li r in
          record { key_in = w.0; key_place = w.1; key_least = λ e b p. omega (arith, place-real g comps t.split k lk i e f b p r) }

      link : (j : ℕ) → (item_at comps k i).what ≡ Link j → IsLeast i (least (edge_count g) (side comps k j))
      link j r =
          let m : LinksTo comps k j = (i, (li, r)) in
          let w : Two (edge_count g) (side comps k j) = side-two g comps t.split (one_block-tight g block) k j m in
          let found = some-from (edge_count g) (side comps k j) w.first w.first_in w.first_on in
          let below = least-below (edge_count g) (side comps k j) found in
          record {
            key_in = below;
            key_place = link-place g comps t.split k lk j (least (edge_count g) (side comps k j)) m below (least-passes (edge_count g) (side comps k j) found);
            key_least = λ e b p. least-first (edge_count g) (side comps k j) e (place-link g comps t.split k lk j e m b p);
          }

-- the keys of a node with the same groups are among those of the other
keys-among : (g : Multigraph) (block : IsOneBlock g) (a b : List Node) (s : IsTutte g a) (t : IsTutte g b) (k x : ℕ) → HaveSameGroups g (components a) s.split k (components b) t.split x → HasAll (keys a k) (keys b x)
keys-among g block a b s t k x h i l =
    let la : i < length (node_at a k).items = omega (arith, l, length-map (node_at a k).items (λ (item : Item). item.key)) in
    let c : IsLeast g block a s k h.first_in i (node_item a k i).key = key-least g block a s k h.first_in i la in
    let lb : place g (components b) t.split x h.second_in (node_item a k i).key < length (node_at b x).items = omega (arith, place-in g (components b) t.split x h.second_in (node_item a k i).key c.key_in, node-size b x) in
    let j : ℕ = place g (components b) t.split x h.second_in (node_item a k i).key in
    let d : IsLeast g block b t x h.second_in j (node_item b x j).key = key-least g block b t x h.second_in j lb in
    let down = d.key_least (node_item a k i).key c.key_in refl in
    let up = c.key_least (node_item b x j).key d.key_in (h.back (node_item b x j).key (node_item a k i).key d.key_in c.key_in d.key_place ∙ c.key_place) in (
      j,
      omega (arith, lb, length-map (node_at b x).items (λ (item : Item). item.key)),
      get_or-map (λ (item : Item). item.key) (node_at b x).items j no_item 0 lb ∙ order (node_item b x j).key (node_item a k i).key down up ∙ sym (get_or-map (λ (item : Item). item.key) (node_at a k).items i no_item 0 la),
    )
  where
    order : (m n : ℕ) → m ≤ n → n ≤ m → m ≡ n
    order m n p q = omega (arith, p, q)

module _ (g : Multigraph) (block : IsOneBlock g) (a b : List Node) (s : IsTutte g a) (t : IsTutte g b) (k x : ℕ) (h : HaveSameGroups g (components a) s.split k (components b) t.split x) where
  la : k < length a
  la = omega (arith, h.first_in, nodes-length a)

  lb : x < length b
  lb = omega (arith, h.second_in, nodes-length b)

  keys-same : keys a k ≡ keys b x
  keys-same = rises-same (keys a k) (keys b x) (s.in_order.keys_rise k la) (t.in_order.keys_rise x lb) (keys-among g block a b s t k x h) (keys-among g block b a t s x k (same-groups_back g (components a) s.split k (components b) t.split x h))

  -- as many items
  pub items-length : length (node_at a k).items ≡ length (node_at b x).items
  items-length = sym (length-map (node_at a k).items (λ (item : Item). item.key)) ∙ ap (λ (l : List ℕ). length l) keys-same ∙ length-map (node_at b x).items (λ (item : Item). item.key)

  pub key-same : (i : ℕ) → i < length (node_at a k).items → (node_item a k i).key ≡ (node_item b x i).key
  key-same i l = sym (get_or-map (λ (item : Item). item.key) (node_at a k).items i no_item 0 l) ∙ ap (λ (z : List ℕ). get_or z i 0) keys-same
      ∙ get_or-map (λ (item : Item). item.key) (node_at b x).items i no_item 0 (omega (arith, l, items-length))

  -- each edge has the same place
  pub place-same : (e : ℕ) → e < edge_count g → place g (components a) s.split k h.first_in e ≡ place g (components b) t.split x h.second_in e
  place-same e be =
      let i : ℕ = place g (components b) t.split x h.second_in e in
      let lo : i < length (node_at b x).items = omega (arith, place-in g (components b) t.split x h.second_in e be, node-size b x) in
      let c : IsLeast g block a s k h.first_in i (node_item a k i).key = key-least g block a s k h.first_in i (omega (arith, lo, items-length)) in
      let d : IsLeast g block b t x h.second_in i (node_item b x i).key = key-least g block b t x h.second_in i lo in
      h.back e (node_item b x i).key be d.key_in (sym d.key_place) ∙ ap (λ z. place g (components a) s.split k h.first_in z) (sym (key-same i (omega (arith, lo, items-length)))) ∙ c.key_place

  pub in-first : (i : ℕ) → i < length (node_at a k).items → i < length (items_of (components a) k)
  in-first i l = omega (arith, l, node-size a k)

  pub in-second : (i : ℕ) → i < length (node_at a k).items → i < length (items_of (components b) x)
  in-second i l = omega (arith, l, node-size b x, items-length)

  -- each item has the same ends
  pub ends-same : (i : ℕ) → i < length (node_at a k).items → ((node_item a k i).a ≡ (node_item b x i).a) × ((node_item a k i).b ≡ (node_item b x i).b)
  ends-same i l = rising-pairs ((node_item a k i).a, (node_item a k i).b) ((node_item b x i).a, (node_item b x i).b) (s.in_order.ends_rise k i l) (t.in_order.ends_rise x i l')
      (λ v w. subst (λ (piece : Piece). is_end_of v (piece_ends piece) ≡ true) (node-piece b x i l')
      (at-other g block (components a) s.split k h.first_in (components b) t.split x h.second_in place-same i (in-first i l) (in-second i l) v (subst (λ (piece : Piece). is_end_of v (piece_ends piece) ≡ true) (sym (node-piece a k i l)) w)))
      (λ v w. subst (λ (piece : Piece). is_end_of v (piece_ends piece) ≡ true) (node-piece a k i l)
      (at-other g block (components b) t.split x h.second_in (components a) s.split k h.first_in (λ e c. sym (place-same e c)) i (in-second i l) (in-first i l) v (subst (λ (piece : Piece). is_end_of v (piece_ends piece) ≡ true) (sym (node-piece b x i l')) w)))
    where
      l' : i < length (node_at b x).items
      l' = omega (arith, l, items-length)

  -- the skeletons are equal
  pub skeletons-same : skeleton (components a) k ≡ skeleton (components b) x
  skeletons-same = ext_get_or (0, 0) (skeleton (components a) k) (skeleton (components b) x)
      (skeleton-length (components a) k ∙ node-size a k ∙ items-length ∙ sym (node-size b x) ∙ sym (skeleton-length (components b) x))
      (λ i l.
      let li : i < length (node_at a k).items = omega (arith, l, skeleton-length (components a) k, node-size a k) in
      let lo : i < length (node_at b x).items = omega (arith, li, items-length) in
      let e = ends-same i li in
      skeleton-at (components a) k i (in-first i li) ∙ ap piece_ends (node-piece a k i li) ∙ ap₂ (λ (u v : ℕ). (u, v)) e.0 e.1 ∙ sym (ap piece_ends (node-piece b x i lo)) ∙ sym (skeleton-at (components b) x i (in-second i li)))

  -- so are the lists of vertices
  pub vertices-same : (node_at a k).vertices ≡ (node_at b x).vertices
  vertices-same = members-same (node_at a k).vertices (node_at b x).vertices (s.in_order.vertices_rise k la) (t.in_order.vertices_rise x lb)
      (λ v h. sym (same v) ∙ h) (λ v h. same v ∙ h)
    where
      same : (v : ℕ) → is_member v (node_at a k).vertices ≡ is_member v (node_at b x).vertices
      same v = s.in_order.vertices k v la ∙ ap (λ (z : List (ℕ × ℕ)). is_vertex z v) skeletons-same ∙ sym (t.in_order.vertices x v lb)

  -- and the kinds
  pub kinds-same : (node_at a k).kind ≡ (node_at b x).kind
  kinds-same = sym (node-kind a k) ∙ kind-once g (components a) s.split k h.first_in (component_at (components a) k).kind (component_at (components b) x).kind (s.split.of_kind.kinds k h.first_in).of_kind
      (subst (λ (z : List (ℕ × ℕ)). IsOfKind (component_at (components b) x).kind z) (sym skeletons-same) (t.split.of_kind.kinds x h.second_in).of_kind) ∙ node-kind b x
