-- Two trees of one block are equal.
use Rattle.std.proofs.Common.{◌≡◌, ℕ, zero, suc, ◌<◌, ◌≤◌, inl, inr, true, not, List, [], length, sym, ap, ◌∙◌, subst, arith}
use Rattle.std.proofs.lemmas.Bool.{cases_lt, cases_order}
use Rattle.std.proofs.lemmas.List.{ext_get_or}
use Rattle.multigraph.specs.Graph.{Multigraph}
use Rattle.graph_theory.specs.Block.{IsOneBlock}
use Rattle.pair_split.specs.Split.{item_at, side, LinksTo}
use Rattle.pair_split.specs.Tutte.{Node, components, node_at, node_item, is_before, IsTutte}
use Rattle.pair_split.specs.declared.components.Kind.TheVariants.{B}
use Rattle.pair_split.specs.declared.components.Piece.{Piece}
use Rattle.pair_split.specs.declared.components.Item.{Item}
use Rattle.pair_split.specs.declared.components.What.{What}
use Rattle.pair_split.specs.declared.components.What.TheVariants.{Real, Link}
use Rattle.pair_split.proofs.Groups.{side-other}
use Rattle.pair_split.proofs.Subtrees.{link-in}
use Rattle.pair_split.proofs.TreeSides.{link-back}
use Rattle.pair_split.proofs.NodeParts.{node-piece}
use Rattle.graph_theory.specs.Separation.{AreSameSide}
use Rattle.tree_unique.specs.Laws.{LinksAreGood, GoodAreLinks, SidesTellLinks, TreesAreEqual}
use Rattle.tree_unique.proofs.Away.{side-tells, places-tell}
use Rattle.tree_unique.proofs.Crossed.{link-good}
use Rattle.tree_unique.proofs.GoodSides.{good-link}
use Rattle.tree_unique.proofs.Items.{place-any}
use Rattle.tree_unique.proofs.Rising.{before-not, before-once}
use Rattle.tree_unique.proofs.Matched.{HasSides, HaveSameGroups, match}
use Rattle.tree_unique.proofs.SameItems.{no_item, node-size, nodes-length, link-link, what-other, items-length, key-same, place-same, in-first, in-second, ends-same, vertices-same, kinds-same}

-- the sides of links are good
pub links-good : LinksAreGood
links-good g nodes block t = link-good g block (components nodes) t.split t.no_polygons_joined t.no_bonds_joined

-- each side of a good 2-separation is that of a link
pub good-links : GoodAreLinks
good-links g nodes block t x good = good-link g block (components nodes) t.split x good

-- a side tells its link
pub sides-tell : SidesTellLinks
sides-tell g nodes block t = side-tells g block (components nodes) t.split

module _ (g : Multigraph) (block : IsOneBlock g) (a b : List Node) (s : IsTutte g a) (t : IsTutte g b) where
  -- the links of the one have the sides of links of the other
  sides-of : HasSides g (components a) (components b)
  sides-of x y l = good-links g a block s (side (components b) x y) (links-good g b block t x y l)

  -- nodes with the same groups
  abbrev pub AreSame : ℕ → ℕ → Type 0
  AreSame k x = HaveSameGroups g (components a) s.split k (components b) t.split x

  -- they have the same order
  same-rises : (k j x y : ℕ) → k < j → AreSame k x → AreSame j y → x < y
  same-rises k j x y l p q =
      let before : is_before (node_at a k).vertices (node_at a j).vertices ≡ true = s.in_order.nodes_rise k j l (omega (arith, q.first_in, nodes-length a)) in
      let vk = vertices-same g block a b s t k x p in
      let vj = vertices-same g block a b s t j y q in
      elim (cases_order x y) [
        | inl e ↦ absurd (before-not (node_at a k).vertices (subst (λ (z : List ℕ). is_before (node_at a k).vertices z ≡ true) (vj ∙ ap (λ i. (node_at b i).vertices) (sym e) ∙ sym vk) before))
        | inr apart ↦ elim apart [
          | inl less ↦ less
          | inr more ↦ absurd (before-once (node_at a k).vertices (node_at a j).vertices before
              (subst (λ (z : List ℕ). is_before z (node_at a k).vertices ≡ true) (sym vj) (subst (λ (z : List ℕ). is_before (node_at b y).vertices z ≡ true) (sym vk) (t.in_order.nodes_rise y x more (omega (arith, p.second_in, nodes-length b))))))
        ]
      ]

module _ (g : Multigraph) (block : IsOneBlock g) (a b : List Node) (s : IsTutte g a) (t : IsTutte g b) where
  matched : (k : ℕ) → k < length (components a) → (x : ℕ) × AreSame g block a b s t k x
  matched k l = match g block (components a) s.split (components b) t.split (sides-of g block a b s t) (sides-of g block b a t s) k l

  -- the number of a node with the same groups is no less
  same-least : (k : ℕ) (l : k < length (components a)) → k ≤ (matched k l).0
  same-least zero l = omega arith
  same-least (suc k) l =
      let before : k < length (components a) = omega (arith, l) in
      omega (arith, same-least k before, same-rises g block a b s t k (suc k) (matched k before).0 (matched (suc k) l).0 (omega arith) (matched k before).1 (matched (suc k) l).1)

module _ (g : Multigraph) (block : IsOneBlock g) (a b : List Node) (s : IsTutte g a) (t : IsTutte g b) where
  -- so it is the same number
  same-number : (k : ℕ) → k < length (components a) → AreSame g block a b s t k k
  same-number k l =
      let x = matched g block a b s t k l in
      let y = matched g block b a t s x.0 x.1.second_in in
      let up : k ≤ x.0 = same-least g block a b s t k l in
      let more : x.0 ≤ y.0 = same-least g block b a t s x.0 x.1.second_in in
      let e : k ≡ y.0 = places-tell g block (components a) s.split k y.0 x.1.first_in y.1.second_in (λ e f c d p.
      y.1.forth e f c d (place-any g (components b) t.split x.0 y.1.first_in x.1.second_in e c ∙ x.1.forth e f c d p ∙ place-any g (components b) t.split x.0 x.1.second_in y.1.first_in f d)) in
      let f : x.0 ≡ k = order k x.0 y.0 up more e in
      subst (λ z. AreSame g block a b s t k z) f x.1
    where
      order : (k x y : ℕ) → k ≤ x → x ≤ y → k ≡ y → x ≡ k
      order k x y p q e = omega (arith, p, q, e)

module _ (g : Multigraph) (block : IsOneBlock g) (a b : List Node) (s : IsTutte g a) (t : IsTutte g b) where
  lengths : length a ≡ length b
  lengths = elim (cases_lt (length a) (length b)) [
    | inl l ↦ let w : AreSame g block b a t s (length a) (length a) = same-number g block b a t s (length a) (omega (arith, l, nodes-length b)) in absurd (omega (arith, w.second_in, nodes-length a))
    | inr m ↦ elim (cases_lt (length b) (length a)) [
      | inl l ↦ let w : AreSame g block a b s t (length b) (length b) = same-number g block a b s t (length b) (omega (arith, l, nodes-length a)) in absurd (omega (arith, w.second_in, nodes-length b))
      | inr n ↦ let e : length a ≡ length b = omega (arith, m, n) in e
    ]
  ]

  module _ (k : ℕ) (l : k < length a) where
    h : AreSame g block a b s t k k
    h = same-number g block a b s t k (omega (arith, l, nodes-length a))

    -- the links lead to the same nodes
    same-target : (i j d : ℕ) → i < length (node_at a k).items → (item_at (components a) k i).what ≡ Link j → (item_at (components b) k i).what ≡ Link d → j ≡ d
    same-target i j d li p q =
        let m : LinksTo (components a) k j = (i, (in-first g block a b s t k k h i li, p)) in
        let n : LinksTo (components b) k d = (i, (in-second g block a b s t k k h i li, q)) in
        let back : LinksTo (components a) j k = link-back (components a) s.split.linked k j m in
        let from : LinksTo (components b) d k = link-back (components b) t.split.linked k d n in
        let w : AreSame g block a b s t j j = same-number g block a b s t j (link-in (components a) s.split.linked k j m) in
        let r : ℕ = back.0 in
        let lr : r < length (node_at a j).items = omega (arith, (back.1).0, node-size a j) in
        let here : AreSameSide g (side (components a) k j) (side (components b) k d) = link-link g block (components a) s.split k h.first_in (components b) t.split k h.second_in (place-same g block a b s t k k h) i (in-first g block a b s t k k h i li) (in-second g block a b s t k k h i li) j d p q in
        elim (what-other g block (components a) s.split j w.first_in (components b) t.split j w.second_in (place-same g block a b s t j j w) r (in-first g block a b s t j j w r lr) (in-second g block a b s t j j w r lr)) [
          | inl z ↦ absurd (real-link z.0 k (sym z.1 ∙ (back.1).1))
          | inr z ↦
              let there : AreSameSide g (side (components a) j k) (side (components b) j z.1) = link-link g block (components a) s.split j w.first_in (components b) t.split j w.second_in (place-same g block a b s t j j w) r (in-first g block a b s t j j w r lr) (in-second g block a b s t j j w r lr) k z.1 (back.1).1 z.3 in
              let to : LinksTo (components b) j z.1 = (r, (in-second g block a b s t j j w r lr, z.3)) in
              (side-tells g block (components b) t.split j z.1 d k to from (λ e c.
              sym (there e c) ∙ side-other g (components a) s.split j k e back c ∙ ap not (here e c) ∙ sym (side-other g (components b) t.split d k e from c))).0
        ]
      where
        is_real : What → ℕ
        is_real (Real f) = 0
        is_real (Link j) = 1

        real-link : (f j : ℕ) → Real f ≡ Link j → ⊥
        real-link f j e = absurd (omega (arith, ap is_real e))

    what-same : (i : ℕ) → i < length (node_at a k).items → (node_item a k i).what ≡ (node_item b k i).what
    what-same i li =
        let lo : i < length (node_at b k).items = omega (arith, li, items-length g block a b s t k k h) in
        let first : (node_item a k i).what ≡ (item_at (components a) k i).what = sym (ap (λ (piece : Piece). piece.what) (node-piece a k i li)) in
        let second : (item_at (components b) k i).what ≡ (node_item b k i).what = ap (λ (piece : Piece). piece.what) (node-piece b k i lo) in
        first ∙ elim (what-other g block (components a) s.split k h.first_in (components b) t.split k h.second_in (place-same g block a b s t k k h) i (in-first g block a b s t k k h i li) (in-second g block a b s t k k h i li)) [
          | inl z ↦ z.1 ∙ sym z.2
          | inr z ↦ z.2 ∙ ap Link (same-target i z.0 z.1 li z.2 z.3) ∙ sym z.3
        ] ∙ second

    items-same : (node_at a k).items ≡ (node_at b k).items
    items-same = ext_get_or no_item (node_at a k).items (node_at b k).items (items-length g block a b s t k k h) (λ i li.
        let e = ends-same g block a b s t k k h i li in
        item_path (node_item a k i) (node_item b k i) (key-same g block a b s t k k h i li) e.0 e.1 (what-same i li))
      where
        item_path : (x y : Item) → x.key ≡ y.key → x.a ≡ y.a → x.b ≡ y.b → x.what ≡ y.what → x ≡ y
        item_path x y p q r w = λ i. record { key = p i; a = q i; b = r i; what = w i }

    nodes-same : node_at a k ≡ node_at b k
    nodes-same = node_path (node_at a k) (node_at b k) (kinds-same g block a b s t k k h) (vertices-same g block a b s t k k h) items-same
      where
        node_path : (x y : Node) → x.kind ≡ y.kind → x.vertices ≡ y.vertices → x.items ≡ y.items → x ≡ y
        node_path x y p q r = λ i. record { kind = p i; vertices = q i; items = r i }

  trees-same : a ≡ b
  trees-same = ext_get_or (record { kind = B; vertices = []; items = [] }) a b lengths nodes-same

-- two trees of one block are equal
pub trees-equal : TreesAreEqual
trees-equal g a b block s t = trees-same g block a b s t
