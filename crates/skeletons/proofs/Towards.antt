-- Two nodes of a tree: the item of the one towards the other; a vertex of both is an end of it; each edge is in the group of
-- one of the two items; and three edges at a vertex are told apart by some node. (Lemmas on trees alone: they belong to
-- pair_split.)
use Rattle.std.proofs.Common.{◌≡◌, ◌≢◌, ℕ, zero, suc, ◌<◌, ◌&&◌, inl, inr, Bool, true, false, List, length, filter, sym, ap, ap₂, ◌∙◌, subst, arith, Contains}
use Rattle.std.proofs.lemmas.Bool.{cases_Bool, cases_eq, both_ways, and_parts, and_from, and_left, eqb-true, false_from_ne_true, not_from_false, not_from_true}
use Rattle.permutations.specs.Count.{count}
use Rattle.permutations.specs.Relation.{connected}
use Rattle.permutations.proofs.Count.{count-less}
use Rattle.permutations.proofs.Relation.{same-tests, connected-symmetric, connected-transitive, connected-link, connected-closed}
use Rattle.multigraph.specs.Graph.{Multigraph, edge_count, ends_of, is_end}
use Rattle.pair_split.specs.Skeleton.{is_end_of}
use Rattle.pair_split.specs.Split.{item_at, piece_ends, all_links, joins_others, StandsFor, is_beyond, side, LinksTo, AreLinked, IsSplit}
use Rattle.pair_split.specs.Tutte.{Node, components, node_at, node_item, has_in_group, group, IsTutte}
use Rattle.pair_split.specs.declared.components.Comp.{Comp}
use Rattle.pair_split.specs.declared.components.What.TheVariants.{Real, Link}
use Rattle.pair_split.proofs.Elements.{filter-contains}
use Rattle.pair_split.proofs.GraphFamily.{all-from_contained}
use Rattle.pair_split.proofs.Groups.{what-cases, same-end, same-end_back, side-at, side-other, in_group-real, in_group-link}
use Rattle.pair_split.proofs.Links.{contained-link, stands-in}
use Rattle.pair_split.proofs.Subtrees.{link-in}
use Rattle.pair_split.proofs.TreeSides.{link-from, link-back, beyond-other, beyond-far, beyond-near, beyond-along, beyond-apart, beyond-some}
use Rattle.skeletons.specs.Items.{ends_item, has_vertex}
use Rattle.skeletons.proofs.NodeItems.{node-in, comp-in, item-of, stands-of, ends-at, group-is, edge-item, group-item, vertex-node, item-vertex, edge-end, outside-edge}

module _ (g : Multigraph) (nodes : List Node) (t : IsTutte g nodes) where
  abbrev comps : List Comp
  comps = components nodes

  abbrev split : IsSplit g comps
  split = t.split

  abbrev linked : AreLinked comps
  linked = split.linked

  -- the item of node k that is the link towards node j
  pub record Toward (k j : ℕ) : Type 0 where
    pub place : ℕ
    pub next : ℕ
    pub is_item : place < length (node_at nodes k).items
    pub is_link : (node_item nodes k place).what ≡ Link next
    pub beyond : is_beyond comps k next j ≡ true

  -- there is one
  pub toward : (k j : ℕ) → k < length nodes → j < length nodes → j ≢ k → Toward k j
  toward k j l b n =
      let w = beyond-some comps linked k j (comp-in g nodes t k l) (comp-in g nodes t j b) n in
      let m = item-of g nodes t k (w.1).0 (Link w.0) (w.1).1 in
      record { place = (w.1).0; next = w.0; is_item = m.0; is_link = m.1; beyond = w.2 }

  -- as a link
  pub toward-link : (k j : ℕ) (w : Toward k j) → LinksTo comps k w.next
  toward-link k j w = (w.place, stands-of g nodes t k w.place (Link w.next) w.is_item w.is_link)

  -- its key
  abbrev pub key_toward : (k j : ℕ) → Toward k j → ℕ
  key_toward k j w = (node_item nodes k w.place).key

  -- the edges in the group of a link are those on its side
  pub side-group : (k p h e : ℕ) → k < length nodes → p < length (node_at nodes k).items → (node_item nodes k p).what ≡ Link h → e < edge_count g → side comps k h e ≡ true → group nodes k e ≡ (node_item nodes k p).key
  side-group k p h e d l q b s = group-is g nodes t k p e l b (in_group-link g comps split k h e (node_item nodes k p).what q ∙ s)

  pub group-side : (k p h e : ℕ) → k < length nodes → p < length (node_at nodes k).items → (node_item nodes k p).what ≡ Link h → e < edge_count g → group nodes k e ≡ (node_item nodes k p).key → side comps k h e ≡ true
  group-side k p h e d l q b s = sym (in_group-link g comps split k h e (node_item nodes k p).what q) ∙ group-item g nodes t k p e d l b s

  -- what is not beyond the link from k towards j is beyond that from j towards k
  beyond-either : (k j : ℕ) → k ≢ j → (w : Toward k j) (u : Toward j k) → (x : ℕ) → x < length comps → is_beyond comps k w.next x ≡ false → is_beyond comps j u.next x ≡ true
  beyond-either k j n w u x l f = (and_parts (near x) (is_beyond comps j u.next x) (sym whole ∙ start)).1
    where
      near : ℕ → Bool
      near y = is_beyond comps w.next k y

      link : LinksTo comps k w.next
      link = toward-link k j w

      back : LinksTo comps w.next k
      back = link-back comps linked k w.next link

      both : ℕ → Bool
      both y = is_beyond comps w.next k y && is_beyond comps j u.next y

      start : both k ≡ true
      start = and_from (is_beyond comps w.next k k) (is_beyond comps j u.next k) (beyond-far comps linked w.next k) u.beyond

      not_j : is_beyond comps w.next k j ≡ false
      not_j = beyond-other comps linked w.next k j back (link-in-j) ∙ not_from_true (is_beyond comps k w.next j) w.beyond
        where
          link-in-j : j < length comps
          link-in-j = link-from comps linked j u.next (toward-link j k u)

      along : (l : ℕ × ℕ) → Contains (filter (joins_others w.next k) (all_links 0 comps)) l → both l.0 ≡ both l.1
      along l c =
          let f = filter-contains (joins_others w.next k) l (all_links 0 comps) c in
          let i : LinksTo comps l.0 l.1 = contained-link comps l f.0 in
          let joined : connected (filter (joins_others w.next k) (all_links 0 comps)) l.0 l.1 ≡ true = connected-link (filter (joins_others w.next k) (all_links 0 comps)) l.0 l.1 c in
          let same : is_beyond comps w.next k l.0 ≡ is_beyond comps w.next k l.1 = same-tests (is_beyond comps w.next k l.0) (is_beyond comps w.next k l.1)
          (λ h. connected-transitive (filter (joins_others w.next k) (all_links 0 comps)) k l.0 l.1 h joined)
          (λ h. connected-transitive (filter (joins_others w.next k) (all_links 0 comps)) k l.1 l.0 h (connected-symmetric (filter (joins_others w.next k) (all_links 0 comps)) l.0 l.1 joined)) in
          elim (cases_Bool (is_beyond comps w.next k l.0)) [
            | inr o ↦ and_left (is_beyond comps w.next k l.0) (is_beyond comps j u.next l.0) o ∙ sym (and_left (is_beyond comps w.next k l.1) (is_beyond comps j u.next l.1) (sym same ∙ o))
            | inl y ↦ ap₂ (λ (a b : Bool). a && b) same (beyond-along comps linked j u.next l.0 l.1 i
                (λ e. both_ways (is_beyond comps w.next k j) not_j (ap (is_beyond comps w.next k) (sym e) ∙ y))
                (λ e. both_ways (is_beyond comps w.next k j) not_j (ap (is_beyond comps w.next k) (sym e) ∙ sym same ∙ y)))
          ]

      closed : (y : ℕ) → is_beyond comps w.next k y ≡ true → both k ≡ both y
      closed y h = connected-closed (filter (joins_others w.next k) (all_links 0 comps)) both
          (all-from_contained (λ l. both l.0 ≡ both l.1) (filter (joins_others w.next k) (all_links 0 comps)) along) k y h

      there : is_beyond comps w.next k x ≡ true
      there = beyond-other comps linked w.next k x back l ∙ not_from_false (is_beyond comps k w.next x) f

      whole : both k ≡ both x
      whole = closed x there

  -- each edge is in the group of the item of k towards j, or of that of j towards k
  pub group-either : (k j e : ℕ) → k ≢ j → (w : Toward k j) (u : Toward j k) → e < edge_count g → group nodes k e ≢ key_toward k j w → group nodes j e ≡ key_toward j k u
  group-either k j e n w u b f =
      let h = split.covers.present e b in
      let dk : k < length nodes = node-in g nodes t k (link-from comps linked k w.next (toward-link k j w)) in
      let dj : j < length nodes = node-in g nodes t j (link-from comps linked j u.next (toward-link j k u)) in
      elim (cases_Bool (is_beyond comps k w.next h.0)) [
        | inl y ↦ absurd (f (side-group k w.place w.next e dk w.is_item w.is_link b (side-at g comps split k w.next h.0 h.1 e h.2 ∙ y)))
        | inr o ↦ side-group j u.place u.next e dj u.is_item u.is_link b (side-at g comps split j u.next h.0 h.1 e h.2
            ∙ beyond-either k j n w u h.0 (stands-in comps h.0 h.1 (Real e) h.2) o)
      ]

  -- a vertex of both is an end of the item
  pub shared-end : (k j v : ℕ) → k ≢ j → (w : Toward k j) → has_vertex nodes k v ≡ true → has_vertex nodes j v ≡ true → ends_item v (node_item nodes k w.place) ≡ true
  shared-end k j v n w x y =
      let dk : k < length nodes = vertex-node nodes k v x in
      let dj : j < length nodes = vertex-node nodes j v y in
      let u : Toward j k = toward j k dj dk n in
      let f = outside-edge g nodes t j u.place u.next v u.is_item u.is_link y in
      edge-end g nodes t k v w.place f.0 x w.is_item f.1 f.2
      (group-item g nodes t k w.place f.0 dk w.is_item f.1 (group-either j k f.0 (λ e. n (sym e)) u w f.1 f.3))

  -- the far end of a link: the place of the link back
  pub far-item : (k p h : ℕ) → p < length (node_at nodes k).items → (node_item nodes k p).what ≡ Link h
      → (q : ℕ) × (q < length (node_at nodes h).items) × ((node_item nodes h q).what ≡ Link k) × ((v : ℕ) → ends_item v (node_item nodes k p) ≡ ends_item v (node_item nodes h q))
  far-item k p h l q =
      let b = linked.back k h p (stands-of g nodes t k p (Link h) l q) in
      let m = item-of g nodes t h b.0 (Link k) b.1 in (
        b.0,
        m.0,
        m.1,
        λ v. sym (ends-at g nodes t k p v l) ∙ same-tests (is_end_of v (piece_ends (item_at comps k p))) (is_end_of v (piece_ends (item_at comps h b.0)))
            (same-end_back (piece_ends (item_at comps k p)) (piece_ends (item_at comps h b.0)) v b.2) (same-end (piece_ends (item_at comps k p)) (piece_ends (item_at comps h b.0)) v b.2)
            ∙ ends-at g nodes t h b.0 v m.0,
      )

  -- an end of a link is a vertex of the node to which it leads
  pub link-vertex : (k p h v : ℕ) → p < length (node_at nodes k).items → (node_item nodes k p).what ≡ Link h → ends_item v (node_item nodes k p) ≡ true → has_vertex nodes h v ≡ true
  link-vertex k p h v l q x =
      let b = far-item k p h l q in
      item-vertex g nodes t h v b.0 (node-in g nodes t h (link-in comps linked k h (p, stands-of g nodes t k p (Link h) l q))) b.1 (sym (b.3 v) ∙ x)

  -- fewer nodes are beyond the next link
  pub beyond-falls : (k h x : ℕ) → LinksTo comps k h → LinksTo comps h x → x ≢ k → count (length comps) (is_beyond comps h x) < count (length comps) (is_beyond comps k h)
  beyond-falls k h x l m n = count-less (length comps) (is_beyond comps h x) (is_beyond comps k h) h
      (λ d b y. beyond-other comps linked k h d l b ∙ not_from_false (is_beyond comps h k d) (beyond-apart comps linked h x k d m (link-back comps linked k h l) n y))
      (link-in comps linked k h l) (beyond-near comps linked h x m) (beyond-far comps linked k h)

  -- a node that has v and tells three edges apart
  pub record TellsApart (v a b c : ℕ) : Type 0 where
    pub node : ℕ
    pub has : has_vertex nodes node v ≡ true
    pub ab : group nodes node a ≢ group nodes node b
    pub ac : group nodes node a ≢ group nodes node c
    pub bc : group nodes node b ≢ group nodes node c

  module _ (v a b c : ℕ) (la : a < edge_count g) (lb : b < edge_count g) (lc : c < edge_count g)
      (va : is_end g v a ≡ true) (vb : is_end g v b ≡ true) (vc : is_end g v c ≡ true) (differ : b ≢ c) where
    -- two different edges in one group: it is that of a link
    common-link : (k : ℕ) → k < length nodes → group nodes k b ≡ group nodes k c
        → (p h : ℕ) × (p < length (node_at nodes k).items) × ((node_item nodes k p).what ≡ Link h) × (group nodes k b ≡ (node_item nodes k p).key)
    common-link k d q =
        let w = edge-item g nodes t k b d lb in
        let own : group nodes k b ≡ (node_item nodes k w.0).key = group-is g nodes t k w.0 b w.1 lb w.2 in
        let too : has_in_group comps k c (node_item nodes k w.0).what ≡ true = group-item g nodes t k w.0 c d w.1 lc (sym q ∙ own) in
        elim (what-cases (node_item nodes k w.0).what) [
          | inr r ↦ (w.0, r.0, w.1, r.1, own)
          | inl r ↦ absurd (differ (sym (eqb-true r.0 b (sym (ap (has_in_group comps k b) r.1) ∙ w.2)) ∙ eqb-true r.0 c (sym (ap (has_in_group comps k c) r.1) ∙ too)))
        ]

    -- where a is apart from b and c at k, and these are in one group: further along
    walk : (fuel k p h : ℕ) → has_vertex nodes k v ≡ true → p < length (node_at nodes k).items → (node_item nodes k p).what ≡ Link h
        → group nodes k b ≡ (node_item nodes k p).key → group nodes k c ≡ (node_item nodes k p).key → group nodes k a ≢ (node_item nodes k p).key
        → count (length comps) (is_beyond comps k h) < fuel → TellsApart v a b c
    walk zero k p h x l q gb gc ga m = absurd (omega (arith, m))
    walk (suc fuel) k p h x l q gb gc ga m = elim (cases_eq (group nodes h b) (group nodes h c)) [
      | inr n ↦ record { node = h; has = y; ab = λ e. (away b lb gb) (sym e ∙ own_a); ac = λ e. (away c lc gc) (sym e ∙ own_a); bc = n }
      | inl e ↦
          let w = common-link h dh e in
          let further : LinksTo comps h w.1 = (w.0, stands-of g nodes t h w.0 (Link w.1) w.2 w.3) in
          let other : w.1 ≢ k = λ r. away b lb gb (w.4 ∙ ap (λ z. (node_item nodes h z).key) (linked.once h k w.0 back.0 (subst (λ z. StandsFor comps h w.0 (Link z)) r further.1) (stands-of g nodes t h back.0 (Link k) back.1 back.2))) in
          walk fuel h w.0 w.1 y w.2 w.3 w.4 (sym e ∙ w.4) (λ r. away b lb gb (w.4 ∙ sym r ∙ own_a)) (omega (arith, m, beyond-falls k h w.1 link further other))
    ]
      where
        dk : k < length nodes
        dk = vertex-node nodes k v x

        link : LinksTo comps k h
        link = (p, stands-of g nodes t k p (Link h) l q)

        dh : h < length nodes
        dh = node-in g nodes t h (link-in comps linked k h link)

        back : (q : ℕ) × (q < length (node_at nodes h).items) × ((node_item nodes h q).what ≡ Link k) × ((v : ℕ) → ends_item v (node_item nodes k p) ≡ ends_item v (node_item nodes h q))
        back = far-item k p h l q

        y : has_vertex nodes h v ≡ true
        y = link-vertex k p h v l q (edge-end g nodes t k v p b x l lb vb (group-item g nodes t k p b dk l lb gb))

        -- an edge beyond the link isn't in the group of the link back
        away : (e : ℕ) → e < edge_count g → group nodes k e ≡ (node_item nodes k p).key → group nodes h e ≢ (node_item nodes h back.0).key
        away e le ge r = both_ways (side comps k h e)
            (side-other g comps split k h e link le ∙ not_from_true (side comps h k e) (group-side h back.0 k e dh back.1 back.2 le r))
            (group-side k p h e dk l q le ge)

        own_a : group nodes h a ≡ (node_item nodes h back.0).key
        own_a = side-group h back.0 k a dh back.1 back.2 la (side-other g comps split h k a (link-back comps linked k h link) la
            ∙ not_from_false (side comps k h a) (false_from_ne_true (side comps k h a) (λ s. ga (side-group k p h a dk l q la s))))

    -- three different edges at a vertex are in three groups at some node that has it
    pub tells-apart : a ≢ b → a ≢ c → TellsApart v a b c
    tells-apart nb nc =
        let h = split.covers.present a la in
        let m = item-of g nodes t h.0 h.1 (Real a) h.2 in
        let d : h.0 < length nodes = node-in g nodes t h.0 (stands-in comps h.0 h.1 (Real a) h.2) in
        let own : group nodes h.0 a ≡ (node_item nodes h.0 h.1).key = group-is g nodes t h.0 h.1 a m.0 la (in_group-real g comps split h.0 a (node_item nodes h.0 h.1).what m.1) in
        let apart : (e : ℕ) → e < edge_count g → a ≢ e → group nodes h.0 a ≢ group nodes h.0 e = λ e le n q.
        n (eqb-true a e (sym (ap (has_in_group comps h.0 e) m.1) ∙ group-item g nodes t h.0 h.1 e d m.0 le (sym q ∙ own))) in
        let has : has_vertex nodes h.0 v ≡ true = item-vertex g nodes t h.0 v h.1 d m.0 (sym (ends-at g nodes t h.0 h.1 v m.0) ∙ same-end (piece_ends (item_at comps h.0 h.1)) (ends_of g a) v ((split.covers.edges a h.0 h.1 h.2).1) va) in
        elim (cases_eq (group nodes h.0 b) (group nodes h.0 c)) [
          | inr n ↦ record { node = h.0; has = has; ab = apart b lb nb; ac = apart c lc nc; bc = n }
          | inl e ↦ let w = common-link h.0 d e in
              walk (suc (count (length comps) (is_beyond comps h.0 w.1))) h.0 w.0 w.1 has w.2 w.3 w.4 (sym e ∙ w.4) (λ r. apart b lb nb (r ∙ sym w.4)) (omega arith)
        ]
