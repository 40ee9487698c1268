-- What follows each edge around a cut vertex, set edge by edge.
use Rattle.std.proofs.Common.{◌≡◌, ℕ, ◌+◌, ◌<◌, inl, inr, true, ◌==◌, Some, List, length, map, get_or, slice_index, refl, sym, ap, ◌∙◌, subst, arith, eq-eqb}
use Rattle.std.proofs.lemmas.Bool.{and_parts, and_from, cases_lt}
use Rattle.std.proofs.lemmas.List.{get_or-map, length-map, length-set}
use Rattle.permutations.specs.Members.{is_member, place_of}
use Rattle.permutations.specs.Cyclic.{successor}
use Rattle.permutations.proofs.Successor.{successor-member}
use Rattle.permutations.proofs.Arrangements.{member-at}
use Rattle.multigraph.specs.Graph.{edge_count, incident_edges}
use Rattle.multigraph.specs.Part.{Rises}
use Rattle.multigraph.proofs.Incident.{incident_at-edge, incident-rises}
use Rattle.multigraph.proofs.Places.{rises-once}
use Rattle.rotations.proofs.Membership.{member-edge}
use Rattle.arrangements.specs.Options.{follower}
use Rattle.arrangements.specs.Tables.{VertexTables, follow_in}
use Rattle.skel_embed.specs.Block.{BlockState}
use Rattle.whole_embed.specs.declared.members.Member.{Member}
use Rattle.whole_embed.specs.Component.{Component, BlockInPlane}
use Rattle.whole_embed.specs.Around.{outer_at, edges_around, block_with, block_order}
use Rattle.whole_embed.specs.Cuts.{member_at, blocks_in, HavePlanes}
use Rattle.whole_embed.specs.Keeping.{KeepsTables, HasAround}
use Rattle.whole_embed.proofs.Outer.{place-rising, rises-map}
use Rattle.whole_embed.proofs.Assembled.{IsAssembled}
use Rattle.whole_embed.proofs.FrameFacts.{plane-part, plane-order}
use Rattle.whole_embed.proofs.CutTables.{followed, followed-same, followed-other, followed-keeps}

module _ (k : Component) (all : List Member) (a : IsAssembled k (blocks_in all)) (h : HavePlanes k all) (v : ℕ) (mv : is_member v k.part.vertices ≡ true) where
  abbrev block : ℕ → BlockInPlane
  block = blocks_in all

  -- the edges around v increase
  pub around-rises : Rises (edges_around k v)
  around-rises = rises-map (slice_index k.part.edges) (incident_edges k.part.graph (place_of k.part.vertices v)) (λ i j l m. incident-rises k.part.graph (place_of k.part.vertices v) i j 0 l m)
      (λ x y mx my l. a.numbered.edges_rise x y l (omega (arith, member-edge k.part.graph (place_of k.part.vertices v) y my, a.numbered.edge_each)))

  -- what follows an edge is one of them
  pub follower-around : (x : ℕ) → is_member x (edges_around k v) ≡ true → is_member (follower (block_with k) (block_order block v) x) (edges_around k v) ≡ true
  follower-around x m =
      let o = a.orders v mv in
      let own : is_member x (block_order block v (block_with k x)) ≡ true = o.members x x m ∙ and_from (is_member x (edges_around k v)) (block_with k x == block_with k x) m (eq-eqb (block_with k x) (block_with k x) refl) in
      let f = follower (block_with k) (block_order block v) x in
      (and_parts (is_member f (edges_around k v)) (block_with k f == block_with k x) (sym (o.members x f m) ∙ successor-member (block_order block v (block_with k x)) x own)).0

  -- one edge more is followed as in its block
  pub renewed-more : (t : VertexTables) (n x f : ℕ) → KeepsTables k v t → length t.followers ≡ length t.edges
      → ((j : ℕ) → j < n → follow_in t (slice_index (edges_around k v) j) ≡ follower (block_with k) (block_order block v) (slice_index (edges_around k v) j))
      → n < length (edges_around k v) → x ≡ slice_index (edges_around k v) n → f ≡ follower (block_with k) (block_order block v) x
      → KeepsTables k v (followed t x f) × (length (followed t x f).followers ≡ length (followed t x f).edges)
      × ((j : ℕ) → j < n + 1 → follow_in (followed t x f) (slice_index (edges_around k v) j) ≡ follower (block_with k) (block_order block v) (slice_index (edges_around k v) j))
  renewed-more t n x f kept each inv l at is = (
    followed-keeps k v t x f kept,
    length-set t.followers (place_of t.edges x) f ∙ each,
    λ j less. elim (cases_lt j n) [
      | inl b ↦ followed-other t x f (slice_index (edges_around k v) j) (inside x n (sym at) l) (inside (slice_index (edges_around k v) j) j refl (omega (arith, b, l)))
          (λ q. absurd (omega (arith, b, rises-once (edges_around k v) around-rises j n (omega (arith, b, l)) l (q ∙ at)))) ∙ inv j b
      | inr b ↦
          let e : j ≡ n = omega (arith, less, b) in
          let here : slice_index (edges_around k v) j ≡ x = ap (slice_index (edges_around k v)) e ∙ sym at in
          subst (λ (z : ℕ). follow_in (followed t x f) z ≡ follower (block_with k) (block_order block v) z) (sym here) (followed-same t x f (inside x n (sym at) l) each ∙ is)
    ],
  )
    where
      inside : (y j : ℕ) → slice_index (edges_around k v) j ≡ y → j < length (edges_around k v) → is_member y t.edges ≡ true
      inside y j q m = subst (λ (z : List ℕ). is_member y z ≡ true) (sym kept.edges) (subst (λ (z : ℕ). is_member z (edges_around k v) ≡ true) q (member-at (edges_around k v) j 0 m))

  -- the edge at place j of the edges at vertex i of the part
  module _ (i j : ℕ) (inner : List ℕ) (at : i ≡ place_of k.part.vertices v) (is : inner ≡ incident_edges k.part.graph i) (lj : j < length inner) where
    abbrev e : ℕ
    e = get_or inner j 0

    abbrev x : ℕ
    x = slice_index k.part.edges (get_or inner j 0)

    abbrev b : ℕ
    b = slice_index k.edge_blocks (get_or inner j 0)

    pub inner-in : get_or inner j 0 < edge_count k.part.graph
    inner-in = subst (λ (l : List ℕ). get_or l j 0 < edge_count k.part.graph) (sym is) (incident_at-edge k.part.graph i j 0 (subst (λ (l : List ℕ). j < length l) is lj))

    lp : get_or inner j 0 < length k.part.edges
    lp = omega (arith, inner-in, a.numbered.edge_each)

    same : edges_around k v ≡ map (slice_index k.part.edges) inner
    same = ap (λ (z : ℕ). map (slice_index k.part.edges) (incident_edges k.part.graph z)) (sym at) ∙ ap (map (slice_index k.part.edges)) (sym is)

    pub around-at : x ≡ slice_index (edges_around k v) j
    around-at = sym (ap (λ (l : List ℕ). slice_index l j) same ∙ get_or-map (slice_index k.part.edges) inner j 0 0 lj)

    pub around-within : j < length (edges_around k v)
    around-within = omega (arith, lj, ap length same, length-map inner (slice_index k.part.edges))

    pub x-around : is_member x (edges_around k v) ≡ true
    x-around = subst (λ (z : ℕ). is_member z (edges_around k v) ≡ true) (sym around-at) (member-at (edges_around k v) j 0 around-within)

    with-is : block_with k x ≡ b
    with-is = ap (slice_index k.edge_blocks) (place-rising k.part.edges (get_or inner j 0) a.numbered.edges_rise lp)

    pub b-among : is_member b k.blocks ≡ true
    b-among = subst (λ (z : ℕ). is_member z k.blocks ≡ true) with-is (a.edge_block x (member-at k.part.edges (get_or inner j 0) 0 lp)).0

    v-there : is_member v (block b).part.vertices ≡ true
    v-there = subst (λ (z : ℕ). is_member v (block z).part.vertices ≡ true) with-is (a.has_vertex v x mv x-around)

    own : is_member x (block_order block v b) ≡ true
    own = subst (λ (z : ℕ). is_member x (block_order block v z) ≡ true) with-is
        ((a.orders v mv).members x x x-around ∙ and_from (is_member x (edges_around k v)) (block_with k x == block_with k x) x-around (eq-eqb (block_with k x) (block_with k x) refl))

    -- its block is in the plane and has it around v
    pub has-around : (m : Member) (y : ℕ) → m ≡ member_at all b → y ≡ x → HasAround m v y
    has-around m y em ey = subst (λ (z : Member). HasAround z v y) (sym em) (subst (HasAround (member_at all b) v) (sym ey) there)
      where
        there : HasAround (member_at all b) v x
        there =
            let w = h.plane b b-among in
            record {
              block = record { state = w.0; plane = w.1; graph = w.2; vertex = subst (λ z. is_member v z.vertices ≡ true) (plane-part (member_at all b).part (member_at all b).plane) v-there };
              edge = subst (λ (o : List ℕ). is_member x o ≡ true) (plane-order (member_at all b) w.0 v w.1) own;
            }

    -- what comes after it in the block
    pub follower-is : (m : Member) (y f : ℕ) → m ≡ member_at all b → y ≡ x → ((p : BlockState) → m.plane ≡ Some p → f ≡ successor (outer_at m.part p.rotation v) y) → f ≡ follower (block_with k) (block_order block v) y
    follower-is m y f em ey found =
        let w = h.plane b b-among in
        found w.0 (ap (λ (z : Member). z.plane) em ∙ w.1)
        ∙ (ap (λ (z : Member). successor (outer_at z.part w.0.rotation v) y) em
        ∙ (ap (λ (o : List ℕ). successor o y) (sym (plane-order (member_at all b) w.0 v w.1))
        ∙ ap (λ (z : ℕ). successor (block_order block v z) y) (sym (ap (block_with k) ey ∙ with-is))))
