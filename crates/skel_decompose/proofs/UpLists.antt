-- The links to the nodes from their parents, and the ranks, as they are listed.
use Rattle.std.proofs.Common.{◌≡◌, ◌≢◌, ℕ, ◌+◌, ◌<◌, ◌≤◌, inl, inr, List, length, slice_index_or, slice_set, refl, sym, ap, ◌∙◌, subst, arith}
use Rattle.std.proofs.lemmas.Bool.{cases_eq}
use Rattle.std.proofs.lemmas.List.{get_or-set_same, get_or-set_other, length-set}
use Rattle.permutations.specs.Members.{is_member}
use Rattle.permutations.proofs.Arrangements.{count-list}
use Rattle.permutations.proofs.Count.{count-within}
use Rattle.permutations.proofs.Places.{place-of, same-place}
use Rattle.multigraph.specs.Graph.{Multigraph, IsWithinLimits}
use Rattle.pair_split.specs.Split.{LinksTo}
use Rattle.pair_split.specs.Tutte.{Node, components, node_at, node_item, IsTutte}
use Rattle.pair_split.specs.declared.components.What.TheVariants.{Link}
use Rattle.pair_split.proofs.Groups.{what-cases}
use Rattle.skeletons.specs.Items.{IsBlockTree}
use Rattle.skeletons.proofs.NodeItems.{comp-in, node-in}
use Rattle.spqr_tree.specs.Keys.{parent_at}
use Rattle.spqr_tree.proofs.UpLinks.{first-in, child-up, parent-down, link-once, link-to, link-within}
use Rattle.skel_decompose.specs.Orders.{far_end, HangFromFirst, IsOrderOf}
use Rattle.skel_decompose.proofs.FirstParents.{few, number}
use Rattle.skel_decompose.proofs.Below.{link-same}
use Rattle.skel_decompose.specs.Ups.{UpLink, up_at, up_link, HaveUps, rank_at, AreRanks}

-- an item that is no link
pub ups-pass : (nodes : List Node) (k n : ℕ) (ups : List UpLink) → HaveUps nodes k (n + 1) ups → ((x : ℕ) → (node_item nodes k (n + 1)).what ≡ Link x → ⊥) → HaveUps nodes k (n + 1 + 1) ups
ups-pass nodes k n ups h none = record {
  each = h.each;
  before = h.before;
  here = λ i x l m w. elim (cases_eq i n) [
    | inl q ↦ absurd (none x (subst (λ z. (node_item nodes k (z + 1)).what ≡ Link x) q w))
    | inr o ↦ h.here i x (omega (arith, l, o)) m w
  ];
}

-- all items of a node
pub ups-next : (nodes : List Node) (k n : ℕ) (ups : List UpLink) → HaveUps nodes k n ups → length (node_at nodes k).items ≤ n → HaveUps nodes (k + 1) 1 ups
ups-next nodes k n ups h le = record {
  each = h.each;
  before = λ j i x l m w. elim (cases_eq j k) [
    | inr o ↦ h.before j i x (omega (arith, l, o)) m w
    | inl q ↦
        let own : i + 1 < length (node_at nodes k).items = subst (λ z. i + 1 < length (node_at nodes z).items) q m in
        subst (λ z. up_at ups x ≡ up_link nodes z (i + 1)) (sym q) (h.here i x (omega (arith, own, le)) own (subst (λ z. (node_item nodes z (i + 1)).what ≡ Link x) q w))
  ];
  here = λ i x l m w. absurd (omega (arith, l));
}

module _ (g : Multigraph) (nodes : List Node) (b : IsBlockTree g nodes) where
  abbrev t : IsTutte g nodes
  t = b.tree

  -- one link more
  pub ups-put : (k n x : ℕ) (ups : List UpLink) → HaveUps nodes k (n + 1) ups → n + 1 < length (node_at nodes k).items → (node_item nodes k (n + 1)).what ≡ Link x → HaveUps nodes k (n + 1 + 1) (slice_set ups x (up_link nodes k (n + 1)))
  ups-put k n x ups h l w = record {
    each = length-set ups x new ∙ h.each;
    before = λ j i y lj m v. elim (cases_eq y x) [
      | inr o ↦ get_or-set_other ups x y new none o ∙ h.before j i y lj m v
      | inl q ↦ absurd (omega (arith, lj, link-same j k (sym (child-up g nodes t b.block.has_edge j i x m (v ∙ ap Link q)) ∙ child-up g nodes t b.block.has_edge k n x l w)))
    ];
    here = λ i y li m v. elim (cases_eq y x) [
      | inr o ↦ get_or-set_other ups x y new none o ∙ h.here i y (lower i y li o v) m v
      | inl q ↦ ap (λ z. up_at (slice_set ups x new) z) q ∙ get_or-set_same ups x new none inside ∙ ap (up_link nodes k) (sym (link-once g nodes t b.block.has_edge k (i + 1) (n + 1) x m l (v ∙ ap Link q) w))
    ];
  }
    where
      new : UpLink
      new = up_link nodes k (n + 1)

      none : UpLink
      none = record { node = 0; item = 0; lesser = 0 }

      inside : x < length ups
      inside = subst (λ z. x < z) (sym h.each) (link-within g nodes t b.block.has_edge k x (link-to g nodes t b.block.has_edge k (n + 1) x l w))

      lower : (i y : ℕ) → i + 1 < n + 1 + 1 → y ≢ x → (node_item nodes k (i + 1)).what ≡ Link y → i + 1 < n + 1
      lower i y li o v = elim (cases_eq i n) [
        | inl q ↦ absurd (o (link-same y x (sym (subst (λ z. (node_item nodes k (z + 1)).what ≡ Link y) q v) ∙ w)))
        | inr f ↦ omega (arith, li, f)
      ]

  module _ (small : IsWithinLimits g) (parents order : List ℕ) (o : IsOrderOf nodes parents order) (f : HangFromFirst nodes parents) where
    -- the order is no longer than there are nodes
    pub order-few : length order ≤ length nodes
    order-few = omega (
      arith,
      number g nodes b small,
      count-within (length (components nodes)) (λ x. is_member x order),
      count-list (length (components nodes)) (λ x. is_member x order) order o.distinct (λ x m. let q = place-of order x m in subst (λ z. z < length (components nodes)) q.2 (o.ordered.within q.0 q.1)) (λ x l. refl),
    )

    -- the places of the nodes before n in the order
    abbrev pub HavePlaces : ℕ → List ℕ → Type 0
    HavePlaces n ranks = (length ranks ≡ length nodes) × ((h : ℕ) → h < n → rank_at ranks (slice_index_or order h 0) ≡ h)

    pub ranks-put : (n : ℕ) (ranks : List ℕ) → HavePlaces n ranks → n < length order → HavePlaces (n + 1) (slice_set ranks (slice_index_or order n 0) n)
    ranks-put n ranks h l = (
      length-set ranks (slice_index_or order n 0) n ∙ h.0,
      λ i m. elim (cases_eq i n) [
        | inl q ↦ ap (λ z. rank_at (slice_set ranks (slice_index_or order n 0) n) (slice_index_or order z 0)) q
            ∙ get_or-set_same ranks (slice_index_or order n 0) n 0 (subst (λ z. slice_index_or order n 0 < z) (sym h.0) (node-in g nodes t (slice_index_or order n 0) (o.ordered.within n l))) ∙ sym q
        | inr d ↦
            let less : i < n = omega (arith, m, d) in
            get_or-set_other ranks (slice_index_or order n 0) (slice_index_or order i 0) n 0 (λ s. d (same-place order i n o.distinct (omega (arith, less, l)) l s)) ∙ h.1 i less
      ],
    )

    pub ranks-done : (ranks : List ℕ) → HavePlaces (length order) ranks → AreRanks nodes ranks
    ranks-done ranks h = record {
      each = h.0;
      once = λ k j lk lj q.
          let x = place k lk in
          let y = place j lj in
          sym x.2 ∙ ap (λ z. slice_index_or order z 0) (sym (h.1 x.0 x.1) ∙ ap (rank_at ranks) x.2 ∙ q ∙ sym (ap (rank_at ranks) y.2) ∙ h.1 y.0 y.1) ∙ y.2;
      falls = λ k p lk w.
          let lp : p < length nodes = link-within g nodes t b.block.has_edge k p (link-to g nodes t b.block.has_edge k 0 p (first-in g nodes t b.block.has_edge k lk) w) in
          let down = parent-down g nodes t b.block.has_edge k p lk w in
          let x = place p lp in
          let after = o.ordered.after x.0 k x.1 (subst (λ z. LinksTo (components nodes) z k) (sym x.2) (link-to g nodes t b.block.has_edge p (down.0 + 1) k down.1 down.2))
          (λ q. other p k lp lk (f.each p lp) (subst (λ z. parent_at parents z ≡ k) x.2 q) down.0 down.1 down.2) in
          let rp : rank_at ranks p ≡ x.0 = sym (ap (rank_at ranks) x.2) ∙ h.1 x.0 x.1 in
          let rk : rank_at ranks k ≡ after.0 = sym (ap (rank_at ranks) after.3) ∙ h.1 after.0 after.2 in
          omega (arith, rp, rk, after.1);
    }
      where
        place : (k : ℕ) → k < length nodes → (q : ℕ) × (q < length order) × (slice_index_or order q 0 ≡ k)
        place k l = o.ordered.all k (comp-in g nodes t k l)

        -- a node is not the parent of its parent
        other : (p k : ℕ) → p < length nodes → k < length nodes → parent_at parents p ≡ far_end (node_item nodes p 0).what → parent_at parents p ≡ k → (i : ℕ) → i + 1 < length (node_at nodes p).items → (node_item nodes p (i + 1)).what ≡ Link k → ⊥
        other p k lp lk e q i l w = elim (what-cases (node_item nodes p 0).what) [
          | inl r ↦ omega (arith, lk, few g nodes b small, number g nodes b small, sym (ap far_end r.1) ∙ sym e ∙ q)
          | inr r ↦ omega (arith, link-once g nodes t b.block.has_edge p 0 (i + 1) k (first-in g nodes t b.block.has_edge p lp) l (r.1 ∙ ap Link (sym (ap far_end r.1) ∙ sym e ∙ q)) w)
        ]
