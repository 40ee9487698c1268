-- One node more of the order, each after its parent.
use Rattle.std.proofs.Common.{◌≡◌, ◌≢◌, ℕ, ◌+◌, ◌*◌, ◌<◌, ◌≤◌, true, not, List, length, slice_index_or, slice_set, inl, inr, refl, sym, ap, ◌∙◌, subst, arith}
use Rattle.std.specs.Prelude.{Option, None}
use Rattle.std.proofs.lemmas.Bool.{cases_eq, both_ways}
use Rattle.std.proofs.lemmas.List.{length-set, get_or-set_same, get_or-set_other}
use Rattle.permutations.specs.Members.{is_distinct}
use Rattle.permutations.proofs.Places.{same-place}
use Rattle.multigraph.specs.Graph.{Multigraph, edge_count}
use Rattle.dart_maps.proofs.Darts.{twin-below}
use Rattle.pair_split.specs.Split.{LinksTo, is_beyond}
use Rattle.pair_split.specs.Tutte.{Node, components, node_at, node_item}
use Rattle.pair_split.specs.declared.components.Kind.TheVariants.{P}
use Rattle.pair_split.specs.declared.components.What.TheVariants.{Link}
use Rattle.pair_split.proofs.TreeSides.{beyond-other, link-back, link-from}
use Rattle.skeletons.specs.Items.{IsBlockTree}
use Rattle.skeletons.specs.Families.{skeleton_graph}
use Rattle.skeletons.proofs.NodeItems.{comp-in, node-in, item-of}
use Rattle.skeletons.proofs.Towards.{toward, toward-link}
use Rattle.skeleton_faces.specs.Faces.{IsSkeletonDart}
use Rattle.spqr_tree.specs.Keys.{parent_at, AreOrdered}
use Rattle.long_face.specs.Wanted.{Want, IsPair}
use Rattle.long_face.specs.Settled.{has_want, want_or, want_at, IsBest, IsSettled, AreSettled}
use Rattle.long_face.specs.Walk.{IsAskable, IsSettledAt, AreSettledUpTo}

module _ (g : Multigraph) (nodes : List Node) (b : IsBlockTree g nodes) (top : ℕ) (l : top < length nodes) (parents order : List ℕ) (o : AreOrdered (components nodes) top parents order) (once : is_distinct order ≡ true) where
  -- no two nodes are parents of each other
  not-both : (k j : ℕ) → LinksTo (components nodes) k j → parent_at parents k ≡ j → parent_at parents j ≢ k
  not-both k j link e f = both_ways (is_beyond (components nodes) k j top)
      (beyond-other (components nodes) b.tree.split.linked k j top link (comp-in g nodes b.tree top l) ∙ ap not (o.up j k (link-back (components nodes) b.tree.split.linked k j link) f)) (o.up k j link e)

  -- a node other than the top is linked to its parent
  pub parent-link : (k : ℕ) → k < length nodes → k ≢ top → LinksTo (components nodes) k (parent_at parents k)
  parent-link k m n =
      let w = toward g nodes b.tree k top m l (λ e. n (sym e)) in
      let link = toward-link g nodes b.tree k top w in
      elim (cases_eq (parent_at parents k) w.next) [
        | inl e ↦ subst (LinksTo (components nodes) k) (sym e) link
        | inr d ↦ absurd (both_ways (is_beyond (components nodes) k w.next top)
            (beyond-other (components nodes) b.tree.split.linked k w.next top link (comp-in g nodes b.tree top l)
            ∙ ap not (o.up w.next k (link-back (components nodes) b.tree.split.linked k w.next link) (o.down k w.next link d))) w.beyond)
      ]

  -- and is after it
  pub parent-before : (q : ℕ) → q < length order → slice_index_or order q 0 ≢ top → (p : ℕ) × (p < q) × (p < length order) × (slice_index_or order p 0 ≡ parent_at parents (slice_index_or order q 0))
  parent-before q m n =
      let k = slice_index_or order q 0 in
      let inside : k < length nodes = node-in g nodes b.tree k (o.within q m) in
      let link = parent-link k inside n in
      let back = link-back (components nodes) b.tree.split.linked k (parent_at parents k) link in
      let p = o.all (parent_at parents k) (link-from (components nodes) b.tree.split.linked (parent_at parents k) k back) in
      let h = o.after p.0 k p.1 (subst (λ z. LinksTo (components nodes) z k) (sym p.2) back) (subst (λ z. parent_at parents z ≢ k) (sym p.2) (not-both k (parent_at parents k) link refl)) in
      let e : h.0 ≡ q = same-place order h.0 q once h.2 m h.3 in
      (p.0, omega (arith, h.1, e), p.1, p.2)

  -- its items
  pub parent-items : (k : ℕ) → k < length nodes → k ≢ top → (parent_at parents k < length nodes) × ((i : ℕ) × (i < length (node_at nodes (parent_at parents k)).items) × ((node_item nodes (parent_at parents k) i).what ≡ Link k))
      × ((h : ℕ) × (h < length (node_at nodes k).items) × ((node_item nodes k h).what ≡ Link (parent_at parents k)))
  parent-items k m n =
      let link = parent-link k m n in
      let back = link-back (components nodes) b.tree.split.linked k (parent_at parents k) link in
      let there = item-of g nodes b.tree (parent_at parents k) back.0 (Link k) back.1 in
      let here = item-of g nodes b.tree k link.0 (Link (parent_at parents k)) link.1 in
      (node-in g nodes b.tree (parent_at parents k) (link-from (components nodes) b.tree.split.linked (parent_at parents k) k back), (back.0, there.0, there.1), (link.0, here.0, here.1))

  module _ (family : List (List (List ℕ))) (weight : ℕ → ℕ → ℕ) (most : ℕ) where
    -- what is wanted of a settled node is a face of it
    pub settled-dart : (wants : List (Option Want)) (k : ℕ) → k < length nodes → IsSettledAt nodes family weight top most parents wants k → has_want (want_at wants k) ≡ true
        → IsSkeletonDart nodes k (want_or (want_at wants k)).dart × ((node_at nodes k).kind ≡ P → IsPair (length (node_at nodes k).items) (want_or (want_at wants k)))
    settled-dart wants k m s h = elim (cases_eq k top) [
      | inl e ↦ let t = s.top_on e in (t.1, t.2.pairs)
      | inr n ↦ let t = (s.below n).source h in ((m, subst (λ z. z < 2 * edge_count (skeleton_graph nodes k)) (sym t.4) (twin-below (edge_count (skeleton_graph nodes k)) t.1 (t.2.second.1))), t.5.pairs)
    ]

    -- what is wanted of the parent is settled
    pub parent-askable : (wants : List (Option Want)) (q : ℕ) → q < length order → slice_index_or order q 0 ≢ top → AreSettledUpTo nodes family weight top most parents order q wants
        → has_want (want_at wants (parent_at parents (slice_index_or order q 0))) ≡ true → IsAskable nodes (parent_at parents (slice_index_or order q 0)) (slice_index_or order q 0) (want_or (want_at wants (parent_at parents (slice_index_or order q 0))))
    parent-askable wants q m n s h =
        let k = slice_index_or order q 0 in
        let inside : k < length nodes = node-in g nodes b.tree k (o.within q m) in
        let items = parent-items k inside n in
        let p = parent-before q m n in
        let dart = settled-dart wants (parent_at parents k) items.0 (subst (IsSettledAt nodes family weight top most parents wants) p.3 (s.each p.0 p.1 p.2)) h in
        record { near = items.0; far = inside; link = items.1; back = items.2; dart = dart.0; pair = dart.1 }

    -- one node more
    pub settled-more : (wants : List (Option Want)) (q : ℕ) (own : Option Want) → q < length order → AreSettledUpTo nodes family weight top most parents order q wants
        → (slice_index_or order q 0 ≡ top → (has_want own ≡ true) × IsSkeletonDart nodes (slice_index_or order q 0) (want_or own).dart × IsBest nodes family weight (slice_index_or order q 0) (want_or own) most)
        → (slice_index_or order q 0 ≢ top → IsSettled nodes family weight (parent_at parents (slice_index_or order q 0)) (want_at wants (parent_at parents (slice_index_or order q 0))) (slice_index_or order q 0) own)
        → AreSettledUpTo nodes family weight top most parents order (q + 1) (slice_set wants (slice_index_or order q 0) own)
    settled-more wants q own m s at_top below = record { places = length-set wants k own ∙ s.places; each = each }
      where
        k : ℕ
        k = slice_index_or order q 0

        inside : slice_index_or order q 0 < length wants
        inside = let d : k < length nodes = node-in g nodes b.tree k (o.within q m) in omega (arith, d, s.places)

        own-at : want_at (slice_set wants (slice_index_or order q 0) own) (slice_index_or order q 0) ≡ own
        own-at = get_or-set_same wants k own None inside

        other-at : (j : ℕ) → j ≢ slice_index_or order q 0 → want_at (slice_set wants (slice_index_or order q 0) own) j ≡ want_at wants j
        other-at j n = get_or-set_other wants k j own None n

        -- before it are other nodes
        before : (p : ℕ) → p < q → p < length order → slice_index_or order p 0 ≢ slice_index_or order q 0
        before p a c e = let f : p ≡ q = same-place order p q once c m e in omega (arith, a, f)

        each : (p : ℕ) → p < q + 1 → p < length order → IsSettledAt nodes family weight top most parents (slice_set wants (slice_index_or order q 0) own) (slice_index_or order p 0)
        each p a c = elim (cases_eq p q) [
          | inl e ↦ subst (λ z. IsSettledAt nodes family weight top most parents (slice_set wants k own) (slice_index_or order z 0)) (sym e) (record {
            top_on = λ i. subst (λ (z : Option Want). (has_want z ≡ true) × IsSkeletonDart nodes k (want_or z).dart × IsBest nodes family weight k (want_or z) most) (sym own-at) (at_top i);
            below = λ n. let w = parent-before q m n in
                subst (λ (z : Option Want). IsSettled nodes family weight (parent_at parents k) z k (want_at (slice_set wants k own) k)) (sym (other-at (parent_at parents k) (λ e. before w.0 w.1 w.2 (w.3 ∙ e))))
                (subst (λ (z : Option Want). IsSettled nodes family weight (parent_at parents k) (want_at wants (parent_at parents k)) k z) (sym own-at) (below n));
          })
          | inr d ↦
              let less : p < q = omega (arith, a, d) in
              let j = slice_index_or order p 0 in
              let old = s.each p less c in
              record {
                top_on = λ i. subst (λ (z : Option Want). (has_want z ≡ true) × IsSkeletonDart nodes j (want_or z).dart × IsBest nodes family weight j (want_or z) most) (sym (other-at j (before p less c))) (old.top_on i);
                below = λ n. let w = parent-before p c n in
                    let lower : w.0 < q = omega (arith, w.1, less) in
                    subst (λ (z : Option Want). IsSettled nodes family weight (parent_at parents j) z j (want_at (slice_set wants k own) j)) (sym (other-at (parent_at parents j) (λ e. before w.0 lower w.2 (w.3 ∙ e))))
                    (subst (λ (z : Option Want). IsSettled nodes family weight (parent_at parents j) (want_at wants (parent_at parents j)) j z) (sym (other-at j (before p less c))) (old.below n));
              }
        ]

    -- all of them
    pub settled-all : (wants : List (Option Want)) (n : ℕ) → length order ≤ n → AreSettledUpTo nodes family weight top most parents order n wants → AreSettled nodes family weight top most parents wants
    settled-all wants n e s = record {
      top_in = l;
      top_on = ((at top l).top_on refl).0;
      top_dart = ((at top l).top_on refl).1;
      top_best = ((at top l).top_on refl).2;
      each = λ k m d. (at k m).below d;
    }
      where
        at : (k : ℕ) → k < length nodes → IsSettledAt nodes family weight top most parents wants k
        at k m = let q = o.all k (comp-in g nodes b.tree k m) in subst (IsSettledAt nodes family weight top most parents wants) q.2 (s.each q.0 (omega (arith, q.1, e)) q.1)
