-- The nodes made of components in their order are the tree.
use Rattle.std.proofs.Common.{◌≡◌, ℕ, zero, suc, ◌+◌, ◌<◌, ◌≤◌, nat_lt, not, inl, inr, Bool, true, List, [], length, map, slice_index_or, ◌-◌, refl, sym, ap, ◌∙◌, subst, arith}
use Rattle.std.proofs.Math.ListN.{get_or-map}
use Rattle.std.proofs.lemmas.Bool.{cases_lt, lt-ltb, le-ltb}
use Rattle.std.proofs.lemmas.List.{length-map, get_or_past}
use Rattle.permutations.specs.Members.{is_member}
use Rattle.permutations.proofs.Search.{least-ext}
use Rattle.skeletons.proofs.Before.{before-transitive}
use Rattle.multigraph.specs.Graph.{Multigraph, edge_count}
use Rattle.multigraph.specs.Part.{Rises}
use Rattle.pair_split.specs.Skeleton.{is_end_of, is_vertex}
use Rattle.pair_split.specs.Split.{component_at, items_of, item_at, piece_ends, side, skeleton, IsSplit, NoneLinked}
use Rattle.pair_split.specs.Tutte.{Node, piece_of, components, node_at, node_item, key_of, is_before, IsInOrder, IsTutte}
use Rattle.pair_split.specs.declared.components.Kind.{Kind}
use Rattle.pair_split.specs.declared.components.Kind.TheVariants.{S, P, B}
use Rattle.pair_split.specs.declared.components.What.{What}
use Rattle.pair_split.specs.declared.components.What.TheVariants.{Real, Link}
use Rattle.pair_split.specs.declared.components.Piece.{Piece}
use Rattle.pair_split.specs.declared.components.Comp.{Comp}
use Rattle.pair_split.proofs.Links.{no_piece, stands-in}
use Rattle.pair_split.proofs.TreeSides.{link-from}
use Rattle.pair_split.proofs.Subtrees.{link-in}
use Rattle.spqr_tree.specs.Merged.{how_many, redirect, AreGroups, AreRearranged}
use Rattle.spqr_tree.specs.Ranking.{Rank, rank_at}
use Rattle.spqr_tree.specs.Assembly.{IsArranged, AreNodes}
use Rattle.spqr_tree.proofs.MergeCounts.{number-ext, number-from, number-none}
use Rattle.spqr_tree.proofs.JoinedMerging.{group-starts}
use Rattle.spqr_tree.proofs.RearrangedSplit.{rearranged-split}
use Rattle.spqr_tree.proofs.KeysDiffer.{key_in}
use Rattle.spqr_tree.proofs.SameCounts.{vertex-counted, HaveSamePieces, same-link_to, same-side}

-- lists that rise from each to the next
before-chain : (f : ℕ → List ℕ) (n : ℕ) → ((k : ℕ) → k + 1 < n → is_before (f k) (f (k + 1)) ≡ true) → (k d : ℕ) → k + suc d < n → is_before (f k) (f (k + suc d)) ≡ true
before-chain f n h k zero l = subst (λ z. is_before (f k) (f z) ≡ true) (omega arith) (h k (omega (arith, l)))
before-chain f n h k (suc d) l =
    let e : k + suc d + 1 ≡ k + suc (suc d) = omega arith in
    subst (λ z. is_before (f k) (f z) ≡ true) e (before-transitive (f k) (f (k + suc d)) (f (k + suc d + 1)) (before-chain f n h k d (omega (arith, l))) (h (k + suc d) (omega (arith, l))))

-- a piece turned nowhere
redirect-none : (p : Piece) (w : What) → p.what ≡ w → redirect (λ x. x) p ≡ p
redirect-none p (Real e) q = ap (λ (v : What). redirect (λ x. x) (record { a = p.a; b = p.b; what = v })) q ∙ ap (λ (v : What). record { a = p.a; b = p.b; what = v }) (sym q)
redirect-none p (Link j) q = ap (λ (v : What). redirect (λ x. x) (record { a = p.a; b = p.b; what = v })) q ∙ ap (λ (v : What). record { a = p.a; b = p.b; what = v }) (sym q)

module _ (g : Multigraph) (comps : List Comp) (ranks : List Rank) (a : IsArranged g comps ranks) (nodes : List Node) (n : AreNodes comps ranks nodes) where
  abbrev others : List Comp
  others = components nodes

  abbrev as_component : Node → Comp
  as_component node = record { kind = node.kind; items = map piece_of node.items }

  node-is : (k : ℕ) → component_at others k ≡ as_component (node_at nodes k)
  node-is k = get_or-map (λ (node : Node). as_component node) nodes k (record { kind = B; vertices = []; items = [] })

  items-are : (k : ℕ) → items_of others k ≡ map piece_of (node_at nodes k).items
  items-are k = ap (λ (c : Comp). c.items) (node-is k)

  long : length others ≡ length comps
  long = length-map nodes (λ (node : Node). as_component node) ∙ n.number

  same-kind : (k : ℕ) → k < length comps → (node_at nodes k).kind ≡ (component_at comps k).kind
  same-kind k l = (n.each k l).kind

  pub same-pieces : HaveSamePieces (components nodes) comps
  same-pieces k t = elim (cases_lt k (length comps)) [
    | inl l ↦ ap (how_many t) (items-are k) ∙ (n.each k l).pieces t
    | inr l ↦ ap (λ (c : Comp). how_many t c.items) (get_or_past others k no_comp (subst (λ z. z ≤ k) (sym long) l) ∙ sym (get_or_past comps k no_comp l))
  ]
    where
      no_comp : Comp
      no_comp = record { kind = B; items = [] }

  grouped : AreGroups comps (λ x. x) comps
  grouped = record { into = λ x l. l; each = λ k l. group-starts comps a.split.linked (λ x. x) k k l (a.split.of_kind.kinds k l) refl (λ x m e. e) }

  rearranged : AreRearranged (λ x. x) (λ x. x) comps others
  rearranged = record {
    number = long;
    into = λ k l. l;
    differ = λ k j l m e. e;
    onto = λ h l. (h, l, refl);
    kinds = λ k l. ap (λ (c : Comp). c.kind) (node-is k) ∙ same-kind k l;
    pieces = λ k t l q. same-pieces k t ∙ number-ext t (λ p. t (redirect (λ x. x) p)) (items_of comps k) (λ p. ap t (sym (redirect-none p p.what refl)));
  }

  split : IsSplit g others
  split = rearranged-split g comps (λ x. x) (λ x. x) comps others a.split grouped rearranged

  none-joined : (kind : Kind) → NoneLinked kind comps → NoneLinked kind others
  none-joined kind h k j s e f =
      let l = same-link_to others comps same-pieces k j s in
      h k j l (sym (rearranged.kinds k (link-from comps a.split.linked k j l)) ∙ e) (sym (rearranged.kinds j (link-in comps a.split.linked k j l)) ∙ f)

  in-comps : (k : ℕ) → k < length nodes → k < length comps
  in-comps k l = subst (λ z. k < z) n.number l

  vertices : (k v : ℕ) → k < length nodes → is_member v (node_at nodes k).vertices ≡ is_vertex (skeleton others k) v
  vertices k v l =
      ap (is_member v) (n.each k (in-comps k l)).vertices ∙ ((a.vertices k (in-comps k l)).members v
      ∙ (vertex-counted (items_of comps k) v ∙ (ap (nat_lt 0) (sym (same-pieces k (λ p. is_end_of v (piece_ends p)))) ∙ sym (vertex-counted (items_of others k) v))))

  nodes-rise : (k j : ℕ) → k < j → j < length nodes → is_before (node_at nodes k).vertices (node_at nodes j).vertices ≡ true
  nodes-rise k j l m =
      let d : k + suc (j - (k + 1)) ≡ j = omega (arith, l) in
      let c : is_before (rank_at ranks k).0 (rank_at ranks (k + suc (j - (k + 1)))).0 ≡ true = before-chain (λ i. (rank_at ranks i).0) (length comps) a.rise k (j - (k + 1)) (omega (arith, l, in-comps j m)) in
      subst (λ (z : List ℕ). is_before z (node_at nodes j).vertices ≡ true) (sym (n.each k (omega (arith, l, in-comps j m))).vertices)
      (subst (λ (z : List ℕ). is_before (rank_at ranks k).0 z ≡ true) (sym (n.each j (in-comps j m)).vertices) (subst (λ z. is_before (rank_at ranks k).0 (rank_at ranks z).0 ≡ true) d c))

  -- an item of a node as a piece
  pub item-is : (k i : ℕ) → item_at (components nodes) k i ≡ piece_of (node_item nodes k i)
  item-is k i = ap (λ (l : List Piece). slice_index_or l i no_piece) (items-are k) ∙ get_or-map piece_of (node_at nodes k).items i (record { key = 0; a = 0; b = 0; what = Real 0 })

  pub item-in : (k i : ℕ) → i < length (node_at nodes k).items → i < length (items_of (components nodes) k)
  item-in k i l = subst (λ z. i < z) (sym (ap length (items-are k) ∙ length-map (node_at nodes k).items piece_of)) l

  pub node-in : (k i : ℕ) → i < length (node_at nodes k).items → k < length comps
  node-in k i l = subst (λ z. k < z) long (stands-in others k i (item_at others k i).what (item-in k i l, refl))

  ends-rise : (k i : ℕ) → i < length (node_at nodes k).items → (node_item nodes k i).a < (node_item nodes k i).b
  ends-rise k i l = elim (cases_lt (node_item nodes k i).a (node_item nodes k i).b) [
    | inl h ↦ h
    | inr h ↦
        let t : Piece → Bool = λ p. not (nat_lt p.a p.b) in
        let some : 1 ≤ how_many t (items_of others k) = number-from no_piece t (items_of others k) i (item-in k i l) (ap t (item-is k i) ∙ ap not (le-ltb (node_item nodes k i).a (node_item nodes k i).b h)) in
        let none : how_many t (items_of comps k) ≡ 0 = number-none no_piece t (items_of comps k) (λ m q. ap not (lt-ltb (item_at comps k m).a (item_at comps k m).b (a.ends_rise k m (node-in k i l) q))) in
        absurd (omega (arith, some, none, same-pieces k t))
  ]

  -- with the right keys they are the tree
  module _ (keyed : (k i : ℕ) → i < length (node_at nodes k).items → (node_item nodes k i).key ≡ key_in g comps k (node_item nodes k i).what) where
    key-same : (k : ℕ) (w : What) → key_in g comps k w ≡ key_of g nodes k w
    key-same k (Real e) = refl
    key-same k (Link j) = least-ext (edge_count g) (side comps k j) (side others k j) (λ e l. sym (same-side others comps long same-pieces k j e))

    in-order : IsInOrder g nodes
    in-order = record {
      vertices = vertices;
      vertices_rise = λ k l. subst Rises (sym (n.each k (in-comps k l)).vertices) (a.vertices k (in-comps k l)).rising;
      nodes_rise = nodes-rise;
      ends_rise = ends-rise;
      keys = λ k i l. keyed k i l ∙ key-same k (node_item nodes k i).what;
      keys_rise = λ k l. (n.each k (in-comps k l)).rise;
    }

    pub assembled : IsTutte g nodes
    assembled = record { split = split; no_polygons_joined = none-joined S a.no_polygons; no_bonds_joined = none-joined P a.no_bonds; in_order = in-order }
