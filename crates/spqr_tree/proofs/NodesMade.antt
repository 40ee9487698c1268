-- The nodes of the tree as they are made, one component after the other.
use Rattle.std.proofs.Common.{◌≡◌, ℕ, ◌+◌, ◌<◌, ◌⊎◌, inl, inr, List, [], ◌∷◌, ◌++◌, length, length-append, slice_index_or, sym, ap, ◌∙◌, subst, arith}
use Rattle.std.proofs.lemmas.Bool.{cases_eq}
use Rattle.std.proofs.lemmas.List.{get_or_default, get_or-map, get_or_append_left}
use Rattle.std.proofs.Math.Seq.{get_or-append_seam}
use Rattle.smallvec.specs.SmallVec.{SmallVec}
use Rattle.pair_split.specs.Split.{component_at}
use Rattle.graph_theory.specs.Block.{IsOneBlock}
use Rattle.pair_split.specs.Tutte.{Node, node_at, node_item, components, IsTutte}
use Rattle.pair_split.specs.declared.components.Piece.{Piece}
use Rattle.pair_split.proofs.Groups.{what-cases}
use Rattle.pair_split.proofs.GraphFamily.{one_block-tight}
use Rattle.multigraph.specs.Graph.{Multigraph}
use Rattle.pair_split.specs.declared.components.Comp.{Comp}
use Rattle.spqr_tree.specs.Ranking.{Rank, rank_of, ranks_of, rank_at}
use Rattle.spqr_tree.specs.Assembly.{IsArranged, IsMadeOf, AreNodes}
use Rattle.spqr_tree.proofs.Assembled.{same-pieces, item-is, item-in, node-in, assembled}
use Rattle.spqr_tree.proofs.SameCounts.{same-link_to}
use Rattle.spqr_tree.proofs.KeysRooted.{rooted-key}
use Rattle.spqr_tree.proofs.KeysDiffer.{key_in}
use Rattle.spqr_tree.proofs.LeastKeys.{key-edge}
use Rattle.spqr_tree.specs.Keys.{nth_item, parent_at, link_key, IsRooted, HaveKeys}

-- a component that is read at its place
pub component-is : (comps : List Comp) (k : ℕ) (comp : Comp) → k < length comps → comp ≡ slice_index_or comps k comp → comp ≡ component_at comps k
component-is comps k comp l e = e ∙ get_or_default comps k comp (component_at [] 0) l

-- the vertices of a rank that is read at its place
pub rank-is : (ranks : List (SmallVec ℕ × ℕ)) (k : ℕ) (entry : SmallVec ℕ × ℕ) (vertices : List ℕ) → k < length ranks → vertices ≡ (slice_index_or ranks k entry).0.items → vertices ≡ (rank_at (ranks_of ranks) k).0
rank-is ranks k entry vertices l v = v ∙ ap (λ (r : Rank). r.0) (sym (get_or-map rank_of ranks k entry ([], 0) l))

-- the nodes so far are right
abbrev pub AreMade : List Comp → List (SmallVec ℕ × ℕ) → List ℕ → List ℕ → List Node → ℕ → Type 0
AreMade comps ranks parents noted nodes n =
    (length nodes ≡ n) × ((k : ℕ) → k < length nodes → IsMadeOf (component_at comps k) (rank_at (ranks_of ranks) k).0 (node_at nodes k)) × (HaveKeys parents noted nodes)

-- one node more
pub made-more : (comps : List Comp) (ranks : List (SmallVec ℕ × ℕ)) (parents noted : List ℕ) (nodes new : List Node) (node : Node) (n : ℕ) (comp : Comp) (vertices : List ℕ)
    → AreMade comps ranks parents noted nodes n → new ≡ nodes ++ node ∷ [] → comp ≡ component_at comps n → vertices ≡ (rank_at (ranks_of ranks) n).0 → IsMadeOf comp vertices node
    → ((i : ℕ) → i < length node.items → (nth_item node.items i).key ≡ link_key (parent_at parents n) noted (nth_item node.items i).what) → AreMade comps ranks parents noted new (n + 1)
made-more comps ranks parents noted nodes new node n comp vertices made e is at right keys = (
  ap length e ∙ length-append nodes (node ∷ []) ∙ ap (λ m. m + 1) made.0,
  λ k l. elim (place k l) [
    | inl b ↦ subst (IsMadeOf (component_at comps k) (rank_at (ranks_of ranks) k).0) (sym (old k b)) (made.1 k b)
    | inr q ↦ subst (λ m. IsMadeOf (component_at comps m) (rank_at (ranks_of ranks) m).0 (node_at new m)) (sym (q ∙ made.0))
        (subst (IsMadeOf (component_at comps n) (rank_at (ranks_of ranks) n).0) (sym last) (subst (λ (c : Comp). IsMadeOf c (rank_at (ranks_of ranks) n).0 node) is (subst (λ (v : List ℕ). IsMadeOf comp v node) at right)))
  ],
  λ k i l. elim (place k l) [
    | inl b ↦ subst (λ (z : Node). i < length z.items → (nth_item z.items i).key ≡ link_key (parent_at parents k) noted (nth_item z.items i).what) (sym (old k b)) (made.2 k i b)
    | inr q ↦ subst (λ m. i < length (node_at new m).items → (nth_item (node_at new m).items i).key ≡ link_key (parent_at parents m) noted (nth_item (node_at new m).items i).what) (sym (q ∙ made.0))
        (subst (λ (z : Node). i < length z.items → (nth_item z.items i).key ≡ link_key (parent_at parents n) noted (nth_item z.items i).what) (sym last) (keys i))
  ],
)
  where
    place : (k : ℕ) → k < length new → (k < length nodes) ⊎ (k ≡ length nodes)
    place k l = elim (cases_eq k (length nodes)) [ inl q ↦ inr q | inr q ↦ inl (omega (arith, q, l, ap length e ∙ length-append nodes (node ∷ []))) ]

    old : (k : ℕ) → k < length nodes → node_at new k ≡ node_at nodes k
    old k b = ap (λ (z : List Node). node_at z k) e ∙ get_or_append_left nodes (node ∷ []) (node_at [] 0) k b

    last : node_at new n ≡ node
    last = ap (λ (z : List Node). node_at z n) e ∙ ap (λ m. node_at (nodes ++ node ∷ []) m) (sym made.0) ∙ get_or-append_seam nodes node [] (node_at [] 0)

-- nodes made of arranged components that are rooted are the tree
pub tutte-made : (g : Multigraph) (comps : List Comp) (ranks : List Rank) (parents noted : List ℕ) (nodes : List Node) → IsOneBlock g → IsArranged g comps ranks → IsRooted g comps parents noted → AreNodes comps ranks nodes → HaveKeys parents noted nodes → IsTutte g nodes
tutte-made g comps ranks parents noted nodes block a r n keys = assembled g comps ranks a nodes n keyed
  where
    keyed : (k i : ℕ) → i < length (node_at nodes k).items → (node_item nodes k i).key ≡ key_in g comps k (node_item nodes k i).what
    keyed k i l = elim (what-cases (node_item nodes k i).what) [
      | inl w ↦ key ∙ key-edge (parent_at parents k) noted (node_item nodes k i).what w.0 w.1 ∙ sym (ap (key_in g comps k) w.1)
      | inr w ↦
          let s = same-link_to (components nodes) comps (same-pieces g comps ranks a nodes n) k w.0 (i, (item-in g comps ranks a nodes n k i l, ap (λ (p : Piece). p.what) (item-is g comps ranks a nodes n k i) ∙ w.1)) in
          key ∙ ap (link_key (parent_at parents k) noted) (w.1 ∙ sym (s.1).1) ∙ rooted-key g comps a.split (one_block-tight g block) parents noted r k s.0 (s.1).0 ∙ ap (key_in g comps k) ((s.1).1 ∙ sym w.1)
    ]
      where
        key : (node_item nodes k i).key ≡ link_key (parent_at parents k) noted (node_item nodes k i).what
        key = keys k i (subst (λ z. k < z) (sym n.number) (node-in g comps ranks a nodes n k i l)) l
