-- The groups of the edges, noted node by node, and the edges by their notes.
use Rattle.std.proofs.Common.{◌≡◌, ℕ, ◌+◌, ◌<◌, ◌⊎◌, inl, inr, List, length, refl, sym, ap, ◌∙◌, subst, arith}
use Rattle.std.proofs.lemmas.Bool.{cases_eq, eq-eqb}
use Rattle.multigraph.specs.Graph.{Multigraph, edge_count}
use Rattle.pair_split.specs.Tutte.{Node, components, node_at, node_item, has_in_group, IsTutte}
use Rattle.pair_split.specs.declared.components.Comp.{Comp}
use Rattle.pair_split.specs.declared.components.What.{What}
use Rattle.pair_split.specs.declared.components.What.TheVariants.{Real}
use Rattle.pair_split.proofs.Groups.{side-at, in_group-link}
use Rattle.pair_split.proofs.Links.{stands-in}
use Rattle.skeletons.proofs.NodeItems.{node-in, stands-of, item-of}
use Rattle.graph_paths.specs.Listing.{note_of}
use Rattle.block_obstruct.specs.Towards.{HaveItem, IsItem, IsTowards}
use Rattle.block_obstruct.specs.Groups.{IsInGroup, AreNoted, AreOwners}

module _ (g : Multigraph) (nodes : List Node) (t : IsTutte g nodes) (k : ℕ) where
  abbrev comps : List Comp
  comps = components nodes

  -- an edge of a node is one of the graph
  pub edge-below : (x n : ℕ) → n ≡ edge_count g → (e : ℕ) → HaveItem (node_at nodes x).items (Real e) → e < n
  edge-below x n q e h = subst (λ z. e < z) (sym q) (t.split.covers.edges e x h.0 (stands-of g nodes t x h.0 (Real e) h.1 h.2)).0

  -- an edge of node k itself
  pub own-right : (i e : ℕ) → IsItem (node_at nodes k).items i (Real e) → IsInGroup nodes k e i
  own-right i e w = (w.0, ap (λ (z : What). has_in_group comps k e z) w.1 ∙ eq-eqb e e refl)

  -- an edge of another node is in the group of the link that leads there
  pub far-right : (x i e : ℕ) → IsTowards nodes k i x → HaveItem (node_at nodes x).items (Real e) → IsInGroup nodes k e i
  far-right x i e w h = (w.1.0, in_group-link g comps t.split k w.0 e (node_item nodes k i).what w.1.1 ∙ (side-at g comps t.split k w.0 x h.0 e (stands-of g nodes t x h.0 (Real e) h.1 h.2) ∙ w.2))

  -- the edges of one node more
  pub noted-next : (x : ℕ) (old new : List ℕ) → AreNoted nodes k x old → ((e : ℕ) → (note_of new e ≡ note_of old e) ⊎ HaveItem (node_at nodes x).items (Real e))
      → ((e : ℕ) → HaveItem (node_at nodes x).items (Real e) → IsInGroup nodes k e (note_of new e)) → AreNoted nodes k (x + 1) new
  noted-next x old new a kept right = λ y e l h. elim (cases_eq y x) [
    | inl q ↦ right e (subst (λ z. HaveItem (node_at nodes z).items (Real e)) q h)
    | inr n ↦ elim (kept e) [
      | inl q ↦ subst (λ z. IsInGroup nodes k e z) (sym q) (a y e (omega (arith, l, n)) h)
      | inr w ↦ right e w
    ]
  ]

  -- of all nodes
  pub noted-all : (x : ℕ) (notes : List ℕ) → length nodes ≡ x → AreNoted nodes k x notes → AreOwners g nodes k notes
  noted-all x notes q a e l =
      let w = t.split.covers.present e l in
      let i = item-of g nodes t w.0 w.1 (Real e) w.2 in
      a w.0 e (subst (λ z. w.0 < z) q (node-in g nodes t w.0 (stands-in comps w.0 w.1 (Real e) w.2))) (w.1, i.0, i.1)
