-- The keys of the items of a component are edges in their groups, so they differ.
use Rattle.std.proofs.Common.{◌≡◌, ℕ, ◌<◌, inl, inr, true, List, length, refl, sym, subst}
use Rattle.std.proofs.lemmas.Bool.{eq-eqb}
use Rattle.permutations.specs.Count.{some, least}
use Rattle.permutations.proofs.Search.{some-from, least-below, least-passes}
use Rattle.multigraph.specs.Graph.{Multigraph, edge_count}
use Rattle.pair_split.specs.Edges.{graph_family}
use Rattle.pair_split.specs.Family.{IsTight}
use Rattle.pair_split.specs.Split.{items_of, item_at, side, LinksTo, IsSplit}
use Rattle.pair_split.specs.Tutte.{has_in_group}
use Rattle.pair_split.specs.declared.components.Comp.{Comp}
use Rattle.pair_split.specs.declared.components.What.{What}
use Rattle.pair_split.specs.declared.components.What.TheVariants.{Real, Link}
use Rattle.pair_split.proofs.Groups.{what-cases, group-once}
use Rattle.pair_split.proofs.LargeSides.{side-two}

-- the key of what stands in component k: the edge itself, or the least edge on the side of the link
abbrev pub key_in : Multigraph → List Comp → ℕ → What → ℕ
key_in g comps k (Real e) = e
key_in g comps k (Link j) = least (edge_count g) (side comps k j)

module _ (g : Multigraph) (comps : List Comp) (s : IsSplit g comps) (tight : IsTight (graph_family g)) where
  -- the side of a link has a least edge
  pub least-side : (k j : ℕ) → LinksTo comps k j → (least (edge_count g) (side comps k j) < edge_count g) × (side comps k j (least (edge_count g) (side comps k j)) ≡ true)
  least-side k j l =
      let w = side-two g comps s tight k j l in
      let found : some (edge_count g) (side comps k j) ≡ true = some-from (edge_count g) (side comps k j) w.first w.first_in w.first_on in
      (least-below (edge_count g) (side comps k j) found, least-passes (edge_count g) (side comps k j) found)

  -- the key of an item is an edge of its group
  pub key-in_group : (k i : ℕ) → i < length (items_of comps k) → (key_in g comps k (item_at comps k i).what < edge_count g) × (has_in_group comps k (key_in g comps k (item_at comps k i).what) (item_at comps k i).what ≡ true)
  key-in_group k i l = elim (what-cases (item_at comps k i).what) [
    | inl r ↦ subst (λ (w : What). (key_in g comps k w < edge_count g) × (has_in_group comps k (key_in g comps k w) w ≡ true)) (sym r.1) ((s.covers.edges r.0 k i (l, r.1)).0, eq-eqb r.0 r.0 refl)
    | inr r ↦ subst (λ (w : What). (key_in g comps k w < edge_count g) × (has_in_group comps k (key_in g comps k w) w ≡ true)) (sym r.1) (least-side k r.0 (i, (l, r.1)))
  ]

  -- items with one key are one
  pub keys-differ : (k i h : ℕ) → i < length (items_of comps k) → h < length (items_of comps k) → key_in g comps k (item_at comps k i).what ≡ key_in g comps k (item_at comps k h).what → i ≡ h
  keys-differ k i h l b q =
      let a = key-in_group k i l in
      let c = key-in_group k h b in
      group-once g comps s k (key_in g comps k (item_at comps k i).what) i h l b a.0 a.1 (subst (λ z. has_in_group comps k z (item_at comps k h).what ≡ true) (sym q) c.1)
