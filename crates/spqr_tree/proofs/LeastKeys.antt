-- The least key of the items of a component is the least edge on the side of the link to it.
use Rattle.std.proofs.Common.{◌≡◌, ◌≢◌, ℕ, ◌<◌, ◌≤◌, inl, inr, Bool, true, false, cond, List, length, refl, sym, ap, ◌∙◌, subst, arith}
use Rattle.std.proofs.lemmas.Bool.{both_ways, eq-eqb, ne_eqb}
use Rattle.permutations.specs.Count.{least}
use Rattle.permutations.proofs.Search.{least-first}
use Rattle.multigraph.specs.Graph.{Multigraph, edge_count}
use Rattle.pair_split.specs.Edges.{graph_family}
use Rattle.pair_split.specs.Family.{IsTight}
use Rattle.pair_split.specs.Split.{items_of, item_at, side, LinksTo, IsSplit}
use Rattle.pair_split.specs.declared.components.What.{What}
use Rattle.pair_split.specs.declared.components.What.TheVariants.{Real, Link}
use Rattle.pair_split.specs.declared.components.Comp.{Comp}
use Rattle.pair_split.proofs.Groups.{what-cases}
use Rattle.spqr_tree.specs.Keys.{least_at, link_key, IsLeastKey}
use Rattle.spqr_tree.proofs.MergingSteps.{same-link}
use Rattle.spqr_tree.proofs.KeysDiffer.{least-side}
use Rattle.spqr_tree.proofs.SideSteps.{side-own, side-on, side-back}

-- the key of the link to the parent, of another link, and of an edge
pub key-up : (parent : ℕ) (noted : List ℕ) (w : What) → w ≡ Link parent → link_key parent noted w ≡ 0
key-up parent noted w q = subst (λ (z : What). link_key parent noted z ≡ 0) (sym q) (ap (λ (b : Bool). cond b 0 (least_at noted parent)) (eq-eqb parent parent refl))

pub key-down : (parent : ℕ) (noted : List ℕ) (w : What) (j : ℕ) → w ≡ Link j → j ≢ parent → link_key parent noted w ≡ least_at noted j
key-down parent noted w j q n = subst (λ (z : What). link_key parent noted z ≡ least_at noted j) (sym q) (ap (λ (b : Bool). cond b 0 (least_at noted j)) (ne_eqb j parent n))

pub key-edge : (parent : ℕ) (noted : List ℕ) (w : What) (e : ℕ) → w ≡ Real e → link_key parent noted w ≡ e
key-edge parent noted w e q = ap (λ (z : What). link_key parent noted z) q

-- links to different components differ, and an edge is no link
pub link-apart : (w : What) (j k : ℕ) → w ≡ Link j → j ≢ k → w ≢ Link k
link-apart w j k q n p = n (same-link j k (sym q ∙ p))

pub edge-apart : (w : What) (e k : ℕ) → w ≡ Real e → w ≢ Link k
edge-apart w e k q p = both_ways (is_link w) (ap is_link q) (ap is_link p)
  where
    is_link : What → Bool
    is_link (Real f) = false
    is_link (Link h) = true

module _ (g : Multigraph) (comps : List Comp) (s : IsSplit g comps) (tight : IsTight (graph_family g)) (k p : ℕ) (noted : List ℕ) (link : LinksTo comps p k)
    (right : (j : ℕ) → LinksTo comps k j → j ≢ p → least_at noted j ≡ least (edge_count g) (side comps k j)) (key : ℕ) (is : IsLeastKey (items_of comps k) (length (items_of comps k)) p noted (edge_count g) key) where
  abbrev least_edge : ℕ
  least_edge = least (edge_count g) (side comps p k)

  -- the key of another item is on the side
  key-on : (i : ℕ) → i < length (items_of comps k) → (item_at comps k i).what ≢ Link p → side comps p k (link_key p noted (item_at comps k i).what) ≡ true
  key-on i l n = elim (what-cases (item_at comps k i).what) [
    | inl r ↦ subst (λ z. side comps p k z ≡ true) (sym (key-edge p noted (item_at comps k i).what r.0 r.1)) (side-own g comps s p k i r.0 (l, r.1))
    | inr r ↦
        let m : r.0 ≢ p = λ q. n (r.1 ∙ ap Link q) in
        let f = least-side g comps s tight k r.0 (i, (l, r.1)) in
        subst (λ z. side comps p k z ≡ true) (sym (key-down p noted (item_at comps k i).what r.0 r.1 m ∙ right r.0 (i, (l, r.1)) m)) (side-on g comps s p k r.0 (least (edge_count g) (side comps k r.0)) link (i, (l, r.1)) m f.0 f.1)
  ]

  -- the least key is no greater than any edge on the side
  key-lower : (e : ℕ) → e < edge_count g → side comps p k e ≡ true → key ≤ e
  key-lower e b t = elim (side-back g comps s p k e link b t) [
    | inl a ↦ subst (λ z. key ≤ z) (key-edge p noted (item_at comps k a.0).what e (a.1).1) (is.lower a.0 (a.1).0 (edge-apart (item_at comps k a.0).what e p (a.1).1))
    | inr a ↦
        let i : ℕ = (a.1).0 in
        let low : key ≤ least_at noted a.0 = subst (λ z. key ≤ z) (key-down p noted (item_at comps k i).what a.0 ((a.1).1).1 a.2) (is.lower i ((a.1).1).0 (link-apart (item_at comps k i).what a.0 p ((a.1).1).1 a.2)) in
        omega (arith, low, right a.0 a.1 a.2, least-first (edge_count g) (side comps k a.0) e a.3)
  ]

  -- so it is the least edge on the side
  pub least-key : key ≡ least_edge
  least-key =
      let f = least-side g comps s tight p k link in
      let low : key ≤ least_edge = key-lower least_edge f.0 f.1 in
      elim is.met [
        | inl q ↦ absurd (omega (arith, q, low, f.0))
        | inr w ↦ omega (arith, low, least-first (edge_count g) (side comps p k) key (subst (λ z. side comps p k z ≡ true) (sym w.3) (key-on w.0 w.1 w.2)))
      ]
