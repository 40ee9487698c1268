-- When all components are in groups, no two groups of polygons and no two groups of bonds are linked.
use Rattle.std.proofs.Common.{◌≡◌, ◌≢◌, ℕ, ◌<◌, ◌≤◌, ◌⊎◌, List, length, slice_index_or, refl, sym, ap, ◌∙◌, subst, arith}
use Rattle.multigraph.specs.Graph.{Multigraph}
use Rattle.pair_split.specs.Split.{component_at, items_of, item_at, StandsFor, IsSplit, NoneLinked}
use Rattle.pair_split.specs.declared.components.Kind.{Kind}
use Rattle.pair_split.specs.declared.components.Kind.TheVariants.{S, P}
use Rattle.pair_split.specs.declared.components.What.TheVariants.{Link}
use Rattle.pair_split.specs.declared.components.Piece.{Piece}
use Rattle.pair_split.specs.declared.components.Comp.{Comp}
use Rattle.pair_split.proofs.Links.{no_piece, stands-in}
use Rattle.pair_split.proofs.Subtrees.{link-in}
use Rattle.spqr_tree.specs.Merged.{IsGroup, IsMerged, NoneAlike, AreGroups, AreRearranged}
use Rattle.spqr_tree.proofs.MergeCounts.{number-some, gathered-from}
use Rattle.spqr_tree.proofs.JoinedMerging.{is_link, is_link-true, link-is, link-outer, outer-link}
use Rattle.spqr_tree.proofs.JoinedGrows.{like-parts, piece-home}
use Rattle.spqr_tree.proofs.MergedSplit.{link-origin}
use Rattle.spqr_tree.proofs.RearrangedSplit.{placed, rearranged-contraction, placed-kind}

module _ (g : Multigraph) (comps : List Comp) (split : IsSplit g comps) (lead : ℕ → ℕ) where
  -- a link out of a group is one of its pieces
  group-link : (k : ℕ) (kind : Kind) (pieces : List Piece) → IsGroup comps lead k kind pieces → (x m y : ℕ) → StandsFor comps x m (Link y) → lead x ≡ k → lead y ≢ k
      → (i : ℕ) × (i < length pieces) × ((slice_index_or pieces i no_piece).what ≡ Link y)
  group-link k kind pieces group x m y s e n =
      let w = number-some no_piece (λ p. is_link y p.what) pieces (subst (λ z. 1 ≤ z) (sym (group.gathers (λ p. is_link y p.what)))
      (gathered-from comps lead k (λ p. is_link y p.what) x m (stands-in comps x m (Link y) s) e s.0 (link-outer lead k y (item_at comps x m).what s.1 n) (link-is y (item_at comps x m).what s.1))) in
      (w.0, w.1, is_link-true y (slice_index_or pieces w.0 no_piece).what w.2)

  -- a group, where the components of its kind to which it is linked are in earlier groups, is linked to none, if nothing
  -- could be put into those
  pub alike-apart : (k : ℕ) (kind : Kind) (pieces : List Piece) → IsGroup comps lead k kind pieces
      → ((j : ℕ) → j < k → (earlier : Kind) × (others : List Piece) × IsGroup comps lead j earlier others × NoneAlike comps earlier others)
      → ((i d : ℕ) → i < length pieces → (slice_index_or pieces i no_piece).what ≡ Link d → (kind ≡ S) ⊎ (kind ≡ P) → (component_at comps d).kind ≡ kind → lead d ≤ k)
      → NoneAlike comps kind pieces
  alike-apart k kind pieces group before led i d l q alike e =
      let o = piece-home g comps split lead k kind pieces group i l in
      let link : StandsFor comps o.home o.place (Link d) = (o.place_in, (like-parts (slice_index_or pieces i no_piece) (item_at comps o.home o.place) o.passes).0 ∙ q) in
      let out = outer-link lead k d (item_at comps o.home o.place).what link.1 o.outer in
      let at-most = led i d l q alike e in
      let b = before (lead d) (omega (arith, at-most, out)) in
      let back = split.linked.back o.home d o.place link in
      let d-in = stands-in comps d back.0 (Link o.home) back.1 in
      let kind-same : b.0 ≡ kind = sym (b.2.kinds d d-in refl) ∙ e in
      let w = group-link (lead d) b.0 b.1 b.2 d back.0 o.home back.1 refl (λ z. out (sym z ∙ o.led)) in
      b.3 w.0 o.home w.1 w.2 (subst (λ z. (z ≡ S) ⊎ (z ≡ P)) (sym kind-same) alike) (group.kinds o.home o.home_in o.led ∙ sym kind-same)

  -- no two groups of this kind, numbered and written in another order, are linked
  module _ (π : ℕ → ℕ) (groups others : List Comp) (grouped : AreGroups comps lead groups) (r : AreRearranged lead π groups others)
      (apart : (k : ℕ) → k < length groups → NoneAlike comps (component_at groups k).kind (items_of groups k)) where
    pub others-apart : (kind : Kind) → IsMerged kind → NoneLinked kind others
    others-apart kind alike h j s e f =
        let o = link-origin g comps split (placed comps split.linked lead π groups others grouped r) others (rearranged-contraction comps split.linked lead π groups others grouped r) h s.0 j s.1 in
        let x-in = stands-in comps o.near o.place (Link o.far) o.stands in
        let y-in = link-in comps split.linked o.near o.far (o.place, o.stands) in
        let own : (z : ℕ) → z < length comps → (h : ℕ) → π (lead z) ≡ h → (component_at others h).kind ≡ kind → (component_at comps z).kind ≡ kind
        = λ z l h i k. sym (placed-kind comps split.linked lead π groups others grouped r z l) ∙ ap (λ n. (component_at others n).kind) i ∙ k in
        let k-in = grouped.into o.near x-in in
        let group = grouped.each (lead o.near) k-in in
        let same : (component_at groups (lead o.near)).kind ≡ kind = sym (group.kinds o.near x-in refl) ∙ own o.near x-in h o.near_led e in
        let w = group-link (lead o.near) (component_at groups (lead o.near)).kind (items_of groups (lead o.near)) group o.near o.place o.far o.stands refl (λ z. o.differ (ap π (sym z))) in
        apart (lead o.near) k-in w.0 o.far w.1 w.2 (subst IsMerged (sym same) alike) (own o.far y-in j o.far_led f ∙ sym same)
