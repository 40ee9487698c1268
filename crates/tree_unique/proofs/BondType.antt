-- A side that crosses a link so that only the link's ends are touched by both parts of a component's own side: then the
-- component is a bond.
use Rattle.std.proofs.Common.{◌≡◌, ◌≢◌, ℕ, ◌<◌, ◌⊎◌, inl, inr, Bool, true, false, List, length, sym, ap, ◌∙◌, subst}
use Rattle.std.proofs.lemmas.Bool.{not-false, cases_eq, both_ways, not-true}
use Rattle.multigraph.specs.Graph.{Multigraph, edge_count, is_end}
use Rattle.graph_theory.specs.Block.{IsOneBlock}
use Rattle.pair_split.specs.Skeleton.{IsPolygon, IsRigid}
use Rattle.pair_split.specs.Split.{items_of, item_at, piece_ends, skeleton, IsSplit}
use Rattle.pair_split.specs.declared.components.Comp.{Comp}
use Rattle.graph_theory.specs.Separation.{other_side}
use Rattle.tree_unique.proofs.Items.{end-cases, first-end, second-end, end-of_two, is_at, place, place-in, PlaceAt, at-edge, edges-at, edges-at_place}
use Rattle.tree_unique.proofs.SkeletonKinds.{IsSimpleAt, polygon-two, polygon-simple, rigid-simple, rigid-apart}
use Rattle.tree_unique.proofs.Splits.{HalfAt, Halves, halves, IsParted, parted-other, NoneParted, parted-none, colour, coloured, colour-edge, ColouredAt, coloured-at, end-off}

module _ (g : Multigraph) (block : IsOneBlock g) (comps : List Comp) (s : IsSplit g comps) (k : ℕ) (l : k < length comps) where
  abbrev size : ℕ
  size = length (items_of comps k)

  abbrev pl : ℕ → ℕ
  pl e = place g comps s k l e

  -- apart from place h, edges on the side and edges off it share only ends of item h
  abbrev pub MeetInEnds : (ℕ → Bool) → ℕ → Type 0
  MeetInEnds x h = (v e f : ℕ) → e < edge_count g → f < edge_count g → is_end g v e ≡ true → is_end g v f ≡ true → pl e ≢ h → pl f ≢ h → x e ≡ true → x f ≡ false → is_at comps k h v ≡ true

  meet-other : (x : ℕ → Bool) (h : ℕ) → MeetInEnds x h → MeetInEnds (other_side x) h
  meet-other x h m v e f b c p q n o y z = m v f e c b q p o n (not-false (x f) z) (not-true (x e) y)

  module _ (simple : IsSimpleAt comps k) (h : ℕ) (lh : h < size) where
    -- each half of a parted place meets the rest in ends of the item
    half-end : (x : ℕ → Bool) → MeetInEnds x h → (i c : ℕ) → i ≢ h → HalfAt g block comps s k l x i c → is_at comps k i c ≡ true
    half-end x m i c n w = elim w.kind [
      | inl a ↦ a
      | inr o ↦
          let at_h : is_at comps k h c ≡ true = m c w.edge o.edge w.edge_in o.edge_in w.end o.end (λ q. n (sym w.place_is ∙ q)) (λ q. n (sym o.place_is ∙ q)) w.on o.off in
          let d : PlaceAt g comps s k l h c = at-edge g comps s k l h c lh at_h in
          edges-at_place g comps s k l i w.edge d.edge c w.edge_in d.edge_in w.place_is (λ q. n (sym q ∙ d.place_is)) w.end d.end
    ]

    -- so no place but h is parted
    bond-parted : (x : ℕ → Bool) → MeetInEnds x h → (i : ℕ) → i < size → i ≢ h → IsParted g block comps s k l x i → ⊥
    bond-parted x m i li n w = n (simple i h a.first a.second li lh a.differ (half-end x m i a.first n a.first_half) (half-end x m i a.second n a.second_half)
        (at_h a.first a.first_half) (at_h a.second a.second_half))
      where
        a : Halves g block comps s k l x i
        a = halves g block comps s k l x i w

        b : Halves g block comps s k l (other_side x) i
        b = halves g block comps s k l (other_side x) i (parted-other g block comps s k l x i w)

        meets : (c d : ℕ) → HalfAt g block comps s k l x i c → HalfAt g block comps s k l (other_side x) i d → c ≡ d → is_at comps k h c ≡ true
        meets c d u z e = m c u.edge z.edge u.edge_in z.edge_in u.end (subst (λ v. is_end g v z.edge ≡ true) (sym e) z.end) (λ q. n (sym u.place_is ∙ q)) (λ q. n (sym z.place_is ∙ q)) u.on (not-true (x z.edge) z.on)

        at_h : (c : ℕ) → HalfAt g block comps s k l x i c → is_at comps k h c ≡ true
        at_h c u = elim (end-of_two (piece_ends (item_at comps k i)) b.first b.second c b.differ
            (half-end (other_side x) (meet-other x h m) i b.first n b.first_half) (half-end (other_side x) (meet-other x h m) i b.second n b.second_half) (half-end x m i c n u)) [
              | inl e ↦ meets c b.first u b.first_half e
              | inr e ↦ meets c b.second u b.second_half e
            ]

    bond-none : (x : ℕ → Bool) → MeetInEnds x h → NoneParted g block comps s k l x h
    bond-none x m = parted-none g block comps s k l x h (λ i n w. bond-parted x m i (subst (λ z. z < size) w.on_place (place-in g comps s k l w.on w.on_in)) n w)

  -- the component is not triconnected
  pub bond-rigid : IsRigid (skeleton comps k) → (h : ℕ) → h < size → (x : ℕ → Bool) → MeetInEnds x h
      → (e f : ℕ) → e < edge_count g → f < edge_count g → pl e ≢ h → pl f ≢ h → x e ≡ true → x f ≡ false → ⊥
  bond-rigid r h lh x m e f b c n o y z = rigid-apart comps k r (colour g block comps s k l x h) p q only
      (pl e) u.0 (place-in g comps s k l e b) (colour-edge g block comps s k l x h none e b n ∙ y) u.1 (off u.0 u.2 p (first-end (piece_ends (item_at comps k h)))) (off u.0 u.2 q (second-end (piece_ends (item_at comps k h))))
      (pl f) w.0 (place-in g comps s k l f c) (colour-edge g block comps s k l x h none f c o ∙ z) w.1 (off w.0 w.2 p (first-end (piece_ends (item_at comps k h)))) (off w.0 w.2 q (second-end (piece_ends (item_at comps k h))))
    where
      p : ℕ
      p = (piece_ends (item_at comps k h)).0

      q : ℕ
      q = (piece_ends (item_at comps k h)).1

      none : NoneParted g block comps s k l x h
      none = bond-none (rigid-simple comps k r) h lh x m

      u : (u : ℕ) × (is_at comps k (pl e) u ≡ true) × (is_at comps k h u ≡ false)
      u = end-off g block comps s k l (rigid-simple comps k r) (pl e) h (place-in g comps s k l e b) lh n

      w : (u : ℕ) × (is_at comps k (pl f) u ≡ true) × (is_at comps k h u ≡ false)
      w = end-off g block comps s k l (rigid-simple comps k r) (pl f) h (place-in g comps s k l f c) lh o

      off : (v : ℕ) → is_at comps k h v ≡ false → (z : ℕ) → is_at comps k h z ≡ true → v ≢ z
      off v a z t e = both_ways (is_at comps k h v) a (ap (is_at comps k h) e ∙ t)

      only : (i d v : ℕ) → i < size → d < size → colour g block comps s k l x h i ≡ true → colour g block comps s k l x h d ≡ false → is_at comps k i v ≡ true → is_at comps k d v ≡ true → (v ≡ p) ⊎ (v ≡ q)
      only i d v li ld ti td ai ad =
          let a : ColouredAt g block comps s k l x h i v = coloured-at g block comps s k l x h none i v li (coloured g block comps s k l x h i ti) ai in
          end-cases v (piece_ends (item_at comps k h)) (elim (cases_eq d h) [
            | inl q ↦ subst (λ z. is_at comps k z v ≡ true) q ad
            | inr n ↦
                let b : ColouredAt g block comps s k l x h d v = coloured-at g block comps s k l x h none d v ld n ad in
                m v a.edge b.edge a.edge_in b.edge_in a.end b.end a.place_not b.place_not (a.side ∙ ti) (b.side ∙ td)
          ])

  -- nor a polygon, where a vertex is touched by all parts
  pub bond-polygon : IsPolygon (skeleton comps k) → (h : ℕ) → h < size → (x : ℕ → Bool) → MeetInEnds x h
      → (v e f d : ℕ) → e < edge_count g → f < edge_count g → d < edge_count g → pl e ≢ h → pl f ≢ h → pl d ≡ h → x e ≡ true → x f ≡ false
      → is_end g v e ≡ true → is_end g v f ≡ true → is_end g v d ≡ true → ⊥
  bond-polygon r h lh x m v e f d b c j n o q y z ve vf vd = elim (polygon-two comps k r v (pl e) (pl f) h (place-in g comps s k l e b) (place-in g comps s k l f c) lh apart
      (edges-at g comps s k l e f v b c apart ve vf) (edges-at g comps s k l f e v c b (λ p. apart (sym p)) vf ve) (edges-at_place g comps s k l h d e v j b q n vd ve)) [
        | inl p ↦ n (sym p)
        | inr p ↦ o (sym p)
      ]
    where
      apart : pl e ≢ pl f
      apart p = both_ways (x f) z (sym (bond-none (polygon-simple comps k r) h lh x m e f b c p n) ∙ y)
