-- A set of edges of a block that meets the others in two vertices only: what it touches reaches the one without the other.
use Rattle.std.proofs.Common.{◌≡◌, ◌≢◌, ℕ, ◌<◌, ◌⊎◌, inl, inr, Bool, true, false, not, ◌&&◌, ◌||◌, sym, ap, ◌∙◌}
use Rattle.std.proofs.lemmas.Bool.{cases_Bool, cases_eq, both_ways, and_parts, and_from, or_cases, or_left, or_right, not_from_false, false_from_ne_true}
use Rattle.permutations.proofs.Relation.{connected-reflexive, connected-symmetric, connected-transitive}
use Rattle.pair_split.proofs.GraphSides.{block-two_common}
use Rattle.multigraph.specs.Graph.{Multigraph, edge_count, ends_of, is_end, other_end, IsGraph}
use Rattle.multigraph.proofs.OtherEnd.{is_end-first, is_end-second, is_end-cases, other_end-is_end}
use Rattle.graph_theory.specs.Block.{IsOneBlock}
use Rattle.graph_theory.specs.Side.{IsCommon}
use Rattle.graph_theory.proofs.Ends.{other-differs, end-cases}
use Rattle.graph_theory.specs.Joined.{ends_where, joined_where, avoiding, PathWhere}
use Rattle.graph_theory.proofs.Joined.{joined-other, joined-more, joined-avoiding, joined-path}

-- where an end of an edge passes, one of its two ends does
end-either : (g : Multigraph) (a : ℕ → Bool) (e w : ℕ) → is_end g w e ≡ true → a w ≡ true → (a (ends_of g e).0 || a (ends_of g e).1) ≡ true
end-either g a e w i h = elim (is_end-cases g w e i) [
  | inl q ↦ or_left (a (ends_of g e).0) (a (ends_of g e).1) (ap a q ∙ h)
  | inr q ↦ or_right (a (ends_of g e).0) (a (ends_of g e).1) (ap a q ∙ h)
]

-- where one of the two ends passes, a given end does or the other one
either-end : (g : Multigraph) (a : ℕ → Bool) (e w : ℕ) → is_end g w e ≡ true → (a (ends_of g e).0 || a (ends_of g e).1) ≡ true → (a w ≡ true) ⊎ (a (other_end g e w) ≡ true)
either-end g a e w i h = elim (or_cases (a (ends_of g e).0) (a (ends_of g e).1) h) [
  | inl x ↦ at (ends_of g e).0 (is_end-first g e) x
  | inr x ↦ at (ends_of g e).1 (is_end-second g e) x
]
  where
    at : (z : ℕ) → is_end g z e ≡ true → a z ≡ true → (a w ≡ true) ⊎ (a (other_end g e w) ≡ true)
    at z j x = elim (end-cases g e w z i j) [ inl q ↦ inl (ap a (sym q) ∙ x) | inr q ↦ inr (ap a (sym q) ∙ x) ]

-- an edge without the end u
pub end-avoiding : (g : Multigraph) (t : ℕ → Bool) (u e w : ℕ) → t e ≡ true → is_end g w e ≡ true → u ≢ w → u ≢ other_end g e w → avoiding g u t e ≡ true
end-avoiding g t u e w h i n m = and_from (t e) (not (is_end g u e)) h
    (not_from_false (is_end g u e) (false_from_ne_true (is_end g u e) (λ j. elim (end-cases g e w u i j) [ inl q ↦ n q | inr q ↦ m q ])))

-- a block, and a set of its edges that has no other vertices than u and v in common with the other edges, and an edge at v
module _ (g : Multigraph) (ok : IsGraph g) (block : IsOneBlock g) (t : ℕ → Bool) (u v : ℕ) (differ : u ≢ v)
    (meet : (w e f : ℕ) → e < edge_count g → f < edge_count g → is_end g w e ≡ true → is_end g w f ≡ true → t e ≡ true → t f ≡ false → (w ≡ u) ⊎ (w ≡ v))
    (last : ℕ) (last_in : last < edge_count g) (last_end : is_end g v last ≡ true) (last_on : t last ≡ true) where
  -- a vertex other than u that the set touches, and which doesn't reach v
  module _ (e z : ℕ) (e_in : e < edge_count g) (e_end : is_end g z e ≡ true) (e_on : t e ≡ true) (apart : z ≢ u) (out : joined_where g (avoiding g u t) z v ≡ false) where
    -- what the vertex reaches
    abbrev reached : ℕ → Bool
    reached w = joined_where g (avoiding g u t) z w

    -- the edges of the set that touch it
    abbrev near : ℕ → Bool
    near h = t h && (reached (ends_of g h).0 || reached (ends_of g h).1)

    near-from : (h w : ℕ) → t h ≡ true → is_end g w h ≡ true → reached w ≡ true → near h ≡ true
    near-from h w a i b = and_from (t h) (reached (ends_of g h).0 || reached (ends_of g h).1) a (end-either g reached h w i b)

    -- u isn't reached
    not-u : (w : ℕ) → reached w ≡ true → u ≢ w
    not-u w b q = joined-avoiding g t u z w b apart (sym q)

    -- an end of such an edge other than u is reached
    near-end : (h w : ℕ) → h < edge_count g → near h ≡ true → is_end g w h ≡ true → w ≢ u → reached w ≡ true
    near-end h w l a i n =
        let p = and_parts (t h) (reached (ends_of g h).0 || reached (ends_of g h).1) a in
        elim (either-end g reached h w i p.1) [
          | inl b ↦ b
          | inr b ↦ connected-transitive (ends_where g (avoiding g u t)) z (other_end g h w) w b
              (connected-symmetric (ends_where g (avoiding g u t)) w (other_end g h w)
              (joined-other g (avoiding g u t) h w l (end-avoiding g t u h w p.0 i (λ q. n (sym q)) (not-u (other_end g h w) b)) i))
        ]

    -- a vertex that these edges have in common with the others is u
    common-is : (w : ℕ) → IsCommon g near w → w ≡ u
    common-is w c = elim (cases_eq w u) [
      | inl q ↦ q
      | inr n ↦
          let here : reached w ≡ true = near-end c.inside w c.inside_edge c.inside_side c.inside_end n in
          let off : t c.outside ≡ false = false_from_ne_true (t c.outside) (λ x. both_ways (near c.outside) c.outside_side (near-from c.outside w x c.outside_end here)) in
          elim (meet w c.inside c.outside c.inside_edge c.outside_edge c.inside_end c.outside_end (and_parts (t c.inside) (reached (ends_of g c.inside).0 || reached (ends_of g c.inside).1) c.inside_side).0 off) [
            | inl q ↦ q
            | inr q ↦ absurd (both_ways (reached v) out (ap reached (sym q) ∙ here))
          ]
    ]

    -- so there is no such vertex
    none-out : ⊥
    none-out =
        let first : near e ≡ true = near-from e z e_on e_end (connected-reflexive (ends_where g (avoiding g u t)) z) in
        let other : near last ≡ false = false_from_ne_true (near last) (λ a. both_ways (reached v) out (near-end last v last_in a last_end (λ q. differ (sym q)))) in
        let w = block-two_common g block near e last e_in last_in first other in
        w.differ (common-is w.first w.first_common ∙ sym (common-is w.second w.second_common))

  -- each vertex other than u that the set touches reaches v by edges of the set without the end u
  pub reach : (e z : ℕ) → e < edge_count g → is_end g z e ≡ true → t e ≡ true → z ≢ u → joined_where g (avoiding g u t) z v ≡ true
  reach e z l i h n = elim (cases_Bool (joined_where g (avoiding g u t) z v)) [
    | inl y ↦ y
    | inr y ↦ absurd (none-out e z l i h n y)
  ]

  -- with an edge at u, the set joins u and v
  pub reach-both : (first : ℕ) → first < edge_count g → is_end g u first ≡ true → t first ≡ true → joined_where g t u v ≡ true
  reach-both first l i h = connected-transitive (ends_where g t) u (other_end g first u) v (joined-other g t first u l h i)
      (joined-more g (avoiding g u t) t (λ e m a. (and_parts (t e) (not (is_end g u e)) a).0) (other_end g first u) v
      (reach first (other_end g first u) l (other_end-is_end g first u) h (other-differs g ok first u l i)))

  -- by a path
  pub reach-path : (first : ℕ) → first < edge_count g → is_end g u first ≡ true → t first ≡ true → PathWhere g t u v
  reach-path first l i h = joined-path g t u v (reach-both first l i h)
