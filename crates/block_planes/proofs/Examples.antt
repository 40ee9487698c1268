-- Two triangles that share a vertex: a rotation system in which they do not cross, and one in which they do, computed.
use Rattle.std.proofs.Common.{◌≡◌, ℕ, zero, suc, ◌+◌, ◌-◌, ◌<◌, ◌≤◌, ◌⊎◌, ltb, true, List, [], ◌∷◌, inl, inr, refl, sym, ◌∙◌, subst, arith}
use Rattle.std.proofs.lemmas.Bool.{true≢false, ltb-true, ltb-false}
use Rattle.permutations.specs.Cyclic.{FollowsAround}
use Rattle.multigraph.specs.Graph.{Multigraph, is_end}
use Rattle.multigraph.proofs.OtherEnd.{is_end-cases}
use Rattle.rotations.specs.Rotation.{order_at}
use Rattle.graph_theory.specs.Block.{SameBlock}
use Rattle.graph_theory.specs.Side.{IsCommon}
use Rattle.graph_theory.proofs.Crossings.{block-one_side}
use Rattle.faces.specs.Euler.{face_count, IsPlane}
use Rattle.block_planes.specs.Crossing.{NoBlocksCross}

-- the triangles 0, 1, 2 and 0, 3, 4, with the edges 0 to 2 and 3 to 5
abbrev triangles : Multigraph
triangles = record {
  vertex_count = 5;
  ends = (0, 1) ∷ (1, 2) ∷ (0, 2) ∷ (0, 3) ∷ (3, 4) ∷ (0, 4) ∷ [];
}

-- around vertex 0 the second triangle lies in one corner of the first
abbrev beside : List (List ℕ)
beside = (0 ∷ 2 ∷ 3 ∷ 5 ∷ []) ∷ (0 ∷ 1 ∷ []) ∷ (1 ∷ 2 ∷ []) ∷ (3 ∷ 4 ∷ []) ∷ (4 ∷ 5 ∷ []) ∷ []

-- in the other corner
abbrev within : List (List ℕ)
within = (0 ∷ 3 ∷ 5 ∷ 2 ∷ []) ∷ (0 ∷ 1 ∷ []) ∷ (1 ∷ 2 ∷ []) ∷ (3 ∷ 4 ∷ []) ∷ (4 ∷ 5 ∷ []) ∷ []

-- the triangles alternate
abbrev crossing : List (List ℕ)
crossing = (0 ∷ 3 ∷ 2 ∷ 5 ∷ []) ∷ (0 ∷ 1 ∷ []) ∷ (1 ∷ 2 ∷ []) ∷ (3 ∷ 4 ∷ []) ∷ (4 ∷ 5 ∷ []) ∷ []

beside_plane : IsPlane triangles beside
beside_plane = refl

within_plane : IsPlane triangles within
within_plane = refl

-- one face, where three are plane
crossing_faces : face_count triangles crossing ≡ 1
crossing_faces = refl

-- a triangle on its own is plane, whatever lies between its edges
abbrev triangle : Multigraph
triangle = record { vertex_count = 3; ends = (0, 1) ∷ (1, 2) ∷ (0, 2) ∷ [] }

triangle_plane : IsPlane triangle ((0 ∷ 2 ∷ []) ∷ (0 ∷ 1 ∷ []) ∷ (1 ∷ 2 ∷ []) ∷ [])
triangle_plane = refl

-- the four edges at vertex 0 alternate
crossing_follows : FollowsAround (order_at crossing 0) (0 ∷ 3 ∷ 2 ∷ 5 ∷ [])
crossing_follows = record { front = []; back = 0 ∷ 3 ∷ 2 ∷ 5 ∷ []; before = refl; after = refl }

-- also where the reading begins elsewhere
crossing_turned : FollowsAround (order_at crossing 0) (5 ∷ 0 ∷ 3 ∷ 2 ∷ [])
crossing_turned = record { front = 0 ∷ 3 ∷ 2 ∷ []; back = 5 ∷ []; before = refl; after = refl }

-- edges 0 and 2 are of one block
first_block : SameBlock triangles 0 2
first_block = inr (record {
  start = 0;
  along = 0 ∷ 1 ∷ 2 ∷ [];
  cycle = record { walk = ((omega arith, refl), ((omega arith, refl), ((omega arith, refl), tt))); returns = refl; two = omega arith; edges = refl; vertices = refl };
  first_on = refl;
  second_on = refl;
})

-- and so are edges 3 and 5
second_block : SameBlock triangles 3 5
second_block = inr (record {
  start = 0;
  along = 3 ∷ 4 ∷ 5 ∷ [];
  cycle = record { walk = ((omega arith, refl), ((omega arith, refl), ((omega arith, refl), tt))); returns = refl; two = omega arith; edges = refl; vertices = refl };
  first_on = refl;
  second_on = refl;
})

-- so in the second system blocks cross: else one cycle would have edges 0 and 3
crossing_cross : NoBlocksCross triangles crossing → SameBlock triangles 0 3
crossing_cross n = n 0 0 3 2 5 (omega arith) crossing_follows first_block second_block

-- the ends of the first triangle's edges
low_ends : (e v : ℕ) → e < 3 → is_end triangles v e ≡ true → v < 3
low_ends zero v l h = elim (is_end-cases triangles v 0 h) [ inl q ↦ omega (arith, q) | inr q ↦ omega (arith, q) ]
low_ends (suc zero) v l h = elim (is_end-cases triangles v 1 h) [ inl q ↦ omega (arith, q) | inr q ↦ omega (arith, q) ]
low_ends (suc (suc zero)) v l h = elim (is_end-cases triangles v 2 h) [ inl q ↦ omega (arith, q) | inr q ↦ omega (arith, q) ]
low_ends (suc (suc (suc e))) v l h = absurd (omega (arith, l))

-- and of the second one's
high_ends : (e v : ℕ) → e < 3 → is_end triangles v (e + 3) ≡ true → (v ≡ 0) ⊎ (3 ≤ v)
high_ends zero v l h = elim (is_end-cases triangles v 3 h) [ inl q ↦ inl (sym q) | inr q ↦ inr (omega (arith, q)) ]
high_ends (suc zero) v l h = elim (is_end-cases triangles v 4 h) [ inl q ↦ inr (omega (arith, q)) | inr q ↦ inr (omega (arith, q)) ]
high_ends (suc (suc zero)) v l h = elim (is_end-cases triangles v 5 h) [ inl q ↦ inl (sym q) | inr q ↦ inr (omega (arith, q)) ]
high_ends (suc (suc (suc e))) v l h = absurd (omega (arith, l))

-- they have vertex 0 alone in common
common_vertex : (v : ℕ) → IsCommon triangles (λ e. ltb e 3) v → v ≡ 0
common_vertex v c =
    let low : c.inside < 3 = ltb-true c.inside 3 c.inside_side in
    let high : 3 ≤ c.outside = ltb-false c.outside 3 c.outside_side in
    let few : c.outside < 6 = c.outside_edge in
    let back : c.outside - 3 + 3 ≡ c.outside = omega (arith, high) in
    elim (high_ends (c.outside - 3) v (omega (arith, high, few)) (subst (λ e. is_end triangles v e ≡ true) (sym back) c.outside_end)) [
      | inl q ↦ q
      | inr q ↦ absurd (omega (arith, q, low_ends c.inside v low c.inside_end))
    ]

-- so edges 0 and 3 are not of one block
apart : SameBlock triangles 0 3 → ⊥
apart b = true≢false (block-one_side triangles (λ e. ltb e 3) (λ p q i j. common_vertex p i ∙ sym (common_vertex q j)) 0 3 b)

-- and in the second system blocks cross
crossing_crosses : NoBlocksCross triangles crossing → ⊥
crossing_crosses n = apart (crossing_cross n)
