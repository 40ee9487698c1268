-- The loops that fill faces: what they keep, and the number that decreases.
use Rattle.std.proofs.Common.{◌≡◌, ◌≢◌, ℕ, ◌+◌, ◌-◌, ◌*◌, ◌<◌, ◌≤◌, ◌⊎◌, inl, inr, true, false, List, refl, sym, ap, ◌∙◌, subst, arith}
use Rattle.std.proofs.lemmas.Bool.{cases_Bool, cases_lt, cases_eq, eq-eqb, eqb-true, or_cases, or_left, or_right, cond-true, cond-false}
use Rattle.permutations.proofs.Orbits.{orbit-equivalence, orbit-step, orbit-kept}
use Rattle.dart_maps.specs.Map.{twin, face, IsMap, same_face}
use Rattle.dart_maps.proofs.Darts.{face-permutes}
use Rattle.multigraph.specs.Graph.{Multigraph}
use Rattle.faces.specs.Euler.{tail, dart_count}
use Rattle.drawn_maps.proofs.Drawn.{dart-cases, more-edges, joined_back}
use Rattle.triangulations.specs.Triangulation.{IsSimpleMap, IsTriangulation}
use Rattle.triangulations.specs.Cutting.{is_triangle, second_head, can_cut, cut_graph, cut_next, wait, IsFilled, IsFilling}
use Rattle.triangulations.proofs.SimpleMaps.{face-in}
use Rattle.triangulations.proofs.Progress.{third-cut}
use Rattle.triangulations.proofs.Bounded.{darts-bounded}
use Rattle.triangulations.proofs.Cut.{cut-map, cut-permutes, cut-extends, face-kept, new-kept}

-- what is still to be done at dart d: no step of the loop increases it
abbrev pub left_over : Multigraph → (ℕ → ℕ) → ℕ → ℕ
left_over h next d = 3 * (h.vertex_count * h.vertex_count - dart_count h) + wait h next d

-- the wait in its three cases
wait-none : (h : Multigraph) (next : ℕ → ℕ) (d : ℕ) → can_cut h next d ≡ true → wait h next d ≡ 0
wait-none h next d t = cond-true (can_cut h next d) 0 _ t

wait-one : (h : Multigraph) (next : ℕ → ℕ) (d : ℕ) → can_cut h next d ≡ false → can_cut h next (face next d) ≡ true → wait h next d ≡ 1
wait-one h next d f t = cond-false (can_cut h next d) 0 _ f ∙ cond-true (can_cut h next (face next d)) 1 2 t

wait-two : (h : Multigraph) (next : ℕ → ℕ) (d : ℕ) → can_cut h next d ≡ false → can_cut h next (face next d) ≡ false → wait h next d ≡ 2
wait-two h next d f g = cond-false (can_cut h next d) 0 _ f ∙ cond-false (can_cut h next (face next d)) 1 2 g

-- it is two at most
wait-few : (h : Multigraph) (next : ℕ → ℕ) (d : ℕ) → wait h next d ≤ 2
wait-few h next d = elim (cases_Bool (can_cut h next d)) [
  | inl t ↦ omega (arith, wait-none h next d t)
  | inr f ↦ elim (cases_Bool (can_cut h next (face next d))) [
    | inl t ↦ omega (arith, wait-one h next d f t)
    | inr g ↦ omega (arith, wait-two h next d f g)
  ]
]

module _ (g : Multigraph) (r : List (List ℕ)) (start m : ℕ) (h : Multigraph) (next previous : ℕ → ℕ) where
  -- the face of `start` is to be filled
  pub filling-start : IsFilled g r start m h next previous → start < 2 * m → IsFilling g r start start m h next previous
  filling-start f l = record {
    map = f.map;
    extends = f.extends;
    dart = l;
    triangles = λ c k w. elim (cases_eq c start) [
      | inl i ↦ or_right (is_triangle next c) (same_face m next start c) (subst (λ z. same_face m next start z ≡ true) (sym i) ((orbit-equivalence (2 * m) (face next)).reflexive start))
      | inr n ↦ or_left (is_triangle next c) (same_face m next start c) (f.triangles c k (earlier c n w))
    ];
  }
    where
      earlier : (c : ℕ) → c ≢ start → (c < start + 1) ⊎ (dart_count g ≤ c) → (c < start) ⊎ (dart_count g ≤ c)
      earlier c n w = elim w [ inl u ↦ inl (omega (arith, n, u)) | inr u ↦ inr u ]

  module _ (d : ℕ) (f : IsFilling g r start d m h next previous) where
    -- once it is a triangle, it is filled
    pub filling-end : is_triangle next d ≡ true → IsFilled g r (start + 1) m h next previous
    filling-end t = record {
      map = f.map;
      extends = f.extends;
      triangles = λ c k w. elim (or_cases (is_triangle next c) (same_face m next d c) (f.triangles c k w)) [
        | inl u ↦ u
        | inr u ↦ sym (orbit-kept (2 * m) (face next) (λ z. twin (previous z)) (face-permutes m next previous f.map.drawn.map) (is_triangle next)
            (λ z l i. eq-eqb (face next (face next (face next (face next z)))) (face next z) (ap (face next) (eqb-true (face next (face next (face next z))) z i))) d c u) ∙ t
      ];
    }

    -- one dart on along the face
    pub filling-onward : IsFilling g r start (face next d) m h next previous
    filling-onward = record {
      map = f.map;
      extends = f.extends;
      dart = face-in m h next previous f.map d f.dart;
      triangles = λ c k w. elim (or_cases (is_triangle next c) (same_face m next d c) (f.triangles c k w)) [
        | inl u ↦ or_left (is_triangle next c) (same_face m next (face next d) c) u
        | inr u ↦ let e = orbit-equivalence (2 * m) (face next) in
            or_right (is_triangle next c) (same_face m next (face next d) c) (e.transitive (face next d) d c (e.symmetric d (face next d) (orbit-step (2 * m) (face next) d f.dart)) u)
      ];
    }

    -- a triangle is cut off
    module _ (long : is_triangle next d ≡ false) (can : can_cut h next d ≡ true) (after back : ℕ → ℕ) (made : (c : ℕ) → c < 2 * (m + 1) → after c ≡ cut_next m next previous d c) (map : IsMap (m + 1) after back) where
      pub filling-cut : IsFilling g r start (2 * m) (m + 1) (cut_graph h next d) after back
      filling-cut = record {
        map = cut-map m h next previous f.map d f.dart can after back made map;
        extends = cut-extends m h next previous f.map d f.dart can after back made map g r f.extends;
        dart = omega arith;
        triangles = λ c k w. elim (dart-cases m c k) [
          | inl l ↦ face-kept m h next previous f.map d f.dart can after back made map long c l (f.triangles c l w)
          | inr v ↦ new-kept m h next previous f.map d f.dart can after back made map long c v
        ];
      }

-- one dart on, where no edge can be added, there is less to be done
pub onward-less : (m : ℕ) (h : Multigraph) (next previous : ℕ → ℕ) → IsSimpleMap m h next previous → (d : ℕ) → d < 2 * m → is_triangle next d ≡ false → can_cut h next d ≡ false → left_over h next (face next d) < left_over h next d
onward-less m h next previous s d l long not_here = elim (cases_Bool (can_cut h next (face next d))) [
  | inl t ↦ omega (arith, wait-one h next d not_here t, wait-none h next (face next d) t)
  | inr n ↦ let last = third-cut m h next previous s d l long not_here n in omega (arith, wait-two h next d not_here n, wait-one h next (face next d) n last)
]

-- there is room for two darts more, where an edge can be added
pub cut-room : (m : ℕ) (h : Multigraph) (next previous : ℕ → ℕ) → IsSimpleMap m h next previous → (d : ℕ) → d < 2 * m → can_cut h next d ≡ true → 2 * (m + 1) ≤ h.vertex_count * h.vertex_count
cut-room m h next previous s d l can = darts-bounded (m + 1) (cut_graph h next d) (cut_next m next previous d) (joined_back m (previous d) (twin (face next d)) previous)
    (cut-map m h next previous s d l can (cut_next m next previous d) (joined_back m (previous d) (twin (face next d)) previous) (λ c k. refl) (cut-permutes m h next previous s d l can))

-- and with the edge there is less to be done
pub cut-less : (m : ℕ) (h : Multigraph) (next previous : ℕ → ℕ) → IsSimpleMap m h next previous → (d : ℕ) → d < 2 * m → can_cut h next d ≡ true → (after : ℕ → ℕ) (e : ℕ) → left_over (cut_graph h next d) after e < left_over h next d
cut-less m h next previous s d l can after e =
    let i = s.drawn.edges in
    let i' = more-edges m h h.vertex_count (tail h d, second_head h next d) s.drawn.edges in
    omega (arith, i, i', cut-room m h next previous s d l can, wait-few (cut_graph h next d) after e)

-- when all faces are filled the map is a triangulation
pub filled-all : (g : Multigraph) (r : List (List ℕ)) (m : ℕ) (h : Multigraph) (next previous : ℕ → ℕ) → IsFilled g r (dart_count g) m h next previous → IsTriangulation g r m h next previous
filled-all g r m h next previous f = record {
  triangulated = record { map = f.map; triangles = λ d l. eqb-true (face next (face next (face next d))) d (f.triangles d l (cases_lt d (dart_count g))) };
  extends = f.extends;
}
