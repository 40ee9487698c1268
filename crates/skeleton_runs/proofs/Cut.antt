-- At a vertex of a plane rotation system two sets of edges that meet nowhere else, each connected without the vertex, don't
-- cross.
use Rattle.std.proofs.Common.{◌≡◌, ◌≢◌, ℕ, ◌/◌, ◌<◌, inl, inr, Bool, true, List, [], ◌∷◌, refl, sym, ap, ◌∙◌}
use Rattle.std.proofs.lemmas.Bool.{both_ways}
use Rattle.permutations.specs.Members.{is_member}
use Rattle.permutations.specs.Cyclic.{FollowsAround}
use Rattle.permutations.specs.Exchange.{restricted}
use Rattle.permutations.proofs.Members.{member-cases, member-head, member-tail}
use Rattle.multigraph.specs.Graph.{Multigraph, edge_count, is_end, other_end, IsGraph}
use Rattle.rotations.specs.Rotation.{order_at, IsRotationSystem}
use Rattle.dart_maps.specs.Map.{IsPlane as IsPlaneMap}
use Rattle.dart_maps.specs.Order.{connected_around}
use Rattle.dart_maps.proofs.Plane.{restricted-plane}
use Rattle.dart_maps.proofs.Noncrossing.{noncrossing}
use Rattle.faces.specs.Euler.{dart_from, dart_count, IsPlane}
use Rattle.faces.specs.Maps.{dart_after, dart_before}
use Rattle.faces.proofs.DartLemmas.{dart_from-edge}
use Rattle.faces.proofs.MapSteps.{map-permutes}
use Rattle.faces.proofs.MapCounts.{plane-map}
use Rattle.graph_theory.specs.Joined.{joined_where, avoiding}
use Rattle.skeleton_runs.proofs.EdgesInOrder.{met-edge, met-end, edges-in_order}
use Rattle.skeleton_runs.proofs.Opened.{left-permutes, around-joined, around-apart}

-- a plane rotation system, edges that are kept, and those of them that are inside; at u alone these meet the others
module _ (g : Multigraph) (r : List (List ℕ)) (ok : IsGraph g) (s : IsRotationSystem g r) (plane : IsPlane g r) (u : ℕ) (u_in : u < g.vertex_count) (keep inside : ℕ → Bool)
    (apart : (w e f : ℕ) → w ≢ u → e < edge_count g → f < edge_count g → is_end g w e ≡ true → is_end g w f ≡ true → keep e ≡ true → keep f ≡ true → inside e ≡ true → inside f ≡ true)
    (a b c d : ℕ) (o : FollowsAround (order_at r u) (a ∷ b ∷ c ∷ d ∷ [])) (keep_a : keep a ≡ true) (keep_b : keep b ≡ true) (keep_c : keep c ≡ true) (keep_d : keep d ≡ true)
    (one : joined_where g (avoiding g u keep) (other_end g a u) (other_end g c u) ≡ true) (two : joined_where g (avoiding g u keep) (other_end g b u) (other_end g d u) ≡ true) where
  kept : (x : ℕ) → is_member x (a ∷ b ∷ c ∷ d ∷ []) ≡ true → keep x ≡ true
  kept x m = elim (member-cases x a (b ∷ c ∷ d ∷ []) m) [
    | inl q ↦ ap keep (sym q) ∙ keep_a
    | inr m ↦ elim (member-cases x b (c ∷ d ∷ []) m) [
      | inl q ↦ ap keep (sym q) ∙ keep_b
      | inr m ↦ elim (member-cases x c (d ∷ []) m) [
        | inl q ↦ ap keep (sym q) ∙ keep_c
        | inr m ↦ elim (member-cases x d [] m) [ inl q ↦ ap keep (sym q) ∙ keep_d | inr m ↦ absurd (both_ways (is_member x []) refl m) ]
      ]
    ]
  ]

  in-a : is_member a (a ∷ b ∷ c ∷ d ∷ []) ≡ true
  in-a = member-head a (b ∷ c ∷ d ∷ [])

  in-b : is_member b (a ∷ b ∷ c ∷ d ∷ []) ≡ true
  in-b = member-tail b a (b ∷ c ∷ d ∷ []) (member-head b (c ∷ d ∷ []))

  in-c : is_member c (a ∷ b ∷ c ∷ d ∷ []) ≡ true
  in-c = member-tail c a (b ∷ c ∷ d ∷ []) (member-tail c b (c ∷ d ∷ []) (member-head c (d ∷ [])))

  in-d : is_member d (a ∷ b ∷ c ∷ d ∷ []) ≡ true
  in-d = member-tail d a (b ∷ c ∷ d ∷ []) (member-tail d b (c ∷ d ∷ []) (member-tail d c (d ∷ []) (member-head d [])))

  edge : (x : ℕ) → is_member x (a ∷ b ∷ c ∷ d ∷ []) ≡ true → x < edge_count g
  edge = met-edge g r ok s u a b c d u_in o

  end : (x : ℕ) → is_member x (a ∷ b ∷ c ∷ d ∷ []) ≡ true → is_end g u x ≡ true
  end = met-end g r ok s u a b c d u_in o

  abbrev left : ℕ → ℕ
  left = restricted (dart_count g) (λ z. keep (z / 2)) (dart_after g r)

  abbrev left_back : ℕ → ℕ
  left_back = restricted (dart_count g) (λ z. keep (z / 2)) (dart_before g r)

  left-plane : IsPlaneMap (edge_count g) left
  left-plane = restricted-plane (edge_count g) (dart_after g r) (dart_before g r) (map-permutes g r ok s) (plane-map g r ok s plane) (λ z. keep (z / 2))

  around : (e f : ℕ) → is_member e (a ∷ b ∷ c ∷ d ∷ []) ≡ true → is_member f (a ∷ b ∷ c ∷ d ∷ []) ≡ true → joined_where g (avoiding g u keep) (other_end g e u) (other_end g f u) ≡ true
      → connected_around (edge_count g) left (dart_from g u a) (dart_from g u e) (dart_from g u f) ≡ true
  around e f m n t = around-joined g r ok s keep u a (edge a in-a) (end a in-a) keep_a e f (edge e m) (edge f n) (end e m) (end f n) (kept e m) (kept f n) t

  all-near : connected_around (edge_count g) left (dart_from g u a) (dart_from g u a) (dart_from g u b) ≡ true
  all-near = noncrossing (edge_count g) left left_back (left-permutes g r ok s keep u a (edge a in-a) (end a in-a) keep_a) left-plane
      (dart_from g u a) (dart_from g u b) (dart_from g u c) (dart_from g u d) (edges-in_order g r ok s u a b c d u_in o keep kept) (around a c in-a in-c one) (around b d in-b in-d two)

  -- where a and c are joined without u, and b and d, and a is inside, b is inside too
  pub inside-both : inside a ≡ inside b
  inside-both = ap inside (sym (dart_from-edge g u a))
      ∙ around-apart g r ok s keep u a (edge a in-a) (end a in-a) keep_a inside apart (dart_from g u a) (dart_from g u b) all-near
      ∙ ap inside (dart_from-edge g u b)
