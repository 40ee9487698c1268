-- A triconnected graph with four vertices is the complete graph. It has a plane rotation system, and its plane rotation systems
-- are one and its mirror image.
use Rattle.std.proofs.Common.{◌≡◌, ◌≢◌, ℕ, ◌<◌, ◌≤◌, ◌⊎◌, inl, inr, true, false, List, [], ◌∷◌, length, refl, sym, ap, ◌∙◌, subst, arith, All}
use Rattle.std.proofs.lemmas.Bool.{cases_eq}
use Rattle.std.proofs.lemmas.List.Elements.{All-cons, All-nil}
use Rattle.permutations.specs.Members.{is_member, is_distinct}
use Rattle.permutations.proofs.Count.{count-within}
use Rattle.permutations.proofs.Arrangements.{count-list, all-member}
use Rattle.permutations.proofs.Members.{no_member-cons, distinct-cons}
use Rattle.permutations.proofs.Permutations.{permutes-back}
use Rattle.multigraph.specs.Graph.{Multigraph, IsGraph, edge_count, is_end, other_end}
use Rattle.multigraph.proofs.OtherEnd.{other_end-in, other_end-differs}
use Rattle.rotations.specs.Rotation.{IsRotationSystem}
use Rattle.graph_theory.specs.Triconnected.{IsTriconnected}
use Rattle.contractions.specs.Contraction.{are_adjacent}
use Rattle.contractions.proofs.Joined.{joined-from, joined-turned, joined-in, joined-apart}
use Rattle.contractions.proofs.Outside.{outside}
use Rattle.contractions.proofs.Neighbours.{neighbour}
use Rattle.dart_maps.specs.Map.{IsMap}
use Rattle.faces.specs.Euler.{dart_count, IsPlane, IsPlaneSystem}
use Rattle.faces.specs.Maps.{dart_after, dart_before}
use Rattle.rotations.specs.Runs.{mirror_image}
use Rattle.faces.proofs.MapSteps.{map-permutes}
use Rattle.faces.proofs.MapMirror.{mirror-system, mirror-after}
use Rattle.faces.proofs.MapToLists.{orders-told}
use Rattle.planarity.proofs.FourVerticesDarts.{AreAlike, alike-turned, carry, carry-leads, carry-back, IsCarried, carried}
use Rattle.planarity.proofs.FourVerticesTetrahedron.{tetrahedron, tetrahedron-graph, tetrahedron-simple, tetrahedron-joined, drawn, drawn-system, drawn-plane, tetrahedron-two}

-- a list of numbers below four without repetition is no longer than four
no-five : (l : List ℕ) → is_distinct l ≡ true → All (λ x. x < 4) l → length l ≤ 4
no-five l d h = omega (arith, count-list 4 (λ x. is_member x l) l d (λ x m. all-member (λ y. y < 4) l x h m) (λ x k. refl), count-within 4 (λ x. is_member x l))

module _ (g : Multigraph) (i : IsGraph g) (t : IsTriconnected g) (four : g.vertex_count ≡ 4) where
  -- each two different vertices are joined
  complete : (u v : ℕ) → u < g.vertex_count → v < g.vertex_count → u ≢ v → are_adjacent g u v ≡ true
  complete u v l m n = elim (cases_eq w v) [
    | inl d ↦ subst (λ (q : ℕ). are_adjacent g u q ≡ true) d (joined-from g e.0 u e.1 e.2)
    | inr d ↦ absurd (omega (arith, no-five (w ∷ b.0 ∷ a.0 ∷ u ∷ v ∷ []) (different d) below))
  ]
    where
      a : (a : ℕ) × (a < g.vertex_count) × (is_member a (u ∷ v ∷ []) ≡ false)
      a = outside g.vertex_count (u ∷ v ∷ []) (omega arith)

      b : (b : ℕ) × (b < g.vertex_count) × (is_member b (a.0 ∷ u ∷ v ∷ []) ≡ false)
      b = outside g.vertex_count (a.0 ∷ u ∷ v ∷ []) (omega arith)

      e : (e : ℕ) × (e < edge_count g) × (is_end g u e ≡ true) × (other_end g e u ≢ a.0) × (other_end g e u ≢ b.0)
      e = neighbour g i t u a.0 b.0 l

      w : ℕ
      w = other_end g e.0 u

      different : w ≢ v → is_distinct (w ∷ b.0 ∷ a.0 ∷ u ∷ v ∷ []) ≡ true
      different d = distinct-cons w (b.0 ∷ a.0 ∷ u ∷ v ∷ [])
          (no_member-cons w b.0 (a.0 ∷ u ∷ v ∷ []) (λ s. e.4 (sym s)) (no_member-cons w a.0 (u ∷ v ∷ []) (λ s. e.3 (sym s))
          (no_member-cons w u (v ∷ []) (λ s. other_end-differs g e.0 u i e.1 e.2 (sym s)) (no_member-cons w v [] (λ s. d (sym s)) refl))))
          (distinct-cons b.0 (a.0 ∷ u ∷ v ∷ []) b.2 (distinct-cons a.0 (u ∷ v ∷ []) a.2 (distinct-cons u (v ∷ []) (no_member-cons u v [] (λ s. n (sym s)) refl) refl)))

      less : (x : ℕ) → x < g.vertex_count → x < 4
      less x k = omega arith

      below : All (λ x. x < 4) (w ∷ b.0 ∷ a.0 ∷ u ∷ v ∷ [])
      below = All-cons (λ x. x < 4) w (b.0 ∷ a.0 ∷ u ∷ v ∷ []) (less w (other_end-in g e.0 u i e.1)) (All-cons (λ x. x < 4) b.0 (a.0 ∷ u ∷ v ∷ []) (less b.0 b.1)
          (All-cons (λ x. x < 4) a.0 (u ∷ v ∷ []) (less a.0 a.1) (All-cons (λ x. x < 4) u (v ∷ []) (less u l) (All-cons (λ x. x < 4) v [] (less v m) (All-nil (λ x. x < 4))))))

  -- so the graph is like the tetrahedron
  pub alike : AreAlike tetrahedron g
  alike = record {
    graph = tetrahedron-graph;
    other_graph = i;
    simple = tetrahedron-simple;
    other_simple = t.simple;
    forth = λ u v j. complete u v
        (omega (arith, joined-in tetrahedron tetrahedron-graph v u (joined-turned tetrahedron tetrahedron-graph u v j)))
        (omega (arith, joined-in tetrahedron tetrahedron-graph u v j)) (joined-apart tetrahedron tetrahedron-graph u v j);
    back = λ u v j. tetrahedron-joined u v (omega (arith, joined-in g i v u (joined-turned g i u v j))) (omega (arith, joined-in g i u v j)) (joined-apart g i u v j);
  }

  -- it has a plane rotation system
  pub four_vertices-plane : (r : List (List ℕ)) × IsPlaneSystem g r
  four_vertices-plane = let c : IsCarried tetrahedron g drawn = carried tetrahedron g alike drawn drawn-system in (c.orders, record { system = c.system; plane = c.plane drawn-plane })

  -- the steps round the vertices, seen in the tetrahedron
  after-there : (r : List (List ℕ)) → IsRotationSystem g r → (c : IsCarried g tetrahedron r) → (d : ℕ) → d < dart_count g → dart_after g r d ≡ carry tetrahedron g (dart_after tetrahedron c.orders (carry g tetrahedron d))
  after-there r s c d l =
      let a = alike-turned tetrahedron g alike in
      sym (ap (carry tetrahedron g) (c.after (carry g tetrahedron d) (carry-leads g tetrahedron a d l).is_dart ∙ ap (λ (e : ℕ). carry g tetrahedron (dart_after g r e)) (carry-back g tetrahedron a d l))
      ∙ carry-back g tetrahedron a (dart_after g r d) ((map-permutes g r i s).forth d l))

  -- and back round them
  before-there : (r : List (List ℕ)) → IsRotationSystem g r → (c : IsCarried g tetrahedron r) → (d : ℕ) → d < dart_count g → dart_before g r d ≡ carry tetrahedron g (dart_before tetrahedron c.orders (carry g tetrahedron d))
  before-there r s c d l =
      let a = alike-turned tetrahedron g alike in
      let k : carry g tetrahedron d < dart_count tetrahedron = (carry-leads g tetrahedron a d l).is_dart in
      let m : IsMap (edge_count tetrahedron) (dart_after tetrahedron c.orders) (dart_before tetrahedron c.orders) = map-permutes tetrahedron c.orders tetrahedron-graph c.system in
      let b : dart_before tetrahedron c.orders (carry g tetrahedron d) < dart_count tetrahedron = m.back (carry g tetrahedron d) k in
      let p : carry tetrahedron g (dart_before tetrahedron c.orders (carry g tetrahedron d)) < dart_count g = (carry-leads tetrahedron g alike (dart_before tetrahedron c.orders (carry g tetrahedron d)) b).is_dart in
      permutes-back (dart_count g) (dart_after g r) (dart_before g r) (map-permutes g r i s) (carry tetrahedron g (dart_before tetrahedron c.orders (carry g tetrahedron d))) d p
      (after-there r s c (carry tetrahedron g (dart_before tetrahedron c.orders (carry g tetrahedron d))) p
      ∙ (ap (λ (e : ℕ). carry tetrahedron g (dart_after tetrahedron c.orders e)) (carry-back tetrahedron g alike (dart_before tetrahedron c.orders (carry g tetrahedron d)) b)
      ∙ (ap (carry tetrahedron g) (m.forth_back (carry g tetrahedron d) k) ∙ carry-back g tetrahedron a d l)))

  -- rotation systems that are the same there are the same
  same-there : (r q : List (List ℕ)) → IsRotationSystem g r → IsRotationSystem g q → (c : IsCarried g tetrahedron r) → (b : IsCarried g tetrahedron q) → c.orders ≡ b.orders → r ≡ q
  same-there r q s k c b e = orders-told g r q s k (λ d l.
      after-there r s c d l ∙ (ap (λ (o : List (List ℕ)). carry tetrahedron g (dart_after tetrahedron o (carry g tetrahedron d))) e ∙ sym (after-there q k b d l)))

  -- those that are mirror images there are mirror images
  mirror-there : (r q : List (List ℕ)) → IsRotationSystem g r → IsRotationSystem g q → (c : IsCarried g tetrahedron r) → (b : IsCarried g tetrahedron q) → c.orders ≡ mirror_image b.orders → r ≡ mirror_image q
  mirror-there r q s k c b e = orders-told g r (mirror_image q) s (mirror-system g q k) (λ d l.
      let w : carry g tetrahedron d < dart_count tetrahedron = (carry-leads g tetrahedron (alike-turned tetrahedron g alike) d l).is_dart in
      after-there r s c d l
      ∙ (ap (λ (o : List (List ℕ)). carry tetrahedron g (dart_after tetrahedron o (carry g tetrahedron d))) e
      ∙ (ap (carry tetrahedron g) (mirror-after tetrahedron b.orders tetrahedron-graph b.system (carry g tetrahedron d) w)
      ∙ (sym (before-there q k b d l) ∙ sym (mirror-after g q i k d l)))))

  -- two plane rotation systems are the same or mirror images
  pub four_vertices-two : (r q : List (List ℕ)) → IsRotationSystem g r → IsRotationSystem g q → IsPlane g r → IsPlane g q → (r ≡ q) ⊎ (r ≡ mirror_image q)
  four_vertices-two r q s k p o =
      let a = alike-turned tetrahedron g alike in
      let c : IsCarried g tetrahedron r = carried g tetrahedron a r s in
      let b : IsCarried g tetrahedron q = carried g tetrahedron a q k in
      elim (tetrahedron-two c.orders c.system (c.plane p)) [
        | inl e ↦ elim (tetrahedron-two b.orders b.system (b.plane o)) [
          | inl f ↦ inl (same-there r q s k c b (e ∙ sym f))
          | inr f ↦ inr (mirror-there r q s k c b (e ∙ ap mirror_image (sym f)))
        ]
        | inr e ↦ elim (tetrahedron-two b.orders b.system (b.plane o)) [
          | inl f ↦ inr (mirror-there r q s k c b (e ∙ ap mirror_image (sym f)))
          | inr f ↦ inl (same-there r q s k c b (e ∙ sym f))
        ]
      ]
