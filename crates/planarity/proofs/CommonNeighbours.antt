-- Common neighbours of the ends of an edge that may be contracted: in a plane rotation system there are at most two, and the
-- triangle of each is a face on the one side of the edge or on the other.
use Rattle.std.proofs.Common.{◌≡◌, ◌≢◌, ℕ, ◌<◌, ◌⊎◌, inl, inr, true, List, [], ◌∷◌, sym, ap, ◌∙◌, subst}
use Rattle.permutations.proofs.Permutations.{permutes-one-to-one}
use Rattle.multigraph.specs.Graph.{Multigraph, IsGraph, edge_count}
use Rattle.rotations.specs.Rotation.{IsRotationSystem}
use Rattle.graph_theory.specs.Triconnected.{IsSimple, IsConnectedWithout}
use Rattle.contractions.specs.Contraction.{are_adjacent, IsContractible, IsContraction}
use Rattle.dart_maps.specs.Map.{twin}
use Rattle.dart_maps.proofs.Darts.{twin-twin, twin-below}
use Rattle.faces.specs.Euler.{tail, dart_from, dart_count, IsPlane}
use Rattle.faces.specs.Maps.{dart_after, dart_before}
use Rattle.faces.proofs.MapSteps.{map-permutes}
use Rattle.planarity.proofs.SimpleDarts.{tail-other}
use Rattle.planarity.proofs.Triangle.{triangle}
use Rattle.planarity.proofs.ContractedDarts.{middle-below, middle-tail, middle-twin}
use Rattle.planarity.proofs.JoinedDarts.{joined-dart, dart-turned, DartFromTo}

-- c is a dart from x to y, w one from x to a common neighbour, u one from there to y. Late: the dart to the neighbour is the
-- last one round x, and the first one round y
abbrev pub IsLate : (ℕ → ℕ) → ℕ → ℕ → ℕ → Type 0
IsLate f c w u = (f w ≡ c) × (f (twin c) ≡ twin u) × (f u ≡ twin w)

-- early: it is the first one round x, and the last one round y
abbrev pub IsEarly : (ℕ → ℕ) → ℕ → ℕ → ℕ → Type 0
IsEarly f c w u = (f c ≡ w) × (f (twin u) ≡ twin c) × (f (twin w) ≡ u)

-- two of three vertices are equal
abbrev pub TwoEqual : ℕ → ℕ → ℕ → Type 0
TwoEqual a b c = (a ≡ b) ⊎ ((a ≡ c) ⊎ (b ≡ c))

module _ (g h : Multigraph) (e x y : ℕ) (edge vertex : ℕ → ℕ) (ok : IsGraph g) (con : IsContraction g h e x y edge vertex) (r : List (List ℕ)) (s : IsRotationSystem g r) (plane : IsPlane g r) (simple : IsSimple g) (may : IsContractible g x y) where
  abbrev middle : ℕ
  middle = dart_from g x e

  abbrev f : ℕ → ℕ
  f = dart_after g r

  -- each common neighbour is late or early
  pub common-neighbour : (w u : ℕ) → w < dart_count g → u < dart_count g → tail g w ≡ x → tail g (twin w) ≡ tail g u → tail g (twin u) ≡ y
      → IsLate (dart_after g r) (dart_from g x e) w u ⊎ IsEarly (dart_after g r) (dart_from g x e) w u
  common-neighbour w u lw lu leaves meets arrives = elim (triangle g r ok s plane simple middle (twin u) (twin w) (middle-below g h e x y edge vertex ok con) (twin-below (edge_count g) u lu) (twin-below (edge_count g) w lw)
      (middle-twin g h e x y edge vertex ok con ∙ sym arrives)
      (ap (tail g) (twin-twin u) ∙ sym meets)
      (ap (tail g) (twin-twin w) ∙ leaves ∙ sym (middle-tail g h e x y edge vertex ok con))
      around) [
        | inl t ↦ inl (ap f (sym (twin-twin w)) ∙ t.0, t.1, ap f (sym (twin-twin u)) ∙ t.2)
        | inr t ↦ inr (t.0 ∙ twin-twin w, t.1, t.2 ∙ twin-twin u)
      ]
    where
      third : tail g (twin w) ≢ x
      third q = tail-other g w ok lw (q ∙ sym leaves)

      third-too : tail g (twin w) ≢ y
      third-too q = tail-other g u ok lu (arrives ∙ sym q ∙ meets)

      around : IsConnectedWithout g (tail g middle ∷ tail g (twin u) ∷ tail g (twin w) ∷ [])
      around = subst (λ v. IsConnectedWithout g (v ∷ tail g (twin u) ∷ tail g (twin w) ∷ [])) (sym (middle-tail g h e x y edge vertex ok con))
          (subst (λ v. IsConnectedWithout g (x ∷ v ∷ tail g (twin w) ∷ [])) (sym arrives) (may (tail g (twin w)) third third-too))

  -- of three common neighbours two are equal
  pub common-two : (a b c : ℕ) → are_adjacent g x a ≡ true → are_adjacent g y a ≡ true → are_adjacent g x b ≡ true → are_adjacent g y b ≡ true → are_adjacent g x c ≡ true → are_adjacent g y c ≡ true → TwoEqual a b c
  common-two a b c xa ya xb yb xc yc = all (joined-dart g ok x a xa) (joined-dart g ok x b xb) (joined-dart g ok x c xc) (dart-turned g y a (joined-dart g ok y a ya)) (dart-turned g y b (joined-dart g ok y b yb)) (dart-turned g y c (joined-dart g ok y c yc))
    where
      -- the darts to two late ones are equal, and those to two early ones
      kind : (v : ℕ) → (p : DartFromTo g x v) (q : DartFromTo g v y) → (f p.0 ≡ middle) ⊎ (f middle ≡ p.0)
      kind v p q = elim (common-neighbour p.0 q.0 p.1 q.1 p.2 (p.3 ∙ sym q.2) q.3) [ inl t ↦ inl t.0 | inr t ↦ inr t.0 ]

      all : (p : DartFromTo g x a) (q : DartFromTo g x b) (t : DartFromTo g x c) → DartFromTo g a y → DartFromTo g b y → DartFromTo g c y → TwoEqual a b c
      all p q t pa qb tc = decide (kind a p pa) (kind b q qb) (kind c t tc)
        where
          equal : (v z : ℕ) (m : DartFromTo g x v) (n : DartFromTo g x z) → m.0 ≡ n.0 → v ≡ z
          equal v z m n i = sym m.3 ∙ ap (λ d. tail g (twin d)) i ∙ n.3

          late : (v z : ℕ) (m : DartFromTo g x v) (n : DartFromTo g x z) → f m.0 ≡ middle → f n.0 ≡ middle → v ≡ z
          late v z m n i j = equal v z m n (permutes-one-to-one (dart_count g) f (dart_before g r) (map-permutes g r ok s) m.0 n.0 m.1 n.1 (i ∙ sym j))

          decide : (f p.0 ≡ middle) ⊎ (f middle ≡ p.0) → (f q.0 ≡ middle) ⊎ (f middle ≡ q.0) → (f t.0 ≡ middle) ⊎ (f middle ≡ t.0) → TwoEqual a b c
          decide (inl i) (inl j) k = inl (late a b p q i j)
          decide (inl i) (inr j) (inl k) = inr (inl (late a c p t i k))
          decide (inl i) (inr j) (inr k) = inr (inr (equal b c q t (sym j ∙ k)))
          decide (inr i) (inr j) k = inl (equal a b p q (sym i ∙ j))
          decide (inr i) (inl j) (inr k) = inr (inl (equal a c p t (sym i ∙ k)))
          decide (inr i) (inl j) (inl k) = inr (inr (late b c q t j k))
