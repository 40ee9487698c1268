-- Two simple graphs in which the same vertices are joined: each dart of the one leads as one dart of the other does, and each
-- rotation system of the one is one of the other, plane where it is.
use Rattle.std.proofs.Common.{◌≡◌, ℕ, ◌/◌, ◌<◌, Bool, true, ◌&&◌, ◌==◌, List, refl, sym, ap, ap₂, ◌∙◌, subst, eqb-true, eq-eqb}
use Rattle.std.proofs.lemmas.Bool.{and_parts, and_from, true≢false}
use Rattle.permutations.specs.Count.{some}
use Rattle.permutations.proofs.Search.{some-from, least-below, least-passes}
use Rattle.multigraph.specs.Graph.{Multigraph, IsGraph, edge_count, other_end}
use Rattle.rotations.specs.Rotation.{IsRotationSystem}
use Rattle.graph_theory.specs.Triconnected.{IsSimple}
use Rattle.contractions.specs.Contraction.{are_adjacent}
use Rattle.contractions.proofs.Joined.{joined-edge, joined-from}
use Rattle.dart_maps.specs.Map.{twin, IsMap, same_vertex}
use Rattle.dart_maps.specs.Renumbering.{IsRenumbering}
use Rattle.dart_maps.proofs.Darts.{twin-below, twin-twin}
use Rattle.dart_maps.proofs.Euler.{plane-ext}
use Rattle.dart_maps.proofs.Renumber.{renumber-plane}
use Rattle.faces.specs.Euler.{tail, dart_from, dart_count, IsPlane}
use Rattle.faces.specs.Maps.{dart_after, dart_before}
use Rattle.faces.proofs.DartLemmas.{dart-edge, tail-end, dart_from-edge, dart_from-below, dart_from-tail}
use Rattle.faces.proofs.MapSteps.{tail-twin, map-permutes}
use Rattle.faces.proofs.MapVertices.{map-vertex}
use Rattle.faces.proofs.MapCounts.{plane-map, map-plane}
use Rattle.faces.proofs.MapToLists.{map-orders}
use Rattle.planarity.proofs.JoinedDarts.{dart_between}
use Rattle.planarity.proofs.SimpleDarts.{simple-dart}
use Rattle.dart_maps.proofs.CarriedMaps.{IsNumbering, numbered-orbit}

-- two simple graphs in which the same vertices are joined
pub record AreAlike (g h : Multigraph) : Type 0 where
  pub graph : IsGraph g
  pub other_graph : IsGraph h
  pub simple : IsSimple g
  pub other_simple : IsSimple h
  pub forth : (u v : ℕ) → are_adjacent g u v ≡ true → are_adjacent h u v ≡ true
  pub back : (u v : ℕ) → are_adjacent h u v ≡ true → are_adjacent g u v ≡ true

-- the other one is alike too
pub alike-turned : (g h : Multigraph) → AreAlike g h → AreAlike h g
alike-turned g h a = record {
  graph = a.other_graph;
  other_graph = a.graph;
  simple = a.other_simple;
  other_simple = a.simple;
  forth = a.back;
  back = a.forth;
}

-- a dart leads from u to v
pub record LeadsFromTo (g : Multigraph) (d u v : ℕ) : Type 0 where
  pub is_dart : d < dart_count g
  pub leaves : tail g d ≡ u
  pub arrives : tail g (twin d) ≡ v

-- where u and v are joined, the dart between them leads from u to v
between-leads : (g : Multigraph) → IsGraph g → (u v : ℕ) → are_adjacent g u v ≡ true → LeadsFromTo g (dart_between g u v) u v
between-leads g ok u v j = record {
  is_dart = least-below (dart_count g) leads found;
  leaves = eqb-true (tail g (dart_between g u v)) u passes.0;
  arrives = eqb-true (tail g (twin (dart_between g u v))) v passes.1;
}
  where
    leads : ℕ → Bool
    leads d = (tail g d == u) && (tail g (twin d) == v)

    found : some (dart_count g) leads ≡ true
    found =
        let f = joined-edge g u v j in
        let d : ℕ = dart_from g u f.0 in
        let l : d < dart_count g = dart_from-below g u f.0 f.1 in
        let t : tail g d ≡ u = dart_from-tail g u f.0 f.2 in
        some-from (dart_count g) leads d l (and_from (tail g d == u) (tail g (twin d) == v) (eq-eqb (tail g d) u t)
        (eq-eqb (tail g (twin d)) v (tail-twin g d ok l ∙ (ap₂ (other_end g) (dart_from-edge g u f.0) t ∙ f.3))))

    passes : ((tail g (dart_between g u v) == u) ≡ true) × ((tail g (twin (dart_between g u v)) == v) ≡ true)
    passes = and_parts (tail g (dart_between g u v) == u) (tail g (twin (dart_between g u v)) == v) (least-passes (dart_count g) leads found)

-- a dart joins the vertices that it and its twin leave
dart-joined : (g : Multigraph) → IsGraph g → (d : ℕ) → d < dart_count g → are_adjacent g (tail g d) (tail g (twin d)) ≡ true
dart-joined g ok d l = subst (λ (v : ℕ). are_adjacent g (tail g d) v ≡ true) (sym (tail-twin g d ok l)) (joined-from g (d / 2) (tail g d) (dart-edge g d l) (tail-end g d))

-- the dart of h that leads as d does in g
pub carry : Multigraph → Multigraph → ℕ → ℕ
carry g h d = dart_between h (tail g d) (tail g (twin d))

-- it does
pub carry-leads : (g h : Multigraph) → AreAlike g h → (d : ℕ) → d < dart_count g → LeadsFromTo h (carry g h d) (tail g d) (tail g (twin d))
unfolding carry
carry-leads g h a d l = between-leads h a.other_graph (tail g d) (tail g (twin d)) (a.forth (tail g d) (tail g (twin d)) (dart-joined g a.graph d l))

-- there and back
pub carry-back : (g h : Multigraph) → AreAlike g h → (d : ℕ) → d < dart_count g → carry h g (carry g h d) ≡ d
carry-back g h a d l =
    let c = carry-leads g h a d l in
    let b = carry-leads h g (alike-turned g h a) (carry g h d) c.is_dart in
    simple-dart g a.graph a.simple (carry h g (carry g h d)) d b.is_dart l (b.leaves ∙ c.leaves) (b.arrives ∙ c.arrives)

-- the twin
carry-twin : (g h : Multigraph) → AreAlike g h → (d : ℕ) → d < dart_count g → carry g h (twin d) ≡ twin (carry g h d)
carry-twin g h a d l =
    let c = carry-leads g h a d l in
    let b = carry-leads g h a (twin d) (twin-below (edge_count g) d l) in
    simple-dart h a.other_graph a.other_simple (carry g h (twin d)) (twin (carry g h d)) b.is_dart (twin-below (edge_count h) (carry g h d) c.is_dart)
    (b.leaves ∙ sym c.arrives) (b.arrives ∙ (ap (tail g) (twin-twin d) ∙ (sym c.leaves ∙ ap (tail h) (sym (twin-twin (carry g h d))))))

-- so the darts of g number those of h
carry-numbering : (g h : Multigraph) → AreAlike g h → IsNumbering (dart_count g) (dart_count h) (λ d. true) (carry g h) (carry h g)
carry-numbering g h a = record {
  numbers = λ d l. (carry-leads g h a d l).is_dart;
  lives = λ d l. refl;
  numbers_back = λ d l t. (carry-leads h g (alike-turned g h a) d l).is_dart;
  into_back = λ d l t. carry-back h g (alike-turned g h a) d l;
  back_into = λ d l. carry-back g h a d l;
}

-- a rotation system of h that goes round its vertices as r does in g
pub record IsCarried (g h : Multigraph) (r : List (List ℕ)) : Type 0 where
  pub orders : List (List ℕ)
  pub system : IsRotationSystem h orders
  pub after : (d : ℕ) → d < dart_count h → dart_after h orders d ≡ carry g h (dart_after g r (carry h g d))
  pub plane : IsPlane g r → IsPlane h orders

module _ (g h : Multigraph) (a : AreAlike g h) (r : List (List ℕ)) (s : IsRotationSystem g r) where
  abbrev next : ℕ → ℕ
  next d = carry g h (dart_after g r (carry h g d))

  abbrev previous : ℕ → ℕ
  previous d = carry g h (dart_before g r (carry h g d))

  round : IsMap (edge_count g) (dart_after g r) (dart_before g r)
  round = map-permutes g r a.graph s

  here : (d : ℕ) → d < dart_count h → carry h g d < dart_count g
  here d l = (carry-leads h g (alike-turned g h a) d l).is_dart

  is_map : IsMap (edge_count h) next previous
  is_map = record {
    forth = λ d l. (carry-leads g h a (dart_after g r (carry h g d)) (round.forth (carry h g d) (here d l))).is_dart;
    back = λ d l. (carry-leads g h a (dart_before g r (carry h g d)) (round.back (carry h g d) (here d l))).is_dart;
    back_forth = λ d l.
        ap (λ (c : ℕ). carry g h (dart_before g r c)) (carry-back g h a (dart_after g r (carry h g d)) (round.forth (carry h g d) (here d l)))
        ∙ (ap (carry g h) (round.back_forth (carry h g d) (here d l)) ∙ carry-back h g (alike-turned g h a) d l);
    forth_back = λ d l.
        ap (λ (c : ℕ). carry g h (dart_after g r c)) (carry-back g h a (dart_before g r (carry h g d)) (round.back (carry h g d) (here d l)))
        ∙ (ap (carry g h) (round.forth_back (carry h g d) (here d l)) ∙ carry-back h g (alike-turned g h a) d l);
  }

  steps : (d : ℕ) → d < dart_count g → carry g h (dart_after g r d) ≡ next (carry g h d)
  steps d l = ap (λ (c : ℕ). carry g h (dart_after g r c)) (sym (carry-back g h a d l))

  renumbering : IsRenumbering (edge_count g) (dart_after g r) (edge_count h) next (λ d. true) (carry g h) (carry h g)
  renumbering = record {
    whole_edges = λ d l. refl;
    others_alone = λ d l t. absurd (true≢false t);
    darts = λ d l. (carry-leads g h a d l).is_dart;
    lives = λ d l. refl;
    darts_back = λ d l t. here d l;
    into_back = λ d l t. carry-back h g (alike-turned g h a) d l;
    back_into = carry-back g h a;
    twins = carry-twin g h a;
    steps = steps;
  }

  vertices : (c d : ℕ) → c < dart_count h → d < dart_count h → same_vertex (edge_count h) next c d ≡ (tail h c == tail h d)
  vertices c d l m =
      let b = alike-turned g h a in
      ap₂ (same_vertex (edge_count h) next) (sym (carry-back h g b c l)) (sym (carry-back h g b d m))
      ∙ (sym (numbered-orbit (dart_count g) (dart_count h) (λ e. true) (carry g h) (carry h g) (carry-numbering g h a) (dart_after g r) next round.forth steps (λ e k t. absurd (true≢false t))
      (carry h g c) (carry h g d) (here c l) (here d m))
      ∙ (map-vertex g r a.graph s (carry h g c) (carry h g d) (here c l) (here d m)
      ∙ ap₂ (λ (u v : ℕ). u == v) (carry-leads h g b c l).leaves (carry-leads h g b d m).leaves))

  -- it is there
  pub carried : IsCarried g h r
  carried =
      let q = map-orders h a.other_graph next previous is_map vertices in
      record {
        orders = q.0;
        system = q.1;
        after = q.2;
        plane = λ p. map-plane h q.0 a.other_graph q.1 (plane-ext (edge_count h) next (dart_after h q.0) (λ d l. sym (q.2 d l))
            (renumber-plane (edge_count g) (dart_after g r) (dart_before g r) round (edge_count h) next previous is_map (λ d. true) (carry g h) (carry h g) renumbering (plane-map g r a.graph s p)));
      }
