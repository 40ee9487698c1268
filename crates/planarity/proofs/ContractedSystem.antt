-- Each rotation system makes one of the graph with an edge contracted, which is plane where it is.
use Rattle.std.proofs.Common.{◌≡◌, ◌≢◌, ℕ, ◌*◌, ◌/◌, ◌<◌, inl, inr, Bool, true, false, ◌==◌, List, sym, ap, ◌∙◌}
use Rattle.std.proofs.lemmas.Bool.{cases_eq}
use Rattle.permutations.specs.Exchange.{restricted}
use Rattle.permutations.proofs.Restriction.{restricted-alone, restricted-permutes, restricted-orbit}
use Rattle.multigraph.specs.Graph.{Multigraph, IsGraph, edge_count}
use Rattle.rotations.specs.Rotation.{IsRotationSystem}
use Rattle.contractions.specs.Contraction.{is_kept, IsContraction}
use Rattle.dart_maps.specs.Map.{twin, IsMap, same_vertex}
use Rattle.dart_maps.specs.Changes.{contracted, dropped}
use Rattle.dart_maps.specs.Renumbering.{IsRenumbering}
use Rattle.dart_maps.proofs.Darts.{twin-edge}
use Rattle.dart_maps.proofs.Steps.{back_after}
use Rattle.dart_maps.proofs.Plane.{restricted-plane}
use Rattle.dart_maps.proofs.Contract.{contracted-here, contracted-twin, contracted-other, contract-plane, contracted-map}
use Rattle.dart_maps.proofs.Renumber.{renumber-plane-back}
use Rattle.faces.specs.Euler.{tail, dart_from, dart_count, IsPlane}
use Rattle.faces.specs.Maps.{dart_after, dart_before}
use Rattle.faces.proofs.DartLemmas.{dart_from-edge}
use Rattle.faces.proofs.MapSteps.{tail-in, map-permutes}
use Rattle.faces.proofs.MapVertices.{map-vertex}
use Rattle.faces.proofs.MapCounts.{plane-map, map-plane}
use Rattle.faces.proofs.MapToLists.{map-orders, orders-told}
use Rattle.faces.proofs.MapParts.{place}
use Rattle.planarity.specs.Expansion.{moved, stays, IsContractedSystem}
use Rattle.planarity.proofs.ContractedVertices.{AreVertices, SameBut, ends-apart, contracted-vertices}
use Rattle.planarity.proofs.SimpleDarts.{tail-other}
use Rattle.planarity.proofs.ContractedDarts.{moved-twin, stays-edge, stays-kept, stays-not, contracted-not_kept, middle-below, middle-tail, middle-twin, middle-cases, middle-not, moved-in, moved-kept, moved-tail, placed-in, placed-back, back-placed}
use Rattle.dart_maps.proofs.CarriedMaps.{IsNumbering, live-stays, inner-permutes, numbered-orbit}

-- the darts of kept edges are the darts of the contracted graph
pub kept-numbering : (g h : Multigraph) (e x y : ℕ) (edge vertex : ℕ → ℕ) → IsGraph g → IsContraction g h e x y edge vertex → IsNumbering (dart_count h) (dart_count g) (λ d. is_kept g e x y (d / 2)) (moved edge) (moved (place h edge))
kept-numbering g h e x y edge vertex ok con = record {
  numbers = λ d l. moved-in g h e x y edge vertex ok con d l;
  lives = λ d l. moved-kept g h e x y edge vertex ok con d l;
  numbers_back = λ d l k. placed-in g h e x y edge vertex ok con d l k;
  into_back = λ d l k. placed-back g h e x y edge vertex ok con d l k;
  back_into = λ d l. back-placed g h e x y edge vertex ok con d l;
}

-- a map of the contracted graph that is a map of the kept darts, under other numbers
pub kept-renumbering : (g h : Multigraph) (e x y : ℕ) (edge vertex : ℕ → ℕ) → IsGraph g → IsContraction g h e x y edge vertex → (inner big : ℕ → ℕ) → ((d : ℕ) → d < dart_count h → moved edge (inner d) ≡ big (moved edge d)) → ((d : ℕ) → d < dart_count g → is_kept g e x y (d / 2) ≡ false → big d ≡ d)
    → IsRenumbering (edge_count h) inner (edge_count g) big (λ d. is_kept g e x y (d / 2)) (moved edge) (moved (place h edge))
kept-renumbering g h e x y edge vertex ok con inner big steps alone = record {
  whole_edges = λ d l. ap (is_kept g e x y) (twin-edge d);
  others_alone = alone;
  darts = λ d l. moved-in g h e x y edge vertex ok con d l;
  lives = λ d l. moved-kept g h e x y edge vertex ok con d l;
  darts_back = λ d l k. placed-in g h e x y edge vertex ok con d l k;
  into_back = λ d l k. placed-back g h e x y edge vertex ok con d l k;
  back_into = λ d l. back-placed g h e x y edge vertex ok con d l;
  twins = λ d l. moved-twin edge d;
  steps = steps;
}

-- a graph, the graph with an edge contracted, and a rotation system of the first
module _ (g h : Multigraph) (e x y : ℕ) (edge vertex : ℕ → ℕ) (ok : IsGraph g) (okh : IsGraph h) (con : IsContraction g h e x y edge vertex) (r : List (List ℕ)) (s : IsRotationSystem g r) where
  abbrev m : ℕ
  m = edge_count g

  abbrev kept : ℕ → Bool
  kept d = is_kept g e x y (d / 2)

  abbrev middle : ℕ
  middle = dart_from g x e

  -- the map without the edges that are not kept, and then with the edge contracted
  abbrev left : ℕ → ℕ
  left = restricted (dart_count g) (stays g e x y) (dart_after g r)

  abbrev left_back : ℕ → ℕ
  left_back = restricted (dart_count g) (stays g e x y) (dart_before g r)

  abbrev small : ℕ → ℕ
  small = contracted (dart_from g x e) (restricted (dart_count g) (stays g e x y) (dart_after g r))

  abbrev small_back : ℕ → ℕ
  small_back = dropped (dart_from g x e) (back_after (left_back (dart_from g x e)) (twin (dart_from g x e)) left_back)

  left-map : IsMap m left left_back
  left-map = restricted-permutes (dart_count g) (stays g e x y) (dart_after g r) (dart_before g r) (map-permutes g r ok s)

  pub left-vertices : AreVertices (edge_count g) (restricted (dart_count g) (stays g e x y) (dart_after g r)) (stays g e x y) (tail g)
  left-vertices c d l k u w = restricted-orbit (dart_count g) (stays g e x y) (dart_after g r) (dart_before g r) (map-permutes g r ok s) c d u w ∙ map-vertex g r ok s c d l k

  below : middle < 2 * m
  below = middle-below g h e x y edge vertex ok con

  here : stays g e x y middle ≡ true
  here = stays-edge g e x y middle (dart_from-edge g x e)

  there : stays g e x y (twin middle) ≡ true
  there = stays-edge g e x y (twin middle) (twin-edge middle ∙ dart_from-edge g x e)

  apart : tail g middle ≢ tail g (twin middle)
  apart q = tail-other g middle ok below (sym q)

  merged : vertex (tail g middle) ≡ vertex (tail g (twin middle))
  merged = ap vertex (middle-tail g h e x y edge vertex ok con) ∙ con.merged ∙ sym (ap vertex (middle-twin g h e x y edge vertex ok con))

  once : (c d : ℕ) → c < 2 * m → d < 2 * m → stays g e x y c ≡ true → stays g e x y d ≡ true → vertex (tail g c) ≡ vertex (tail g d) → SameBut (tail g middle) (tail g (twin middle)) (tail g c) (tail g d)
  once c d l k _ _ q = elim (con.vertices_once (tail g c) (tail g d) (tail-in g c ok l) (tail-in g d ok k) q) [
    | inl i ↦ inl i
    | inr w ↦ elim w [
      | inl i ↦ inr (inl (i.0 ∙ sym (middle-tail g h e x y edge vertex ok con), i.1 ∙ sym (middle-twin g h e x y edge vertex ok con)))
      | inr i ↦ inr (inr (i.0 ∙ sym (middle-twin g h e x y edge vertex ok con), i.1 ∙ sym (middle-tail g h e x y edge vertex ok con)))
    ]
  ]

  pub middle-apart : same_vertex (edge_count g) (restricted (dart_count g) (stays g e x y) (dart_after g r)) (dart_from g x e) (twin (dart_from g x e)) ≡ false
  middle-apart = ends-apart m left left_back left-map (stays g e x y) (tail g) left-vertices middle below here there apart vertex merged once

  small-map : IsMap m small small_back
  small-map = contracted-map m left left_back left-map middle below middle-apart

  -- the darts that are not kept are alone
  pub small-alone : (d : ℕ) → d < dart_count g → is_kept g e x y (d / 2) ≡ false → contracted (dart_from g x e) (restricted (dart_count g) (stays g e x y) (dart_after g r)) d ≡ d
  small-alone d l k = elim (cases_eq (d / 2) e) [
    | inl q ↦ elim (middle-cases g h e x y edge vertex ok con d q) [
      | inl i ↦ ap small i ∙ contracted-here middle left ∙ sym i
      | inr i ↦ ap small i ∙ contracted-twin middle left ∙ sym i
    ]
    | inr n ↦
        let alone : left d ≡ d = restricted-alone (dart_count g) (stays g e x y) (dart_after g r) d (stays-not g e x y d n k) in
        let w = middle-not g h e x y edge vertex ok con d n in
        contracted-other middle left d w.0 w.1 (λ q. w.0 (sym alone ∙ q)) (λ q. w.1 (sym alone ∙ q)) ∙ alone
  ]

  -- kept darts are of one vertex where what has become of their vertices is one
  small-vertex : (c d : ℕ) → c < 2 * m → d < 2 * m → kept c ≡ true → kept d ≡ true → same_vertex m small c d ≡ (vertex (tail g c) == vertex (tail g d))
  small-vertex c d l k u w = contracted-vertices m left left_back left-map (stays g e x y) (tail g) left-vertices middle below here there apart vertex merged once c d l k
      (stays-kept g e x y c u) (stays-kept g e x y d w) (off c u).0 (off c u).1 (off d w).0 (off d w).1
    where
      off : (z : ℕ) → kept z ≡ true → (z ≡ middle → ⊥) × (z ≡ twin middle → ⊥)
      off z t = middle-not g h e x y edge vertex ok con z (contracted-not_kept g e x y (z / 2) t)

  -- the same with the darts of the contracted graph
  abbrev inner : ℕ → ℕ
  inner d = moved (place h edge) (small (moved edge d))

  abbrev inner_back : ℕ → ℕ
  inner_back d = moved (place h edge) (small_back (moved edge d))

  numbering : IsNumbering (dart_count h) (dart_count g) kept (moved edge) (moved (place h edge))
  numbering = kept-numbering g h e x y edge vertex ok con

  inner-map : IsMap (edge_count h) inner inner_back
  inner-map = inner-permutes (dart_count h) (dart_count g) kept (moved edge) (moved (place h edge)) numbering small small_back small-map small-alone

  inner-steps : (d : ℕ) → d < dart_count h → moved edge (inner d) ≡ small (moved edge d)
  inner-steps d l = placed-back g h e x y edge vertex ok con (small (moved edge d)) (small-map.forth (moved edge d) (numbering.numbers d l))
      (live-stays (dart_count h) (dart_count g) kept (moved edge) (moved (place h edge)) numbering small small_back small-map small-alone (moved edge d) (numbering.numbers d l) (numbering.lives d l))

  inner-vertex : (c d : ℕ) → c < dart_count h → d < dart_count h → same_vertex (edge_count h) inner c d ≡ (tail h c == tail h d)
  inner-vertex c d l k = numbered-orbit (dart_count h) (dart_count g) kept (moved edge) (moved (place h edge)) numbering inner small inner-map.forth inner-steps small-alone c d l k
      ∙ small-vertex (moved edge c) (moved edge d) (numbering.numbers c l) (numbering.numbers d k) (numbering.lives c l) (numbering.lives d k)
      ∙ ap (λ v. v == vertex (tail g (moved edge d))) (sym (moved-tail g h e x y edge vertex ok con c l))
      ∙ ap (λ v. tail h c == v) (sym (moved-tail g h e x y edge vertex ok con d k))

  -- so there is such a rotation system of the contracted graph
  pub contracted-exists : (q : List (List ℕ)) × IsRotationSystem h q × IsContractedSystem g h e x y edge r q
  contracted-exists = (w.0, w.1, λ d l. ap (moved edge) (w.2 d l) ∙ inner-steps d l)
    where
      w : (q : List (List ℕ)) × IsRotationSystem h q × ((d : ℕ) → d < dart_count h → dart_after h q d ≡ inner d)
      w = map-orders h okh inner inner_back inner-map inner-vertex

  -- only one
  pub contracted-unique : (q t : List (List ℕ)) → IsRotationSystem h q → IsRotationSystem h t → IsContractedSystem g h e x y edge r q → IsContractedSystem g h e x y edge r t → q ≡ t
  contracted-unique q t sq st a b = orders-told h q t sq st (λ d l. once-moved d l)
    where
      back : (p : List (List ℕ)) → IsRotationSystem h p → (d : ℕ) → d < dart_count h → dart_after h p d ≡ moved (place h edge) (moved edge (dart_after h p d))
      back p sp d l = sym (back-placed g h e x y edge vertex ok con (dart_after h p d) ((map-permutes h p okh sp).forth d l))

      once-moved : (d : ℕ) → d < dart_count h → dart_after h q d ≡ dart_after h t d
      once-moved d l = back q sq d l ∙ ap (moved (place h edge)) (a d l ∙ sym (b d l)) ∙ sym (back t st d l)

  -- and it is plane where the rotation system is
  pub contracted-plane : IsPlane g r → (q : List (List ℕ)) → IsRotationSystem h q → IsContractedSystem g h e x y edge r q → IsPlane h q
  contracted-plane p q sq a = map-plane h q okh sq
      (renumber-plane-back (edge_count h) (dart_after h q) (dart_before h q) (map-permutes h q okh sq) m small small_back small-map kept (moved edge) (moved (place h edge))
      (kept-renumbering g h e x y edge vertex ok con (dart_after h q) small a small-alone)
      (contract-plane m left left_back left-map middle below middle-apart (restricted-plane m (dart_after g r) (dart_before g r) (map-permutes g r ok s) (plane-map g r ok s p) (stays g e x y))))
