-- From a rotation system of the graph with an edge contracted: the merged vertex parted, and the edge put in again.
use Rattle.std.proofs.Common.{◌≡◌, ℕ, ◌*◌, ◌/◌, ◌<◌, inl, inr, Bool, true, false, ◌||◌, ◌==◌, List, refl, sym, ap, ◌∙◌}
use Rattle.std.proofs.lemmas.Bool.{cases_Bool, cases_eq, both_ways, eq-eqb, eqb-true, ne_eqb, or_left, or_right, or_from, false_from_ne_true}
use Rattle.permutations.specs.Permutation.{same_orbit}
use Rattle.permutations.specs.Exchange.{exchange}
use Rattle.permutations.proofs.Relation.{same-tests, kernel-equivalence, join-cases}
use Rattle.permutations.proofs.Permutations.{permutes-back, permutes-one-to-one, exchange-left, exchange-right, exchange-other, exchange-cases}
use Rattle.permutations.proofs.Orbits.{orbit-least, orbit-step}
use Rattle.permutations.proofs.Transpositions.{exchange-split}
use Rattle.multigraph.specs.Graph.{Multigraph, IsGraph, edge_count}
use Rattle.rotations.specs.Rotation.{IsRotationSystem}
use Rattle.contractions.specs.Contraction.{is_kept, IsContraction}
use Rattle.dart_maps.specs.Map as maps
use Rattle.dart_maps.specs.Map.{twin, IsMap, same_vertex}
use Rattle.dart_maps.specs.Changes.{contracted, inserted}
use Rattle.dart_maps.proofs.Darts.{twin-below, twin-edge, twin-other}
use Rattle.dart_maps.proofs.Steps.{back_after, step-map}
use Rattle.dart_maps.proofs.Euler.{plane-ext}
use Rattle.dart_maps.proofs.Contract.{contracted-here, contracted-twin, contracted-before, contracted-before-twin, contracted-other, follows-own, contract-plane-back}
use Rattle.dart_maps.proofs.Renumber.{renumber-plane}
use Rattle.faces.specs.Euler.{tail, dart_from, dart_count, IsPlane}
use Rattle.faces.specs.Maps.{dart_after, dart_before}
use Rattle.faces.proofs.DartLemmas.{dart_from-edge}
use Rattle.faces.proofs.MapSteps.{tail-in, map-permutes}
use Rattle.faces.proofs.MapVertices.{map-vertex}
use Rattle.faces.proofs.MapCounts.{plane-map}
use Rattle.faces.proofs.MapParts.{place}
use Rattle.planarity.specs.Expansion.{moved, FallsInRuns}
use Rattle.planarity.proofs.ContractedVertices.{AreVertices, vertices-apart, put-vertices}
use Rattle.planarity.proofs.ContractedDarts.{contracted-not_kept, middle-below, middle-tail, middle-twin, ends-differ, moved-tail, back-placed}
use Rattle.dart_maps.proofs.CarriedMaps.{IsNumbering, outer, outer-live, outer-dead, outer-permutes, numbered-orbit}
use Rattle.planarity.proofs.ContractedSystem.{kept-numbering, kept-renumbering}

-- a map of g's darts, plane, in which the darts that live are of one vertex where they leave one
pub record IsPart (g : Multigraph) (f b : ℕ → ℕ) (live : ℕ → Bool) : Type 0 where
  pub is_map : IsMap (edge_count g) f b
  pub plane : maps.IsPlane (edge_count g) f
  pub vertices : AreVertices (edge_count g) f live (tail g)

-- the steps round the vertices of the contracted graph, on the kept darts of g
abbrev pub carried : Multigraph → Multigraph → ℕ → ℕ → ℕ → (ℕ → ℕ) → (ℕ → ℕ) → ℕ → ℕ
carried g h e x y edge next = outer (λ d. is_kept g e x y (d / 2)) (moved edge) (moved (place h edge)) next

-- the merged vertex parted behind the dart `last` of x and the dart `end` of y, and the edge of c put in there
abbrev pub opened : ℕ → ℕ → ℕ → (ℕ → ℕ) → ℕ → ℕ
opened c last end next = inserted c last end (exchange last end next)

abbrev pub opened_back : ℕ → ℕ → ℕ → (ℕ → ℕ) → ℕ → ℕ
opened_back c last end back = back_after end (twin c) (back_after last c (back_after last end back))

-- a plane rotation system of the contracted graph, and the two runs of its merged vertex
module _ (g h : Multigraph) (e x y : ℕ) (edge vertex : ℕ → ℕ) (ok : IsGraph g) (okh : IsGraph h) (con : IsContraction g h e x y edge vertex) (t : List (List ℕ)) (st : IsRotationSystem h t) (plane : IsPlane h t)
    (first last : ℕ) (runs : FallsInRuns g h x y edge t first last) where
  abbrev m : ℕ
  m = edge_count g

  abbrev kept : ℕ → Bool
  kept d = is_kept g e x y (d / 2)

  abbrev into : ℕ → ℕ
  into = moved edge

  abbrev back : ℕ → ℕ
  back = moved (place h edge)

  abbrev middle : ℕ
  middle = dart_from g x e

  abbrev big : ℕ → ℕ
  big = carried g h e x y edge (dart_after h t)

  abbrev big_back : ℕ → ℕ
  big_back = carried g h e x y edge (dart_before h t)

  numbering : IsNumbering (dart_count h) (dart_count g) kept into back
  numbering = kept-numbering g h e x y edge vertex ok con

  inner-map : IsMap (edge_count h) (dart_after h t) (dart_before h t)
  inner-map = map-permutes h t okh st

  big-map : IsMap (edge_count g) (carried g h e x y edge (dart_after h t)) (carried g h e x y edge (dart_before h t))
  big-map = outer-permutes (dart_count h) (dart_count g) kept into back numbering (dart_after h t) (dart_before h t) inner-map

  pub big-steps : (d : ℕ) → d < dart_count h → moved edge (dart_after h t d) ≡ carried g h e x y edge (dart_after h t) (moved edge d)
  big-steps d l = sym (outer-live kept into back (dart_after h t) (into d) (numbering.lives d l) ∙ ap (λ z. into (dart_after h t z)) (back-placed g h e x y edge vertex ok con d l))

  pub big-alone : (d : ℕ) → d < dart_count g → is_kept g e x y (d / 2) ≡ false → carried g h e x y edge (dart_after h t) d ≡ d
  big-alone d l k = outer-dead kept into back (dart_after h t) d k

  big-plane : maps.IsPlane m big
  big-plane = renumber-plane (edge_count h) (dart_after h t) (dart_before h t) inner-map m big big_back big-map kept into back
      (kept-renumbering g h e x y edge vertex ok con (dart_after h t) big big-steps big-alone) (plane-map h t okh st plane)

  -- kept darts are of one vertex where what has become of their vertices is one
  big-vertex : (c d : ℕ) → c < 2 * m → d < 2 * m → kept c ≡ true → kept d ≡ true → same_vertex m big c d ≡ (vertex (tail g c) == vertex (tail g d))
  big-vertex c d l k u w =
      ap (λ z. same_vertex m big z d) (sym (there c l u)) ∙ ap (λ z. same_vertex m big (into (back c)) z) (sym (there d k w))
      ∙ sym (numbered-orbit (dart_count h) (dart_count g) kept into back numbering (dart_after h t) big inner-map.forth big-steps big-alone (back c) (back d) (inside c l u) (inside d k w))
      ∙ map-vertex h t okh st (back c) (back d) (inside c l u) (inside d k w)
      ∙ ap (λ v. v == tail h (back d)) (at c l u) ∙ ap (λ v. vertex (tail g c) == v) (at d k w)
    where
      there : (z : ℕ) → z < 2 * m → kept z ≡ true → into (back z) ≡ z
      there z j q = numbering.into_back z j q

      inside : (z : ℕ) → z < 2 * m → kept z ≡ true → back z < dart_count h
      inside z j q = numbering.numbers_back z j q

      at : (z : ℕ) → z < 2 * m → kept z ≡ true → tail h (back z) ≡ vertex (tail g z)
      at z j q = moved-tail g h e x y edge vertex ok con (back z) (inside z j q) ∙ ap (λ w. vertex (tail g w)) (there z j q)

  -- the ends of the two runs
  abbrev a_first : ℕ
  a_first = moved edge first

  abbrev a_last : ℕ
  a_last = moved edge last

  abbrev b_first : ℕ
  b_first = moved edge (dart_after h t last)

  abbrev b_last : ℕ
  b_last = moved edge (dart_before h t first)

  before-in : dart_before h t first < dart_count h
  before-in = inner-map.back first runs.first_dart

  a_last-below : a_last < dart_count g
  a_last-below = numbering.numbers last runs.last_dart

  b_last-below : b_last < dart_count g
  b_last-below = numbering.numbers (dart_before h t first) before-in

  a_last-kept : kept a_last ≡ true
  a_last-kept = numbering.lives last runs.last_dart

  b_last-kept : kept b_last ≡ true
  b_last-kept = numbering.lives (dart_before h t first) before-in

  big-a : big a_last ≡ b_first
  big-a = sym (big-steps last runs.last_dart)

  big-b : big b_last ≡ a_first
  big-b = sym (big-steps (dart_before h t first) before-in) ∙ ap into (inner-map.forth_back first runs.first_dart)

  -- darts of x and of y are different
  xy : (c d : ℕ) → tail g c ≡ x → tail g d ≡ y → c ≡ d → ⊥
  xy c d i j q = ends-differ g h e x y edge vertex ok con (sym i ∙ ap (tail g) q ∙ j)

  ab : a_last ≡ b_last → ⊥
  ab = xy a_last b_last runs.last_leaves runs.before_first

  -- the merged vertex parted
  abbrev split : ℕ → ℕ
  split = exchange a_last b_last big

  abbrev split_back : ℕ → ℕ
  split_back = back_after a_last b_last big_back

  split-map : IsMap m split split_back
  split-map = step-map m big big_back big-map a_last b_last a_last-below b_last-below

  -- each step now keeps the vertex that a dart leaves
  split-tail : (z : ℕ) → z < 2 * m → kept z ≡ true → tail g (split z) ≡ tail g z
  split-tail z l k = elim (exchange-cases a_last b_last big z) [
    | inl w ↦ ap (tail g) (w.1 ∙ big-b) ∙ runs.first_leaves ∙ sym (ap (tail g) w.0 ∙ runs.last_leaves)
    | inr o ↦ elim o [
      | inl w ↦ ap (tail g) (w.1 ∙ big-a) ∙ runs.after_last ∙ sym (ap (tail g) w.0 ∙ runs.before_first)
      | inr w ↦ ap (tail g) w.2 ∙ rest w.0 w.1
    ]
  ]
    where
      inside : back z < dart_count h
      inside = numbering.numbers_back z l k

      there : into (back z) ≡ z
      there = numbering.into_back z l k

      goes : big z ≡ into (dart_after h t (back z))
      goes = ap big (sym there) ∙ sym (big-steps (back z) inside)

      rest : (z ≡ a_last → ⊥) → (z ≡ b_last → ⊥) → tail g (big z) ≡ tail g z
      rest na nb = elim (cases_eq (tail g z) x) [
        | inl q ↦ ap (tail g) goes ∙ runs.run_of_x (back z) inside (ap (tail g) there ∙ q) (λ i. na (sym there ∙ ap into i)) ∙ sym q
        | inr nx ↦ elim (cases_eq (tail g z) y) [
          | inl q ↦ ap (tail g) goes ∙ runs.run_of_y (back z) inside (ap (tail g) there ∙ q) (λ i. nb (sym there ∙ ap into (sym (permutes-back (dart_count h) (dart_after h t) (dart_before h t) inner-map (back z) first inside i)))) ∙ sym q
          | inr ny ↦ elim (con.vertices_once (tail g z) (tail g (big z)) (tail-in g z ok l) (tail-in g (big z) ok (big-map.forth z l)) same) [
            | inl q ↦ sym q
            | inr o ↦ elim o [ inl q ↦ absurd (nx q.0) | inr q ↦ absurd (ny q.0) ]
          ]
        ]
      ]
        where
          same : vertex (tail g z) ≡ vertex (tail g (big z))
          same = eqb-true (vertex (tail g z)) (vertex (tail g (big z))) (sym (big-vertex z (big z) l (big-map.forth z l) k (ap kept goes ∙ numbering.lives (dart_after h t (back z)) (inner-map.forth (back z) inside))) ∙ orbit-step (2 * m) big z l)

  split-alone : (z : ℕ) → z < 2 * m → kept z ≡ false → split z ≡ z
  split-alone z l k = exchange-other a_last b_last big z (off a_last a_last-kept) (off b_last b_last-kept) ∙ big-alone z l k
    where
      off : (d : ℕ) → kept d ≡ true → z ≡ d → ⊥
      off d u q = both_ways (kept z) k (ap kept q ∙ u)

  -- so the vertices are those of g
  split-vertices : AreVertices m split kept (tail g)
  split-vertices c d l k u w = same-tests (same_vertex m split c d) (tail g c == tail g d) (λ q. eq-eqb (tail g c) (tail g d) (forth c d q)) (λ q. behind (eqb-true (tail g c) (tail g d) q))
    where
      forth : (a b : ℕ) → same_vertex m split a b ≡ true → tail g a ≡ tail g b
      forth a b q = eqb-true (tail g a) (tail g b) (orbit-least (2 * m) split (λ i j. tail g i == tail g j) (kernel-equivalence (tail g)) (λ z j. eq-eqb (tail g z) (tail g (split z)) (sym (each z j))) a b q)
        where
          each : (z : ℕ) → z < 2 * m → tail g (split z) ≡ tail g z
          each z j = elim (cases_Bool (kept z)) [ inl v ↦ split-tail z j v | inr v ↦ ap (tail g) (split-alone z j v) ]

      behind : tail g c ≡ tail g d → same_vertex m split c d ≡ true
      behind q = elim (join-cases (same_vertex m split) a_last b_last c d
          (sym (exchange-split (2 * m) big big_back big-map a_last b_last a_last-below b_last-below ab together c d) ∙ big-vertex c d l k u w ∙ eq-eqb (vertex (tail g c)) (vertex (tail g d)) (ap vertex q))) [
            | inl v ↦ v
            | inr o ↦ elim o [
              | inl v ↦ absurd (ends-differ g h e x y edge vertex ok con (sym runs.last_leaves ∙ sym (forth c a_last v.0) ∙ q ∙ sym (forth b_last d v.1) ∙ runs.before_first))
              | inr v ↦ absurd (ends-differ g h e x y edge vertex ok con (sym runs.last_leaves ∙ forth a_last d v.1 ∙ sym q ∙ forth c b_last v.0 ∙ runs.before_first))
            ]
          ]
        where
          together : same_orbit (2 * m) big a_last b_last ≡ true
          together = big-vertex a_last b_last a_last-below b_last-below a_last-kept b_last-kept
              ∙ eq-eqb (vertex (tail g a_last)) (vertex (tail g b_last)) (ap vertex runs.last_leaves ∙ con.merged ∙ sym (ap vertex runs.before_first))

  -- the edge put in
  middle-in : middle < 2 * m
  middle-in = middle-below g h e x y edge vertex ok con

  twin-in : twin middle < 2 * m
  twin-in = twin-below m middle middle-in

  middle-gone : kept middle ≡ false
  middle-gone = false_from_ne_true (kept middle) (λ k. contracted-not_kept g e x y (middle / 2) k (dart_from-edge g x e))

  twin-gone : kept (twin middle) ≡ false
  twin-gone = ap (is_kept g e x y) (twin-edge middle) ∙ middle-gone

  differs : (c d : ℕ) → kept c ≡ true → kept d ≡ false → c ≡ d → ⊥
  differs c d u w q = both_ways (kept d) w (ap kept (sym q) ∙ u)

  abbrev half : ℕ → ℕ
  half = exchange a_last middle split

  abbrev half_back : ℕ → ℕ
  half_back = back_after a_last middle split_back

  abbrev wide : ℕ → ℕ
  wide = opened (dart_from g x e) (moved edge last) (moved edge (dart_before h t first)) (carried g h e x y edge (dart_after h t))

  abbrev open_back : ℕ → ℕ
  open_back = opened_back (dart_from g x e) (moved edge last) (moved edge (dart_before h t first)) (carried g h e x y edge (dart_before h t))

  -- the darts that live now
  abbrev open_live : ℕ → Bool
  open_live z = (is_kept g e x y (z / 2) || (z == dart_from g x e)) || (z == twin (dart_from g x e))

  half-map : IsMap m half half_back
  half-map = step-map m split split_back split-map a_last middle a_last-below middle-in

  half-twin : half (twin middle) ≡ twin middle
  half-twin = exchange-other a_last middle split (twin middle) (λ q. differs a_last (twin middle) a_last-kept twin-gone (sym q)) (twin-other middle) ∙ split-alone (twin middle) twin-in twin-gone

  open-map : IsMap m wide open_back
  open-map = step-map m half half_back half-map b_last (twin middle) b_last-below twin-in

  open-vertices : AreVertices m wide open_live (tail g)
  open-vertices = put-vertices m half half_back half-map (λ z. kept z || (z == middle)) (tail g)
      (put-vertices m split split_back split-map kept (tail g) split-vertices a_last middle a_last-below middle-in a_last-kept middle-gone (split-alone middle middle-in middle-gone)
      (middle-tail g h e x y edge vertex ok con ∙ sym runs.last_leaves))
      b_last (twin middle) b_last-below twin-in (or_left (kept b_last) (b_last == middle) b_last-kept) (or_from (kept (twin middle)) (twin middle == middle) twin-gone (ne_eqb (twin middle) middle (twin-other middle))) half-twin
      (middle-twin g h e x y edge vertex ok con ∙ sym runs.before_first)

  -- what the steps are there
  pub open-middle : opened (dart_from g x e) (moved edge last) (moved edge (dart_before h t first)) (carried g h e x y edge (dart_after h t)) (dart_from g x e) ≡ moved edge first
  open-middle = exchange-other b_last (twin middle) half middle (λ q. differs b_last middle b_last-kept middle-gone (sym q)) (λ q. twin-other middle (sym q)) ∙ exchange-right a_last middle split ∙ exchange-left a_last b_last big ∙ big-b

  pub open-twin : opened (dart_from g x e) (moved edge last) (moved edge (dart_before h t first)) (carried g h e x y edge (dart_after h t)) (twin (dart_from g x e)) ≡ moved edge (dart_after h t last)
  open-twin = exchange-right b_last (twin middle) half ∙ exchange-other a_last middle split b_last (λ q. ab (sym q)) (differs b_last middle b_last-kept middle-gone) ∙ exchange-right a_last b_last big ∙ big-a

  pub open-last : opened (dart_from g x e) (moved edge last) (moved edge (dart_before h t first)) (carried g h e x y edge (dart_after h t)) (moved edge last) ≡ dart_from g x e
  open-last = exchange-other b_last (twin middle) half a_last ab (differs a_last (twin middle) a_last-kept twin-gone) ∙ exchange-left a_last middle split ∙ split-alone middle middle-in middle-gone

  pub open-end : opened (dart_from g x e) (moved edge last) (moved edge (dart_before h t first)) (carried g h e x y edge (dart_after h t)) (moved edge (dart_before h t first)) ≡ twin (dart_from g x e)
  open-end = exchange-left b_last (twin middle) half ∙ half-twin

  pub open-other : (z : ℕ) → (z ≡ moved edge last → ⊥) → (z ≡ moved edge (dart_before h t first) → ⊥) → (z ≡ dart_from g x e → ⊥) → (z ≡ twin (dart_from g x e) → ⊥)
      → opened (dart_from g x e) (moved edge last) (moved edge (dart_before h t first)) (carried g h e x y edge (dart_after h t)) z ≡ carried g h e x y edge (dart_after h t) z
  open-other z na nb nm nt = exchange-other b_last (twin middle) half z nb nt ∙ exchange-other a_last middle split z na nm ∙ exchange-other a_last b_last big z na nb

  -- contracting the edge leads back
  pub open-contracted : (z : ℕ) → z < 2 * edge_count g → carried g h e x y edge (dart_after h t) z ≡ contracted (dart_from g x e) (opened (dart_from g x e) (moved edge last) (moved edge (dart_before h t first)) (carried g h e x y edge (dart_after h t))) z
  open-contracted z l = elim (cases_eq z middle) [
    | inl q ↦ ap big q ∙ big-alone middle middle-in middle-gone ∙ sym (ap (contracted middle wide) q ∙ contracted-here middle wide)
    | inr nm ↦ elim (cases_eq z (twin middle)) [
      | inl q ↦ ap big q ∙ big-alone (twin middle) twin-in twin-gone ∙ sym (ap (contracted middle wide) q ∙ contracted-twin middle wide)
      | inr nt ↦ elim (cases_eq z a_last) [
        | inl q ↦ ap big q ∙ big-a ∙ sym (contracted-before middle wide z nm nt (ap wide q ∙ open-last) ∙ follows-own (twin middle) middle wide (λ i. differs b_first (twin middle) b_first-kept twin-gone (sym open-twin ∙ i)) ∙ open-twin)
        | inr na ↦ elim (cases_eq z b_last) [
          | inl q ↦ ap big q ∙ big-b ∙ sym (contracted-before-twin middle wide z nm nt (ap wide q ∙ open-end) ∙ follows-own middle (twin middle) wide (λ i. differs a_first middle a_first-kept middle-gone (sym open-middle ∙ i)) ∙ open-middle)
          | inr nb ↦
              let same : wide z ≡ big z = open-other z na nb nm nt in
              sym (contracted-other middle wide z nm nt
              (λ i. nm (permutes-one-to-one (2 * m) big big_back big-map z middle l middle-in (sym same ∙ i ∙ sym (big-alone middle middle-in middle-gone))))
              (λ i. nt (permutes-one-to-one (2 * m) big big_back big-map z (twin middle) l twin-in (sym same ∙ i ∙ sym (big-alone (twin middle) twin-in twin-gone))))
              ∙ same)
        ]
      ]
    ]
  ]
    where
      a_first-kept : kept a_first ≡ true
      a_first-kept = numbering.lives first runs.first_dart

      b_first-kept : kept b_first ≡ true
      b_first-kept = numbering.lives (dart_after h t last) (inner-map.forth last runs.last_dart)

  -- so the map is plane
  open-plane : maps.IsPlane m wide
  open-plane = contract-plane-back m wide open_back open-map middle middle-in
      (vertices-apart m wide open_live (tail g) open-vertices middle (twin middle) middle-in twin-in here there
      (λ q. ends-differ g h e x y edge vertex ok con (sym (middle-tail g h e x y edge vertex ok con) ∙ q ∙ middle-twin g h e x y edge vertex ok con)))
      (plane-ext m big (contracted middle wide) open-contracted big-plane)
    where
      here : open_live middle ≡ true
      here = or_left (kept middle || (middle == middle)) (middle == twin middle) (or_right (kept middle) (middle == middle) (eq-eqb middle middle refl))

      there : open_live (twin middle) ≡ true
      there = or_right (kept (twin middle) || (twin middle == middle)) (twin middle == twin middle) (eq-eqb (twin middle) (twin middle) refl)

  pub open-part : IsPart g (opened (dart_from g x e) (moved edge last) (moved edge (dart_before h t first)) (carried g h e x y edge (dart_after h t)))
      (opened_back (dart_from g x e) (moved edge last) (moved edge (dart_before h t first)) (carried g h e x y edge (dart_before h t)))
      (λ z. (is_kept g e x y (z / 2) || (z == dart_from g x e)) || (z == twin (dart_from g x e)))
  open-part = record { is_map = open-map; plane = open-plane; vertices = open-vertices }
