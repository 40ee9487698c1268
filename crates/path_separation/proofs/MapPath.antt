-- A path inserted between two corners of the map of some darts: it is the map of these and of the path's darts, and plane where
-- the two corners were on one face.
use Rattle.std.proofs.Common.{◌≡◌, ◌≢◌, ℕ, ◌/◌, ◌<◌, inl, inr, Bool, true, false, ◌||◌, ◌==◌, List, [], ◌∷◌, refl, sym, ap, ◌∙◌, subst}
use Rattle.std.proofs.lemmas.Bool.{both_ways, or_left, or_right, or_cases, or_parts, or_from, eq-eqb, eqb-true, ne_eqb, eqb-false, false_from_ne_true}
use Rattle.permutations.specs.Relation.{IsEquivalence}
use Rattle.permutations.specs.Permutation.{Permutes, same_orbit}
use Rattle.permutations.specs.Exchange.{exchange}
use Rattle.permutations.specs.Members.{is_member}
use Rattle.permutations.proofs.Relation.{same-tests, join-old, join-across, join-back}
use Rattle.permutations.proofs.Members.{member-head, member-tail, distinct-head, distinct-tail}
use Rattle.permutations.proofs.Orbits.{orbit-equivalence, orbit-kept}
use Rattle.permutations.proofs.Permutations.{exchange-other, exchange-cases}
use Rattle.permutations.proofs.Transpositions.{exchange-join}
use Rattle.multigraph.specs.Graph.{Multigraph, IsGraph, edge_count, is_end, other_end}
use Rattle.graph_theory.specs.Path.{walk_end, walk_vertices, IsWalk, IsPath}
use Rattle.graph_theory.proofs.Ends.{end-cases}
use Rattle.graph_theory.proofs.Walks.{first-met, last-met}
use Rattle.graph_theory.proofs.Paths.{path-edges_distinct}
use Rattle.dart_maps.specs.Map.{twin, same_vertex, same_face, IsPlane}
use Rattle.dart_maps.specs.Path.{Avoids, AllApart, IsFresh, path_inserted, path_last}
use Rattle.dart_maps.proofs.Darts.{twin-other, twin-below, twin-edge, edge-twin}
use Rattle.dart_maps.proofs.InsertPath.{path-defect}
use Rattle.dart_maps.proofs.Plane.{same-defect-plane}
use Rattle.dart_maps.proofs.Steps.{back_after, step-map}
use Rattle.faces.specs.Euler.{tail, dart_from, dart_count}
use Rattle.faces.proofs.DartLemmas.{tail-end, dart_from-edge, dart_from-below, dart_from-tail}
use Rattle.path_separation.specs.Drawn.{IsMapOn, darts_along}
use Rattle.path_separation.proofs.Feet.{arrives-elsewhere, dart_from-arrives}

-- the test, and one dart more; both darts of an edge more; those of the edges of these darts
abbrev pub and_dart : (ℕ → Bool) → ℕ → ℕ → Bool
and_dart live d x = live x || (x == d)

abbrev pub and_edge : (ℕ → Bool) → ℕ → ℕ → Bool
and_edge live d x = live x || (d / 2 == x / 2)

abbrev pub and_edges : (ℕ → Bool) → List ℕ → ℕ → Bool
and_edges live [] = live
and_edges live (d ∷ path) = and_edges (and_edge live d) path

-- maps of the same darts
pub map-ext : (g : Multigraph) (live more : ℕ → Bool) (next previous : ℕ → ℕ) → ((d : ℕ) → more d ≡ live d) → IsMapOn g live next previous → IsMapOn g more next previous
map-ext g live more next previous e s = record {
  permutes = s.permutes;
  alone = λ d l h. s.alone d l (sym (e d) ∙ h);
  tails = s.tails;
  vertices = λ c d l k h i. s.vertices c d l k (sym (e c) ∙ h) (sym (e d) ∙ i);
}

-- an edge more is its two darts more
edge-darts : (live : ℕ → Bool) (d x : ℕ) → and_edge live d x ≡ and_dart (and_dart live d) (twin d) x
edge-darts live d x = same-tests (live x || (d / 2 == x / 2)) ((live x || (x == d)) || (x == twin d))
    (λ t. elim (or_cases (live x) (d / 2 == x / 2) t) [
      | inl h ↦ or_left (live x || (x == d)) (x == twin d) (or_left (live x) (x == d) h)
      | inr h ↦ elim (edge-twin x d (sym (eqb-true (d / 2) (x / 2) h))) [
        | inl e ↦ or_left (live x || (x == d)) (x == twin d) (or_right (live x) (x == d) (eq-eqb x d e))
        | inr e ↦ or_right (live x || (x == d)) (x == twin d) (eq-eqb x (twin d) e)
      ]
    ])
    (λ t. elim (or_cases (live x || (x == d)) (x == twin d) t) [
      | inl h ↦ elim (or_cases (live x) (x == d) h) [
        | inl i ↦ or_left (live x) (d / 2 == x / 2) i
        | inr i ↦ or_right (live x) (d / 2 == x / 2) (eq-eqb (d / 2) (x / 2) (ap (λ z. z / 2) (sym (eqb-true x d i))))
      ]
      | inr h ↦ or_right (live x) (d / 2 == x / 2) (eq-eqb (d / 2) (x / 2) (sym (twin-edge d) ∙ ap (λ z. z / 2) (sym (eqb-true x (twin d) h))))
    ])

-- a number that stays is alone in its orbit
alone-orbit : (n : ℕ) (f g : ℕ → ℕ) → Permutes n f g → (p d : ℕ) → d < n → f d ≡ d → p ≢ d → same_orbit n f p d ≡ false
alone-orbit n f g b p d l s o = false_from_ne_true (same_orbit n f p d) (λ t. both_ways (p == d) (ne_eqb p d o)
    (sym (orbit-kept n f g b (λ z. z == d) (λ z k h. eq-eqb (f z) d (ap f (eqb-true z d h) ∙ s)) d p ((orbit-equivalence n f).symmetric p d t)) ∙ eq-eqb d d refl))

-- a dart more, after a live dart of its vertex
add-dart : (g : Multigraph) (live : ℕ → Bool) (next previous : ℕ → ℕ) → IsMapOn g live next previous → (p d : ℕ) → p < dart_count g → d < dart_count g → live p ≡ true → live d ≡ false → tail g d ≡ tail g p
    → IsMapOn g (and_dart live d) (exchange p d next) (back_after p d previous)
add-dart g live next previous s p d pl dl h i q = record {
  permutes = step-map (edge_count g) next previous s.permutes p d pl dl;
  alone = λ x l u. let w = or_parts (live x) (x == d) u in
      exchange-other p d next x (λ e. both_ways (live p) (ap live (sym e) ∙ w.0) h) (eqb-false x d w.1) ∙ s.alone x l w.0;
  tails = λ x l. elim (exchange-cases p d next x) [
    | inl e ↦ ap (tail g) e.1 ∙ s.tails d dl ∙ q ∙ sym (ap (tail g) e.0)
    | inr r ↦ elim r [
      | inl e ↦ ap (tail g) e.1 ∙ s.tails p pl ∙ sym q ∙ sym (ap (tail g) e.0)
      | inr e ↦ ap (tail g) e.2 ∙ s.tails x l
    ]
  ];
  vertices = λ x y l k u w e. exchange-join (dart_count g) next previous s.permutes p d pl dl apart x y ∙ elim (or_cases (live x) (x == d) u) [
    | inl a ↦ elim (or_cases (live y) (y == d) w) [
      | inl b ↦ join-old old p d x y (s.vertices x y l k a b e)
      | inr b ↦ let z : y ≡ d = eqb-true y d b in
          join-across old p d x y (s.vertices x p l pl a h (e ∙ ap (tail g) z ∙ q)) (subst (λ v. old d v ≡ true) (sym z) (r.reflexive d))
    ]
    | inr a ↦ let z : x ≡ d = eqb-true x d a in elim (or_cases (live y) (y == d) w) [
      | inl b ↦ join-back old p d x y (subst (λ v. old v d ≡ true) (sym z) (r.reflexive d)) (s.vertices p y pl k h b (sym q ∙ ap (tail g) (sym z) ∙ e))
      | inr b ↦ join-old old p d x y (subst (λ v. old x v ≡ true) (z ∙ sym (eqb-true y d b)) (r.reflexive x))
    ]
  ];
}
  where
    old : ℕ → ℕ → Bool
    old = same_vertex (edge_count g) next

    r : IsEquivalence old
    r = orbit-equivalence (dart_count g) next

    apart : old p d ≡ false
    apart = alone-orbit (dart_count g) next previous s.permutes p d dl (s.alone d dl i) (λ e. both_ways (live p) (ap live e ∙ i) h)

-- a dart more, at a vertex without live darts
lone-dart : (g : Multigraph) (live : ℕ → Bool) (next previous : ℕ → ℕ) → IsMapOn g live next previous → (d : ℕ) → ((x : ℕ) → x < dart_count g → tail g x ≡ tail g d → live x ≡ false)
    → IsMapOn g (and_dart live d) next previous
lone-dart g live next previous s d none = record {
  permutes = s.permutes;
  alone = λ x l u. s.alone x l (or_parts (live x) (x == d) u).0;
  tails = s.tails;
  vertices = λ x y l k u w e. elim (or_cases (live x) (x == d) u) [
    | inl a ↦ elim (or_cases (live y) (y == d) w) [
      | inl b ↦ s.vertices x y l k a b e
      | inr b ↦ absurd (both_ways (live x) (none x l (e ∙ ap (tail g) (eqb-true y d b))) a)
    ]
    | inr a ↦ let z : x ≡ d = eqb-true x d a in elim (or_cases (live y) (y == d) w) [
      | inl b ↦ absurd (both_ways (live y) (none y k (sym e ∙ ap (tail g) z)) b)
      | inr b ↦ subst (λ v. same_vertex (edge_count g) next x v ≡ true) (z ∙ sym (eqb-true y d b)) ((orbit-equivalence (dart_count g) next).reflexive x)
    ]
  ];
}

-- a path of edges that are not live, out by d and then by these darts: no dart is live at a vertex between two of them
abbrev pub IsNewPath : Multigraph → (ℕ → Bool) → ℕ → List ℕ → Type 0
IsNewPath g live d [] = (d < dart_count g) × (live d ≡ false) × (live (twin d) ≡ false)
IsNewPath g live d (c ∷ path) = ((d < dart_count g) × (live d ≡ false) × (live (twin d) ≡ false))
    × (tail g c ≡ tail g (twin d)) × ((x : ℕ) → x < dart_count g → tail g x ≡ tail g (twin d) → live x ≡ false) × IsNewPath g (and_edge live d) c path

-- the path inserted
pub path-map : (g : Multigraph) → IsGraph g → (path : List ℕ) (live : ℕ → Bool) (next previous : ℕ → ℕ) → IsMapOn g live next previous → (p d q : ℕ) → p < dart_count g → live p ≡ true → tail g d ≡ tail g p → IsNewPath g live d path
    → q < dart_count g → live q ≡ true → tail g (twin (path_last d path)) ≡ tail g q → (back : ℕ → ℕ) × IsMapOn g (and_edges live (d ∷ path)) (path_inserted p d path q next) back
path-map g ok [] live next previous s p d q pl ph pt w ql qh qt =
    let one = add-dart g live next previous s p d pl w.0 ph w.1 pt in
    let off : and_dart live d (twin d) ≡ false = or_from (live (twin d)) (twin d == d) w.2 (ne_eqb (twin d) d (twin-other d)) in
    let both = add-dart g (and_dart live d) (exchange p d next) (back_after p d previous) one q (twin d) ql (twin-below (edge_count g) d w.0) (or_left (live q) (q == d) qh) off qt in
    (back_after q (twin d) (back_after p d previous), map-ext g (and_dart (and_dart live d) (twin d)) (and_edge live d) (exchange q (twin d) (exchange p d next)) (back_after q (twin d) (back_after p d previous)) (edge-darts live d) both)
path-map g ok (c ∷ path) live next previous s p d q pl ph pt w ql qh qt =
    let f = w.0 in
    let m : twin d < dart_count g = twin-below (edge_count g) d f.0 in
    let one = add-dart g live next previous s p d pl f.0 ph f.1 pt in
    let none : (x : ℕ) → x < dart_count g → tail g x ≡ tail g (twin d) → and_dart live d x ≡ false = λ x l e. or_from (live x) (x == d) (w.2 x l e) (ne_eqb x d (λ z. arrives-elsewhere g ok d f.0 (sym e ∙ ap (tail g) z))) in
    let both = lone-dart g (and_dart live d) (exchange p d next) (back_after p d previous) one (twin d) none in
    path-map g ok path (and_edge live d) (exchange p d next) (back_after p d previous)
    (map-ext g (and_dart (and_dart live d) (twin d)) (and_edge live d) (exchange p d next) (back_after p d previous) (edge-darts live d) both)
    (twin d) c q m (or_right (live (twin d)) (d / 2 == twin d / 2) (eq-eqb (d / 2) (twin d / 2) (sym (twin-edge d)))) w.1 w.3 ql (or_left (live q) (d / 2 == q / 2) qh) qt

-- an edge that is live is none of the path's
new-avoids : (g : Multigraph) (path : List ℕ) (live : ℕ → Bool) (d x : ℕ) → IsNewPath g live d path → ((y : ℕ) → y / 2 ≡ x / 2 → live y ≡ true) → Avoids x (d ∷ path)
new-avoids g [] live d x w h = ((λ e. both_ways (live d) w.1 (h d e)), tt)
new-avoids g (c ∷ path) live d x w h = ((λ e. both_ways (live d) w.0.1 (h d e)), new-avoids g path (and_edge live d) c x w.3 (λ y e. or_left (live y) (d / 2 == y / 2) (h y e)))

new-apart : (g : Multigraph) (path : List ℕ) (live : ℕ → Bool) (d : ℕ) → IsNewPath g live d path → AllApart (d ∷ path)
new-apart g [] live d w = (tt, tt)
new-apart g (c ∷ path) live d w = (
  new-avoids g path (and_edge live d) c d w.3 (λ y e. or_right (live y) (d / 2 == y / 2) (eq-eqb (d / 2) (y / 2) (sym e))),
  new-apart g path (and_edge live d) c w.3,
)

-- its edges are dead
new-fresh : (g : Multigraph) (next : ℕ → ℕ) (path : List ℕ) (live : ℕ → Bool) (d : ℕ) → IsNewPath g live d path → ((x : ℕ) → x < dart_count g → live x ≡ false → next x ≡ x) → IsFresh (edge_count g) next (d ∷ path)
new-fresh g next [] live d w h = (w.0, h d w.0 w.1, h (twin d) (twin-below (edge_count g) d w.0) w.2, tt)
new-fresh g next (c ∷ path) live d w h = (
  w.0.0,
  h d w.0.0 w.0.1,
  h (twin d) (twin-below (edge_count g) d w.0.0) w.0.2,
  new-fresh g next path (and_edge live d) c w.3 (λ x l i. h x l (or_parts (live x) (d / 2 == x / 2) i).0),
)

-- so the map stays plane where the two corners are on one face, if both darts of their edges are live
pub path-plane : (g : Multigraph) (path : List ℕ) (live : ℕ → Bool) (next previous : ℕ → ℕ) → IsMapOn g live next previous → IsPlane (edge_count g) next → (p d q : ℕ) → p < dart_count g → q < dart_count g
    → ((y : ℕ) → y / 2 ≡ p / 2 → live y ≡ true) → ((y : ℕ) → y / 2 ≡ q / 2 → live y ≡ true) → IsNewPath g live d path → same_face (edge_count g) next (twin p) (twin q) ≡ true
    → IsPlane (edge_count g) (path_inserted p d path q next)
path-plane g path live next previous s h p d q pl ql ph qh w f = same-defect-plane (edge_count g) next (path_inserted p d path q next) (path-defect (edge_count g) path next previous s.permutes p d q (record {
  first_corner = pl;
  last_corner = ql;
  fresh = new-fresh g next path live d w s.alone;
  apart = new-apart g path live d w;
  off_first = new-avoids g path live d p w ph;
  off_last = new-avoids g path live d q w qh;
}) f) h

-- the darts along edges are of these edges
pub along-edges : (g : Multigraph) (es : List ℕ) (x : ℕ) (live : ℕ → Bool) (y : ℕ) → and_edges live (darts_along g x es) y ≡ (live y || is_member (y / 2) es)
along-edges g [] x live y = sym (or_none (live y))
  where
    or_none : (a : Bool) → (a || false) ≡ a
    or_none true = refl
    or_none false = refl
along-edges g (e ∷ es) x live y = along-edges g es (other_end g e x) (and_edge live (dart_from g x e)) y
    ∙ or_or (live y) (dart_from g x e / 2 == y / 2) (is_member (y / 2) es)
    ∙ ap (λ z. live y || ((z == y / 2) || is_member (y / 2) es)) (dart_from-edge g x e)
  where
    or_or : (a b c : Bool) → ((a || b) || c) ≡ (a || (b || c))
    or_or true b c = refl
    or_or false b c = refl

-- the last dart along a path arrives at its end
pub along-arrives : (g : Multigraph) → IsGraph g → (es : List ℕ) (x e : ℕ) → IsWalk g x (e ∷ es) → tail g (twin (path_last (dart_from g x e) (darts_along g (other_end g e x) es))) ≡ walk_end g x (e ∷ es)
along-arrives g ok [] x e w = dart_from-arrives g ok e x w.0.0 w.0.1
along-arrives g ok (f ∷ es) x e w = along-arrives g ok es (other_end g e x) f w.1

-- a path whose edges are not live, and between whose ends no dart is
pub along-new : (g : Multigraph) → IsGraph g → (es : List ℕ) (live : ℕ → Bool) (x e z : ℕ) → IsPath g x (e ∷ es) z → ((y : ℕ) → is_member (y / 2) (e ∷ es) ≡ true → live y ≡ false)
    → ((v y : ℕ) → is_member v (walk_vertices g (other_end g e x) es) ≡ true → v ≢ z → y < dart_count g → tail g y ≡ v → live y ≡ false)
    → IsNewPath g live (dart_from g x e) (darts_along g (other_end g e x) es)
along-new g ok [] live x e z p off inner = (
  dart_from-below g x e p.walk.0.0,
  off (dart_from g x e) (subst (λ k. is_member k (e ∷ []) ≡ true) (sym (dart_from-edge g x e)) (member-head e [])),
  off (twin (dart_from g x e)) (subst (λ k. is_member k (e ∷ []) ≡ true) (sym (twin-edge (dart_from g x e) ∙ dart_from-edge g x e)) (member-head e [])),
)
along-new g ok (f ∷ es) live x e z p off inner = (
  first,
  dart_from-tail g y f p.walk.1.0.1 ∙ sym arrives,
  (λ w l q. inner y w (first-met g y (f ∷ es)) not_last l (q ∙ arrives)),
  along-new g ok es (and_edge live d) y f z rest
      (λ w i. or_from (live w) (d / 2 == w / 2) (off w (member-tail (w / 2) e (f ∷ es) i)) (ne_eqb (d / 2) (w / 2) (λ q. both_ways (is_member e (f ∷ es)) once (subst (λ k. is_member k (f ∷ es) ≡ true) (sym q ∙ dart_from-edge g x e) i))))
      (λ v w i n l q. or_from (live w) (d / 2 == w / 2) (inner v w (member-tail v y (walk_vertices g (other_end g f y) es) i) n l q) (ne_eqb (d / 2) (w / 2) (λ r. elsewhere v i (subst (λ k. is_end g v k ≡ true) (sym r ∙ dart_from-edge g x e) (subst (λ k. is_end g k (w / 2) ≡ true) q (tail-end g w)))))),
)
  where
    d : ℕ
    d = dart_from g x e

    y : ℕ
    y = other_end g e x

    arrives : tail g (twin d) ≡ y
    arrives = dart_from-arrives g ok e x p.walk.0.0 p.walk.0.1

    first : (d < dart_count g) × (live d ≡ false) × (live (twin d) ≡ false)
    first = (
      dart_from-below g x e p.walk.0.0,
      off d (subst (λ k. is_member k (e ∷ f ∷ es) ≡ true) (sym (dart_from-edge g x e)) (member-head e (f ∷ es))),
      off (twin d) (subst (λ k. is_member k (e ∷ f ∷ es) ≡ true) (sym (twin-edge d ∙ dart_from-edge g x e)) (member-head e (f ∷ es))),
    )

    rest : IsPath g y (f ∷ es) z
    rest = record { walk = p.walk.1; arrives = p.arrives; vertices = distinct-tail x (walk_vertices g y (f ∷ es)) p.vertices }

    once : is_member e (f ∷ es) ≡ false
    once = distinct-head e (f ∷ es) (path-edges_distinct g x (e ∷ f ∷ es) p.walk p.vertices)

    -- the vertices beyond y
    beyond : List ℕ
    beyond = walk_vertices g (other_end g f y) es

    y-none : is_member y beyond ≡ false
    y-none = distinct-head y beyond rest.vertices

    not_last : y ≢ z
    not_last q = both_ways (is_member y beyond) y-none (subst (λ k. is_member k beyond ≡ true) (p.arrives ∙ sym q) (last-met g (other_end g f y) es))

    elsewhere : (v : ℕ) → is_member v beyond ≡ true → is_end g v e ≡ true → ⊥
    elsewhere v i j = elim (end-cases g e x v p.walk.0.1 j) [
      | inl q ↦ both_ways (is_member x (walk_vertices g y (f ∷ es))) (distinct-head x (walk_vertices g y (f ∷ es)) p.vertices) (subst (λ k. is_member k (walk_vertices g y (f ∷ es)) ≡ true) q (member-tail v y beyond i))
      | inr q ↦ both_ways (is_member y beyond) y-none (subst (λ k. is_member k beyond ≡ true) q i)
    ]
