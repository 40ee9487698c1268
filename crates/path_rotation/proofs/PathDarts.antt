-- The darts along a path of a graph: their edges, the vertices that they leave, and that off the kept darts they are a run.
use Rattle.std.proofs.Common.{◌≡◌, ◌≢◌, ℕ, ◌/◌, ◌<◌, ◌≤◌, inl, inr, Bool, true, false, ◌||◌, ◌==◌, List, [], ◌∷◌, refl, sym, ap, ap₂, ◌∙◌, subst, arith}
use Rattle.std.proofs.lemmas.Bool.{false≢true, both_ways, or_cases, or_from, eqb-true, ne_eqb, false_from_ne_true}
use Rattle.permutations.specs.Members.{is_member}
use Rattle.permutations.proofs.Members.{member-head, member-tail, member-cases, no_member-head, distinct-head, distinct-tail}
use Rattle.multigraph.specs.Graph.{Multigraph, IsGraph, edge_count, is_end, other_end}
use Rattle.multigraph.proofs.OtherEnd.{other_end-differs}
use Rattle.rotations.specs.Rotation.{IsRotationSystem}
use Rattle.graph_theory.specs.Path.{walk_end, walk_vertices, IsWalk, IsPath}
use Rattle.graph_theory.proofs.Ends.{end-cases}
use Rattle.graph_theory.proofs.Walks.{last-met}
use Rattle.graph_theory.proofs.Paths.{path-edges_distinct}
use Rattle.dart_maps.specs.Map.{twin, same_vertex}
use Rattle.dart_maps.specs.Path.{path_last}
use Rattle.dart_maps.proofs.Darts.{twin-below, twin-edge, edge-twin}
use Rattle.faces.specs.Euler.{tail, dart_from, dart_count}
use Rattle.faces.specs.Maps.{dart_after}
use Rattle.faces.proofs.DartLemmas.{tail-end, dart_from-edge, dart_from-below, dart_from-tail}
use Rattle.faces.proofs.MapSteps.{tail-twin}
use Rattle.faces.proofs.MapVertices.{vertex-tail, tail-vertex}
use Rattle.path_separation.specs.Drawn.{darts_along}
use Rattle.path_rotation.proofs.PathInserted.{AllDarts}
use Rattle.path_rotation.proofs.PathMore.{and_edge, and_edges, IsOff, IsRun}

-- one of three tests
or-assoc : (a b c : Bool) → ((a || b) || c) ≡ (a || (b || c))
or-assoc true b c = refl
or-assoc false b c = refl

-- nothing to choose
or-none : (a : Bool) → (a || false) ≡ a
or-none true = refl
or-none false = refl

-- the twin of the dart by which an edge is walked along leaves its other end
pub tail-over : (g : Multigraph) → IsGraph g → (x e : ℕ) → e < edge_count g → is_end g x e ≡ true → tail g (twin (dart_from g x e)) ≡ other_end g e x
tail-over g ok x e l h = tail-twin g (dart_from g x e) ok (dart_from-below g x e l) ∙ ap₂ (other_end g) (dart_from-edge g x e) (dart_from-tail g x e h)

-- the darts along edges are of these edges
pub edges-along : (g : Multigraph) (es : List ℕ) (x : ℕ) (keep : ℕ → Bool) (y : ℕ) → and_edges keep (darts_along g x es) y ≡ (keep y || is_member (y / 2) es)
edges-along g [] x keep y = sym (or-none (keep y))
edges-along g (e ∷ es) x keep y = edges-along g es (other_end g e x) (and_edge keep (dart_from g x e)) y
    ∙ or-assoc (keep y) (dart_from g x e / 2 == y / 2) (is_member (y / 2) es)
    ∙ ap (λ (z : ℕ). keep y || ((z == y / 2) || is_member (y / 2) es)) (dart_from-edge g x e)

-- what holds of both darts of each of these edges holds of the darts along them and of their twins
pub darts-along : (g : Multigraph) (P : ℕ → Type 0) (es : List ℕ) (x : ℕ) → ((y : ℕ) → is_member (y / 2) es ≡ true → P y) → AllDarts P (darts_along g x es)
darts-along g P [] x h = tt
darts-along g P (e ∷ es) x h = (
  h (dart_from g x e) (subst (λ (z : ℕ). is_member z (e ∷ es) ≡ true) (sym (dart_from-edge g x e)) (member-head e es)),
  h (twin (dart_from g x e)) (subst (λ (z : ℕ). is_member z (e ∷ es) ≡ true) (sym (twin-edge (dart_from g x e) ∙ dart_from-edge g x e)) (member-head e es)),
  darts-along g P es (other_end g e x) (λ y m. h y (member-tail (y / 2) e es m)),
)

-- the last dart along a walk is a dart, and its twin leaves the end of the walk
pub last-dart : (g : Multigraph) → IsGraph g → (es : List ℕ) (x e : ℕ) → IsWalk g x (e ∷ es) → (path_last (dart_from g x e) (darts_along g (other_end g e x) es) < dart_count g) × (tail g (twin (path_last (dart_from g x e) (darts_along g (other_end g e x) es))) ≡ walk_end g x (e ∷ es))
last-dart g ok [] x e w = (dart_from-below g x e w.0.0, tail-over g ok x e w.0.0 w.0.1)
last-dart g ok (c ∷ es) x e w = last-dart g ok es (other_end g e x) c w.1

-- a path of one edge or more ends elsewhere
path-apart : (g : Multigraph) (x e : ℕ) (es : List ℕ) (z : ℕ) → IsPath g x (e ∷ es) z → x ≢ z
path-apart g x e es z p i = both_ways (is_member x (walk_vertices g (other_end g e x) es)) (distinct-head x (walk_vertices g (other_end g e x) es) p.vertices)
    (subst (λ (v : ℕ). is_member v (walk_vertices g (other_end g e x) es) ≡ true) (p.arrives ∙ sym i) (last-met g (other_end g e x) es))

-- the path without its first edge
path-rest : (g : Multigraph) (x e : ℕ) (es : List ℕ) (z : ℕ) → IsPath g x (e ∷ es) z → IsPath g (other_end g e x) es z
path-rest g x e es z p = record { walk = p.walk.1; arrives = p.arrives; vertices = distinct-tail x (walk_vertices g (other_end g e x) es) p.vertices }

-- of the darts of a path's edges only the twin of its last dart leaves its end
pub end-dart : (g : Multigraph) → IsGraph g → (es : List ℕ) (x e z : ℕ) → IsPath g x (e ∷ es) z → (y : ℕ) → is_member (y / 2) (e ∷ es) ≡ true → tail g y ≡ z → y ≡ twin (path_last (dart_from g x e) (darts_along g (other_end g e x) es))
end-dart g ok [] x e z p y m t = elim (member-cases (y / 2) e [] m) [
  | inr i ↦ absurd (false≢true i)
  | inl i ↦ elim (edge-twin y (dart_from g x e) (sym i ∙ sym (dart_from-edge g x e))) [
    | inr q ↦ q
    | inl q ↦ absurd (path-apart g x e [] z p (sym (dart_from-tail g x e p.walk.0.1) ∙ ap (tail g) (sym q) ∙ t))
  ]
]
end-dart g ok (c ∷ es) x e z p y m t = elim (member-cases (y / 2) e (c ∷ es) m) [
  | inr i ↦ end-dart g ok es (other_end g e x) c z (path-rest g x e (c ∷ es) z p) y i t
  | inl i ↦ elim (end-cases g e x z p.walk.0.1 (subst (λ (v : ℕ). is_end g z v ≡ true) (sym i) (subst (λ (v : ℕ). is_end g v (y / 2) ≡ true) t (tail-end g y)))) [
    | inl q ↦ absurd (path-apart g x e (c ∷ es) z p (sym q))
    | inr q ↦ absurd (path-apart g (other_end g e x) c es z (path-rest g x e (c ∷ es) z p) (sym q))
  ]
]

-- the dart of an edge that is not kept
off-dart : (g : Multigraph) (r : List (List ℕ)) → IsGraph g → IsRotationSystem g r → (x e : ℕ) → e < edge_count g → is_end g x e ≡ true → (keep : ℕ → Bool) → keep (dart_from g x e) ≡ false → ((k : ℕ) → keep (twin k) ≡ keep k) → ((k : ℕ) → dart_count g ≤ k → keep k ≡ false)
    → IsOff (edge_count g) (dart_after g r) keep (dart_from g x e)
off-dart g r ok s x e l h keep off twins out = record {
  below = dart_from-below g x e l;
  off = off;
  twin_off = twins (dart_from g x e) ∙ off;
  no_loop = false_from_ne_true (same_vertex (edge_count g) (dart_after g r) (dart_from g x e) (twin (dart_from g x e)))
      (λ t. other_end-differs g e x ok l h (sym (tail-over g ok x e l h) ∙ sym (vertex-tail g r ok s (dart_from g x e) (twin (dart_from g x e)) t) ∙ dart_from-tail g x e h));
  out = out;
}

-- the darts along a path are a run in the map of a rotation system, where no kept dart leaves one of its vertices but its ends
pub run-along : (g : Multigraph) (r : List (List ℕ)) → IsGraph g → IsRotationSystem g r → (es : List ℕ) (x e z : ℕ) → IsPath g x (e ∷ es) z → (keep : ℕ → Bool) → keep (dart_from g x e) ≡ false → ((k : ℕ) → keep (twin k) ≡ keep k)
    → ((k : ℕ) → dart_count g ≤ k → keep k ≡ false) → ((k : ℕ) → keep k ≡ true → is_member (tail g k) (walk_vertices g (other_end g e x) es) ≡ true → tail g k ≡ z)
    → IsRun (edge_count g) (dart_after g r) keep (dart_from g x e) (darts_along g (other_end g e x) es)
run-along g r ok s [] x e z p keep off twins out ends = off-dart g r ok s x e p.walk.0.0 p.walk.0.1 keep off twins out
run-along g r ok s (c ∷ es) x e z p keep off twins out ends = (
  off-dart g r ok s x e p.walk.0.0 p.walk.0.1 keep off twins out,
  meets,
  none,
  run-along g r ok s es (other_end g e x) c z rest (and_edge keep (dart_from g x e)) next-off (λ k. ap₂ (λ (a : Bool) (b : ℕ). a || (dart_from g x e / 2 == b)) (twins k) (twin-edge k)) next-out next-ends,
)
  where
    rest : IsPath g (other_end g e x) (c ∷ es) z
    rest = path-rest g x e (c ∷ es) z p

    below : dart_from g x e < dart_count g
    below = dart_from-below g x e p.walk.0.0

    over : tail g (twin (dart_from g x e)) ≡ other_end g e x
    over = tail-over g ok x e p.walk.0.0 p.walk.0.1

    meets : same_vertex (edge_count g) (dart_after g r) (twin (dart_from g x e)) (dart_from g (other_end g e x) c) ≡ true
    meets = tail-vertex g r ok s (twin (dart_from g x e)) (dart_from g (other_end g e x) c) (twin-below (edge_count g) (dart_from g x e) below) (dart_from-below g (other_end g e x) c rest.walk.0.0)
        (over ∙ sym (dart_from-tail g (other_end g e x) c rest.walk.0.1))

    none : (v : ℕ) → same_vertex (edge_count g) (dart_after g r) (twin (dart_from g x e)) v ≡ true → keep v ≡ false
    none v t = false_from_ne_true (keep v) (λ k.
        let at : tail g v ≡ other_end g e x = sym (vertex-tail g r ok s (twin (dart_from g x e)) v t) ∙ over in
        path-apart g (other_end g e x) c es z rest
        (sym at ∙ ends v k (subst (λ (u : ℕ). is_member u (walk_vertices g (other_end g e x) (c ∷ es)) ≡ true) (sym at) (member-head (other_end g e x) (walk_vertices g (other_end g c (other_end g e x)) es)))))

    other-edge : dart_from g x e / 2 ≢ dart_from g (other_end g e x) c / 2
    other-edge i = no_member-head e c es (distinct-head e (c ∷ es) (path-edges_distinct g x (e ∷ c ∷ es) p.walk p.vertices)) (sym (dart_from-edge g (other_end g e x) c) ∙ sym i ∙ dart_from-edge g x e)

    next-off : and_edge keep (dart_from g x e) (dart_from g (other_end g e x) c) ≡ false
    next-off = or_from (keep (dart_from g (other_end g e x) c)) (dart_from g x e / 2 == dart_from g (other_end g e x) c / 2) (none (dart_from g (other_end g e x) c) meets) (ne_eqb (dart_from g x e / 2) (dart_from g (other_end g e x) c / 2) other-edge)

    next-out : (k : ℕ) → dart_count g ≤ k → and_edge keep (dart_from g x e) k ≡ false
    next-out k l = or_from (keep k) (dart_from g x e / 2 == k / 2) (out k l) (ne_eqb (dart_from g x e / 2) (k / 2) (λ i. omega (arith, below)))

    next-ends : (k : ℕ) → and_edge keep (dart_from g x e) k ≡ true → is_member (tail g k) (walk_vertices g (other_end g c (other_end g e x)) es) ≡ true → tail g k ≡ z
    next-ends k h m = elim (or_cases (keep k) (dart_from g x e / 2 == k / 2) h) [
      | inl i ↦ ends k i (member-tail (tail g k) (other_end g e x) (walk_vertices g (other_end g c (other_end g e x)) es) m)
      | inr i ↦ elim (edge-twin k (dart_from g x e) (sym (eqb-true (dart_from g x e / 2) (k / 2) i))) [
        | inl q ↦ absurd (both_ways (is_member x (walk_vertices g (other_end g e x) (c ∷ es))) (distinct-head x (walk_vertices g (other_end g e x) (c ∷ es)) p.vertices)
            (member-tail x (other_end g e x) (walk_vertices g (other_end g c (other_end g e x)) es)
            (subst (λ (v : ℕ). is_member v (walk_vertices g (other_end g c (other_end g e x)) es) ≡ true) (ap (tail g) q ∙ dart_from-tail g x e p.walk.0.1) m)))
        | inr q ↦ absurd (both_ways (is_member (other_end g e x) (walk_vertices g (other_end g c (other_end g e x)) es)) (distinct-head (other_end g e x) (walk_vertices g (other_end g c (other_end g e x)) es) rest.vertices)
            (subst (λ (v : ℕ). is_member v (walk_vertices g (other_end g c (other_end g e x)) es) ≡ true) (ap (tail g) q ∙ over) m))
      ]
    ]
