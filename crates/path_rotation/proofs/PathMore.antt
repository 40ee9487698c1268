-- A path more in a restriction: where its inner vertices have no kept darts, it is inserted between two corners, and where the
-- whole map is plane these lie in one face.
use Rattle.std.proofs.Common.{◌≡◌, ◌≢◌, ℕ, ◌*◌, ◌/◌, ◌<◌, ◌≤◌, inl, inr, Bool, true, false, ◌||◌, ◌==◌, List, [], ◌∷◌, refl, sym, ap, ap₂, ◌∙◌, subst, arith}
use Rattle.std.proofs.lemmas.Bool.{cases_Bool, both_ways, or_cases, or_parts, or_left, or_right, or_from, eq-eqb, eqb-true, ne_eqb}
use mathlib.Core.Path.{fun_ext}
use Rattle.permutations.specs.Relation.{IsEquivalence}
use Rattle.permutations.specs.Exchange.{exchange, restricted}
use Rattle.permutations.proofs.Relation.{same-tests}
use Rattle.permutations.proofs.Orbits.{orbit-equivalence}
use Rattle.permutations.proofs.Restriction.{restricted-alone, restricted-permutes}
use Rattle.dart_maps.specs.Map.{twin, IsMap, IsPlane, same_vertex, same_face, same_component}
use Rattle.dart_maps.specs.Path.{Avoids, AllApart, IsFresh, IsFreshPath, path_inserted, path_last}
use Rattle.dart_maps.proofs.Darts.{twin-other, twin-below, twin-edge, edge-twin}
use Rattle.dart_maps.proofs.Plane.{restricted-plane}
use Rattle.dart_maps.proofs.InsertPath.{path-face}
use Rattle.path_rotation.proofs.Corners.{and_one, corner_of, exchange-self, one-more, corner-below, corner-kept, corner-orbit, corner-sole, corner-none}

-- the test on darts, and the darts of one edge more
abbrev pub and_edge : (ℕ → Bool) → ℕ → ℕ → Bool
and_edge keep d x = keep x || (d / 2 == x / 2)

-- the test, and the darts of the edges of these darts
abbrev pub and_edges : (ℕ → Bool) → List ℕ → ℕ → Bool
and_edges keep [] = keep
and_edges keep (d ∷ path) = and_edges (and_edge keep d) path

-- the edge of d is not kept, and it is no loop; nothing is kept beyond the darts
pub record IsOff (m : ℕ) (f : ℕ → ℕ) (keep : ℕ → Bool) (d : ℕ) : Type 0 where
  pub below : d < 2 * m
  pub off : keep d ≡ false
  pub twin_off : keep (twin d) ≡ false
  pub no_loop : same_vertex m f d (twin d) ≡ false
  pub out : (x : ℕ) → 2 * m ≤ x → keep x ≡ false

-- a run of edges that are not kept, out by d and then by these darts: no dart is kept at a vertex between two of them
abbrev pub IsRun : ℕ → (ℕ → ℕ) → (ℕ → Bool) → ℕ → List ℕ → Type 0
IsRun m f keep d [] = IsOff m f keep d
IsRun m f keep d (c ∷ path) =
    IsOff m f keep d × (same_vertex m f (twin d) c ≡ true) × ((z : ℕ) → same_vertex m f (twin d) z ≡ true → keep z ≡ false) × IsRun m f (and_edge keep d) c path

-- the corner into which a run arrives: the last kept dart, or dart of the run, before the twin of its last dart
abbrev pub last_corner : ℕ → (ℕ → Bool) → (ℕ → ℕ) → ℕ → List ℕ → ℕ
last_corner m keep g d [] = corner_of (2 * m) (and_one keep d) g (twin d)
last_corner m keep g d (c ∷ path) = last_corner m (and_edge keep d) g c path

-- the first dart of a run is off
pub run-off : (m : ℕ) (f : ℕ → ℕ) (keep : ℕ → Bool) (d : ℕ) (path : List ℕ) → IsRun m f keep d path → IsOff m f keep d
run-off m f keep d [] r = r
run-off m f keep d (c ∷ path) r = r.0

-- two darts are of one edge where one is the other or its twin
edge-tests : (d x : ℕ) → (d / 2 == x / 2) ≡ ((x == d) || (x == twin d))
edge-tests d x = same-tests (d / 2 == x / 2) ((x == d) || (x == twin d))
    (λ t. elim (edge-twin x d (sym (eqb-true (d / 2) (x / 2) t))) [ inl e ↦ or_left (x == d) (x == twin d) (eq-eqb x d e) | inr e ↦ or_right (x == d) (x == twin d) (eq-eqb x (twin d) e) ])
    (λ t. elim (or_cases (x == d) (x == twin d) t) [
      | inl h ↦ eq-eqb (d / 2) (x / 2) (ap (λ (z : ℕ). z / 2) (sym (eqb-true x d h)))
      | inr h ↦ eq-eqb (d / 2) (x / 2) (sym (twin-edge d) ∙ ap (λ (z : ℕ). z / 2) (sym (eqb-true x (twin d) h)))
    ])

-- an edge more is its two darts more
edge-as_darts : (keep : ℕ → Bool) (d : ℕ) → and_edge keep d ≡ and_one (and_one keep d) (twin d)
edge-as_darts keep d = fun_ext (λ x. elim (cases_Bool (keep x)) [
  | inl t ↦ rw t refl
  | inr t ↦ rw t (edge-tests d x)
])

-- what was kept is kept
pub edge-keep : (keep : ℕ → Bool) (d x : ℕ) → keep x ≡ true → and_edge keep d x ≡ true
edge-keep keep d x h = or_left (keep x) (d / 2 == x / 2) h

-- so is the new edge
pub edge-here : (keep : ℕ → Bool) (d : ℕ) → and_edge keep d d ≡ true
edge-here keep d = or_right (keep d) (d / 2 == d / 2) (eq-eqb (d / 2) (d / 2) refl)

-- what is not kept now was not kept
edge-less : (keep : ℕ → Bool) (d x : ℕ) → and_edge keep d x ≡ false → keep x ≡ false
edge-less keep d x h = (or_parts (keep x) (d / 2 == x / 2) h).0

-- one edge that is off
module _ (m : ℕ) (f g : ℕ → ℕ) (b : IsMap m f g) (keep : ℕ → Bool) (d : ℕ) (o : IsOff m f keep d) where
  vertices : IsEquivalence (same_vertex m f)
  vertices = orbit-equivalence (2 * m) f

  -- with its first dart, the twin is off and nothing is kept beyond the darts
  one-twin : and_one keep d (twin d) ≡ false
  one-twin = or_from (keep (twin d)) (twin d == d) o.twin_off (ne_eqb (twin d) d (twin-other d))

  one-out : (x : ℕ) → 2 * m ≤ x → and_one keep d x ≡ false
  one-out x k = let l : d < 2 * m = o.below in or_from (keep x) (x == d) (o.out x k) (ne_eqb x d (λ e. omega arith))

  -- the edge put in
  edge-more : restricted (2 * m) (and_edge keep d) f ≡ exchange (corner_of (2 * m) (and_one keep d) g (twin d)) (twin d) (exchange (corner_of (2 * m) keep g d) d (restricted (2 * m) keep f))
  edge-more = ap (λ (k : ℕ → Bool). restricted (2 * m) k f) (edge-as_darts keep d)
      ∙ one-more (2 * m) (and_one keep d) f g b (twin d) (twin-below m d o.below) one-twin one-out
      ∙ ap (exchange (corner_of (2 * m) (and_one keep d) g (twin d)) (twin d)) (one-more (2 * m) keep f g b d o.below o.off o.out)

  -- where nothing is kept at its end, just its first dart is put in
  loose-more : ((z : ℕ) → same_vertex m f (twin d) z ≡ true → keep z ≡ false) → restricted (2 * m) (and_edge keep d) f ≡ exchange (corner_of (2 * m) keep g d) d (restricted (2 * m) keep f)
  loose-more none = edge-more
      ∙ ap (λ (p : ℕ). exchange p (twin d) (exchange (corner_of (2 * m) keep g d) d (restricted (2 * m) keep f))) (corner-none (2 * m) (and_one keep d) f g b (twin d) (twin-below m d o.below) one-twin one-out none-one)
      ∙ exchange-self (twin d) (exchange (corner_of (2 * m) keep g d) d (restricted (2 * m) keep f))
    where
      none-one : (y : ℕ) → same_vertex m f (twin d) y ≡ true → and_one keep d y ≡ false
      none-one y v = or_from (keep y) (y == d) (none y v)
          (ne_eqb y d (λ e. both_ways (same_vertex m f d (twin d)) o.no_loop (vertices.symmetric (twin d) d (subst (λ (z : ℕ). same_vertex m f (twin d) z ≡ true) e v))))

  -- and the next dart there comes in after its twin
  next-corner : (c : ℕ) → c < 2 * m → and_edge keep d c ≡ false → ((x : ℕ) → 2 * m ≤ x → and_edge keep d x ≡ false) → same_vertex m f (twin d) c ≡ true
      → ((z : ℕ) → same_vertex m f (twin d) z ≡ true → keep z ≡ false) → corner_of (2 * m) (and_edge keep d) g c ≡ twin d
  next-corner c l off out v none = corner-sole (2 * m) (and_edge keep d) f g b c l off out (twin d) (or_right (keep (twin d)) (d / 2 == twin d / 2) (eq-eqb (d / 2) (twin d / 2) (sym (twin-edge d))))
      (vertices.symmetric (twin d) c v) only
    where
      only : (y : ℕ) → same_vertex m f c y ≡ true → and_edge keep d y ≡ true → y ≡ twin d
      only y w h =
          let u : same_vertex m f (twin d) y ≡ true = vertices.transitive (twin d) c y v w in
          elim (or_cases (keep y) (d / 2 == y / 2) h) [
            | inl k ↦ absurd (both_ways (keep y) (none y u) k)
            | inr e ↦ elim (edge-twin y d (sym (eqb-true (d / 2) (y / 2) e))) [
              | inl i ↦ absurd (both_ways (same_vertex m f d (twin d)) o.no_loop (vertices.symmetric (twin d) d (subst (λ (z : ℕ). same_vertex m f (twin d) z ≡ true) i u)))
              | inr i ↦ i
            ]
          ]

-- a run in the restriction: it is inserted between its two corners
pub path-more : (m : ℕ) (f g : ℕ → ℕ) → IsMap m f g → (path : List ℕ) (keep : ℕ → Bool) (d : ℕ) → IsRun m f keep d path
    → restricted (2 * m) (and_edges keep (d ∷ path)) f ≡ path_inserted (corner_of (2 * m) keep g d) d path (last_corner m keep g d path) (restricted (2 * m) keep f)
path-more m f g b [] keep d r = edge-more m f g b keep d r
path-more m f g b (c ∷ path) keep d r =
    let o : IsOff m f (and_edge keep d) c = run-off m f (and_edge keep d) c path r.3 in
    path-more m f g b path (and_edge keep d) c r.3
    ∙ ap₂ (λ (p : ℕ) (k : ℕ → ℕ). path_inserted p c path (last_corner m (and_edge keep d) g c path) k) (next-corner m f g b keep d r.0 c o.below o.off o.out r.1 r.2) (loose-more m f g b keep d r.0 r.2)

-- the edges of a run were not kept
run-fresh : (m : ℕ) (f : ℕ → ℕ) (path : List ℕ) (keep : ℕ → Bool) (d : ℕ) (first : ℕ → Bool) → ((x : ℕ) → keep x ≡ false → first x ≡ false) → IsRun m f keep d path → IsFresh m (restricted (2 * m) first f) (d ∷ path)
run-fresh m f [] keep d first less r = (
  r.below,
  restricted-alone (2 * m) first f d (less d r.off),
  restricted-alone (2 * m) first f (twin d) (less (twin d) r.twin_off),
  tt,
)
run-fresh m f (c ∷ path) keep d first less r = (
  r.0.below,
  restricted-alone (2 * m) first f d (less d r.0.off),
  restricted-alone (2 * m) first f (twin d) (less (twin d) r.0.twin_off),
  run-fresh m f path (and_edge keep d) c first (λ x h. less x (edge-less keep d x h)) r.3,
)

-- an edge that is off is not that of a kept dart
off-apart : (m : ℕ) (f : ℕ → ℕ) (keep : ℕ → Bool) (d u : ℕ) → IsOff m f keep d → keep u ≡ true → d / 2 ≡ u / 2 → ⊥
off-apart m f keep d u o k e = elim (edge-twin u d (sym e)) [
  | inl i ↦ both_ways (keep d) o.off (subst (λ (z : ℕ). keep z ≡ true) i k)
  | inr i ↦ both_ways (keep (twin d)) o.twin_off (subst (λ (z : ℕ). keep z ≡ true) i k)
]

-- so a run avoids the edge of each kept dart
run-avoids : (m : ℕ) (f : ℕ → ℕ) (path : List ℕ) (keep : ℕ → Bool) (d u : ℕ) → keep u ≡ true → IsRun m f keep d path → Avoids u (d ∷ path)
run-avoids m f [] keep d u k r = (off-apart m f keep d u r k, tt)
run-avoids m f (c ∷ path) keep d u k r = (off-apart m f keep d u r.0 k, run-avoids m f path (and_edge keep d) c u (edge-keep keep d u k) r.3)

-- and its own edges are different
run-apart : (m : ℕ) (f : ℕ → ℕ) (path : List ℕ) (keep : ℕ → Bool) (d : ℕ) → IsRun m f keep d path → AllApart (d ∷ path)
run-apart m f [] keep d r = (tt, tt)
run-apart m f (c ∷ path) keep d r = (run-avoids m f path (and_edge keep d) c d (edge-here keep d) r.3, run-apart m f path (and_edge keep d) c r.3)

-- where some dart is kept at the end of a run, and of the run none is there but the twin of its last dart, the run arrives in a
-- corner of a dart that was kept
pub run-arrives : (m : ℕ) (f g : ℕ → ℕ) → IsMap m f g → (path : List ℕ) (keep : ℕ → Bool) (d : ℕ) → IsRun m f keep d path → (first : ℕ → Bool) (u : ℕ) → keep u ≡ true → same_vertex m f (twin (path_last d path)) u ≡ true
    → ((y : ℕ) → and_edges keep (d ∷ path) y ≡ true → same_vertex m f (twin (path_last d path)) y ≡ true → y ≢ twin (path_last d path) → first y ≡ true)
    → (last_corner m keep g d path < 2 * m) × (first (last_corner m keep g d path) ≡ true) × (same_vertex m f (twin (path_last d path)) (last_corner m keep g d path) ≡ true)
run-arrives m f g b [] keep d o first u k v only = (
  corner-below (2 * m) (and_one keep d) f g b (twin d) (twin-below m d o.below) twin_off out,
  only q (subst (λ (t : ℕ → Bool). t q ≡ true) (sym (edge-as_darts keep d)) (or_left (and_one keep d q) (q == twin d) kept)) at (λ e. both_ways (and_one keep d (twin d)) twin_off (subst (λ (z : ℕ). and_one keep d z ≡ true) e kept)),
  at,
)
  where
    q : ℕ
    q = corner_of (2 * m) (and_one keep d) g (twin d)

    twin_off : and_one keep d (twin d) ≡ false
    twin_off = one-twin m f g b keep d o

    out : (x : ℕ) → 2 * m ≤ x → and_one keep d x ≡ false
    out = one-out m f g b keep d o

    kept : and_one keep d (corner_of (2 * m) (and_one keep d) g (twin d)) ≡ true
    kept = corner-kept (2 * m) (and_one keep d) f g b (twin d) (twin-below m d o.below) twin_off out u (or_left (keep u) (u == d) k) v

    at : same_vertex m f (twin d) (corner_of (2 * m) (and_one keep d) g (twin d)) ≡ true
    at = corner-orbit (2 * m) (and_one keep d) f g b (twin d) (twin-below m d o.below) twin_off out
run-arrives m f g b (c ∷ path) keep d r first u k v only = run-arrives m f g b path (and_edge keep d) c r.3 first u (edge-keep keep d u k) v only

-- a run out of one kept corner into another, where the kept darts are connected and the map is plane: both corners lie in one face
pub run-face : (m : ℕ) (f g : ℕ → ℕ) → IsMap m f g → IsPlane m f → (path : List ℕ) (keep : ℕ → Bool) (d : ℕ) → IsRun m f keep d path
    → keep (corner_of (2 * m) keep g d) ≡ true → last_corner m keep g d path < 2 * m → keep (last_corner m keep g d path) ≡ true
    → same_component m (restricted (2 * m) keep f) (corner_of (2 * m) keep g d) (last_corner m keep g d path) ≡ true
    → same_face m (restricted (2 * m) keep f) (twin (corner_of (2 * m) keep g d)) (twin (last_corner m keep g d path)) ≡ true
run-face m f g b plane path keep d r one l two joined = path-face m path (restricted (2 * m) keep f) (restricted (2 * m) keep g) (restricted-permutes (2 * m) keep f g b)
    (corner_of (2 * m) keep g d) d (last_corner m keep g d path) fresh joined
    (subst (IsPlane m) (path-more m f g b path keep d r) (restricted-plane m f g b plane (and_edges keep (d ∷ path))))
  where
    o : IsOff m f keep d
    o = run-off m f keep d path r

    fresh : IsFreshPath m (restricted (2 * m) keep f) (corner_of (2 * m) keep g d) d path (last_corner m keep g d path)
    fresh = record {
      first_corner = corner-below (2 * m) keep f g b d o.below o.off o.out;
      last_corner = l;
      fresh = run-fresh m f path keep d keep (λ x h. h) r;
      apart = run-apart m f path keep d r;
      off_first = run-avoids m f path keep d (corner_of (2 * m) keep g d) one r;
      off_last = run-avoids m f path keep d (last_corner m keep g d path) two r;
    }
