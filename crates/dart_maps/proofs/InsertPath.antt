-- A path put into a face: the defect stays, and the face falls into the two that the path parts.
use Rattle.std.proofs.Common.{◌≡◌, ℕ, ◌+◌, ◌*◌, ◌/◌, ◌<◌, inl, inr, true, false, List, [], ◌∷◌, ◌++◌, arith, append_assoc, refl, sym, ap, ap₂, ◌∙◌, subst, eq-eqb}
use Rattle.std.proofs.lemmas.Bool.{both_ways, false≢true, false_from_ne_true, true_from_ne_false, ne_eqb}
use Rattle.permutations.specs.Relation.{IsEquivalence}
use Rattle.permutations.specs.Permutation.{Permutes}
use Rattle.permutations.specs.Exchange.{exchange}
use Rattle.permutations.proofs.Permutations.{exchange-other}
use Rattle.permutations.proofs.Orbits.{orbit-equivalence}
use Rattle.dart_maps.specs.Map.{twin, face, IsMap, same_face, IsPlane, SameDefect, same_component, vertex_count, face_count, component_count}
use Rattle.dart_maps.proofs.Darts.{twin-twin, twin-other, twin-below, twin-edge, face-permutes, face-exchange, face-twin}
use Rattle.permutations.specs.Members.{is_member, is_distinct}
use Rattle.permutations.specs.Cyclic.{first_or, successor, turned}
use Rattle.permutations.specs.Ring.{ring}
use Rattle.permutations.proofs.Members.{member-head, member-cases, member-append_right, distinct-append_apart}
use Rattle.permutations.proofs.Successor.{first_or-append}
use Rattle.permutations.proofs.Turned.{turned-cut, turned-first}
use Rattle.permutations.proofs.Rings.{ring-distinct, ring-from_list, ring-turn}
use Rattle.permutations.proofs.RingExchange.{ring-joined, ring-parted, ring-parted_second}
use Rattle.dart_maps.specs.Changes.{inserted}
use Rattle.dart_maps.specs.Path.{Avoids, IsFresh, IsFreshPath, path_inserted, path_last, twins_behind}
use Rattle.dart_maps.proofs.Steps.{back_after}
use Rattle.dart_maps.proofs.Components.{component-equivalence}
use Rattle.dart_maps.proofs.Euler.{euler}
use Rattle.dart_maps.proofs.Plane.{same-defect-over}
use Rattle.dart_maps.proofs.Insert.{still-apart, still-together, insert-across, first-map, first-defect, faces-apart, still-alone, old-faces, passes, insert-defect}

-- a dart whose edge another dart's edge is not
off-edge : (x d : ℕ) → (d / 2 ≡ x / 2 → ⊥) → (x ≡ d → ⊥) × (x ≡ twin d → ⊥)
off-edge x d n = (λ e. n (ap (λ (z : ℕ). z / 2) (sym e)), λ e. n (sym (twin-edge d) ∙ ap (λ (z : ℕ). z / 2) (sym e)))

-- dead edges stay dead when the dart of another edge is put in behind a dart of another edge
fresh-away : (m p d : ℕ) (f : ℕ → ℕ) (path : List ℕ) → Avoids p path → Avoids d path → IsFresh m f path → IsFresh m (exchange p d f) path
fresh-away m p d f [] a c h = tt
fresh-away m p d f (e ∷ path) a c h = (
  h.0,
  exchange-other p d f e (λ i. a.0 (ap (λ (z : ℕ). z / 2) i)) (λ i. c.0 (ap (λ (z : ℕ). z / 2) i)) ∙ h.1,
  exchange-other p d f (twin e) (λ i. a.0 (sym (twin-edge e) ∙ ap (λ (z : ℕ). z / 2) i)) (λ i. c.0 (sym (twin-edge e) ∙ ap (λ (z : ℕ). z / 2) i)) ∙ h.2,
  fresh-away m p d f path a.1 c.1 h.3,
)

-- a list that avoids an edge avoids it by each of its darts
pub avoids-twin : (d : ℕ) (path : List ℕ) → Avoids d path → Avoids (twin d) path
avoids-twin d [] a = tt
avoids-twin d (p ∷ path) a = (λ i. a.0 (i ∙ twin-edge d), avoids-twin d path a.1)

-- a path that goes out by d: its first dart put in, what is left goes out behind the twin of d
fresh-step : (m : ℕ) (f : ℕ → ℕ) (p d c : ℕ) (path : List ℕ) (q : ℕ) → IsFreshPath m f p d (c ∷ path) q → IsFreshPath m (exchange p d f) (twin d) c path q
fresh-step m f p d c path q t = record {
  first_corner = twin-below m d ((t.fresh).0);
  last_corner = t.last_corner;
  fresh = fresh-away m p d f (c ∷ path) ((t.off_first).1) ((t.apart).0) ((t.fresh).3);
  apart = (t.apart).1;
  off_first = avoids-twin d (c ∷ path) ((t.apart).0);
  off_last = (t.off_last).1;
}

-- the first dart of a fresh path put in
module _ (m : ℕ) (f g : ℕ → ℕ) (b : IsMap m f g) (p d : ℕ) (path : List ℕ) (q : ℕ) (t : IsFreshPath m f p d path q) where
  -- its facts
  ld : d < 2 * m
  ld = (t.fresh).0

  -- its dart is alone
  alone : f d ≡ d
  alone = (t.fresh).1

  -- so is the twin
  twin-alone : f (twin d) ≡ twin d
  twin-alone = (t.fresh).2

  -- p is of another edge
  po : (p ≡ d → ⊥) × (p ≡ twin d → ⊥)
  po = off-edge p d ((t.off_first).0)

  -- so is q
  qo : (q ≡ d → ⊥) × (q ≡ twin d → ⊥)
  qo = off-edge q d ((t.off_last).0)

  -- the map
  loose-map : IsMap m (exchange p d f) (back_after p d g)
  loose-map = first-map m f g b d ld alone twin-alone p q (t.first_corner) (t.last_corner) po.0 po.1 qo.0 qo.1

  -- the defect
  loose-defect : SameDefect m f (exchange p d f)
  loose-defect = first-defect m f g b d ld alone twin-alone p q (t.first_corner) (t.last_corner) po.0 po.1 qo.0 qo.1

  -- the twin
  loose-twin : exchange p d f (twin d) ≡ twin d
  loose-twin = still-alone m f g b d ld alone twin-alone p q (t.first_corner) (t.last_corner) po.0 po.1 qo.0 qo.1

  -- the corners behind the twin and behind q lie in one face where those behind p and q did
  loose-faces : same_face m f (twin p) (twin q) ≡ true → same_face m (exchange p d f) (twin (twin d)) (twin q) ≡ true
  loose-faces w = subst (λ (z : ℕ). same_face m (exchange p d f) z (twin q) ≡ true) (sym (twin-twin d)) (e.transitive d (twin p) (twin q)
      (e.symmetric (twin p) d (passes m f g b d ld alone twin-alone p q (t.first_corner) (t.last_corner) po.0 po.1 qo.0 qo.1))
      (old-faces m f g b d ld alone twin-alone p q (t.first_corner) (t.last_corner) po.0 po.1 qo.0 qo.1 (twin p) (twin q) w))
    where
      e : IsEquivalence (same_face m (exchange p d f))
      e = orbit-equivalence (2 * m) (face (exchange p d f))

  -- the one edge alone
  loose-insert : same_face m f (twin p) (twin q) ≡ true → SameDefect m f (inserted d p q f)
  loose-insert = insert-defect m f g b d ld alone twin-alone p q (t.first_corner) (t.last_corner) po.0 po.1 qo.0 qo.1

  -- and in different faces where those did
  loose-apart : same_face m f (twin p) (twin q) ≡ false → same_face m (exchange p d f) (twin (twin d)) (twin q) ≡ false
  loose-apart w = false_from_ne_true (same_face m (exchange p d f) (twin (twin d)) (twin q)) (λ h. both_ways (same_face m (exchange p d f) (twin q) (twin (twin d)))
      (still-apart m f g b d ld alone twin-alone p q (t.first_corner) (t.last_corner) po.0 po.1 qo.0 qo.1 w) ((orbit-equivalence (2 * m) (face (exchange p d f))).symmetric (twin (twin d)) (twin q) h))

  -- the twin and q are connected where p and q were
  loose-together : same_component m f p q ≡ true → same_component m (exchange p d f) (twin d) q ≡ true
  loose-together h = (component-equivalence m (exchange p d f)).symmetric q (twin d) (still-together m f g b d ld alone twin-alone p q (t.first_corner) (t.last_corner) po.0 po.1 qo.0 qo.1 h)

  -- the one edge across two faces
  loose-across : same_component m f p q ≡ true → same_face m f (twin p) (twin q) ≡ false → vertex_count m f + face_count m f + 2 * component_count m (inserted d p q f) ≡ vertex_count m (inserted d p q f) + face_count m (inserted d p q f) + 2 * component_count m f + 2
  loose-across = insert-across m f g b d ld alone twin-alone p q (t.first_corner) (t.last_corner) po.0 po.1 qo.0 qo.1

  -- the face of a dead edge
  dead-face : ring (2 * m) (face f) d ≡ (d ∷ []) ++ twin d ∷ []
  dead-face = ring-from_list (2 * m) (face f) (λ z. twin (g z)) (face-permutes m f g b) (d ∷ twin d ∷ []) distinct next d ld (member-head d (twin d ∷ [])) ∙ turned-first d (twin d ∷ [])
    where
      distinct : is_distinct (d ∷ twin d ∷ []) ≡ true
      distinct = rw (ne_eqb (twin d) d (twin-other d)) refl

      next : (z : ℕ) → is_member z (d ∷ twin d ∷ []) ≡ true → successor (d ∷ twin d ∷ []) z ≡ face f z
      next z n = elim (member-cases z d (twin d ∷ []) n) [
        | inl i ↦ subst (λ (w : ℕ). successor (d ∷ twin d ∷ []) w ≡ face f w) i (rw (eq-eqb d d refl) (sym twin-alone))
        | inr i ↦ elim (member-cases z (twin d) [] i) [
          | inl j ↦ subst (λ (w : ℕ). successor (d ∷ twin d ∷ []) w ≡ face f w) j (rw (ne_eqb d (twin d) (λ k. twin-other d (sym k)), eq-eqb (twin d) (twin d) refl) (sym (face-twin f d ∙ alone)))
          | inr j ↦ absurd (false≢true j)
        ]
      ]

  -- the face of the corner behind p, after the first dart is put in: it goes to the twin and back
  loose-ring : (s r : List ℕ) (x : ℕ) → ring (2 * m) (face f) (f p) ≡ (s ++ x ∷ []) ++ (r ++ twin p ∷ []) → ring (2 * m) (face (exchange p d f)) (twin d) ≡ ((twin d ∷ s) ++ x ∷ []) ++ ((r ++ twin p ∷ []) ++ d ∷ [])
  loose-ring s r x h = ring-turn (2 * m) after (λ w. twin (back_after p d g w)) permutes (f p) (twin d) lf (ap (is_member (twin d)) whole ∙ member-append_right (twin d) z (twin d ∷ []) (member-head (twin d) []))
      ∙ ap (λ (l : List ℕ). turned l (twin d)) whole ∙ turned-cut z (twin d) [] apart ∙ ap (λ (l : List ℕ). twin d ∷ l) tidy
    where
      after : ℕ → ℕ
      after = face (exchange p d f)

      permutes : Permutes (2 * m) (face (exchange p d f)) (λ w. twin (back_after p d g w))
      permutes = face-permutes m (exchange p d f) (back_after p d g) loose-map

      lf : f p < 2 * m
      lf = b.forth p (t.first_corner)

      z : List ℕ
      z = (((s ++ x ∷ []) ++ r) ++ twin p ∷ []) ++ d ∷ []

      front : ring (2 * m) (face f) (f p) ≡ ((s ++ x ∷ []) ++ r) ++ twin p ∷ []
      front = h ∙ sym (append_assoc (s ++ x ∷ []) r (twin p ∷ []))

      joined : ring (2 * m) (exchange (twin p) (twin d) (face f)) (f p) ≡ (((s ++ x ∷ []) ++ r) ++ twin p ∷ []) ++ ((d ∷ []) ++ twin d ∷ [])
      joined = ring-joined (2 * m) (face f) (λ w. twin (g w)) (face-permutes m f g b) (f p) d (twin p) (twin d) ((s ++ x ∷ []) ++ r) (d ∷ []) lf ld
          (faces-apart m f g b d ld alone twin-alone p q (t.first_corner) (t.last_corner) po.0 po.1 qo.0 qo.1) front dead-face

      whole : ring (2 * m) (face (exchange p d f)) (f p) ≡ z ++ twin d ∷ []
      whole = ap (λ (k : ℕ → ℕ). ring (2 * m) k (f p)) (face-exchange p d f) ∙ joined ∙ sym (append_assoc (((s ++ x ∷ []) ++ r) ++ twin p ∷ []) (d ∷ []) (twin d ∷ []))

      apart : is_member (twin d) z ≡ false
      apart = false_from_ne_true (is_member (twin d) z) (λ i. both_ways (is_member (twin d) (twin d ∷ [])) (distinct-append_apart z (twin d ∷ []) (ap is_distinct (sym whole) ∙ ring-distinct (2 * m) after (λ w. twin (back_after p d g w)) permutes (f p) lf) (twin d) i) (member-head (twin d) []))

      tidy : z ≡ (s ++ x ∷ []) ++ ((r ++ twin p ∷ []) ++ d ∷ [])
      tidy = simp append_assoc

  -- the last edge put in: the face falls in two
  last-rings : (s r : List ℕ) → ring (2 * m) (face f) (f p) ≡ (s ++ twin q ∷ []) ++ (r ++ twin p ∷ [])
      → (ring (2 * m) (face (inserted d p q f)) (twin d) ≡ (twin d ∷ s) ++ twin q ∷ []) × (ring (2 * m) (face (inserted d p q f)) (first_or (twin p) r) ≡ (r ++ twin p ∷ []) ++ d ∷ [])
  last-rings s r h = (
    ap (λ (k : ℕ → ℕ). ring (2 * m) k (twin d)) same ∙ ring-parted (2 * m) after back permutes (twin d) (twin q) d (twin d ∷ s) (r ++ twin p ∷ []) lt (loose-ring s r (twin q) h),
    ap₂ (ring (2 * m)) same (sym (first_or-append d r (twin p ∷ []))) ∙ ring-parted_second (2 * m) after back permutes (twin d) (twin q) d (twin d ∷ s) (r ++ twin p ∷ []) lt (loose-ring s r (twin q) h),
  )
    where
      after : ℕ → ℕ
      after = face (exchange p d f)

      back : ℕ → ℕ
      back w = twin (back_after p d g w)

      permutes : Permutes (2 * m) (face (exchange p d f)) (λ w. twin (back_after p d g w))
      permutes = face-permutes m (exchange p d f) (back_after p d g) loose-map

      lt : twin d < 2 * m
      lt = twin-below m d ld

      same : face (inserted d p q f) ≡ exchange (twin q) d (face (exchange p d f))
      same = face-exchange q (twin d) (exchange p d f) ∙ ap (λ (w : ℕ). exchange (twin q) w (face (exchange p d f))) (twin-twin d)

-- a path put in between two corners of one face keeps the defect
pub path-defect : (m : ℕ) (path : List ℕ) (f g : ℕ → ℕ) → IsMap m f g → (p d q : ℕ) → IsFreshPath m f p d path q → same_face m f (twin p) (twin q) ≡ true → SameDefect m f (path_inserted p d path q f)
path-defect m [] f g b p d q t w = loose-insert m f g b p d [] q t w
path-defect m (c ∷ path) f g b p d q t w = same-defect-over m f (exchange p d f) (path_inserted (twin d) c path q (exchange p d f)) (loose-defect m f g b p d (c ∷ path) q t)
    (path-defect m path (exchange p d f) (back_after p d g) (loose-map m f g b p d (c ∷ path) q t) (twin d) c q (fresh-step m f p d c path q t) (loose-faces m f g b p d (c ∷ path) q t w))

-- a path put in between corners of different faces of one component raises the defect by two
pub path-across : (m : ℕ) (path : List ℕ) (f g : ℕ → ℕ) → IsMap m f g → (p d q : ℕ) → IsFreshPath m f p d path q → same_component m f p q ≡ true → same_face m f (twin p) (twin q) ≡ false → vertex_count m f + face_count m f + 2 * component_count m (path_inserted p d path q f) ≡ vertex_count m (path_inserted p d path q f) + face_count m (path_inserted p d path q f) + 2 * component_count m f + 2
path-across m [] f g b p d q t h w = loose-across m f g b p d [] q t h w
path-across m (c ∷ path) f g b p d q t h w =
    let s = path-across m path (exchange p d f) (back_after p d g) (loose-map m f g b p d (c ∷ path) q t) (twin d) c q (fresh-step m f p d c path q t) (loose-together m f g b p d (c ∷ path) q t h) (loose-apart m f g b p d (c ∷ path) q t w) in
    omega (arith, s, loose-defect m f g b p d (c ∷ path) q t)

-- so where the map with the path is plane, the path lies in one face
pub path-face : (m : ℕ) (path : List ℕ) (f g : ℕ → ℕ) → IsMap m f g → (p d q : ℕ) → IsFreshPath m f p d path q → same_component m f p q ≡ true → IsPlane m (path_inserted p d path q f) → same_face m f (twin p) (twin q) ≡ true
path-face m path f g b p d q t h k = true_from_ne_false (same_face m f (twin p) (twin q)) (λ w. let s = path-across m path f g b p d q t h w in absurd (omega (arith, s, k, euler m f g b)))

-- the face from the corner p to the corner q and on to p again falls in two: the one keeps the way from p to q, and goes
-- back along the path; the other keeps the way from q to p, and goes on along the path
pub path-rings : (m : ℕ) (path : List ℕ) (f g : ℕ → ℕ) → IsMap m f g → (p d q : ℕ) → IsFreshPath m f p d path q → (s r : List ℕ) → ring (2 * m) (face f) (f p) ≡ (s ++ twin q ∷ []) ++ (r ++ twin p ∷ [])
    → (ring (2 * m) (face (path_inserted p d path q f)) (twin (path_last d path)) ≡ twins_behind (d ∷ path) s ++ twin q ∷ []) × (ring (2 * m) (face (path_inserted p d path q f)) (first_or (twin p) r) ≡ (r ++ twin p ∷ []) ++ (d ∷ path))
path-rings m [] f g b p d q t s r h = last-rings m f g b p d [] q t s r h
path-rings m (c ∷ path) f g b p d q t s r h = let w = path-rings m path (exchange p d f) (back_after p d g) (loose-map m f g b p d (c ∷ path) q t) (twin d) c q (fresh-step m f p d c path q t) (twin d ∷ s) (r ++ twin p ∷ [])
    (ap (ring (2 * m) (face (exchange p d f))) (loose-twin m f g b p d (c ∷ path) q t) ∙ loose-ring m f g b p d (c ∷ path) q t s r (twin q) h ∙ ap (λ (z : ℕ). ((twin d ∷ s) ++ twin q ∷ []) ++ ((r ++ twin p ∷ []) ++ z ∷ [])) (sym (twin-twin d))) in
    (w.0, ap (ring (2 * m) (face (path_inserted (twin d) c path q (exchange p d f)))) (sym (ap (λ (z : ℕ). first_or z (r ++ twin p ∷ [])) (twin-twin d) ∙ first_or-append d r (twin p ∷ []))) ∙ w.1 ∙ ap (λ (z : ℕ). ((r ++ twin p ∷ []) ++ z ∷ []) ++ (c ∷ path)) (twin-twin d) ∙ append_assoc (r ++ twin p ∷ []) (d ∷ []) (c ∷ path))
