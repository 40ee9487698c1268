-- Maps whose vertices are told by a function: what contracting an edge, or one dart more at a vertex, makes of the function.
use Rattle.std.proofs.Common.{◌≡◌, ◌≢◌, ℕ, ◌*◌, ◌<◌, ◌⊎◌, inl, inr, Bool, true, false, ◌||◌, ◌==◌, sym, ap, ◌∙◌, subst}
use Rattle.std.proofs.lemmas.Bool.{both_ways, eq-eqb, eqb-true, ne_eqb, or_cases, false_from_ne_true}
use Rattle.permutations.specs.Relation.{IsEquivalence, join}
use Rattle.permutations.specs.Exchange.{exchange}
use Rattle.permutations.proofs.Relation.{same-tests, join-old, join-across, join-back, join-cases}
use Rattle.permutations.proofs.Orbits.{orbit-equivalence}
use Rattle.permutations.proofs.Transpositions.{exchange-join}
use Rattle.permutations.proofs.Unlinking.{alone-orbit, before-orbit}
use Rattle.dart_maps.specs.Map.{twin, IsMap, same_vertex}
use Rattle.dart_maps.specs.Changes.{contracted}
use Rattle.dart_maps.proofs.Darts.{twin-below}
use Rattle.dart_maps.proofs.Contract.{contracted-vertex}

-- of the darts that pass `live`, two are of one vertex exactly where `at` has one value on them
abbrev pub AreVertices : ℕ → (ℕ → ℕ) → (ℕ → Bool) → (ℕ → ℕ) → Type 0
AreVertices m f live at = (c d : ℕ) → c < 2 * m → d < 2 * m → live c ≡ true → live d ≡ true → same_vertex m f c d ≡ (at c == at d)

-- darts of one vertex have one value, and darts of one value one vertex
pub vertices-say : (m : ℕ) (f : ℕ → ℕ) (live : ℕ → Bool) (at : ℕ → ℕ) → AreVertices m f live at → (c d : ℕ) → c < 2 * m → d < 2 * m → live c ≡ true → live d ≡ true → same_vertex m f c d ≡ true → at c ≡ at d
vertices-say m f live at a c d l k u w h = eqb-true (at c) (at d) (sym (a c d l k u w) ∙ h)

pub vertices-from : (m : ℕ) (f : ℕ → ℕ) (live : ℕ → Bool) (at : ℕ → ℕ) → AreVertices m f live at → (c d : ℕ) → c < 2 * m → d < 2 * m → live c ≡ true → live d ≡ true → at c ≡ at d → same_vertex m f c d ≡ true
vertices-from m f live at a c d l k u w h = a c d l k u w ∙ eq-eqb (at c) (at d) h

-- darts of different values have different vertices
pub vertices-apart : (m : ℕ) (f : ℕ → ℕ) (live : ℕ → Bool) (at : ℕ → ℕ) → AreVertices m f live at → (c d : ℕ) → c < 2 * m → d < 2 * m → live c ≡ true → live d ≡ true → at c ≢ at d → same_vertex m f c d ≡ false
vertices-apart m f live at a c d l k u w h = a c d l k u w ∙ ne_eqb (at c) (at d) h

-- u and v are equal, or are a and b
abbrev pub SameBut : ℕ → ℕ → ℕ → ℕ → Type 0
SameBut a b u v = (u ≡ v) ⊎ (((u ≡ a) × (v ≡ b)) ⊎ ((u ≡ b) × (v ≡ a)))

-- an edge between two vertices is contracted, and `merge` makes one value of those two alone
module _ (m : ℕ) (f g : ℕ → ℕ) (e : IsMap m f g) (live : ℕ → Bool) (at : ℕ → ℕ) (told : AreVertices m f live at) (d : ℕ) (l : d < 2 * m) (here : live d ≡ true) (there : live (twin d) ≡ true) (apart : at d ≢ at (twin d))
    (merge : ℕ → ℕ) (merged : merge (at d) ≡ merge (at (twin d))) (once : (x y : ℕ) → x < 2 * m → y < 2 * m → live x ≡ true → live y ≡ true → merge (at x) ≡ merge (at y) → SameBut (at d) (at (twin d)) (at x) (at y)) where
  -- the edge joins two vertices
  pub ends-apart : same_vertex m f d (twin d) ≡ false
  ends-apart = vertices-apart m f live at told d (twin d) l (twin-below m d l) here there apart

  -- the vertices of the contracted map are told by the merged values
  pub contracted-vertices : (x y : ℕ) → x < 2 * m → y < 2 * m → live x ≡ true → live y ≡ true → (x ≡ d → ⊥) → (x ≡ twin d → ⊥) → (y ≡ d → ⊥) → (y ≡ twin d → ⊥) → same_vertex m (contracted d f) x y ≡ (merge (at x) == merge (at y))
  contracted-vertices x y lx ly ux uy xd xt yd yt =
      contracted-vertex m f g e d l ends-apart x y xd xt yd yt
      ∙ same-tests (join (same_vertex m f) (g d) (twin d) x y) (merge (at x) == merge (at y)) (λ h. eq-eqb (merge (at x)) (merge (at y)) (forth h)) (λ h. back (once x y lx ly ux uy (eqb-true (merge (at x)) (merge (at y)) h)))
    where
      r : IsEquivalence (same_vertex m f)
      r = orbit-equivalence (2 * m) f

      lt : twin d < 2 * m
      lt = twin-below m d l

      before : same_vertex m f (g d) d ≡ true
      before = before-orbit (2 * m) d f g e l

      say : (c b : ℕ) → c < 2 * m → b < 2 * m → live c ≡ true → live b ≡ true → same_vertex m f c b ≡ true → at c ≡ at b
      say = vertices-say m f live at told

      forth : join (same_vertex m f) (g d) (twin d) x y ≡ true → merge (at x) ≡ merge (at y)
      forth h = elim (join-cases (same_vertex m f) (g d) (twin d) x y h) [
        | inl t ↦ ap merge (say x y lx ly ux uy t)
        | inr w ↦ elim w [
          | inl t ↦ ap merge (say x d lx l ux here (r.transitive x (g d) d t.0 before)) ∙ merged ∙ ap merge (say (twin d) y lt ly there uy t.1)
          | inr t ↦ ap merge (say x (twin d) lx lt ux there t.0) ∙ sym merged ∙ ap merge (say d y l ly here uy (r.transitive d (g d) y (r.symmetric (g d) d before) t.1))
        ]
      ]

      from : (c b : ℕ) → c < 2 * m → b < 2 * m → live c ≡ true → live b ≡ true → at c ≡ at b → same_vertex m f c b ≡ true
      from = vertices-from m f live at told

      back : SameBut (at d) (at (twin d)) (at x) (at y) → join (same_vertex m f) (g d) (twin d) x y ≡ true
      back (inl q) = join-old (same_vertex m f) (g d) (twin d) x y (from x y lx ly ux uy q)
      back (inr (inl q)) = join-across (same_vertex m f) (g d) (twin d) x y
          (r.transitive x d (g d) (from x d lx l ux here q.0) (r.symmetric (g d) d before))
          (from (twin d) y lt ly there uy (sym q.1))
      back (inr (inr q)) = join-back (same_vertex m f) (g d) (twin d) x y
          (from x (twin d) lx lt ux there q.0)
          (r.transitive (g d) d y before (from d y l ly here uy (sym q.1)))

-- a dart that was alone is put in behind p
module _ (m : ℕ) (f g : ℕ → ℕ) (e : IsMap m f g) (live : ℕ → Bool) (at : ℕ → ℕ) (told : AreVertices m f live at) (p d : ℕ) (lp : p < 2 * m) (ld : d < 2 * m) (lives : live p ≡ true) (dead : live d ≡ false) (alone : f d ≡ d) (goes : at d ≡ at p) where
  -- p is not d
  differ : p ≡ d → ⊥
  differ q = both_ways (live d) dead (subst (λ z. live z ≡ true) q lives)

  -- so d is at another vertex than all that live
  off : (x : ℕ) → live x ≡ true → same_vertex m f x d ≡ false
  off x u = false_from_ne_true (same_vertex m f x d) (λ t. both_ways (live d) dead (subst (λ z. live z ≡ true) (sym (alone-orbit (2 * m) d f g e ld alone x ((orbit-equivalence (2 * m) f).symmetric x d t))) u))

  -- one dart more lives
  pub put-vertices : AreVertices m (exchange p d f) (λ x. live x || (x == d)) at
  put-vertices x y lx ly ux uy =
      exchange-join (2 * m) f g e p d lp ld (off p lives) x y
      ∙ same-tests (join (same_vertex m f) p d x y) (at x == at y) (λ h. eq-eqb (at x) (at y) (forth h)) (λ h. back (eqb-true (at x) (at y) h))
    where
      r : IsEquivalence (same_vertex m f)
      r = orbit-equivalence (2 * m) f

      say : (c b : ℕ) → c < 2 * m → b < 2 * m → live c ≡ true → live b ≡ true → same_vertex m f c b ≡ true → at c ≡ at b
      say = vertices-say m f live at told

      from : (c b : ℕ) → c < 2 * m → b < 2 * m → live c ≡ true → live b ≡ true → at c ≡ at b → same_vertex m f c b ≡ true
      from = vertices-from m f live at told

      alone-at : (z : ℕ) → same_vertex m f d z ≡ true → d ≡ z
      alone-at z t = alone-orbit (2 * m) d f g e ld alone z t

      -- a dart that lives now lived, or is d
      which : (z : ℕ) → (live z || (z == d)) ≡ true → (live z ≡ true) ⊎ (z ≡ d)
      which z h = elim (or_cases (live z) (z == d) h) [ inl t ↦ inl t | inr t ↦ inr (eqb-true z d t) ]

      -- the value where it is related to p or to d
      near-p : (z : ℕ) → z < 2 * m → (live z ≡ true) ⊎ (z ≡ d) → same_vertex m f z p ≡ true → at z ≡ at p
      near-p z k (inl u) t = say z p k lp u lives t
      near-p z k (inr q) t = absurd (differ (sym (alone-at p (subst (λ w. same_vertex m f w p ≡ true) q t))))

      near-d : (z : ℕ) → same_vertex m f d z ≡ true → at z ≡ at p
      near-d z t = ap at (sym (alone-at z t)) ∙ goes

      forth : join (same_vertex m f) p d x y ≡ true → at x ≡ at y
      forth h = elim (join-cases (same_vertex m f) p d x y h) [
        | inl t ↦ same x y (which x ux) (which y uy) lx ly t
        | inr w ↦ elim w [
          | inl t ↦ near-p x lx (which x ux) t.0 ∙ sym (near-d y t.1)
          | inr t ↦ near-d x (r.symmetric x d t.0) ∙ sym (near-p y ly (which y uy) (r.symmetric p y t.1))
        ]
      ]
        where
          same : (c b : ℕ) → (live c ≡ true) ⊎ (c ≡ d) → (live b ≡ true) ⊎ (b ≡ d) → c < 2 * m → b < 2 * m → same_vertex m f c b ≡ true → at c ≡ at b
          same c b (inl u) (inl w) lc lb t = say c b lc lb u w t
          same c b (inr q) w lc lb t = ap at (q ∙ alone-at b (subst (λ z. same_vertex m f z b ≡ true) q t))
          same c b (inl u) (inr q) lc lb t = ap at (sym (alone-at c (r.symmetric c d (subst (λ z. same_vertex m f c z ≡ true) q t))) ∙ sym q)

      back : at x ≡ at y → join (same_vertex m f) p d x y ≡ true
      back q = both (which x ux) (which y uy)
        where
          both : (live x ≡ true) ⊎ (x ≡ d) → (live y ≡ true) ⊎ (y ≡ d) → join (same_vertex m f) p d x y ≡ true
          both (inl u) (inl w) = join-old (same_vertex m f) p d x y (from x y lx ly u w q)
          both (inl u) (inr j) = join-across (same_vertex m f) p d x y (from x p lx lp u lives (q ∙ ap at j ∙ goes)) (subst (λ z. same_vertex m f d z ≡ true) (sym j) (r.reflexive d))
          both (inr i) (inl w) = join-back (same_vertex m f) p d x y (subst (λ z. same_vertex m f z d ≡ true) (sym i) (r.reflexive d)) (from p y lp ly lives w (sym goes ∙ ap at (sym i) ∙ q))
          both (inr i) (inr j) = join-old (same_vertex m f) p d x y (subst (λ z. same_vertex m f z y ≡ true) (sym i) (subst (λ z. same_vertex m f d z ≡ true) (sym j) (r.reflexive d)))
