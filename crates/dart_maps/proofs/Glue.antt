-- Two components glued along an edge of each: the two-sum of plane maps is plane.
use Rattle.std.proofs.Common.{◌≡◌, ℕ, zero, suc, ◌*◌, ◌<◌, inl, inr, Bool, true, false, not, refl, sym, ap, ◌∙◌, subst, arith, eq-eqb}
use Rattle.std.proofs.lemmas.Bool.{cases_Bool, cases_eq, both_ways, false_from_ne_true, ne_eqb}
use Rattle.permutations.specs.Relation.{IsEquivalence}
use Rattle.permutations.specs.Permutation.{iterate}
use Rattle.permutations.specs.Exchange.{exchange}
use Rattle.permutations.proofs.Relation.{join-cases, join-link}
use Rattle.permutations.proofs.Permutations.{permutes-back, permutes-ext, exchange-left, exchange-right, exchange-other}
use Rattle.permutations.proofs.Orbits.{orbit-equivalence, orbit-step}
use Rattle.permutations.proofs.Transpositions.{exchange-join}
use Rattle.dart_maps.specs.Map.{twin, face, IsMap, same_vertex, same_face, same_component, IsPlane, SameDefect}
use Rattle.dart_maps.proofs.Darts.{twin-other, twin-below, face-twin}
use Rattle.dart_maps.proofs.Components.{component-equivalence, component-next, component-twin, vertex-component, face-component}
use Rattle.permutations.specs.Exchange.{restricted}
use Rattle.permutations.proofs.Unlinking.{before-orbit}
use Rattle.permutations.proofs.Restriction.{GoesOn, goes-restricted, restricted-permutes, restricted-alone}
use Rattle.dart_maps.specs.Changes.{glued}
use Rattle.dart_maps.specs.Order.{one_of_four}
use Rattle.dart_maps.proofs.Steps.{back_after, step-map, face-join}
use Rattle.dart_maps.proofs.Euler.{plane-ext}
use Rattle.dart_maps.proofs.Plane.{same-defect-over, same-defect-plane, merge-split-defect, merge-apart-defect, restricted-plane}
use Rattle.dart_maps.proofs.FourDarts.{four-members, four-none}

-- a number that is none of four
pub four-not : (a b c d x : ℕ) → (x ≡ a → ⊥) → (x ≡ b → ⊥) → (x ≡ c → ⊥) → (x ≡ d → ⊥) → one_of_four a b c d x ≡ false
four-not a b c d x i j k l = rw (ne_eqb x a i, ne_eqb x b j, ne_eqb x c k, ne_eqb x d l) refl

-- two edges of different components, each joining two vertices that have other darts too
module _ (m : ℕ) (f g : ℕ → ℕ) (b : IsMap m f g) (d e : ℕ) (ld : d < 2 * m) (le : e < 2 * m) (apart : same_component m f d e ≡ false) (vd : same_vertex m f d (twin d) ≡ false) (ve : same_vertex m f e (twin e) ≡ false) (nd : f d ≡ d → ⊥) (nt : f (twin d) ≡ twin d → ⊥) (ne : f e ≡ e → ⊥) (nw : f (twin e) ≡ twin e → ⊥) where
  -- the darts before the two twins
  abbrev p : ℕ
  p = g (twin d)

  -- and the other
  abbrev q : ℕ
  q = g (twin e)

  -- they are darts
  lp : g (twin d) < 2 * m
  lp = b.back (twin d) (twin-below m d ld)

  -- both of them
  lq : g (twin e) < 2 * m
  lq = b.back (twin e) (twin-below m e le)

  -- what follows them
  fp : f p ≡ twin d
  fp = b.forth_back (twin d) (twin-below m d ld)

  -- the second twin
  fq : f q ≡ twin e
  fq = b.forth_back (twin e) (twin-below m e le)

  -- components and vertices
  c : IsEquivalence (same_component m f)
  c = component-equivalence m f

  -- the relation of vertices
  v : IsEquivalence (same_vertex m f)
  v = orbit-equivalence (2 * m) f

  -- no dart is on both sides
  sides : (x y : ℕ) → same_component m f d x ≡ true → same_component m f e y ≡ true → x ≡ y → ⊥
  sides x y s t i = both_ways (same_component m f d e) apart (c.transitive d x e s (subst (λ (z : ℕ). same_component m f z e ≡ true) (sym i) (c.symmetric e y t)))

  -- both darts of d's edge and the dart before its twin are on the side of d
  side-d : same_component m f d d ≡ true
  side-d = c.reflexive d

  -- its twin
  side-t : same_component m f d (twin d) ≡ true
  side-t = component-twin m f d ld

  -- the dart before the twin
  side-p : same_component m f d (g (twin d)) ≡ true
  side-p = c.transitive d (twin d) (g (twin d)) side-t (c.symmetric (g (twin d)) (twin d) (vertex-component m f (g (twin d)) (twin d) (before-orbit (2 * m) (twin d) f g b (twin-below m d ld))))

  -- and likewise for e
  side-e : same_component m f e e ≡ true
  side-e = c.reflexive e

  -- its twin
  side-w : same_component m f e (twin e) ≡ true
  side-w = component-twin m f e le

  -- the dart before the twin
  side-q : same_component m f e (g (twin e)) ≡ true
  side-q = c.transitive e (twin e) (g (twin e)) side-w (c.symmetric (g (twin e)) (twin e) (vertex-component m f (g (twin e)) (twin e) (before-orbit (2 * m) (twin e) f g b (twin-below m e le))))

  -- the dart before a twin is at the twin's vertex, so it is neither dart's of the other end
  pd : g (twin d) ≡ d → ⊥
  pd i = both_ways (same_vertex m f d (twin d)) vd (subst (λ (z : ℕ). same_vertex m f z (twin d) ≡ true) i (before-orbit (2 * m) (twin d) f g b (twin-below m d ld)))

  -- the same of e
  qe : g (twin e) ≡ e → ⊥
  qe i = both_ways (same_vertex m f e (twin e)) ve (subst (λ (z : ℕ). same_vertex m f z (twin e) ≡ true) i (before-orbit (2 * m) (twin e) f g b (twin-below m e le)))

  -- nor the twin, which is not alone
  pt : g (twin d) ≡ twin d → ⊥
  pt i = nt (ap f (sym i) ∙ fp)

  -- the same of e
  qw : g (twin e) ≡ twin e → ⊥
  qw i = nw (ap f (sym i) ∙ fq)

  -- the vertices of d and e merged
  abbrev once : ℕ → ℕ
  once = exchange d e f

  -- its inverse
  once-map : IsMap m (exchange d e f) (back_after d e g)
  once-map = step-map m f g b d e ld le

  -- then those of the two twins
  abbrev twice : ℕ → ℕ
  twice = exchange p q (exchange d e f)

  -- the first step keeps the defect
  once-defect : SameDefect m f (exchange d e f)
  once-defect = merge-apart-defect m f g b d e ld le apart

  -- the two vertices of the second step are still different
  once-vertices : same_vertex m (exchange d e f) (g (twin d)) (g (twin e)) ≡ false
  once-vertices = false_from_ne_true (same_vertex m (exchange d e f) (g (twin d)) (g (twin e))) (λ t. elim (join-cases (same_vertex m f) d e p q (sym (exchange-join (2 * m) f g b d e ld le (false_from_ne_true (same_vertex m f d e) (λ u. both_ways (same_component m f d e) apart (vertex-component m f d e u))) p q) ∙ t)) [
    | inl h ↦ sides p p side-p (c.transitive e q p side-q (c.symmetric p q (vertex-component m f p q h))) refl
    | inr r ↦ elim r [
      | inl h ↦ both_ways (same_vertex m f d (twin d)) vd (v.transitive d p (twin d) (v.symmetric p d (h.0)) (before-orbit (2 * m) (twin d) f g b (twin-below m d ld)))
      | inr h ↦ sides p p side-p (c.symmetric p e (vertex-component m f p e (h.0))) refl
    ]
  ])

  -- the faces of the two twins are now one
  once-faces : same_face m (exchange d e f) (twin d) (twin e) ≡ true
  once-faces = face-join m f g b d e ld le (false_from_ne_true (same_face m f (twin d) (twin e)) (λ t. sides (twin d) (twin d) side-t (c.transitive e (twin e) (twin d) side-w (c.symmetric (twin d) (twin e) (face-component m f (twin d) (twin e) t))) refl)) (twin d) (twin e)
      ∙ join-link (same_face m f) (twin d) (twin e) (orbit-equivalence (2 * m) (face f))

  -- what follows p and q after the first step
  once-p : exchange d e f (g (twin d)) ≡ twin d
  once-p = exchange-other d e f p pd (sides p e side-p side-e) ∙ fp

  -- the same of q
  once-q : exchange d e f (g (twin e)) ≡ twin e
  once-q = exchange-other d e f q (λ i. sides d q side-d side-q (sym i)) qe ∙ fq

  -- so the corners p and q lie in one face
  once-corners : same_face m (exchange d e f) (twin (g (twin d))) (twin (g (twin e))) ≡ true
  once-corners = r.transitive (twin p) (twin d) (twin q)
      (subst (λ (z : ℕ). same_face m once (twin p) z ≡ true) (face-twin once p ∙ once-p) (orbit-step (2 * m) (face once) (twin p) (twin-below m p lp)))
      (r.transitive (twin d) (twin e) (twin q) once-faces
      (r.symmetric (twin q) (twin e) (subst (λ (z : ℕ). same_face m once (twin q) z ≡ true) (face-twin once q ∙ once-q) (orbit-step (2 * m) (face once) (twin q) (twin-below m q lq)))))
    where
      r : IsEquivalence (same_face m (exchange d e f))
      r = orbit-equivalence (2 * m) (face (exchange d e f))

  -- both steps keep the defect
  twice-defect : SameDefect m f (exchange p q (exchange d e f))
  twice-defect = same-defect-over m f (exchange d e f) (exchange p q (exchange d e f)) once-defect
      (merge-split-defect m (exchange d e f) (back_after d e g) once-map p q lp lq once-vertices once-corners)

  -- the map after both
  twice-map : IsMap m (exchange p q (exchange d e f)) (back_after p q (back_after d e g))
  twice-map = step-map m (exchange d e f) (back_after d e g) once-map p q lp lq

  -- what follows the darts before the twins after both
  twice-p : twice p ≡ twin e
  twice-p = exchange-left p q once ∙ once-q

  -- the same of q
  twice-q : twice q ≡ twin d
  twice-q = exchange-right p q once ∙ once-p

  -- and the four darts
  twice-d : twice d ≡ f e
  twice-d = exchange-other p q once d (λ i. pd (sym i)) (sides d q side-d side-q) ∙ exchange-left d e f

  -- at e
  twice-e : twice e ≡ f d
  twice-e = exchange-other p q once e (λ i. sides p e side-p side-e (sym i)) (λ i. qe (sym i)) ∙ exchange-right d e f

  -- at d's twin
  twice-t : twice (twin d) ≡ f (twin d)
  twice-t = exchange-other p q once (twin d) (λ i. pt (sym i)) (sides (twin d) q side-t side-q) ∙ exchange-other d e f (twin d) (twin-other d) (sides (twin d) e side-t side-e)

  -- at e's twin
  twice-w : twice (twin e) ≡ f (twin e)
  twice-w = exchange-other p q once (twin e) (λ i. sides p (twin e) side-p side-w (sym i)) (λ i. qw (sym i)) ∙ exchange-other d e f (twin e) (λ i. sides d (twin e) side-d side-w (sym i)) (twin-other e)

  -- all others go on as before
  twice-other : (x : ℕ) → (x ≡ d → ⊥) → (x ≡ e → ⊥) → (x ≡ p → ⊥) → (x ≡ q → ⊥) → twice x ≡ f x
  twice-other x i j k l = exchange-other p q once x k l ∙ exchange-other d e f x i j

  -- the darts that stay
  abbrev keep : ℕ → Bool
  keep x = not (one_of_four d (twin d) e (twin e) x)

  -- one of the four does not stay
  gone : (x : ℕ) → one_of_four d (twin d) e (twin e) x ≡ true → keep x ≡ false
  gone x t = rw t refl

  -- the others do
  kept : (x : ℕ) → one_of_four d (twin d) e (twin e) x ≡ false → keep x ≡ true
  kept x t = rw t refl

  -- what follows one of the four stays
  after-d : keep (f d) ≡ true
  after-d = kept (f d) (four-not d (twin d) e (twin e) (f d) nd (λ i. both_ways (same_vertex m f d (twin d)) vd (subst (λ (z : ℕ). same_vertex m f d z ≡ true) i (orbit-step (2 * m) f d ld))) (sides (f d) e near side-e) (sides (f d) (twin e) near side-w))
    where
      near : same_component m f d (f d) ≡ true
      near = component-next m f d ld

  -- what follows e
  after-e : keep (f e) ≡ true
  after-e = kept (f e) (four-not d (twin d) e (twin e) (f e) (λ i. sides d (f e) side-d near (sym i)) (λ i. sides (twin d) (f e) side-t near (sym i)) ne (λ i. both_ways (same_vertex m f e (twin e)) ve (subst (λ (z : ℕ). same_vertex m f e z ≡ true) i (orbit-step (2 * m) f e le))))
    where
      near : same_component m f e (f e) ≡ true
      near = component-next m f e le

  -- what follows d's twin
  after-t : keep (f (twin d)) ≡ true
  after-t = kept (f (twin d)) (four-not d (twin d) e (twin e) (f (twin d)) (λ i. both_ways (same_vertex m f d (twin d)) vd (v.symmetric (twin d) d (subst (λ (z : ℕ). same_vertex m f (twin d) z ≡ true) i (orbit-step (2 * m) f (twin d) (twin-below m d ld))))) nt (sides (f (twin d)) e near side-e) (sides (f (twin d)) (twin e) near side-w))
    where
      near : same_component m f d (f (twin d)) ≡ true
      near = c.transitive d (twin d) (f (twin d)) side-t (component-next m f (twin d) (twin-below m d ld))

  -- what follows e's twin
  after-w : keep (f (twin e)) ≡ true
  after-w = kept (f (twin e)) (four-not d (twin d) e (twin e) (f (twin e)) (λ i. sides d (f (twin e)) side-d near (sym i)) (λ i. sides (twin d) (f (twin e)) side-t near (sym i)) (λ i. both_ways (same_vertex m f e (twin e)) ve (v.symmetric (twin e) e (subst (λ (z : ℕ). same_vertex m f (twin e) z ≡ true) i (orbit-step (2 * m) f (twin e) (twin-below m e le))))) nw)
    where
      near : same_component m f e (f (twin e)) ≡ true
      near = c.transitive e (twin e) (f (twin e)) side-w (component-next m f (twin e) (twin-below m e le))

  -- a walk over one dart that goes
  over : (x y z : ℕ) → twice x ≡ y → one_of_four d (twin d) e (twin e) y ≡ true → twice y ≡ z → keep z ≡ true → GoesOn keep (exchange p q (exchange d e f)) x z
  over x y z i t j k = (1, sym j ∙ ap twice (sym i), k, between)
    where
      between : (n : ℕ) → n < 1 → keep (iterate twice (suc n) x) ≡ false
      between zero l = gone (twice x) (subst (λ (w : ℕ). one_of_four d (twin d) e (twin e) w ≡ true) (sym i) t)
      between (suc n) l = absurd (omega arith)

  -- the darts before p and q tell them apart
  not-p : (x : ℕ) → x < 2 * m → (f x ≡ twin d → ⊥) → x ≡ p → ⊥
  not-p x l h i = h (ap f i ∙ fp)

  -- the same of q
  not-q : (x : ℕ) → x < 2 * m → (f x ≡ twin e → ⊥) → x ≡ q → ⊥
  not-q x l h i = h (ap f i ∙ fq)

  -- the restriction of the map after both steps is the glued map
  glued-restricted : (x : ℕ) → x < 2 * m → restricted (2 * m) keep (exchange p q (exchange d e f)) x ≡ glued d e f x
  unfolding glued
  glued-restricted x l = elim (cases_Bool (one_of_four d (twin d) e (twin e) x)) [
    | inl t ↦ rw t (restricted-alone (2 * m) keep twice x (gone x t))
    | inr t ↦ rw t (let n = four-none d (twin d) e (twin e) x t in let go = goes-restricted (2 * m) keep twice (back_after p q (back_after d e g)) twice-map x l (kept x t) in
        elim (cases_eq (f x) d) [
          | inl i ↦ rw (eq-eqb (f x) d i) (go (f e) (over x d (f e) (twice-other x n.0 n.2 (not-p x l (λ j. twin-other d (sym j ∙ i))) (not-q x l (λ j. sides d (twin e) side-d side-w (sym i ∙ j))) ∙ i) (four-members d (twin d) e (twin e)).0 twice-d after-e))
          | inr i ↦ rw (ne_eqb (f x) d i) (elim (cases_eq (f x) e) [
            | inl j ↦ rw (eq-eqb (f x) e j) (go (f d) (over x e (f d) (twice-other x n.0 n.2 (not-p x l (λ k. sides (twin d) e side-t side-e (sym k ∙ j))) (not-q x l (λ k. twin-other e (sym k ∙ j))) ∙ j) (four-members d (twin d) e (twin e)).2 twice-e after-d))
            | inr j ↦ rw (ne_eqb (f x) e j) (elim (cases_eq (f x) (twin d)) [
              | inl k ↦ rw (eq-eqb (f x) (twin d) k) (go (f (twin e)) (over x (twin e) (f (twin e)) (ap twice (sym (permutes-back (2 * m) f g b x (twin d) l k)) ∙ twice-p) (four-members d (twin d) e (twin e)).3 twice-w after-w))
              | inr k ↦ rw (ne_eqb (f x) (twin d) k) (elim (cases_eq (f x) (twin e)) [
                | inl s ↦ rw (eq-eqb (f x) (twin e) s) (go (f (twin d)) (over x (twin d) (f (twin d)) (ap twice (sym (permutes-back (2 * m) f g b x (twin e) l s)) ∙ twice-q) (four-members d (twin d) e (twin e)).1 twice-t after-t))
                | inr s ↦ rw (ne_eqb (f x) (twin e) s) (go (f x) (0, sym (twice-other x n.0 n.2 (not-p x l k) (not-q x l s)), kept (f x) (four-not d (twin d) e (twin e) (f x) i k j s), λ u w. absurd (omega arith)))
              ])
            ])
          ])
        ])
  ]

  -- the glued map of a plane one is plane
  pub glue-plane : IsPlane m f → IsPlane m (glued d e f)
  glue-plane h = plane-ext m (restricted (2 * m) keep twice) (glued d e f) glued-restricted (restricted-plane m twice (back_after p q (back_after d e g)) twice-map (same-defect-plane m f twice twice-defect h) keep)

  -- the glued map is a map
  pub glued-map : IsMap m (glued d e f) (restricted (2 * m) (λ x. not (one_of_four d (twin d) e (twin e) x)) (back_after (g (twin d)) (g (twin e)) (back_after d e g)))
  glued-map = permutes-ext (2 * m) (restricted (2 * m) keep twice) (restricted (2 * m) keep (back_after p q (back_after d e g))) (glued d e f) (restricted (2 * m) keep (back_after p q (back_after d e g))) (restricted-permutes (2 * m) keep twice (back_after p q (back_after d e g)) twice-map) (λ x l. sym (glued-restricted x l)) (λ x l. refl)
