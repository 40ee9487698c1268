-- A path drawn into a face: the other faces stay as they are.
use Rattle.std.proofs.Common.{◌≡◌, ℕ, ◌*◌, ◌/◌, ◌<◌, inl, inr, true, false, ◌==◌, List, [], ◌∷◌, refl, sym, ap, ◌∙◌, subst}
use Rattle.std.proofs.lemmas.Bool.{cases_Bool, both_ways, false_from_ne_true, eq-eqb, eqb-true, cases_eq}
use mathlib.Core.Path.{fun_ext}
use Rattle.permutations.specs.Exchange.{exchange}
use Rattle.permutations.specs.Members.{is_member}
use Rattle.permutations.specs.Permutation.{Permutes, same_orbit}
use Rattle.permutations.specs.Relation.{IsEquivalence, join}
use Rattle.permutations.proofs.Members.{member-head, member-tail}
use Rattle.permutations.proofs.Orbits.{orbit-equivalence, orbit-kept}
use Rattle.permutations.proofs.Permutations.{exchange-left, exchange-other}
use Rattle.permutations.proofs.Relation.{same-tests, join-old, join-cases}
use Rattle.permutations.proofs.Transpositions.{exchange-join, exchange-split}
use Rattle.multigraph.specs.Graph.{edge_count, other_end}
use Rattle.graph_theory.specs.Path.{IsWalk}
use Rattle.dart_maps.specs.Map.{twin, face, IsMap, same_face}
use Rattle.dart_maps.specs.Path.{path_inserted}
use Rattle.dart_maps.proofs.Darts.{twin-twin, twin-below, twin-edge, edge-twin, face-permutes, face-exchange}
use Rattle.dart_maps.proofs.Steps.{back_after, step-map}
use Rattle.faces.specs.Euler.{dart_from, dart_count}
use Rattle.faces.proofs.DartLemmas.{dart_from-edge, dart_from-below}
use Rattle.path_separation.specs.Drawn.{darts_along}
use Rattle.path_separation.specs.Laws.{OtherFacesStay}

-- exchanging a number with itself changes nothing
exchange-same : (p : ℕ) (f : ℕ → ℕ) → exchange p p f ≡ f
exchange-same p f = fun_ext (λ x. elim (cases_eq x p) [
  | inl e ↦ ap (exchange p p f) e ∙ exchange-left p p f ∙ ap f (sym e)
  | inr a ↦ exchange-other p p f x a a
])

-- an exchange leaves an orbit that has neither of the two numbers
exchange-away : (n : ℕ) (f g : ℕ → ℕ) → Permutes n f g → (p q : ℕ) → p < n → q < n → (a : ℕ) → same_orbit n f a p ≡ false → same_orbit n f a q ≡ false → (b : ℕ) → same_orbit n (exchange p q f) a b ≡ same_orbit n f a b
exchange-away n f g r p q l k a op oq b = elim (cases_eq p q) [
  | inl e ↦ ap (λ (h : ℕ → ℕ). same_orbit n h a b) (subst (λ z. exchange p z f ≡ f) e (exchange-same p f))
  | inr o ↦ elim (cases_Bool (same_orbit n f p q)) [
    | inr t ↦ exchange-join n f g r p q l k t a b ∙ same-tests (join (same_orbit n f) p q a b) (same_orbit n f a b)
        (λ h. elim (join-cases (same_orbit n f) p q a b h) [
          | inl u ↦ u
          | inr u ↦ elim u [ inl v ↦ absurd (both_ways (same_orbit n f a p) op v.0) | inr v ↦ absurd (both_ways (same_orbit n f a q) oq v.0) ]
        ])
        (join-old (same_orbit n f) p q a b)
    | inl t ↦ same-tests (same_orbit n (exchange p q f) a b) (same_orbit n f a b)
        (λ h. exchange-split n f g r p q l k o t a b ∙ join-old (same_orbit n (exchange p q f)) p q a b h)
        (λ h. elim (join-cases (same_orbit n (exchange p q f)) p q a b (sym (exchange-split n f g r p q l k o t a b) ∙ h)) [
          | inl u ↦ u
          | inr u ↦ elim u [
            | inl v ↦ absurd (both_ways (same_orbit n f a p) op (exchange-split n f g r p q l k o t a p ∙ join-old (same_orbit n (exchange p q f)) p q a p v.0))
            | inr v ↦ absurd (both_ways (same_orbit n f a q) oq (exchange-split n f g r p q l k o t a q ∙ join-old (same_orbit n (exchange p q f)) p q a q v.0))
          ]
        ])
  ]
]

-- the face of a is that of neither dart of these darts' edges
abbrev pub OffFaces : ℕ → (ℕ → ℕ) → ℕ → List ℕ → Type 0
OffFaces m f a [] = Unit {0}
OffFaces m f a (d ∷ path) = (d < 2 * m) × (same_face m f a d ≡ false) × (same_face m f a (twin d) ≡ false) × OffFaces m f a path

module _ (m a : ℕ) where
  -- an exchange at corners of other faces
  face-away : (f g : ℕ → ℕ) → IsMap m f g → (p q : ℕ) → p < 2 * m → q < 2 * m → same_face m f a (twin p) ≡ false → same_face m f a (twin q) ≡ false → (b : ℕ) → same_face m (exchange p q f) a b ≡ same_face m f a b
  face-away f g r p q l k op oq b = ap (λ (s : ℕ → ℕ). same_orbit (2 * m) s a b) (face-exchange p q f)
      ∙ exchange-away (2 * m) (face f) (λ z. twin (g z)) (face-permutes m f g r) (twin p) (twin q) (twin-below m p l) (twin-below m q k) a op oq b

  off-step : (f h : ℕ → ℕ) → ((b : ℕ) → same_face m h a b ≡ same_face m f a b) → (path : List ℕ) → OffFaces m f a path → OffFaces m h a path
  off-step f h s [] o = tt
  off-step f h s (d ∷ path) o = (o.0, s d ∙ o.1, s (twin d) ∙ o.2, off-step f h s path o.3)

  -- a path inserted between corners of other faces
  pub path-away : (path : List ℕ) (f g : ℕ → ℕ) → IsMap m f g → (p d q : ℕ) → p < 2 * m → q < 2 * m → same_face m f a (twin p) ≡ false → same_face m f a (twin q) ≡ false → OffFaces m f a (d ∷ path)
      → (b : ℕ) → same_face m (path_inserted p d path q f) a b ≡ same_face m f a b
  path-away [] f g r p d q l k op oq o b =
      let one : (z : ℕ) → same_face m (exchange p d f) a z ≡ same_face m f a z = face-away f g r p d l o.0 op o.2 in
      face-away (exchange p d f) (back_after p d g) (step-map m f g r p d l o.0) q (twin d) k (twin-below m d o.0) (one (twin q) ∙ oq)
      (subst (λ z. same_face m (exchange p d f) a z ≡ false) (sym (twin-twin d)) (one d ∙ o.1)) b ∙ one b
  path-away (c ∷ path) f g r p d q l k op oq o b =
      let one : (z : ℕ) → same_face m (exchange p d f) a z ≡ same_face m f a z = face-away f g r p d l o.0 op o.2 in
      path-away path (exchange p d f) (back_after p d g) (step-map m f g r p d l o.0) (twin d) c q (twin-below m d o.0) k
      (subst (λ z. same_face m (exchange p d f) a z ≡ false) (sym (twin-twin d)) (one d ∙ o.1)) (one (twin q) ∙ oq) (off-step f (exchange p d f) one (c ∷ path) o.3) b ∙ one b

-- the face of an edge whose darts are alone has no other darts
dead-face : (m : ℕ) (f g : ℕ → ℕ) → IsMap m f g → (a d : ℕ) → f d ≡ d → f (twin d) ≡ twin d → same_face m f a d ≡ true → a / 2 ≡ d / 2
dead-face m f g r a d h i t = eqb-true (a / 2) (d / 2) (sym (orbit-kept (2 * m) (face f) (λ z. twin (g z)) (face-permutes m f g r) (λ z. z / 2 == d / 2) kept d a
    ((orbit-equivalence (2 * m) (face f)).symmetric a d t)) ∙ eq-eqb (d / 2) (d / 2) refl)
  where
    kept : (z : ℕ) → z < 2 * m → (z / 2 == d / 2) ≡ true → (face f z / 2 == d / 2) ≡ true
    kept z l u = elim (edge-twin z d (eqb-true (z / 2) (d / 2) u)) [
      | inl e ↦ eq-eqb (face f z / 2) (d / 2) (ap (λ y. f (twin y) / 2) e ∙ ap (λ y. y / 2) i ∙ twin-edge d)
      | inr e ↦ eq-eqb (face f z / 2) (d / 2) (ap (λ y. f (twin y) / 2) e ∙ ap (λ y. f y / 2) (twin-twin d) ∙ ap (λ y. y / 2) h)
    ]

-- a path of undrawn edges inserted between two corners of one face: each other face of drawn darts stays
pub other-faces_stay : OtherFacesStay
other-faces_stay g ok drawn next previous s x e es w undrawn c k lc lk f a la ha n b =
    path-away (edge_count g) a (darts_along g (other_end g e x) es) next previous s.permutes c (dart_from g x e) k lc lk (off c n) (off k far) (away (e ∷ es) x w undrawn) b
  where
    faces : IsEquivalence (same_face (edge_count g) next)
    faces = orbit-equivalence (dart_count g) (face next)

    off : (y : ℕ) → same_face (edge_count g) next (twin y) a ≡ false → same_face (edge_count g) next a (twin y) ≡ false
    off y o = false_from_ne_true (same_face (edge_count g) next a (twin y)) (λ t. both_ways (same_face (edge_count g) next (twin y) a) o (faces.symmetric a (twin y) t))

    far : same_face (edge_count g) next (twin k) a ≡ false
    far = false_from_ne_true (same_face (edge_count g) next (twin k) a) (λ t. both_ways (same_face (edge_count g) next (twin c) a) n (faces.transitive (twin c) (twin k) a f t))

    dead : (d : ℕ) → d < dart_count g → drawn (d / 2) ≡ false → same_face (edge_count g) next a d ≡ false
    dead d l u = false_from_ne_true (same_face (edge_count g) next a d) (λ t. both_ways (drawn (d / 2)) u (ap drawn
        (sym (dead-face (edge_count g) next previous s.permutes a d (s.alone d l u) (s.alone (twin d) (twin-below (edge_count g) d l) (ap drawn (twin-edge d) ∙ u)) t)) ∙ ha))

    away : (fs : List ℕ) (y : ℕ) → IsWalk g y fs → ((h : ℕ) → is_member h fs ≡ true → drawn h ≡ false) → OffFaces (edge_count g) next a (darts_along g y fs)
    away [] y v u = tt
    away (h ∷ fs) y v u =
        let d : ℕ = dart_from g y h in
        let l : d < dart_count g = dart_from-below g y h v.0.0 in
        let i : drawn (d / 2) ≡ false = ap drawn (dart_from-edge g y h) ∙ u h (member-head h fs) in
        (l, dead d l i, dead (twin d) (twin-below (edge_count g) d l) (ap drawn (twin-edge d) ∙ i), away fs (other_end g h y) v.1 (λ z m. u z (member-tail z h fs m)))
