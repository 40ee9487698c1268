-- Smoothing a thin path to its first edge keeps the defect; read backwards, so does subdividing an edge.
use Rattle.std.proofs.Common.{◌≡◌, ℕ, ◌*◌, ◌/◌, ◌<◌, ◌⊎◌, inl, inr, true, false, ◌||◌, ◌==◌, List, [], ◌∷◌, refl, sym, ap, ◌∙◌, subst, eqb-true, eq-eqb}
use Rattle.std.proofs.lemmas.Bool.{cases_Bool, cases_eq, both_ways, or_cases, or_left, or_right, or_from, false_from_ne_true, ne_eqb}
use Rattle.permutations.proofs.Relation.{same-tests}
use Rattle.permutations.proofs.Permutations.{permutes-one-to-one, permutes-ext}
use Rattle.permutations.proofs.Orbits.{orbit-test}
use Rattle.dart_maps.specs.Map.{twin, IsMap, same_vertex, IsPlane, SameDefect}
use Rattle.dart_maps.proofs.Darts.{twin-other, twin-below, twin-edge, edge-twin}
use Rattle.dart_maps.specs.Changes.{contracted, dropped}
use Rattle.dart_maps.specs.Path.{IsThin, Avoids, IsThinPath, path_end, on_path, smoothed}
use Rattle.dart_maps.proofs.Steps.{back_after}
use Rattle.dart_maps.proofs.Plane.{same-defect-over, same-defect-ext, same-defect-plane, same-defect-back}
use Rattle.dart_maps.proofs.Contract.{contracted-here, contracted-twin, contracted-before, contracted-before-twin, contracted-other, follows-own, contract-defect, contracted-map}

-- a dart of a path's edge
pub smoothed-path : (c : ℕ) (path : List ℕ) (f : ℕ → ℕ) (x : ℕ) → on_path x path ≡ true → smoothed c path f x ≡ x
unfolding smoothed
smoothed-path c path f x h = rw h refl

-- the dart before the path
pub smoothed-start : (c : ℕ) (path : List ℕ) (f : ℕ → ℕ) → on_path c path ≡ false → smoothed c path f c ≡ f (path_end c path)
unfolding smoothed
smoothed-start c path f h = rw (h, eq-eqb c c refl) refl

-- the dart that was followed by the path's end
pub smoothed-end : (c : ℕ) (path : List ℕ) (f : ℕ → ℕ) (x : ℕ) → on_path x path ≡ false → (x ≡ c → ⊥) → f x ≡ path_end c path → smoothed c path f x ≡ c
unfolding smoothed
smoothed-end c path f x h a e = rw (h, ne_eqb x c a, eq-eqb (f x) (path_end c path) e) refl

-- all others
pub smoothed-other : (c : ℕ) (path : List ℕ) (f : ℕ → ℕ) (x : ℕ) → on_path x path ≡ false → (x ≡ c → ⊥) → (f x ≡ path_end c path → ⊥) → smoothed c path f x ≡ f x
unfolding smoothed
smoothed-other c path f x h a e = rw (h, ne_eqb x c a, ne_eqb (f x) (path_end c path) e) refl

-- a dart whose edge a list avoids is not on it
pub avoids-off : (c x : ℕ) (path : List ℕ) → Avoids c path → x / 2 ≡ c / 2 → on_path x path ≡ false
avoids-off c x [] a e = refl
avoids-off c x (p ∷ path) a e = or_from (x / 2 == p / 2) (on_path x path) (ne_eqb (x / 2) (p / 2) (λ i. a.0 (sym i ∙ e))) (avoids-off c x path a.1 e)

-- the end of a path is of another edge than a dart whose edge the path and its start avoid
pub end-apart : (c d : ℕ) (path : List ℕ) → (c / 2 ≡ d / 2 → ⊥) → Avoids d path → path_end c path / 2 ≡ d / 2 → ⊥
end-apart c d [] n a = n
end-apart c d (p ∷ path) n a = end-apart (twin p) d path (λ e. a.0 (sym (twin-edge p) ∙ e)) a.1

-- contracting an edge changes nothing at darts of other edges that are followed by darts of other edges
contract-away : (p : ℕ) (f : ℕ → ℕ) (x y : ℕ) → f x ≡ y → (x / 2 ≡ p / 2 → ⊥) → (y / 2 ≡ p / 2 → ⊥) → contracted p f x ≡ y
contract-away p f x y e a c = contracted-other p f x (λ i. a (ap (λ (z : ℕ). z / 2) i)) (λ i. a (ap (λ (z : ℕ). z / 2) i ∙ twin-edge p))
    (λ i. c (ap (λ (z : ℕ). z / 2) (sym e ∙ i))) (λ i. c (ap (λ (z : ℕ). z / 2) (sym e ∙ i) ∙ twin-edge p)) ∙ e

-- so a thin path stays thin when an edge that it avoids is contracted
thin-away : (p : ℕ) (f : ℕ → ℕ) (c : ℕ) (path : List ℕ) → (c / 2 ≡ p / 2 → ⊥) → Avoids p path → IsThin f c path → IsThin (contracted p f) c path
thin-away p f c [] n a t = tt
thin-away p f c (q ∷ path) n a t = (contract-away p f c q t.0 n a.0, contract-away p f q c t.1 a.0 n, thin-away p f (twin q) path (λ e. a.0 (sym (twin-edge q) ∙ e)) a.1 t.2)

-- the first step: a map, and a thin path's first inner vertex, with the darts c and p
module _ (m : ℕ) (f g : ℕ → ℕ) (b : IsMap m f g) (c p : ℕ) (l : c < 2 * m) (go : f c ≡ p) (back : f p ≡ c) (apart : p / 2 ≡ c / 2 → ⊥) where
  -- p is a dart
  step-dart : p < 2 * m
  step-dart = subst (λ (z : ℕ). z < 2 * m) go (b.forth c l)

  -- c and p are all darts of the vertex
  step-own : (x : ℕ) → same_vertex m f p x ≡ true → (x ≡ p) ⊎ (x ≡ c)
  step-own x t = elim (or_cases (x == p) (x == c) (sym (orbit-test (2 * m) f (λ z. (z == p) || (z == c)) (λ z k. same-tests ((f z == p) || (f z == c)) ((z == p) || (z == c))
      (λ h. elim (or_cases (f z == p) (f z == c) h) [
        | inl i ↦ or_right (z == p) (z == c) (eq-eqb z c (permutes-one-to-one (2 * m) f g b z c k l (eqb-true (f z) p i ∙ sym go)))
        | inr i ↦ or_left (z == p) (z == c) (eq-eqb z p (permutes-one-to-one (2 * m) f g b z p k step-dart (eqb-true (f z) c i ∙ sym back)))
      ])
      (λ h. elim (or_cases (z == p) (z == c) h) [
        | inl i ↦ or_right (f z == p) (f z == c) (eq-eqb (f z) c (ap f (eqb-true z p i) ∙ back))
        | inr i ↦ or_left (f z == p) (f z == c) (eq-eqb (f z) p (ap f (eqb-true z c i) ∙ go))
      ])) p x t) ∙ or_left (p == p) (p == c) (eq-eqb p p refl))) [
        | inl i ↦ inl (eqb-true x p i)
        | inr i ↦ inr (eqb-true x c i)
      ]

  -- so the edge of p joins two vertices
  step-joins : same_vertex m f p (twin p) ≡ false
  step-joins = false_from_ne_true (same_vertex m f p (twin p)) (λ t. elim (step-own (twin p) t) [
    | inl i ↦ twin-other p i
    | inr i ↦ apart (sym (twin-edge p) ∙ ap (λ (z : ℕ). z / 2) i)
  ])

  -- contracting it keeps the defect
  step-defect : SameDefect m f (contracted p f)
  step-defect = contract-defect m f g b p step-dart step-joins

  -- and makes a map
  step-contracted : IsMap m (contracted p f) (dropped p (back_after (g p) (twin p) g))
  step-contracted = contracted-map m f g b p step-dart step-joins

  -- c is not of p's edge
  off : (c ≡ p → ⊥) × (c ≡ twin p → ⊥)
  off = (λ i. apart (ap (λ (z : ℕ). z / 2) (sym i)), λ i. apart (sym (twin-edge p) ∙ ap (λ (z : ℕ). z / 2) (sym i)))

  -- c goes on to what followed the twin of p
  step-start : (f (twin p) ≡ twin p → ⊥) → contracted p f c ≡ f (twin p)
  step-start n = contracted-before p f c off.0 off.1 go ∙ follows-own (twin p) p f n

  -- what the twin of p followed is followed by c
  step-end : (x : ℕ) → (x ≡ p → ⊥) → (x ≡ twin p → ⊥) → f x ≡ twin p → contracted p f x ≡ c
  step-end x i j e = contracted-before-twin p f x i j e ∙ follows-own p (twin p) f (λ k. off.0 (sym back ∙ k)) ∙ back

  -- all others stay
  step-other : (x : ℕ) → x < 2 * m → (x ≡ p → ⊥) → (x ≡ twin p → ⊥) → (x ≡ c → ⊥) → (f x ≡ twin p → ⊥) → contracted p f x ≡ f x
  step-other x k i j n e = contracted-other p f x i j (λ o. n (permutes-one-to-one (2 * m) f g b x c k l (o ∙ sym go))) e

  -- a dart of p's edge is p or its twin
  own-edge : (x : ℕ) → (x ≡ p → ⊥) → (x ≡ twin p → ⊥) → (x / 2 == p / 2) ≡ false
  own-edge x i j = ne_eqb (x / 2) (p / 2) (λ e. elim (edge-twin x p e) [ inl o ↦ i o | inr o ↦ j o ])

-- the map smoothed along nothing is the map
smooth-none : (c : ℕ) (f : ℕ → ℕ) (x : ℕ) → smoothed c [] f x ≡ f x
smooth-none c f x = elim (cases_eq x c) [
  | inl e ↦ ap (smoothed c [] f) e ∙ smoothed-start c [] f refl ∙ ap f (sym e)
  | inr a ↦ elim (cases_eq (f x) c) [
    | inl e ↦ smoothed-end c [] f x refl a e ∙ sym e
    | inr e ↦ smoothed-other c [] f x refl a e
  ]
]

-- smoothing one edge is contracting it
smooth-one : (m : ℕ) (f g : ℕ → ℕ) → IsMap m f g → (c p : ℕ) → c < 2 * m → f c ≡ p → f p ≡ c → (p / 2 ≡ c / 2 → ⊥) → (f (twin p) ≡ twin p → ⊥) → (x : ℕ) → x < 2 * m → contracted p f x ≡ smoothed c (p ∷ []) f x
smooth-one m f g b c p l go back apart n x k = elim (cases_eq x p) [
  | inl i ↦ ap (contracted p f) i ∙ contracted-here p f ∙ sym i ∙ sym (smoothed-path c (p ∷ []) f x (or_left (x / 2 == p / 2) false (eq-eqb (x / 2) (p / 2) (ap (λ (z : ℕ). z / 2) i))))
  | inr i ↦ elim (cases_eq x (twin p)) [
    | inl j ↦ ap (contracted p f) j ∙ contracted-twin p f ∙ sym j ∙ sym (smoothed-path c (p ∷ []) f x (or_left (x / 2 == p / 2) false (eq-eqb (x / 2) (p / 2) (ap (λ (z : ℕ). z / 2) j ∙ twin-edge p))))
    | inr j ↦ let o : on_path x (p ∷ []) ≡ false = or_from (x / 2 == p / 2) false (own-edge m f g b c p l go back apart x i j) refl in elim (cases_eq x c) [
      | inl s ↦ ap (contracted p f) s ∙ step-start m f g b c p l go back apart n ∙ sym (ap (smoothed c (p ∷ []) f) s ∙ smoothed-start c (p ∷ []) f (subst (λ (z : ℕ). on_path z (p ∷ []) ≡ false) s o))
      | inr s ↦ elim (cases_eq (f x) (twin p)) [
        | inl e ↦ step-end m f g b c p l go back apart x i j e ∙ sym (smoothed-end c (p ∷ []) f x o s e)
        | inr e ↦ step-other m f g b c p l go back apart x k i j s e ∙ sym (smoothed-other c (p ∷ []) f x o s e)
      ]
    ]
  ]
]

-- smoothing a path after its first edge is contracted is smoothing the path
module _ (m : ℕ) (f g : ℕ → ℕ) (b : IsMap m f g) (c p q : ℕ) (path : List ℕ) (t : IsThinPath m f c (p ∷ (q ∷ path))) where
  -- the first step's facts
  go : f c ≡ p
  go = (t.thin).0

  -- and back to c
  back : f p ≡ c
  back = (t.thin).1

  -- the next vertex's two darts
  next-go : f (twin p) ≡ q
  next-go = (t.thin).2.0

  -- and back
  next-back : f q ≡ twin p
  next-back = (t.thin).2.1

  -- p is of another edge than c
  first-apart : p / 2 ≡ c / 2 → ⊥
  first-apart = (t.off_start).0

  -- the rest of the path is of other edges than p
  p-avoids : Avoids p (q ∷ path)
  p-avoids = (t.apart).0

  -- the end of the path
  abbrev last : ℕ
  last = path_end (twin q) path

  -- the end is of another edge than p, than c, and it is not q
  last-p : path_end (twin q) path / 2 ≡ p / 2 → ⊥
  last-p = end-apart (twin q) p path (λ e. p-avoids.0 (sym (twin-edge q) ∙ e)) p-avoids.1

  -- the same of c
  last-c : path_end (twin q) path / 2 ≡ c / 2 → ⊥
  last-c = end-apart (twin q) c path (λ e. (t.off_start).1.0 (sym (twin-edge q) ∙ e)) ((t.off_start).1.1)

  -- the end is not q
  last-q : path_end (twin q) path ≡ q → ⊥
  last-q = not-q path ((t.apart).1.0)
    where
      not-q : (l : List ℕ) → Avoids q l → path_end (twin q) l ≡ q → ⊥
      not-q [] a e = twin-other q e
      not-q (r ∷ l) a e = end-apart (twin r) q l (λ i. a.0 (sym (twin-edge r) ∙ i)) a.1 (ap (λ (z : ℕ). z / 2) e)

  -- the contracted map
  abbrev less : ℕ → ℕ
  less = contracted p f

  -- the twin of p has other darts at its vertex
  twin-goes : f (twin p) ≡ twin p → ⊥
  twin-goes e = p-avoids.0 (ap (λ (z : ℕ). z / 2) (sym next-go ∙ e) ∙ twin-edge p)

  -- in it the rest of the path is thin
  rest-thin : IsThin (contracted p f) c (q ∷ path)
  rest-thin = (
    step-start m f g b c p (t.starts) go back first-apart twin-goes ∙ next-go,
    step-end m f g b c p (t.starts) go back first-apart q (λ i. p-avoids.0 (ap (λ (z : ℕ). z / 2) i)) (λ i. p-avoids.0 (ap (λ (z : ℕ). z / 2) i ∙ twin-edge p)) next-back,
    thin-away p f (twin q) path (λ e. p-avoids.0 (sym (twin-edge q) ∙ e)) p-avoids.1 ((t.thin).2.2),
  )

  -- the end is a dart
  last-dart : path_end (twin q) path < 2 * m
  last-dart = far path (twin q) (twin-below m q (subst (λ (z : ℕ). z < 2 * m) next-go (b.forth (twin p) (twin-below m p (step-dart m f g b c p (t.starts) go back first-apart))))) ((t.thin).2.2)
    where
      far : (l : List ℕ) (w : ℕ) → w < 2 * m → IsThin f w l → path_end w l < 2 * m
      far [] w i h = i
      far (r ∷ l) w i h = far l (twin r) (twin-below m r (subst (λ (z : ℕ). z < 2 * m) h.0 (b.forth w i))) h.2

  -- what follows the end stays
  last-stays : contracted p f (path_end (twin q) path) ≡ f (path_end (twin q) path)
  last-stays = step-other m f g b c p (t.starts) go back first-apart last last-dart (λ i. last-p (ap (λ (z : ℕ). z / 2) i)) (λ i. last-p (ap (λ (z : ℕ). z / 2) i ∙ twin-edge p)) (λ i. last-c (ap (λ (z : ℕ). z / 2) i))
      (λ i. last-q (permutes-one-to-one (2 * m) f g b last q last-dart (subst (λ (z : ℕ). z < 2 * m) next-go (b.forth (twin p) (twin-below m p (step-dart m f g b c p (t.starts) go back first-apart)))) (i ∙ sym next-back)))

  -- so the rest is a thin path of the contracted map
  rest-path : IsThinPath m (contracted p f) c (q ∷ path)
  rest-path = record { starts = t.starts; thin = rest-thin; off_start = (t.off_start).1; apart = (t.apart).1; ends = λ e. t.ends (sym last-stays ∙ e) }

  -- smoothing it there is smoothing the path here
  rest-same : (x : ℕ) → x < 2 * m → smoothed c (q ∷ path) (contracted p f) x ≡ smoothed c (p ∷ (q ∷ path)) f x
  rest-same x k = elim (cases_Bool (on_path x (q ∷ path))) [
    | inl h ↦ smoothed-path c (q ∷ path) less x h ∙ sym (smoothed-path c (p ∷ (q ∷ path)) f x (or_right (x / 2 == p / 2) (on_path x (q ∷ path)) h))
    | inr h ↦ elim (cases_eq (x / 2) (p / 2)) [
      | inl e ↦ let s : less x ≡ x = own x e in smoothed-other c (q ∷ path) less x h (λ i. first-apart (sym e ∙ ap (λ (z : ℕ). z / 2) i)) (λ i. last-p (ap (λ (z : ℕ). z / 2) (sym i ∙ s) ∙ e)) ∙ s ∙ sym (smoothed-path c (p ∷ (q ∷ path)) f x (or_left (x / 2 == p / 2) (on_path x (q ∷ path)) (eq-eqb (x / 2) (p / 2) e)))
      | inr e ↦ let o : on_path x (p ∷ (q ∷ path)) ≡ false = or_from (x / 2 == p / 2) (on_path x (q ∷ path)) (ne_eqb (x / 2) (p / 2) e) h in elim (cases_eq x c) [
        | inl s ↦ ap (smoothed c (q ∷ path) less) s ∙ smoothed-start c (q ∷ path) less (subst (λ (z : ℕ). on_path z (q ∷ path) ≡ false) s h) ∙ last-stays ∙ sym (ap (smoothed c (p ∷ (q ∷ path)) f) s ∙ smoothed-start c (p ∷ (q ∷ path)) f (subst (λ (z : ℕ). on_path z (p ∷ (q ∷ path)) ≡ false) s o))
        | inr s ↦ let w : less x ≡ f x = step-other m f g b c p (t.starts) go back first-apart x k (λ i. e (ap (λ (z : ℕ). z / 2) i)) (λ i. e (ap (λ (z : ℕ). z / 2) i ∙ twin-edge p)) s
            (λ i. both_ways (on_path x (q ∷ path)) h (or_left (x / 2 == q / 2) (on_path x path) (eq-eqb (x / 2) (q / 2) (ap (λ (z : ℕ). z / 2) (permutes-one-to-one (2 * m) f g b x q k (subst (λ (z : ℕ). z < 2 * m) next-go (b.forth (twin p) (twin-below m p (step-dart m f g b c p (t.starts) go back first-apart)))) (i ∙ sym next-back)))))) in
            elim (cases_eq (f x) last) [
              | inl i ↦ smoothed-end c (q ∷ path) less x h s (w ∙ i) ∙ sym (smoothed-end c (p ∷ (q ∷ path)) f x o s i)
              | inr i ↦ smoothed-other c (q ∷ path) less x h s (λ j. i (sym w ∙ j)) ∙ w ∙ sym (smoothed-other c (p ∷ (q ∷ path)) f x o s i)
            ]
      ]
    ]
  ]
    where
      own : (x : ℕ) → x / 2 ≡ p / 2 → contracted p f x ≡ x
      own x e = elim (edge-twin x p e) [
        | inl i ↦ ap (contracted p f) i ∙ contracted-here p f ∙ sym i
        | inr i ↦ ap (contracted p f) i ∙ contracted-twin p f ∙ sym i
      ]

-- smoothing a thin path keeps the defect, and makes a map
pub smooth-path : (m : ℕ) (path : List ℕ) (f g : ℕ → ℕ) → IsMap m f g → (c : ℕ) → IsThinPath m f c path → (k : ℕ → ℕ) × IsMap m (smoothed c path f) k × SameDefect m f (smoothed c path f)
smooth-path m [] f g b c t = (g, permutes-ext (2 * m) f g (smoothed c [] f) g b (λ x l. smooth-none c f x) (λ x l. refl), same-defect-ext m f (smoothed c [] f) (λ x l. sym (smooth-none c f x)))
smooth-path m (p ∷ []) f g b c t = let go : f c ≡ p = (t.thin).0 in let back : f p ≡ c = (t.thin).1 in let apart : p / 2 ≡ c / 2 → ⊥ = (t.off_start).0 in
    let s : (x : ℕ) → x < 2 * m → contracted p f x ≡ smoothed c (p ∷ []) f x = smooth-one m f g b c p (t.starts) go back apart (t.ends) in (
      dropped p (back_after (g p) (twin p) g),
      permutes-ext (2 * m) (contracted p f) (dropped p (back_after (g p) (twin p) g)) (smoothed c (p ∷ []) f) (dropped p (back_after (g p) (twin p) g)) (step-contracted m f g b c p (t.starts) go back apart) (λ x l. sym (s x l)) (λ x l. refl),
      same-defect-over m f (contracted p f) (smoothed c (p ∷ []) f) (step-defect m f g b c p (t.starts) go back apart) (same-defect-ext m (contracted p f) (smoothed c (p ∷ []) f) s),
    )
smooth-path m (p ∷ (q ∷ path)) f g b c t = let go : f c ≡ p = (t.thin).0 in let back : f p ≡ c = (t.thin).1 in let apart : p / 2 ≡ c / 2 → ⊥ = (t.off_start).0 in
    let w = smooth-path m (q ∷ path) (contracted p f) (dropped p (back_after (g p) (twin p) g)) (step-contracted m f g b c p (t.starts) go back apart) c (rest-path m f g b c p q path t) in
    let s : (x : ℕ) → x < 2 * m → smoothed c (q ∷ path) (contracted p f) x ≡ smoothed c (p ∷ (q ∷ path)) f x = rest-same m f g b c p q path t in (
      w.0,
      permutes-ext (2 * m) (smoothed c (q ∷ path) (contracted p f)) w.0 (smoothed c (p ∷ (q ∷ path)) f) w.0 w.1 (λ x l. sym (s x l)) (λ x l. refl),
      same-defect-over m f (contracted p f) (smoothed c (p ∷ (q ∷ path)) f) (step-defect m f g b c p (t.starts) go back apart)
          (same-defect-over m (contracted p f) (smoothed c (q ∷ path) (contracted p f)) (smoothed c (p ∷ (q ∷ path)) f) w.2 (same-defect-ext m (smoothed c (q ∷ path) (contracted p f)) (smoothed c (p ∷ (q ∷ path)) f) s)),
    )

-- smoothing a thin path keeps the defect
pub smooth-defect : (m : ℕ) (path : List ℕ) (f g : ℕ → ℕ) → IsMap m f g → (c : ℕ) → IsThinPath m f c path → SameDefect m f (smoothed c path f)
smooth-defect m path f g b c t = (smooth-path m path f g b c t).2

-- the smoothed map is plane where the map is
pub smooth-plane : (m : ℕ) (path : List ℕ) (f g : ℕ → ℕ) → IsMap m f g → (c : ℕ) → IsThinPath m f c path → IsPlane m f → IsPlane m (smoothed c path f)
smooth-plane m path f g b c t p = same-defect-plane m f (smoothed c path f) (smooth-defect m path f g b c t) p

-- and the map, which has the path in the place of an edge, where the smoothed one is
pub smooth-plane-back : (m : ℕ) (path : List ℕ) (f g : ℕ → ℕ) → IsMap m f g → (c : ℕ) → IsThinPath m f c path → IsPlane m (smoothed c path f) → IsPlane m f
smooth-plane-back m path f g b c t p = same-defect-plane m (smoothed c path f) f (same-defect-back m f (smoothed c path f) (smooth-defect m path f g b c t)) p
