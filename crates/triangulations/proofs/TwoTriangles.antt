-- Two triangles on one edge of a plane map: their orders at the two ends of the edge are opposite.
use Rattle.std.proofs.Common.{◌≡◌, ◌≢◌, ℕ, ◌*◌, ◌/◌, ◌<◌, ◌⊎◌, inl, inr, Bool, true, false, ◌||◌, ◌==◌, refl, sym, ap, ◌∙◌, subst}
use Rattle.std.proofs.lemmas.Bool.{cases_Bool, both_ways, eq-eqb, eqb-true, ne_eqb, or_cases, or_left, or_right, or_from, or_parts, false_from_ne_true}
use Rattle.permutations.specs.Exchange.{restricted}
use Rattle.permutations.proofs.Relation.{same-tests}
use Rattle.permutations.proofs.Orbits.{orbit-equivalence, orbit-step}
use Rattle.permutations.proofs.Restriction.{restricted-goes, restricted-alone, restricted-permutes, restricted-orbit, restricted-twice}
use Rattle.dart_maps.specs.Map.{twin, IsMap, same_vertex, same_component}
use Rattle.dart_maps.specs.Order.{one_of_three, MetInTurn, frozen, connected_past}
use Rattle.dart_maps.proofs.Darts.{twin-below, twin-edge, edge-twin}
use Rattle.dart_maps.proofs.Components.{component-equivalence, component-twin, component-test}
use Rattle.dart_maps.proofs.Plane.{restricted-plane}
use Rattle.dart_maps.proofs.FourDarts.{frozen-here, frozen-elsewhere}
use Rattle.dart_maps.proofs.Noncrossing.{restricted-vertex}
use Rattle.dart_maps.proofs.LinkNoncrossing.{three-cases, turn-at-b, turn-at-c, link-noncrossing}
use Rattle.multigraph.specs.Graph.{Multigraph}
use Rattle.faces.specs.Euler.{tail}
use Rattle.faces.proofs.RestrictedConnection.{opened-vertex}
use Rattle.drawn_maps.specs.Drawn.{IsDrawn}

-- d, a, b in turn at one end of the edge of d, and its twin, x, y at the other; a and x lead to one vertex, b and y to another,
-- and neither is an end of the edge
module _ (m : ℕ) (h : Multigraph) (next previous : ℕ → ℕ) (drawn : IsDrawn m h next previous) (d a b x y : ℕ) (o : MetInTurn m next d a b) (q : MetInTurn m next (twin d) x y)
    (ax : tail h (twin a) ≡ tail h (twin x)) (bz : tail h (twin b) ≡ tail h (twin y)) (st : tail h (twin a) ≢ tail h (twin b)) (dw : tail h d ≢ tail h (twin d))
    (sd : tail h (twin a) ≢ tail h d) (sw : tail h (twin a) ≢ tail h (twin d)) (td : tail h (twin b) ≢ tail h d) (tw : tail h (twin b) ≢ tail h (twin d)) where
  -- of the edge of c
  abbrev of : ℕ → ℕ → Bool
  of c z = z / 2 == c / 2

  -- of one of the five edges
  abbrev keep : ℕ → Bool
  keep z = of d z || ((of a z || of x z) || (of b z || of y z))

  -- of the two edges to the one vertex
  abbrev inside : ℕ → Bool
  inside z = of a z || of x z

  of-self : (c : ℕ) → of c c ≡ true
  of-self c = eq-eqb (c / 2) (c / 2) refl

  of-twin : (c z : ℕ) → of c (twin z) ≡ of c z
  of-twin c z = ap (λ k. k == c / 2) (twin-edge z)

  of-cases : (c z : ℕ) → of c z ≡ true → (z ≡ c) ⊎ (z ≡ twin c)
  of-cases c z t = edge-twin z c (eqb-true (z / 2) (c / 2) t)

  keep-d : (z : ℕ) → of d z ≡ true → keep z ≡ true
  keep-d z t = or_left (of d z) ((of a z || of x z) || (of b z || of y z)) t

  keep-inside : (z : ℕ) → inside z ≡ true → keep z ≡ true
  keep-inside z t = or_right (of d z) ((of a z || of x z) || (of b z || of y z)) (or_left (of a z || of x z) (of b z || of y z) t)

  keep-other : (z : ℕ) → (of b z || of y z) ≡ true → keep z ≡ true
  keep-other z t = or_right (of d z) ((of a z || of x z) || (of b z || of y z)) (or_right (of a z || of x z) (of b z || of y z) t)

  keep-a : (z : ℕ) → of a z ≡ true → keep z ≡ true
  keep-a z t = keep-inside z (or_left (of a z) (of x z) t)

  keep-x : (z : ℕ) → of x z ≡ true → keep z ≡ true
  keep-x z t = keep-inside z (or_right (of a z) (of x z) t)

  keep-b : (z : ℕ) → of b z ≡ true → keep z ≡ true
  keep-b z t = keep-other z (or_left (of b z) (of y z) t)

  keep-y : (z : ℕ) → of y z ≡ true → keep z ≡ true
  keep-y z t = keep-other z (or_right (of b z) (of y z) t)

  kept-d : keep d ≡ true
  kept-d = keep-d d (of-self d)

  kept-twin_d : keep (twin d) ≡ true
  kept-twin_d = keep-d (twin d) (of-twin d d ∙ of-self d)

  -- the darts are darts
  ld : d < 2 * m
  ld = o.darts.0

  lw : twin d < 2 * m
  lw = twin-below m d o.darts.0

  la : a < 2 * m
  la = o.darts.1

  lb : b < 2 * m
  lb = o.darts.2

  lx : x < 2 * m
  lx = q.darts.1

  ly : y < 2 * m
  ly = q.darts.2

  -- darts of one vertex
  one-tail : (c e : ℕ) → c < 2 * m → e < 2 * m → same_vertex m next c e ≡ true → tail h c ≡ tail h e
  one-tail c e l k t = eqb-true (tail h c) (tail h e) (sym (drawn.told c e l k) ∙ t)

  at-a : tail h d ≡ tail h a
  at-a = one-tail d a ld la (turn-at-b m next previous drawn.map d a b o)

  at-b : tail h d ≡ tail h b
  at-b = one-tail d b ld lb (turn-at-c m next previous drawn.map d a b o)

  at-x : tail h (twin d) ≡ tail h x
  at-x = one-tail (twin d) x lw lx (turn-at-b m next previous drawn.map (twin d) x y q)

  at-y : tail h (twin d) ≡ tail h y
  at-y = one-tail (twin d) y lw ly (turn-at-c m next previous drawn.map (twin d) x y q)

  -- the five edges alone
  abbrev small : ℕ → ℕ
  small = restricted (2 * m) keep next

  small-map : IsMap m (restricted (2 * m) keep next) (restricted (2 * m) keep previous)
  small-map = restricted-permutes (2 * m) keep next previous drawn.map

  small-told : (c e : ℕ) → c < 2 * m → e < 2 * m → keep c ≡ true → keep e ≡ true → same_vertex m small c e ≡ (tail h c == tail h e)
  small-told c e l k i j = restricted-orbit (2 * m) keep next previous drawn.map c e i j ∙ drawn.told c e l k

  first-kept : (z : ℕ) → one_of_three d a b z ≡ true → keep z ≡ true
  first-kept z t = elim (three-cases d a b z t) [
    | inl i ↦ subst (λ k. keep k ≡ true) (sym i) kept-d
    | inr r ↦ elim r [ inl i ↦ subst (λ k. keep k ≡ true) (sym i) (keep-a a (of-self a)) | inr i ↦ subst (λ k. keep k ≡ true) (sym i) (keep-b b (of-self b)) ]
  ]

  second-kept : (z : ℕ) → one_of_three (twin d) x y z ≡ true → keep z ≡ true
  second-kept z t = elim (three-cases (twin d) x y z t) [
    | inl i ↦ subst (λ k. keep k ≡ true) (sym i) kept-twin_d
    | inr r ↦ elim r [ inl i ↦ subst (λ k. keep k ≡ true) (sym i) (keep-x x (of-self x)) | inr i ↦ subst (λ k. keep k ≡ true) (sym i) (keep-y y (of-self y)) ]
  ]

  -- the darts are still met in turn
  first-turn : MetInTurn m (restricted (2 * m) keep next) d a b
  first-turn = record {
    darts = o.darts;
    different = o.different;
    first = restricted-twice (2 * m) keep (one_of_three d a b) next previous drawn.map first-kept d ld ∙ o.first;
    second = restricted-twice (2 * m) keep (one_of_three d a b) next previous drawn.map first-kept a la ∙ o.second;
    third = restricted-twice (2 * m) keep (one_of_three d a b) next previous drawn.map first-kept b lb ∙ o.third;
  }

  second-turn : MetInTurn m (restricted (2 * m) keep next) (twin d) x y
  second-turn = record {
    darts = q.darts;
    different = q.different;
    first = restricted-twice (2 * m) keep (one_of_three (twin d) x y) next previous drawn.map second-kept (twin d) lw ∙ q.first;
    second = restricted-twice (2 * m) keep (one_of_three (twin d) x y) next previous drawn.map second-kept x lx ∙ q.second;
    third = restricted-twice (2 * m) keep (one_of_three (twin d) x y) next previous drawn.map second-kept y ly ∙ q.third;
  }

  -- at an end of the edge of d
  abbrev at : ℕ → Bool
  at z = same_vertex m small d z || same_vertex m small (twin d) z

  at-none : (z : ℕ) → z < 2 * m → keep z ≡ true → tail h z ≢ tail h d → tail h z ≢ tail h (twin d) → at z ≡ false
  at-none z l k i j = or_from (same_vertex m small d z) (same_vertex m small (twin d) z)
      (small-told d z ld l kept-d k ∙ ne_eqb (tail h d) (tail h z) (λ e. i (sym e)))
      (small-told (twin d) z lw l kept-twin_d k ∙ ne_eqb (tail h (twin d)) (tail h z) (λ e. j (sym e)))

  none-at : (z : ℕ) → z < 2 * m → keep z ≡ true → at z ≡ false → (tail h z ≢ tail h d) × (tail h z ≢ tail h (twin d))
  none-at z l k f = let w = or_parts (same_vertex m small d z) (same_vertex m small (twin d) z) f in (
    λ e. both_ways (same_vertex m small d z) w.0 (small-told d z ld l kept-d k ∙ eq-eqb (tail h d) (tail h z) (sym e)),
    λ e. both_ways (same_vertex m small (twin d) z) w.1 (small-told (twin d) z lw l kept-twin_d k ∙ eq-eqb (tail h (twin d)) (tail h z) (sym e)),
  )

  along : (c z : ℕ) → z < 2 * m → same_vertex m small c (small z) ≡ same_vertex m small c z
  along c z l = let e = orbit-equivalence (2 * m) small in let i = orbit-step (2 * m) small z l in same-tests (same_vertex m small c (small z)) (same_vertex m small c z)
      (λ t. e.transitive c (small z) z t (e.symmetric z (small z) i)) (λ t. e.transitive c z (small z) t i)

  at-along : (z : ℕ) → z < 2 * m → at (small z) ≡ at z
  at-along z l = ap (λ t. t || same_vertex m small (twin d) (small z)) (along d z l) ∙ ap (λ t. same_vertex m small d z || t) (along (twin d) z l)

  -- two darts that lead to one vertex, which is no end of the edge, are connected without passing the ends
  past : (c e : ℕ) → c < 2 * m → e < 2 * m → keep c ≡ true → keep e ≡ true → tail h (twin c) ≡ tail h (twin e) → tail h (twin c) ≢ tail h d → tail h (twin c) ≢ tail h (twin d)
      → keep (twin c) ≡ true → keep (twin e) ≡ true → connected_past m small d (twin d) c e ≡ true
  past c e l k i j t u v i' j' =
      let r = component-equivalence m (frozen at small) in
      let lc : twin c < 2 * m = twin-below m c l in
      let le : twin e < 2 * m = twin-below m e k in
      r.transitive c (twin c) e (component-twin m (frozen at small) c l)
      (r.transitive (twin c) (twin e) e
      (opened-vertex m small (restricted (2 * m) keep previous) small-map at at-along (twin c) (twin e) lc (small-told (twin c) (twin e) lc le i' j' ∙ eq-eqb (tail h (twin c)) (tail h (twin e)) t) (at-none (twin c) lc i' u v))
      (r.symmetric e (twin e) (component-twin m (frozen at small) e k)))

  one : connected_past m small d (twin d) a x ≡ true
  one = past a x la lx (keep-a a (of-self a)) (keep-x x (of-self x)) ax sd sw (keep-a (twin a) (of-twin a a ∙ of-self a)) (keep-x (twin x) (of-twin x x ∙ of-self x))

  two : connected_past m small d (twin d) b y ≡ true
  two = past b y lb ly (keep-b b (of-self b)) (keep-y y (of-self y)) bz td tw (keep-b (twin b) (of-twin b b ∙ of-self b)) (keep-y (twin y) (of-twin y y ∙ of-self y))

  -- so a and b are connected without passing the ends
  linked : same_component m (frozen at small) a b ≡ true
  linked = link-noncrossing m small (restricted (2 * m) keep previous) small-map (restricted-plane m next previous drawn.map drawn.plane keep) d
      (small-told d (twin d) ld lw kept-d kept-twin_d ∙ ne_eqb (tail h d) (tail h (twin d)) dw) a b x y first-turn second-turn one two

  -- but of the darts that are not at the ends those of the two edges are at the one vertex, and the others at the other
  side : (z : ℕ) → keep z ≡ true → tail h z ≢ tail h d → tail h z ≢ tail h (twin d) → inside z ≡ (tail h z == tail h (twin a))
  side z k i j = elim (cases_Bool (inside z)) [
    | inl t ↦ t ∙ sym (eq-eqb (tail h z) (tail h (twin a)) (elim (or_cases (of a z) (of x z) t) [
      | inl r ↦ elim (of-cases a z r) [ inl e ↦ absurd (i (ap (tail h) e ∙ sym at-a)) | inr e ↦ ap (tail h) e ]
      | inr r ↦ elim (of-cases x z r) [ inl e ↦ absurd (j (ap (tail h) e ∙ sym at-x)) | inr e ↦ ap (tail h) e ∙ sym ax ]
    ]))
    | inr f ↦ f ∙ sym (ne_eqb (tail h z) (tail h (twin a)) (λ e. st (sym e ∙ other f)))
  ]
    where
      other : inside z ≡ false → tail h z ≡ tail h (twin b)
      other f = elim (or_cases (of d z) (inside z || (of b z || of y z)) k) [
        | inl r ↦ elim (of-cases d z r) [ inl e ↦ absurd (i (ap (tail h) e)) | inr e ↦ absurd (j (ap (tail h) e)) ]
        | inr r ↦ elim (or_cases (inside z) (of b z || of y z) r) [
          | inl u ↦ absurd (both_ways (inside z) f u)
          | inr u ↦ elim (or_cases (of b z) (of y z) u) [
            | inl v ↦ elim (of-cases b z v) [ inl e ↦ absurd (i (ap (tail h) e ∙ sym at-b)) | inr e ↦ ap (tail h) e ]
            | inr v ↦ elim (of-cases y z v) [ inl e ↦ absurd (j (ap (tail h) e ∙ sym at-y)) | inr e ↦ ap (tail h) e ∙ sym bz ]
          ]
        ]
      ]

  steps : (z : ℕ) → z < 2 * m → inside (frozen at small z) ≡ inside z
  steps z l = elim (cases_Bool (at z)) [
    | inl t ↦ ap inside (frozen-here at small z t)
    | inr f ↦ ap inside (frozen-elsewhere at small z f) ∙ elim (cases_Bool (keep z)) [
      | inr k ↦ ap inside (restricted-alone (2 * m) keep next z k)
      | inl k ↦
          let w = restricted-goes (2 * m) keep next previous drawn.map z l k in
          let lz : small z < 2 * m = small-map.forth z l in
          let g : at (small z) ≡ false = at-along z l ∙ f in
          let n = none-at z l k f in
          let n' = none-at (small z) lz w.2 g in
          let e : tail h z ≡ tail h (small z) = one-tail z (small z) l lz (restricted-vertex m next previous drawn.map keep z (small z) l k refl) in
          side (small z) w.2 n'.0 n'.1 ∙ ap (λ v. v == tail h (twin a)) (sym e) ∙ sym (side z k n.0 n.1)
    ]
  ]

  -- so there are no such triangles
  pub two-triangles : ⊥
  two-triangles = both_ways (inside b) apart (sym (component-test m (frozen at small) inside steps (λ z l. ap (λ t. t || of x (twin z)) (of-twin a z) ∙ ap (λ t. of a z || t) (of-twin x z)) a b linked) ∙ or_left (of a a) (of x a) (of-self a))
    where
      apart : inside b ≡ false
      apart = or_from (of a b) (of x b)
          (false_from_ne_true (of a b) (λ t. elim (of-cases a b t) [ inl e ↦ st (ap (λ z. tail h (twin z)) (sym e)) | inr e ↦ sd (ap (tail h) (sym e) ∙ sym at-b) ]))
          (false_from_ne_true (of x b) (λ t. elim (of-cases x b t) [ inl e ↦ dw (at-b ∙ ap (tail h) e ∙ sym at-x) | inr e ↦ sd (ax ∙ ap (tail h) (sym e) ∙ sym at-b) ]))
