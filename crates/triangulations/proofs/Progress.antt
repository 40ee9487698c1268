-- Of any three consecutive darts of a face with more than three darts, one can have an edge added that cuts off a triangle.
use Rattle.std.proofs.Common.{◌≡◌, ◌≢◌, ℕ, ◌*◌, ◌<◌, inl, inr, true, false, refl, sym, ap, ◌∙◌}
use Rattle.std.proofs.lemmas.Bool.{cases_eq, both_ways, eq-eqb}
use Rattle.dart_maps.specs.Map.{twin, face}
use Rattle.dart_maps.specs.Order.{MetInTurn}
use Rattle.dart_maps.proofs.Darts.{twin-twin}
use Rattle.multigraph.specs.Graph.{Multigraph}
use Rattle.faces.specs.Euler.{tail}
use Rattle.triangulations.specs.Triangulation.{IsSimpleMap}
use Rattle.triangulations.specs.Cutting.{is_triangle, second_head, can_cut}
use Rattle.triangulations.proofs.SimpleMaps.{twin-in, face-in, one-vertex, tail-face, no-loop, only-dart, joined-dart, can-cut, cannot-cut, spur-cut}
use Rattle.triangulations.proofs.Turns.{turn-after, turn-before}
use Rattle.triangulations.proofs.TwoTriangles.{two-triangles}

module _ (m : ℕ) (h : Multigraph) (next previous : ℕ → ℕ) (s : IsSimpleMap m h next previous) where
  -- darts that lead to different vertices are different
  heads-differ : (c d : ℕ) → tail h (twin c) ≢ tail h (twin d) → c ≢ d
  heads-differ c d n e = n (ap (λ z. tail h (twin z)) e)

  -- a dart d from u to w, darts a and b from u to s and t, x and y from w to s and t: not both in the order d, a, b and twin d, x, y
  module _ (d a b x y : ℕ) (ld : d < 2 * m) (la : a < 2 * m) (lb : b < 2 * m) (lx : x < 2 * m) (ly : y < 2 * m) (ua : tail h a ≡ tail h d) (ub : tail h b ≡ tail h d) (wx : tail h x ≡ tail h (twin d)) (wy : tail h y ≡ tail h (twin d))
      (ax : tail h (twin a) ≡ tail h (twin x)) (bz : tail h (twin b) ≡ tail h (twin y)) (st : tail h (twin a) ≢ tail h (twin b))
      (sw : tail h (twin a) ≢ tail h (twin d)) (tw : tail h (twin b) ≢ tail h (twin d)) where
    lw : twin d < 2 * m
    lw = twin-in m h next previous s d ld

    -- the other differences
    ud : tail h d ≢ tail h (twin d)
    ud = no-loop m h next previous s d ld

    su : tail h (twin a) ≢ tail h d
    su e = no-loop m h next previous s a la (ua ∙ sym e)

    tu : tail h (twin b) ≢ tail h d
    tu e = no-loop m h next previous s b lb (ub ∙ sym e)

    back : tail h (twin (twin d)) ≡ tail h d
    back = ap (tail h) (twin-twin d)

    db : d ≢ b
    db = heads-differ d b (λ e. tw (sym e))

    da : d ≢ a
    da = heads-differ d a (λ e. sw (sym e))

    wx' : twin d ≢ x
    wx' = heads-differ (twin d) x (λ e. su (ax ∙ sym e ∙ back))

    wy' : twin d ≢ y
    wy' = heads-differ (twin d) y (λ e. tu (bz ∙ sym e ∙ back))

    xy : x ≢ y
    xy = heads-differ x y (λ e. st (ax ∙ e ∙ sym bz))

    never : MetInTurn m next d a b → MetInTurn m next (twin d) x y → ⊥
    never o q = two-triangles m h next previous s.drawn d a b x y o q ax bz st ud su sw tu tw

    -- a follows d at the one end, and twin d follows y at the other
    pub not-first : next d ≡ a → next y ≡ twin d → ⊥
    not-first i j = never (turn-after m next previous s.drawn.map d a b ld la lb da db (heads-differ a b st) (one-vertex m h next previous s d b ld lb (sym ub)) i)
        (turn-before m next previous s.drawn.map (twin d) x y lw lx ly wx' wy' xy (one-vertex m h next previous s y x ly lx (wy ∙ sym wx)) j)

    -- d follows b at the one end, and x follows twin d at the other
    pub not-second : next b ≡ d → next (twin d) ≡ x → ⊥
    not-second i j = never (turn-before m next previous s.drawn.map d a b ld la lb da db (heads-differ a b st) (one-vertex m h next previous s b a lb la (ub ∙ sym ua)) i)
        (turn-after m next previous s.drawn.map (twin d) x y lw lx ly wx' wy' xy (one-vertex m h next previous s (twin d) y lw ly (sym wy)) j)

  -- three consecutive darts of a face that is no triangle; nothing can be cut off at the first two
  module _ (d : ℕ) (ld : d < 2 * m) (long : is_triangle next d ≡ false) (first : can_cut h next d ≡ false) (second : can_cut h next (face next d) ≡ false) where
    abbrev e : ℕ
    e = face next d

    abbrev g : ℕ
    g = face next (face next d)

    abbrev k : ℕ
    k = face next (face next (face next d))

    le : face next d < 2 * m
    le = face-in m h next previous s d ld

    lg : face next (face next d) < 2 * m
    lg = face-in m h next previous s (face next d) le

    lk : face next (face next (face next d)) < 2 * m
    lk = face-in m h next previous s (face next (face next d)) lg

    -- each of them leaves the vertex where the one before arrives
    te : tail h e ≡ tail h (twin d)
    te = tail-face m h next previous s d ld

    tg : tail h g ≡ tail h (twin e)
    tg = tail-face m h next previous s (face next d) le

    tk : tail h k ≡ tail h (twin g)
    tk = tail-face m h next previous s (face next (face next d)) lg

    fourth : k ≡ d → ⊥
    fourth i = both_ways (is_triangle next d) long (eq-eqb k d i)

    -- the first two lead to another vertex
    az : tail h d ≢ tail h (twin e)
    az i = both_ways (can_cut h next (face next d)) second (spur-cut m h next previous s d ld i)

    -- the case that the three darts lead back
    closed : tail h (twin g) ≡ tail h d → can_cut h next g ≡ true
    closed ya = can-cut m h next previous s g differ (λ t. let c = joined-dart m h next previous s (tail h g) (second_head h next g) t in apart c.0 c.1 c.2 c.3)
      where
        ka : tail h k ≡ tail h d
        ka = tk ∙ ya

        xb : tail h (twin k) ≢ tail h (twin d)
        xb i = fourth (s.simple k d lk ld ka i)

        ltg : twin g < 2 * m
        ltg = twin-in m h next previous s g lg

        back : tail h (twin (twin g)) ≡ tail h g
        back = ap (tail h) (twin-twin g)

        differ : tail h g ≡ tail h (twin k) → ⊥
        differ i =
            let j : k ≡ twin g = s.simple k (twin g) lk ltg tk (sym i ∙ sym back) in
            let w : d ≡ twin g = only-dart m h next previous s (twin g) d ltg ld j (sym ya) in
            no-loop m h next previous s e le (te ∙ ap (λ z. tail h (twin z)) w ∙ back ∙ tg)

        apart : (c : ℕ) → c < 2 * m → tail h c ≡ tail h g → tail h (twin c) ≡ tail h (twin k) → ⊥
        apart c lc p q = not-first (twin g) k d c (twin e) ltg lk ld lc (twin-in m h next previous s e le) tk (sym ya) (p ∙ sym back) (sym tg ∙ sym back)
            (sym q) (sym te ∙ ap (tail h) (sym (twin-twin e))) xb (λ i. differ (sym back ∙ sym i)) (λ i. no-loop m h next previous s e le (te ∙ i ∙ back ∙ tg)) refl (ap next refl ∙ sym (twin-twin g))

    -- the case that they do not
    open' : tail h (twin g) ≢ tail h d → tail h e ≢ tail h (twin g) → ⊥
    open' ya yb =
        let c = joined-dart m h next previous s (tail h d) (tail h (twin e)) (cannot-cut m h next previous s d first az) in
        let c' = joined-dart m h next previous s (tail h e) (tail h (twin g)) (cannot-cut m h next previous s e second yb) in
        let ltd : twin d < 2 * m = twin-in m h next previous s d ld in
        let lc : twin c.0 < 2 * m = twin-in m h next previous s c.0 c.1 in
        not-second e c'.0 (twin d) g (twin c.0) le c'.1 ltd lg lc c'.2 (sym te) tg c.3
        c'.3 (ap (tail h) (twin-twin d) ∙ sym c.2 ∙ ap (tail h) (sym (twin-twin c.0)))
        (λ i. ya (sym c'.3 ∙ i ∙ ap (tail h) (twin-twin d)))
        (λ i. no-loop m h next previous s g lg (tg ∙ sym i ∙ c'.3))
        (λ i. az (ap (tail h) (sym (twin-twin d)) ∙ i)) refl refl

    -- so a triangle can be cut off at the third
    pub third-cut : can_cut h next (face next (face next d)) ≡ true
    third-cut = elim (cases_eq (tail h e) (tail h (twin g))) [
      | inl i ↦ spur-cut m h next previous s e le i
      | inr n ↦ elim (cases_eq (tail h (twin g)) (tail h d)) [ inl i ↦ closed i | inr j ↦ absurd (open' j n) ]
    ]
