-- Noncrossing along an edge: two connections between its ends that avoid both do not cross.
use Rattle.std.proofs.Common.{◌≡◌, ℕ, ◌*◌, ◌<◌, ◌⊎◌, inl, inr, Bool, true, false, not, ◌||◌, refl, sym, ap, ◌∙◌, subst, arith}
use Rattle.std.proofs.lemmas.Bool.{cases_Bool, cases_eq, both_ways, or_cases, or_parts, or_from, or_left, or_right, false_from_ne_true, ne_eqb}
use Rattle.std.proofs.lemmas.Bool.Decides.{eqb_tells}
use Rattle.permutations.specs.Relation.{IsEquivalence}
use Rattle.permutations.proofs.Orbits.{orbit-equivalence, orbit-step}
use Rattle.dart_maps.specs.Map.{twin, IsMap, same_vertex, IsPlane}
use Rattle.permutations.specs.Exchange.{restricted}
use Rattle.permutations.proofs.Restriction.{restricted-next, restricted-alone, restricted-permutes, restricted-orbit}
use Rattle.dart_maps.specs.Changes.{contracted, dropped}
use Rattle.dart_maps.specs.Order.{one_of_three, one_of_four, MetInTurn, frozen, connected_past}
use Rattle.dart_maps.proofs.Steps.{back_after}
use Rattle.dart_maps.proofs.Plane.{restricted-plane}
use Rattle.dart_maps.proofs.Contract.{contracted-here, contracted-twin, contracted-before, contracted-before-twin, contracted-other, follows-own, contract-plane, contracted-map}
use Rattle.dart_maps.proofs.FourDarts.{frozen-here, frozen-elsewhere, four-cases, four-none, four-darts}
use Rattle.dart_maps.proofs.Noncrossing.{restricted-vertex, restricted-more}

-- each of three numbers is one of them
pub three-members : (a b c : ℕ) → (one_of_three a b c a ≡ true) × (one_of_three a b c b ≡ true) × (one_of_three a b c c ≡ true)
three-members a b c = (grind (arith, eqb_tells), grind (arith, eqb_tells), grind (arith, eqb_tells))

-- and one of three is one of them
pub three-cases : (a b c x : ℕ) → one_of_three a b c x ≡ true → (x ≡ a) ⊎ ((x ≡ b) ⊎ (x ≡ c))
three-cases a b c x h = grind (arith, eqb_tells)

-- a number that is none of three
pub three-not : (a b c x : ℕ) → (x ≡ a → ⊥) → (x ≡ b → ⊥) → (x ≡ c → ⊥) → one_of_three a b c x ≡ false
three-not a b c x i j k = rw (ne_eqb x a i, ne_eqb x b j, ne_eqb x c k) refl

-- three darts met in turn: all different, and at one vertex
module _ (m : ℕ) (f g : ℕ → ℕ) (e : IsMap m f g) (a b c : ℕ) (o : MetInTurn m f a b c) where
  -- the three alone, looked at round the vertex
  abbrev three : ℕ → ℕ
  three = restricted (2 * m) (one_of_three a b c) f

  -- the third is not the first
  pub turn-ca : c ≡ a → ⊥
  turn-ca q = o.different (sym (o.third) ∙ ap three q ∙ o.first)

  -- the second is not the third
  pub turn-bc : b ≡ c → ⊥
  turn-bc q = turn-ca (sym (o.second) ∙ ap three q ∙ o.third)

  -- the second is at the first one's vertex
  pub turn-at-b : same_vertex m f a b ≡ true
  turn-at-b = restricted-vertex m f g e (one_of_three a b c) a b (o.darts.0) (three-members a b c).0 (o.first)

  -- so is the third
  pub turn-at-c : same_vertex m f a c ≡ true
  turn-at-c = (orbit-equivalence (2 * m) f).transitive a b c turn-at-b (restricted-vertex m f g e (one_of_three a b c) b c (o.darts.1) (three-members a b c).1 (o.second))

  -- and each of them
  pub turn-at : (x : ℕ) → one_of_three a b c x ≡ true → same_vertex m f a x ≡ true
  turn-at x t = elim (three-cases a b c x t) [
    | inl i ↦ subst (λ (z : ℕ). same_vertex m f a z ≡ true) (sym i) ((orbit-equivalence (2 * m) f).reflexive a)
    | inr q ↦ elim q [
      | inl i ↦ subst (λ (z : ℕ). same_vertex m f a z ≡ true) (sym i) turn-at-b
      | inr i ↦ subst (λ (z : ℕ). same_vertex m f a z ≡ true) (sym i) turn-at-c
    ]
  ]

-- a plane map, an edge that joins two vertices, and darts a, b at the one and x, y at the other, met in turn from the edge
-- on; a is connected with x and b with y without passing the two vertices
module _ (m : ℕ) (f g : ℕ → ℕ) (e : IsMap m f g) (p : IsPlane m f) (d : ℕ) (v : same_vertex m f d (twin d) ≡ false) (a b x y : ℕ) (o : MetInTurn m f d a b) (q : MetInTurn m f (twin d) x y) (one : connected_past m f d (twin d) a x ≡ true) (two : connected_past m f d (twin d) b y ≡ true) where
  -- the darts that stay: the six, and all of other vertices
  abbrev keep : ℕ → Bool
  keep z = not (same_vertex m f d z || same_vertex m f (twin d) z) || (one_of_three d a b z || one_of_three (twin d) x y z)

  -- the relation of vertices
  equivalence : IsEquivalence (same_vertex m f)
  equivalence = orbit-equivalence (2 * m) f

  -- no dart is at both
  not-both : (z : ℕ) → same_vertex m f d z ≡ true → same_vertex m f (twin d) z ≡ true → ⊥
  not-both z t u = both_ways (same_vertex m f d (twin d)) v (equivalence.transitive d z (twin d) t (equivalence.symmetric (twin d) z u))

  -- darts at different ones of the two are different
  apart : (z w : ℕ) → same_vertex m f d z ≡ true → same_vertex m f (twin d) w ≡ true → z ≡ w → ⊥
  apart z w t u i = not-both z t (subst (λ (r : ℕ). same_vertex m f (twin d) r ≡ true) (sym i) u)

  -- at the first vertex those stay that are one of the first three
  keep-first : (z : ℕ) → same_vertex m f d z ≡ true → keep z ≡ one_of_three d a b z
  keep-first z t = rw (t, false_from_ne_true (one_of_three (twin d) x y z) (λ u. not-both z t (turn-at m f g e (twin d) x y q z u))) (grind (arith, cases_Bool (one_of_three d a b z)))

  -- at the second vertex those stay that are one of the second three
  keep-second : (z : ℕ) → same_vertex m f (twin d) z ≡ true → keep z ≡ one_of_three (twin d) x y z
  keep-second z t = rw (t, false_from_ne_true (one_of_three d a b z) (λ u. not-both z (turn-at m f g e d a b o z u) t)) (grind (arith, cases_Bool (same_vertex m f d z)))

  -- all others stay
  keep-away : (z : ℕ) → (same_vertex m f d z || same_vertex m f (twin d) z) ≡ false → keep z ≡ true
  keep-away z t = rw t refl

  -- the restricted map
  abbrev small : ℕ → ℕ
  small = restricted (2 * m) keep f

  -- its inverse
  small-map : IsMap m (restricted (2 * m) keep f) (restricted (2 * m) keep g)
  small-map = restricted-permutes (2 * m) keep f g e

  -- it follows the first three
  small-first : (z w : ℕ) → z < 2 * m → one_of_three d a b z ≡ true → restricted (2 * m) (one_of_three d a b) f z ≡ w → small z ≡ w
  small-first z w l t i = restricted-more m f g e (one_of_three d a b) keep d z w l (turn-at m f g e d a b o z t) keep-first t i

  -- and the second three
  small-second : (z w : ℕ) → z < 2 * m → one_of_three (twin d) x y z ≡ true → restricted (2 * m) (one_of_three (twin d) x y) f z ≡ w → small z ≡ w
  small-second z w l t i = restricted-more m f g e (one_of_three (twin d) x y) keep (twin d) z w l (turn-at m f g e (twin d) x y q z t) keep-second t i

  -- what it does at the six
  here : small d ≡ a
  here = small-first d a (o.darts.0) (three-members d a b).0 (o.first)

  -- at the twin
  there : small (twin d) ≡ x
  there = small-second (twin d) x (q.darts.0) (three-members (twin d) x y).0 (q.first)

  -- the edge still joins two vertices
  joins : same_vertex m (restricted (2 * m) keep f) d (twin d) ≡ false
  joins = restricted-orbit (2 * m) keep f g e d (twin d) (keep-first d (equivalence.reflexive d) ∙ (three-members d a b).0) (keep-second (twin d) (equivalence.reflexive (twin d)) ∙ (three-members (twin d) x y).0) ∙ v

  -- darts of the first vertex
  at-a : same_vertex m f d a ≡ true
  at-a = turn-at-b m f g e d a b o

  -- the second of them
  at-b : same_vertex m f d b ≡ true
  at-b = turn-at-c m f g e d a b o

  -- darts of the second vertex
  at-x : same_vertex m f (twin d) x ≡ true
  at-x = turn-at-b m f g e (twin d) x y q

  -- the second of them
  at-y : same_vertex m f (twin d) y ≡ true
  at-y = turn-at-c m f g e (twin d) x y q

  -- a is neither dart of the edge
  ad : a ≡ d → ⊥
  ad i = o.different (sym i)

  -- nor is b
  bd : b ≡ d → ⊥
  bd = turn-ca m f g e d a b o

  -- x is not the twin
  xt : x ≡ twin d → ⊥
  xt i = q.different (sym i)

  -- nor is y
  yt : y ≡ twin d → ⊥
  yt = turn-ca m f g e (twin d) x y q

  -- a is not the twin
  aw : a ≡ twin d → ⊥
  aw = apart a (twin d) at-a (equivalence.reflexive (twin d))

  -- b is not the twin
  bw : b ≡ twin d → ⊥
  bw = apart b (twin d) at-b (equivalence.reflexive (twin d))

  -- x is not d
  xd : x ≡ d → ⊥
  xd i = apart d x (equivalence.reflexive d) at-x (sym i)

  -- y is not d
  yd : y ≡ d → ⊥
  yd i = apart d y (equivalence.reflexive d) at-y (sym i)

  -- the four darts other than the edge's in the contracted map: a is followed by b
  first : contracted d (restricted (2 * m) keep f) a ≡ b
  first = contracted-other d small a ad aw (λ i. bd (sym step ∙ i)) (λ i. bw (sym step ∙ i)) ∙ step
    where
      step : small a ≡ b
      step = small-first a b (o.darts.1) (three-members d a b).1 (o.second)

  -- b by x
  second : contracted d (restricted (2 * m) keep f) b ≡ x
  second = contracted-before d small b bd bw (small-first b d (o.darts.2) (three-members d a b).2 (o.third)) ∙ follows-own (twin d) d small (λ i. xt (sym there ∙ i)) ∙ there

  -- x by y
  third : contracted d (restricted (2 * m) keep f) x ≡ y
  third = contracted-other d small x xd xt (λ i. yd (sym step ∙ i)) (λ i. yt (sym step ∙ i)) ∙ step
    where
      step : small x ≡ y
      step = small-second x y (q.darts.1) (three-members (twin d) x y).1 (q.second)

  -- and y by a
  fourth : contracted d (restricted (2 * m) keep f) y ≡ a
  fourth = contracted-before-twin d small y yd yt (small-second y (twin d) (q.darts.2) (three-members (twin d) x y).2 (q.third)) ∙ follows-own d (twin d) small (λ i. ad (sym here ∙ i)) ∙ here

  -- each of the four is at one of the two vertices
  at-four : (z : ℕ) → one_of_four a b x y z ≡ true → (same_vertex m f d z || same_vertex m f (twin d) z) ≡ true
  at-four z t = elim (four-cases a b x y z t) [
    | inl i ↦ or_left (same_vertex m f d z) (same_vertex m f (twin d) z) (subst (λ (w : ℕ). same_vertex m f d w ≡ true) (sym i) at-a)
    | inr r ↦ elim r [
      | inl i ↦ or_left (same_vertex m f d z) (same_vertex m f (twin d) z) (subst (λ (w : ℕ). same_vertex m f d w ≡ true) (sym i) at-b)
      | inr r ↦ elim r [
        | inl i ↦ or_right (same_vertex m f d z) (same_vertex m f (twin d) z) (subst (λ (w : ℕ). same_vertex m f (twin d) w ≡ true) (sym i) at-x)
        | inr i ↦ or_right (same_vertex m f d z) (same_vertex m f (twin d) z) (subst (λ (w : ℕ). same_vertex m f (twin d) w ≡ true) (sym i) at-y)
      ]
    ]
  ]

  -- a step from another vertex leads to another vertex
  step-away : (z : ℕ) → z < 2 * m → (same_vertex m f d z || same_vertex m f (twin d) z) ≡ false → (same_vertex m f d (f z) || same_vertex m f (twin d) (f z)) ≡ false
  step-away z l t = let w = or_parts (same_vertex m f d z) (same_vertex m f (twin d) z) t in
      or_from (same_vertex m f d (f z)) (same_vertex m f (twin d) (f z))
      (false_from_ne_true (same_vertex m f d (f z)) (λ u. both_ways (same_vertex m f d z) w.0 (equivalence.transitive d (f z) z u back)))
      (false_from_ne_true (same_vertex m f (twin d) (f z)) (λ u. both_ways (same_vertex m f (twin d) z) w.1 (equivalence.transitive (twin d) (f z) z u back)))
    where
      back : same_vertex m f (f z) z ≡ true
      back = equivalence.symmetric z (f z) (orbit-step (2 * m) f z l)

  -- a dart at one of the two vertices that is none of the six is alone
  gone : (z : ℕ) → (same_vertex m f d z || same_vertex m f (twin d) z) ≡ true → (z ≡ d → ⊥) → (z ≡ twin d → ⊥) → one_of_four a b x y z ≡ false → small z ≡ z
  gone z t i j u = let n = four-none a b x y z u in elim (or_cases (same_vertex m f d z) (same_vertex m f (twin d) z) t) [
    | inl w ↦ restricted-alone (2 * m) keep f z (keep-first z w ∙ three-not d a b z i n.0 n.1)
    | inr w ↦ restricted-alone (2 * m) keep f z (keep-second z w ∙ three-not (twin d) x y z j n.2 n.3)
  ]

  -- away from the four the contracted map is the map with both vertices opened
  opened : (z : ℕ) → z < 2 * m → one_of_four a b x y z ≡ false → frozen (λ w. same_vertex m f d w || same_vertex m f (twin d) w) f z ≡ contracted d (restricted (2 * m) keep f) z
  opened z l u = elim (cases_Bool (same_vertex m f d z || same_vertex m f (twin d) z)) [
    | inl t ↦ frozen-here (λ w. same_vertex m f d w || same_vertex m f (twin d) w) f z t ∙ sym (elim (cases_eq z d) [
      | inl i ↦ ap (contracted d small) i ∙ contracted-here d small ∙ sym i
      | inr i ↦ elim (cases_eq z (twin d)) [
        | inl j ↦ ap (contracted d small) j ∙ contracted-twin d small ∙ sym j
        | inr j ↦ let s = gone z t i j u in contracted-other d small z i j (λ r. i (sym s ∙ r)) (λ r. j (sym s ∙ r)) ∙ s
      ]
    ])
    | inr t ↦ frozen-elsewhere (λ w. same_vertex m f d w || same_vertex m f (twin d) w) f z t ∙ sym (away z l t)
  ]
    where
      other : (w : ℕ) → (same_vertex m f d w || same_vertex m f (twin d) w) ≡ false → (w ≡ d → ⊥) × (w ≡ twin d → ⊥)
      other w t = let n = or_parts (same_vertex m f d w) (same_vertex m f (twin d) w) t in (
        λ i. both_ways (same_vertex m f d w) n.0 (subst (λ (r : ℕ). same_vertex m f d r ≡ true) (sym i) (equivalence.reflexive d)),
        λ i. both_ways (same_vertex m f (twin d) w) n.1 (subst (λ (r : ℕ). same_vertex m f (twin d) r ≡ true) (sym i) (equivalence.reflexive (twin d))),
      )

      away : (w : ℕ) → w < 2 * m → (same_vertex m f d w || same_vertex m f (twin d) w) ≡ false → contracted d (restricted (2 * m) keep f) w ≡ f w
      away w k t = let s = restricted-next (2 * m) keep f g e w k (keep-away w t) (keep-away (f w) (step-away w k t)) in
          let n = other w t in let r = other (f w) (step-away w k t) in
          contracted-other d small w n.0 n.1 (λ i. r.0 (sym s ∙ i)) (λ i. r.1 (sym s ∙ i)) ∙ s

  -- then all four are connected without passing the two vertices
  pub link-noncrossing : connected_past m f d (twin d) a b ≡ true
  link-noncrossing = four-darts m (contracted d (restricted (2 * m) keep f)) (dropped d (back_after (restricted (2 * m) keep g d) (twin d) (restricted (2 * m) keep g)))
      (contracted-map m small (restricted (2 * m) keep g) small-map d (o.darts.0) joins)
      (contract-plane m small (restricted (2 * m) keep g) small-map d (o.darts.0) joins (restricted-plane m f g e p keep))
      a b x y (o.darts.1) (o.darts.2) (q.darts.1) (q.darts.2)
      (λ i. turn-bc m f g e d a b o i) (apart a y at-a at-y) (apart b x at-b at-x) (apart b y at-b at-y) (apart a x at-a at-x) (turn-bc m f g e (twin d) x y q)
      first second third fourth
      (frozen (λ w. same_vertex m f d w || same_vertex m f (twin d) w) f)
      (λ z l t. frozen-here (λ w. same_vertex m f d w || same_vertex m f (twin d) w) f z (at-four z t))
      opened one two
