-- Noncrossing: at a vertex of a plane map two connections that avoid it do not alternate.
use Rattle.std.proofs.Common.{◌≡◌, ℕ, suc, ◌*◌, ◌<◌, inl, inr, Bool, true, false, not, ◌||◌, refl, sym, ap, ◌∙◌, subst}
use Rattle.std.proofs.lemmas.Bool.{cases_Bool, both_ways, false_from_ne_true}
use Rattle.permutations.specs.Relation.{IsEquivalence}
use Rattle.permutations.specs.Permutation.{iterate}
use Rattle.permutations.proofs.Orbits.{orbit-equivalence, orbit-step}
use Rattle.dart_maps.specs.Map.{IsMap, same_vertex, IsPlane}
use Rattle.permutations.specs.Exchange.{restricted}
use Rattle.permutations.proofs.Iterates.{iterate-orbit}
use Rattle.permutations.proofs.Restriction.{GoesOn, goes-restricted, restricted-goes, restricted-next, restricted-alone, restricted-permutes}
use Rattle.dart_maps.specs.Order.{one_of_four, MetInOrder, frozen, connected_around}
use Rattle.dart_maps.proofs.Plane.{restricted-plane}
use Rattle.dart_maps.proofs.FourDarts.{frozen-here, frozen-elsewhere, four-members, four-cases, four-darts}

-- the dart that follows in a restriction is at the same vertex
pub restricted-vertex : (m : ℕ) (f g : ℕ → ℕ) → IsMap m f g → (keep : ℕ → Bool) (x y : ℕ) → x < 2 * m → keep x ≡ true → restricted (2 * m) keep f x ≡ y → same_vertex m f x y ≡ true
restricted-vertex m f g b keep x y l k e = let w = restricted-goes (2 * m) keep f g b x l k in
    subst (λ (z : ℕ). same_vertex m f x z ≡ true) (sym w.1 ∙ e) (iterate-orbit (2 * m) f g b (suc (w.0)) x l)

-- a restriction to more darts, but to the same at the vertex of u, goes on there alike
pub restricted-more : (m : ℕ) (f g : ℕ → ℕ) → IsMap m f g → (keep more : ℕ → Bool) (u x y : ℕ) → x < 2 * m → same_vertex m f u x ≡ true → ((z : ℕ) → same_vertex m f u z ≡ true → more z ≡ keep z) → keep x ≡ true → restricted (2 * m) keep f x ≡ y → restricted (2 * m) more f x ≡ y
restricted-more m f g b keep more u x y l v same k e = goes-restricted (2 * m) more f g b x l (same x v ∙ k) y (
  w.0,
  sym e ∙ w.1,
  same y (c.transitive u x y v (restricted-vertex m f g b keep x y l k e)) ∙ subst (λ (z : ℕ). keep z ≡ true) e w.2,
  λ i j. same (iterate f (suc i) x) (c.transitive u x (iterate f (suc i) x) v (iterate-orbit (2 * m) f g b (suc i) x l)) ∙ w.3 i j,
)
  where
    w : GoesOn keep f x (restricted (2 * m) keep f x)
    w = restricted-goes (2 * m) keep f g b x l k

    c : IsEquivalence (same_vertex m f)
    c = orbit-equivalence (2 * m) f

-- a plane map and four darts of one vertex in this order, a connected with c and b with d without passing it
module _ (m : ℕ) (f g : ℕ → ℕ) (e : IsMap m f g) (p : IsPlane m f) (a b c d : ℕ) (o : MetInOrder m f a b c d) (one : connected_around m f a a c ≡ true) (two : connected_around m f a b d ≡ true) where
  -- the darts that stay: the four, and all of other vertices
  abbrev keep : ℕ → Bool
  keep x = not (same_vertex m f a x) || one_of_four a b c d x

  -- the four darts alone, looked at round the vertex
  abbrev four : ℕ → ℕ
  four = restricted (2 * m) (one_of_four a b c d) f

  -- the four are different
  ab : a ≡ b → ⊥
  ab q = o.different (q ∙ sym (o.first) ∙ ap four q ∙ o.second)

  -- c and d
  cd : c ≡ d → ⊥
  cd q = o.different (sym (q ∙ sym (o.third) ∙ ap four q ∙ o.fourth))

  -- a and d
  ad : a ≡ d → ⊥
  ad q = ab (sym (o.fourth) ∙ ap four (sym q) ∙ o.first)

  -- b and c
  bc : b ≡ c → ⊥
  bc q = cd (sym (o.second) ∙ ap four q ∙ o.third)

  -- b and d
  bd : b ≡ d → ⊥
  bd q = o.different (sym (o.fourth) ∙ ap four (sym q) ∙ o.second)

  -- and at the vertex of a
  equivalence : IsEquivalence (same_vertex m f)
  equivalence = orbit-equivalence (2 * m) f

  -- b is
  at-b : same_vertex m f a b ≡ true
  at-b = restricted-vertex m f g e (one_of_four a b c d) a b (o.darts.0) (four-members a b c d).0 (o.first)

  -- so is c
  at-c : same_vertex m f a c ≡ true
  at-c = equivalence.transitive a b c at-b (restricted-vertex m f g e (one_of_four a b c d) b c (o.darts.1) (four-members a b c d).1 (o.second))

  -- and d
  at-d : same_vertex m f a d ≡ true
  at-d = equivalence.transitive a c d at-c (restricted-vertex m f g e (one_of_four a b c d) c d (o.darts.2) (four-members a b c d).2 (o.third))

  -- so each of the four is
  at-four : (x : ℕ) → one_of_four a b c d x ≡ true → same_vertex m f a x ≡ true
  at-four x t = elim (four-cases a b c d x t) [
    | inl i ↦ subst (λ (z : ℕ). same_vertex m f a z ≡ true) (sym i) (equivalence.reflexive a)
    | inr q ↦ elim q [
      | inl i ↦ subst (λ (z : ℕ). same_vertex m f a z ≡ true) (sym i) at-b
      | inr q ↦ elim q [
        | inl i ↦ subst (λ (z : ℕ). same_vertex m f a z ≡ true) (sym i) at-c
        | inr i ↦ subst (λ (z : ℕ). same_vertex m f a z ≡ true) (sym i) at-d
      ]
    ]
  ]

  -- at the vertex those stay that are one of the four
  keep-here : (z : ℕ) → same_vertex m f a z ≡ true → keep z ≡ one_of_four a b c d z
  keep-here z t = rw t refl

  -- and all others
  keep-away : (z : ℕ) → same_vertex m f a z ≡ false → keep z ≡ true
  keep-away z t = rw t refl

  -- the map restricted to them follows the four
  follows-four : (x y : ℕ) → x < 2 * m → one_of_four a b c d x ≡ true → four x ≡ y → restricted (2 * m) keep f x ≡ y
  follows-four x y l t q = restricted-more m f g e (one_of_four a b c d) keep a x y l (at-four x t) keep-here t q

  -- a step keeps the vertex
  step-away : (x : ℕ) → x < 2 * m → same_vertex m f a x ≡ false → same_vertex m f a (f x) ≡ false
  step-away x l t = false_from_ne_true (same_vertex m f a (f x)) (λ u. both_ways (same_vertex m f a x) t (equivalence.transitive a (f x) x u (equivalence.symmetric x (f x) (orbit-step (2 * m) f x l))))

  -- away from the four the restricted map is the map with the vertex opened
  opened : (x : ℕ) → x < 2 * m → one_of_four a b c d x ≡ false → frozen (same_vertex m f a) f x ≡ restricted (2 * m) keep f x
  opened x l t = elim (cases_Bool (same_vertex m f a x)) [
    | inl u ↦ frozen-here (same_vertex m f a) f x u ∙ sym (restricted-alone (2 * m) keep f x (keep-here x u ∙ t))
    | inr u ↦ frozen-elsewhere (same_vertex m f a) f x u ∙ sym (restricted-next (2 * m) keep f g e x l (keep-away x u) (keep-away (f x) (step-away x l u)))
  ]

  -- then all four are connected without passing the vertex
  pub noncrossing : connected_around m f a a b ≡ true
  noncrossing = four-darts m (restricted (2 * m) keep f) (restricted (2 * m) keep g) (restricted-permutes (2 * m) keep f g e) (restricted-plane m f g e p keep)
      a b c d (o.darts.0) (o.darts.1) (o.darts.2) (o.darts.3) ab ad bc bd (o.different) cd
      (follows-four a b (o.darts.0) (four-members a b c d).0 (o.first))
      (follows-four b c (o.darts.1) (four-members a b c d).1 (o.second))
      (follows-four c d (o.darts.2) (four-members a b c d).2 (o.third))
      (follows-four d a (o.darts.3) (four-members a b c d).3 (o.fourth))
      (frozen (same_vertex m f a) f)
      (λ x l t. frozen-here (same_vertex m f a) f x (at-four x t))
      opened one two
