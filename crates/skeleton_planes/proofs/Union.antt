-- Maps side by side are a map, which is plane exactly where each of them is.
use Rattle.std.proofs.Common.{◌≡◌, ℕ, ◌*◌, ◌<◌, ◌≤◌, Bool, cond, ◌==◌, ltb, inl, inr, refl, sym, ap, ap₂, ◌∙◌, subst, arith, eq-eqb, eqb-true, lt-ltb, le-ltb, ltb-true}
use Rattle.std.proofs.lemmas.Bool.{cases_lt, ltb-false}
use Rattle.permutations.specs.Exchange.{restricted}
use Rattle.permutations.proofs.Restriction.{restricted-permutes}
use Rattle.dart_maps.specs.Map.{twin, IsMap, IsPlane}
use Rattle.dart_maps.specs.Renumbering.{IsRenumbering}
use Rattle.dart_maps.proofs.Darts.{twin-below, twin-cases}
use Rattle.dart_maps.proofs.Renumber.{renumber-plane, renumber-plane-back}
use Rattle.skeleton_planes.proofs.Numbering.{coded, part_of, local_of, united}
use Rattle.skeleton_planes.proofs.Coded.{part-coded, local-coded, coded-local, coded-below, part-below, local-below, some-width, part-twin, coded-twin}
use Rattle.skeleton_planes.proofs.ManyParts.{restricted-kept, many-plane, many-plane-back}

-- n maps with room for w edges each
module _ (w n : ℕ) (f g : ℕ → ℕ → ℕ) (maps : (k : ℕ) → k < n → IsMap w (f k) (g k)) where
  -- the map that a dart belongs to
  at : (x : ℕ) → x < 2 * (w * n) → IsMap w (f (part_of w x)) (g (part_of w x))
  at x l = maps (part_of w x) (part-below w n x l)

  -- the dart there
  inside : (x : ℕ) → x < 2 * (w * n) → local_of w x < 2 * w
  inside x l = local-below w x (some-width w n x l)

  -- the step keeps the map
  pub united-part : (x : ℕ) → x < 2 * (w * n) → part_of w (united w f x) ≡ part_of w x
  united-part x l = part-coded w (part_of w x) (f (part_of w x) (local_of w x)) ((at x l).forth (local_of w x) (inside x l))

  -- and is that map's step
  pub united-local : (x : ℕ) → x < 2 * (w * n) → local_of w (united w f x) ≡ f (part_of w x) (local_of w x)
  united-local x l = local-coded w (part_of w x) (f (part_of w x) (local_of w x)) ((at x l).forth (local_of w x) (inside x l))

  -- the inverse likewise
  back-part : (x : ℕ) → x < 2 * (w * n) → part_of w (united w g x) ≡ part_of w x
  back-part x l = part-coded w (part_of w x) (g (part_of w x) (local_of w x)) ((at x l).back (local_of w x) (inside x l))

  -- in the dart's map
  back-local : (x : ℕ) → x < 2 * (w * n) → local_of w (united w g x) ≡ g (part_of w x) (local_of w x)
  back-local x l = local-coded w (part_of w x) (g (part_of w x) (local_of w x)) ((at x l).back (local_of w x) (inside x l))

  -- side by side they are a map
  pub united-map : IsMap (w * n) (united w f) (united w g)
  united-map = record {
    forth = λ x l. coded-below w n (part_of w x) (f (part_of w x) (local_of w x)) (part-below w n x l) ((at x l).forth (local_of w x) (inside x l));
    back = λ x l. coded-below w n (part_of w x) (g (part_of w x) (local_of w x)) (part-below w n x l) ((at x l).back (local_of w x) (inside x l));
    back_forth = λ x l. ap₂ (λ k z. coded w k (g k z)) (united-part x l) (united-local x l) ∙ ap (coded w (part_of w x)) ((at x l).back_forth (local_of w x) (inside x l)) ∙ coded-local w x;
    forth_back = λ x l. ap₂ (λ k z. coded w k (f k z)) (back-part x l) (back-local x l) ∙ ap (coded w (part_of w x)) ((at x l).forth_back (local_of w x) (inside x l)) ∙ coded-local w x;
  }

  -- map k under its own numbers
  module _ (k : ℕ) (b : k < n) where
    -- its darts
    abbrev live : ℕ → Bool
    live x = part_of w x == k

    -- what is left of the whole there
    left-is : (x : ℕ) → x < 2 * (w * n) → restricted (2 * (w * n)) live (united w f) x ≡ cond (live x) (united w f x) x
    left-is = restricted-kept (w * n) (united w f) (united w g) united-map live (λ x l. ap (λ z. z == k) (united-part x l))

    -- it is that map under other numbers
    renumbering : IsRenumbering w (f k) (w * n) (restricted (2 * (w * n)) (λ x. part_of w x == k) (united w f)) (λ x. part_of w x == k) (coded w k) (local_of w)
    renumbering = record {
      whole_edges = λ x l. ap (λ z. z == k) (part-twin w x);
      others_alone = λ x l h. left-is x l ∙ ap (λ (z : Bool). cond z (united w f x) x) h;
      darts = λ z l. coded-below w n k z b l;
      lives = λ z l. eq-eqb (part_of w (coded w k z)) k (part-coded w k z l);
      darts_back = λ x l h. inside x l;
      into_back = λ x l h. ap (λ z. coded w z (local_of w x)) (sym (eqb-true (part_of w x) k h)) ∙ coded-local w x;
      back_into = λ z l. local-coded w k z l;
      twins = λ z l. coded-twin w k z;
      steps = λ z l. sym (left-is (coded w k z) (coded-below w n k z b l)
          ∙ ap (λ (t : Bool). cond t (united w f (coded w k z)) (coded w k z)) (eq-eqb (part_of w (coded w k z)) k (part-coded w k z l))
          ∙ ap₂ (λ a c. coded w a (f a c)) (part-coded w k z l) (local-coded w k z l));
    }

    -- so it is plane where the part is
    part-plane : IsPlane w (f k) → IsPlane (w * n) (restricted (2 * (w * n)) (λ x. part_of w x == k) (united w f))
    part-plane = renumber-plane w (f k) (g k) (maps k b) (w * n) (restricted (2 * (w * n)) live (united w f)) (restricted (2 * (w * n)) live (united w g)) (restricted-permutes (2 * (w * n)) live (united w f) (united w g) united-map) live (coded w k) (local_of w) renumbering

    -- and the other way round
    part-plane-back : IsPlane (w * n) (restricted (2 * (w * n)) (λ x. part_of w x == k) (united w f)) → IsPlane w (f k)
    part-plane-back = renumber-plane-back w (f k) (g k) (maps k b) (w * n) (restricted (2 * (w * n)) live (united w f)) (restricted (2 * (w * n)) live (united w g)) (restricted-permutes (2 * (w * n)) live (united w f) (united w g) united-map) live (coded w k) (local_of w) renumbering

  -- the union is plane where each map is
  pub united-plane : ((k : ℕ) → k < n → IsPlane w (f k)) → IsPlane (w * n) (united w f)
  united-plane p = many-plane (w * n) (united w f) (united w g) united-map (part_of w) united-part (λ x l. part-twin w x) n (λ x l. part-below w n x l) (λ k l. part-plane k l (p k l))

  -- and each map where the union is
  pub united-plane-back : IsPlane (w * n) (united w f) → (k : ℕ) → k < n → IsPlane w (f k)
  united-plane-back p k l = part-plane-back k l (many-plane-back (w * n) (united w f) (united w g) united-map (part_of w) united-part (λ x l. part-twin w x) n (λ x l. part-below w n x l) p k l)

-- a map with fewer edges, with more that are dead
module _ (c w : ℕ) (few : c ≤ w) (f g : ℕ → ℕ) (b : IsMap c f g) where
  -- the step where there are darts
  abbrev filled : (ℕ → ℕ) → ℕ → ℕ
  filled h x = cond (ltb x (2 * c)) (h x) x

  -- there
  filled-in : (h : ℕ → ℕ) (x : ℕ) → x < 2 * c → cond (ltb x (2 * c)) (h x) x ≡ h x
  filled-in h x l = rw (lt-ltb x (2 * c) l) refl

  -- elsewhere
  filled-out : (h : ℕ → ℕ) (x : ℕ) → 2 * c ≤ x → cond (ltb x (2 * c)) (h x) x ≡ x
  filled-out h x l = rw (le-ltb x (2 * c) l) refl

  -- it stays within both numbers of darts
  filled-below : (h : ℕ → ℕ) → ((x : ℕ) → x < 2 * c → h x < 2 * c) → (x : ℕ) → x < 2 * w → cond (ltb x (2 * c)) (h x) x < 2 * w
  filled-below h k x l = elim (cases_lt x (2 * c)) [
    | inl i ↦ subst (λ z. z < 2 * w) (sym (filled-in h x i)) (let j : h x < 2 * c = k x i in omega arith)
    | inr i ↦ subst (λ z. z < 2 * w) (sym (filled-out h x i)) l
  ]

  -- what goes back where there are darts goes back everywhere
  filled-back : (h k : ℕ → ℕ) → ((x : ℕ) → x < 2 * c → h x < 2 * c) → ((x : ℕ) → x < 2 * c → k (h x) ≡ x) → (x : ℕ) → filled k (filled h x) ≡ x
  filled-back h k s e x = elim (cases_lt x (2 * c)) [
    | inl i ↦ ap (filled k) (filled-in h x i) ∙ filled-in k (h x) (s x i) ∙ e x i
    | inr i ↦ ap (filled k) (filled-out h x i) ∙ filled-out k x i
  ]

  -- it is a map
  pub filled-map : IsMap w (λ x. cond (ltb x (2 * c)) (f x) x) (λ x. cond (ltb x (2 * c)) (g x) x)
  filled-map = record {
    forth = filled-below f b.forth;
    back = filled-below g b.back;
    back_forth = λ x l. filled-back f g b.forth b.back_forth x;
    forth_back = λ x l. filled-back g f b.back b.forth_back x;
  }

  -- the same map, beside dead edges
  filled-renumbering : IsRenumbering c f w (λ x. cond (ltb x (2 * c)) (f x) x) (λ x. ltb x (2 * c)) (λ x. x) (λ x. x)
  filled-renumbering = record {
    whole_edges = λ x l. elim (cases_lt x (2 * c)) [
      | inl i ↦ lt-ltb (twin x) (2 * c) (twin-below c x i) ∙ sym (lt-ltb x (2 * c) i)
      | inr i ↦ le-ltb (twin x) (2 * c) (elim (twin-cases x) [ inl a ↦ omega (arith, a.1, i) | inr a ↦ omega (arith, a.0, a.1, i) ]) ∙ sym (le-ltb x (2 * c) i)
    ];
    others_alone = λ x l h. filled-out f x (ltb-false x (2 * c) h);
    darts = λ x l. omega arith;
    lives = λ x l. lt-ltb x (2 * c) l;
    darts_back = λ x l h. ltb-true x (2 * c) h;
    into_back = λ x l h. refl;
    back_into = λ x l. refl;
    twins = λ x l. refl;
    steps = λ x l. sym (filled-in f x l);
  }

  -- plane where the map is
  pub filled-plane : IsPlane c f → IsPlane w (λ x. cond (ltb x (2 * c)) (f x) x)
  filled-plane = renumber-plane c f g b w (filled f) (filled g) filled-map (λ x. ltb x (2 * c)) (λ x. x) (λ x. x) filled-renumbering

  -- and the other way round
  pub filled-plane-back : IsPlane w (λ x. cond (ltb x (2 * c)) (f x) x) → IsPlane c f
  filled-plane-back = renumber-plane-back c f g b w (filled f) (filled g) filled-map (λ x. ltb x (2 * c)) (λ x. x) (λ x. x) filled-renumbering
