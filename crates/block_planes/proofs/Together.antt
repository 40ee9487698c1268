-- A map whose labels are separated at each vertex and cross nowhere is plane where the edges of each label are.
use Rattle.std.proofs.Common.{◌≡◌, ◌≢◌, ℕ, zero, suc, ◌*◌, ◌<◌, inl, inr, Bool, true, false, not, ◌&&◌, ◌==◌, List, [], ◌∷◌, filter, refl, sym, ap, ap₂, ◌∙◌, subst, arith, eq-eqb, le_refl}
use Rattle.std.proofs.lemmas.Bool.{cases_Bool, both_ways, and_parts, and_from, eqb-true, eqb-false, ne_eqb, not-true, not-false}
use Rattle.permutations.specs.Count.{count, some}
use Rattle.permutations.specs.Permutation.{Permutes, iterate}
use Rattle.permutations.specs.Members.{is_member}
use Rattle.permutations.specs.Cyclic.{IsTurn, FollowsAround}
use Rattle.permutations.specs.Exchange.{restricted, taken_out}
use Rattle.permutations.specs.Ring.{ring}
use Rattle.permutations.proofs.Relation.{same-tests}
use Rattle.permutations.proofs.Count.{count-less}
use Rattle.permutations.proofs.Search.{some-witness, some-none}
use Rattle.permutations.proofs.Filter.{member-filter_parts, filter-ext, filter-filter}
use Rattle.permutations.proofs.CyclicOrder.{around-member}
use Rattle.permutations.proofs.Iterates.{iterate-below}
use Rattle.permutations.proofs.TakenOut.{taken-out-permutes}
use Rattle.permutations.proofs.Restriction.{goes-restricted, restricted-goes, restricted-alone, restricted-next, restricted-permutes, restricted-taken-out}
use Rattle.permutations.proofs.Rings.{ring-itself, ring-distinct, ring-successor, ring-below, ring-from_list, ring-turn}
use Rattle.permutations.proofs.Removal.{ring-taken_out}
use Rattle.dart_maps.specs.Map.{twin, IsMap, IsPlane}
use Rattle.dart_maps.proofs.Euler.{plane-ext, still-plane}
use Rattle.dart_maps.proofs.Plane.{restricted-plane}
use Rattle.dart_maps.proofs.Parts.{parts-plane}
use Rattle.block_planes.proofs.Separated.{IsSeparated, left-stays, left-vertex, left-twice, left-separated}
use Rattle.block_planes.proofs.Cut.{TwoSides, two-sides}

-- tests that agree leave the same
pub restricted-ext : (n : ℕ) (keep other : ℕ → Bool) (f g : ℕ → ℕ) → Permutes n f g → ((z : ℕ) → z < n → keep z ≡ other z) → (x : ℕ) → x < n → restricted n keep f x ≡ restricted n other f x
restricted-ext n keep other f g b same x l = elim (cases_Bool (keep x)) [
  | inr t ↦ restricted-alone n keep f x t ∙ sym (restricted-alone n other f x (sym (same x l) ∙ t))
  | inl t ↦ sym (goes-restricted n other f g b x l (sym (same x l) ∙ t) (restricted n keep f x) (walk t))
]
  where
    walk : keep x ≡ true → (j : ℕ) × (restricted n keep f x ≡ iterate f (suc j) x) × (other (restricted n keep f x) ≡ true) × ((i : ℕ) → i < j → other (iterate f (suc i) x) ≡ false)
    walk t =
        let w = restricted-goes n keep f g b x l t in (
          w.0,
          w.1,
          sym (same (restricted n keep f x) ((restricted-permutes n keep f g b).forth x l)) ∙ w.2,
          λ i j. sym (same (iterate f (suc i) x) (iterate-below n f g b (suc i) x l)) ∙ w.3 i j,
        )

-- permutations that agree have the same rings
ring-ext : (n : ℕ) (a p c q : ℕ → ℕ) → Permutes n a p → Permutes n c q → ((z : ℕ) → z < n → a z ≡ c z) → (x : ℕ) → x < n → ring n a x ≡ ring n c x
ring-ext n a p c q i j same x l = ring-from_list n a p i (ring n c x) (ring-distinct n c q j x l) (λ z m. ring-successor n c q j x l z m ∙ sym (same z (ring-below n c q j x l z m))) x l (ring-itself n c q j x l)
    ∙ sym (ring-turn n c q j x x l (ring-itself n c q j x l))

-- the ring of a number that passes, where the others are left out
left-ring : (n : ℕ) (stay : ℕ → Bool) (f g : ℕ → ℕ) → Permutes n f g → (x : ℕ) → x < n → stay x ≡ true → ring n (restricted n stay f) x ≡ filter stay (ring n f x)
left-ring n stay f g b x l t = ring-ext n (restricted n stay f) (restricted n stay g) (taken_out stay n f) (taken_out stay n g) (restricted-permutes n stay f g b) (taken-out-permutes n stay f g b n (le_refl n))
    (λ z k. restricted-taken-out n stay f g b z k) x l
    ∙ ring-taken_out n stay f g b x l t

-- what follows in this order around some of the members does so around all
left-around : (stay : ℕ → Bool) (l k : List ℕ) → FollowsAround (filter stay l) k → FollowsAround l k
left-around stay l k h = subst (λ v. IsTurn v k) (filter-filter (λ x. is_member x k) stay l ∙ filter-ext (λ x. stay x && is_member x k) (λ x. is_member x k) l same) h
  where
    same : (x : ℕ) → is_member x l ≡ true → (stay x && is_member x k) ≡ is_member x k
    same x m = same-tests (stay x && is_member x k) (is_member x k)
        (λ t. (and_parts (stay x) (is_member x k) t).1)
        (λ t. and_from (stay x) (is_member x k) (member-filter_parts stay l x (around-member (filter stay l) k x h t)).1 t)

-- a map with labels of its edges that are separated at each vertex and do not cross, and are plane one by one
module _ (m : ℕ) (f g : ℕ → ℕ) (b : IsMap m f g) (lab : ℕ → ℕ) (whole : (d : ℕ) → d < 2 * m → lab (twin d) ≡ lab d)
    (separated : (u : ℕ) → u < 2 * m → (k : ℕ) → IsSeparated m f lab u k)
    (none : (x p q v w : ℕ) → x < 2 * m → FollowsAround (ring (2 * m) f x) (p ∷ q ∷ v ∷ w ∷ []) → lab p ≡ lab v → lab q ≡ lab w → lab p ≡ lab q)
    (each : (x : ℕ) → x < 2 * m → IsPlane m (restricted (2 * m) (λ d. lab d == lab x) f)) where
  -- whether a test says the same of both darts of each edge
  abbrev OfEdges : (ℕ → Bool) → Type 0
  OfEdges t = (d : ℕ) → d < 2 * m → t (twin d) ≡ t d

  -- edges of one label are plane
  one-label : (stay : ℕ → Bool) (x : ℕ) → x < 2 * m → ((d : ℕ) → d < 2 * m → stay d ≡ true → lab d ≡ lab x) → IsPlane m (restricted (2 * m) stay f)
  one-label stay x l same = plane-ext m (restricted (2 * m) stay (restricted (2 * m) (λ d. lab d == lab x) f)) (restricted (2 * m) stay f)
      (λ d k. left-twice m f g b (λ z. lab z == lab x) stay d k ∙ restricted-ext (2 * m) (λ z. (lab z == lab x) && stay z) stay f g b agree d k)
      (restricted-plane m (restricted (2 * m) (λ d. lab d == lab x) f) (restricted (2 * m) (λ d. lab d == lab x) g) (restricted-permutes (2 * m) (λ d. lab d == lab x) f g b) (each x l) stay)
    where
      agree : (z : ℕ) → z < 2 * m → ((lab z == lab x) && stay z) ≡ stay z
      agree z k = same-tests ((lab z == lab x) && stay z) (stay z)
          (λ t. (and_parts (lab z == lab x) (stay z) t).1)
          (λ t. and_from (lab z == lab x) (stay z) (eq-eqb (lab z) (lab x) (same z k t)) t)

  -- what is known of fewer edges
  abbrev Fewer : ℕ → Type 0
  Fewer fuel = (t : ℕ → Bool) → ((d : ℕ) → d < 2 * m → t (twin d) ≡ t d) → count (2 * m) t < fuel → IsPlane m (restricted (2 * m) t f)

  -- a side of the map of some edges, that has not all of them
  half : (fuel : ℕ) → Fewer fuel → (stay : ℕ → Bool) → OfEdges stay → count (2 * m) stay < suc fuel → (keep : ℕ → Bool) → OfEdges keep → (e : ℕ) → e < 2 * m → stay e ≡ true → keep e ≡ false
      → IsPlane m (restricted (2 * m) keep (restricted (2 * m) stay f))
  half fuel known stay w c keep v e l t n = plane-ext m (restricted (2 * m) (λ z. stay z && keep z) f) (restricted (2 * m) keep (restricted (2 * m) stay f))
      (λ d k. sym (left-twice m f g b stay keep d k))
      (known (λ z. stay z && keep z) (λ d k. ap₂ (λ y z. y && z) (w d k) (v d k)) (omega (arith, c, less)))
    where
      less : count (2 * m) (λ z. stay z && keep z) < count (2 * m) stay
      less = count-less (2 * m) (λ z. stay z && keep z) stay e (λ x k h. (and_parts (stay x) (keep x) h).0) l (ap (λ y. stay e && y) n ∙ ap (λ y. y && false) t) t

  -- some edges with two labels at one vertex
  cut-there : (fuel : ℕ) → Fewer fuel → (stay : ℕ → Bool) → OfEdges stay → count (2 * m) stay < suc fuel → (x : ℕ) → x < 2 * m → lab (restricted (2 * m) stay f x) ≢ lab x → IsPlane m (restricted (2 * m) stay f)
  cut-there fuel known stay w c x l n = s.together
      (half fuel known stay w c s.side s.edges x l here s.fails)
      (half fuel known stay w c (λ d. not (s.side d)) (λ d k. ap not (s.edges d k)) s.inside s.inside_in (left-vertex m f g b stay x s.inside s.one_vertex ∙ here) (ap not s.passes))
    where
      left : ℕ → ℕ
      left = restricted (2 * m) stay f

      left-map : IsMap m (restricted (2 * m) stay f) (restricted (2 * m) stay g)
      left-map = restricted-permutes (2 * m) stay f g b

      here : stay x ≡ true
      here = elim (cases_Bool (stay x)) [ inl t ↦ t | inr t ↦ absurd (n (ap lab (restricted-alone (2 * m) stay f x t))) ]

      s : TwoSides m (restricted (2 * m) stay f) x
      s = two-sides m (restricted (2 * m) stay f) (restricted (2 * m) stay g) left-map lab x l n (λ k. left-separated m f g b stay w lab x k here (separated x l k))
          (λ p q v z o i j. none (restricted (2 * m) stay f x) p q v z (left-map.forth x l)
          (left-around stay (ring (2 * m) f (restricted (2 * m) stay f x)) (p ∷ q ∷ v ∷ z ∷ [])
          (subst (λ k. FollowsAround k (p ∷ q ∷ v ∷ z ∷ [])) (left-ring (2 * m) stay f g b (restricted (2 * m) stay f x) (left-map.forth x l) (left-stays m f g b stay x l ∙ here)) o)) i j)

  -- some edges with two labels, and one label at each vertex
  by-label : (fuel : ℕ) → Fewer fuel → (stay : ℕ → Bool) → OfEdges stay → count (2 * m) stay < suc fuel → (x y : ℕ) → x < 2 * m → y < 2 * m → stay x ≡ true → stay y ≡ true → lab y ≢ lab x
      → ((d : ℕ) → d < 2 * m → lab (restricted (2 * m) stay f d) ≡ lab d) → IsPlane m (restricted (2 * m) stay f)
  by-label fuel known stay w c x y l k i j n same = parts-plane m (restricted (2 * m) stay f) (restricted (2 * m) stay g) (restricted-permutes (2 * m) stay f g b) (λ d. lab d == lab x)
      (λ d h. ap (λ z. z == lab x) (same d h)) (λ d h. ap (λ z. z == lab x) (whole d h))
      (half fuel known stay w c (λ d. lab d == lab x) (λ d h. ap (λ z. z == lab x) (whole d h)) y k j (ne_eqb (lab y) (lab x) n))
      (half fuel known stay w c (λ d. not (lab d == lab x)) (λ d h. ap (λ z. not (z == lab x)) (whole d h)) x l i (ap not (eq-eqb (lab x) (lab x) refl)))

  -- all maps of some of the edges are plane
  some-edges : (fuel : ℕ) → Fewer fuel
  some-edges zero t w c = absurd (omega (arith, c))
  some-edges (suc fuel) t w c = elim (cases_Bool (some (2 * m) t)) [
    | inr n ↦ still-plane m (restricted (2 * m) t f) (λ d l. restricted-alone (2 * m) t f d (some-none (2 * m) t n d l))
    | inl h ↦ with-edge (some-edges fuel) (some-witness (2 * m) t h)
  ]
    where
      with-edge : Fewer fuel → (x : ℕ) × (x < 2 * m) × (t x ≡ true) → IsPlane m (restricted (2 * m) t f)
      with-edge known x = elim (cases_Bool (some (2 * m) (λ d. t d && not (lab d == lab x.0)))) [
        | inr n ↦ one-label t x.0 x.1 (λ d l h. elim (cases_Bool (lab d == lab x.0)) [
          | inl e ↦ eqb-true (lab d) (lab x.0) e
          | inr e ↦ absurd (both_ways (t d && not (lab d == lab x.0)) (some-none (2 * m) (λ d. t d && not (lab d == lab x.0)) n d l) (and_from (t d) (not (lab d == lab x.0)) h (ap not e)))
        ])
        | inl h ↦ with-two (some-witness (2 * m) (λ d. t d && not (lab d == lab x.0)) h)
      ]
        where
          with-two : (y : ℕ) × (y < 2 * m) × ((t y && not (lab y == lab x.0)) ≡ true) → IsPlane m (restricted (2 * m) t f)
          with-two y = elim (cases_Bool (some (2 * m) (λ d. not (lab (restricted (2 * m) t f d) == lab d)))) [
            | inl h ↦
                let z = some-witness (2 * m) (λ d. not (lab (restricted (2 * m) t f d) == lab d)) h in
                cut-there fuel known t w c z.0 z.1 (eqb-false (lab (restricted (2 * m) t f z.0)) (lab z.0) (not-true (lab (restricted (2 * m) t f z.0) == lab z.0) z.2))
            | inr n ↦
                let both = and_parts (t y.0) (not (lab y.0 == lab x.0)) y.2 in
                by-label fuel known t w c x.0 y.0 x.1 y.1 x.2 both.0 (eqb-false (lab y.0) (lab x.0) (not-true (lab y.0 == lab x.0) both.1))
                (λ d l. eqb-true (lab (restricted (2 * m) t f d)) (lab d) (not-false (lab (restricted (2 * m) t f d) == lab d) (some-none (2 * m) (λ d. not (lab (restricted (2 * m) t f d) == lab d)) n d l)))
          ]

  -- so the map is
  pub labels-plane : IsPlane m f
  labels-plane = plane-ext m (restricted (2 * m) (λ d. true) f) f (λ d l. restricted-next (2 * m) (λ d. true) f g b d l refl refl)
      (some-edges (suc (count (2 * m) (λ d. true))) (λ d. true) (λ d l. refl) (omega arith))
