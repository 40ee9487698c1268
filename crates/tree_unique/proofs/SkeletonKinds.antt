-- Skeletons of the kinds: polygons and triconnected graphs have no two items with the same ends; a triconnected graph has no
-- 2-separation.
use Rattle.std.proofs.Common.{◌≡◌, ◌≢◌, ℕ, zero, suc, ◌+◌, ◌<◌, ◌≤◌, ◌⊎◌, ◌&&◌, ◌==◌, inl, inr, Bool, true, false, not, cond, List, [], ◌∷◌, length, filter, slice_index_or, refl, sym, ap, ◌∙◌, subst, arith, Contains}
use Rattle.std.proofs.lemmas.Bool.{cases_Bool, cases_eq, both_ways, and_from, and_parts, ne_eqb, eqb-true, not-true, false_from_ne_true}
use Rattle.std.proofs.lemmas.List.{get_or_default}
use Rattle.std.proofs.lemmas.List.Elements.{All-contains, All-get_or, All-from_get_or}
use Rattle.permutations.specs.Count.{count, some}
use Rattle.permutations.specs.Members.{is_member, is_distinct}
use Rattle.permutations.specs.Relation.{connected}
use Rattle.permutations.proofs.Count.{count-ext}
use Rattle.permutations.proofs.Members.{distinct-head, distinct-tail, no_member-head, no_member-tail}
use Rattle.permutations.proofs.Relation.{connected-closed, same-tests}
use Rattle.permutations.proofs.Search.{some-from, some-witness}
use Rattle.graph_theory.specs.Triconnected.{avoids}
use Rattle.pair_split.specs.Skeleton.{is_end_of, SameEnds, is_vertex, degree, HasVertices, IsPolygon, IsBond, IsRigid}
use Rattle.pair_split.specs.Split.{items_of, item_at, piece_ends, skeleton}
use Rattle.pair_split.specs.declared.components.Comp.{Comp}
use Rattle.pair_split.proofs.Elements.{contains-here, contains-later, filter-contains}
use Rattle.pair_split.proofs.GraphFamily.{all-from_contained}
use Rattle.pair_split.proofs.Groups.{same-end, same-end_back}
use Rattle.pair_split.proofs.LargeSides.{three-vertices}
use Rattle.graph_theory.proofs.Counting.{bit, third-of}
use Rattle.tree_unique.proofs.Items.{first-end, second-end, end-of_two, same-pairs, is_at, skeleton-at, skeleton-length, at-vertex}

-- the first number in front
count-front : (n : ℕ) (p : ℕ → Bool) → count (suc n) p ≡ cond (p 0) 1 0 + count n (λ i. p (suc i))
count-front zero p = grind (arith, cases_Bool (p 0))
count-front (suc n) p = elim (cases_Bool (p (suc n))) [ inl h ↦ rw h (omega (arith, count-front n p)) | inr h ↦ rw h (count-front n p) ]

-- how many elements pass, counted by places
filter-count : {X : Type 0} (o : X) (t : X → Bool) (xs : List X) → length (filter t xs) ≡ count (length xs) (λ i. t (slice_index_or xs i o))
filter-count o t [] = refl
filter-count o t (x ∷ xs) = elim (cases_Bool (t x)) [
  | inl h ↦ rw h (omega (arith, filter-count o t xs, front, ap bit h))
  | inr h ↦ rw h (omega (arith, filter-count o t xs, front, ap bit h))
]
  where
    front : count (suc (length xs)) (λ i. t (slice_index_or (x ∷ xs) i o)) ≡ cond (t x) 1 0 + count (length xs) (λ i. t (slice_index_or xs i o))
    front = count-front (length xs) (λ i. t (slice_index_or (x ∷ xs) i o))

module _ (comps : List Comp) (k : ℕ) where
  abbrev size : ℕ
  size = length (items_of comps k)

  abbrev skel : List (ℕ × ℕ)
  skel = skeleton comps k

  -- items with the same two different ends are one
  abbrev pub IsSimpleAt : Type 0
  IsSimpleAt = (i h c d : ℕ) → i < size → h < size → c ≢ d → is_at comps k i c ≡ true → is_at comps k i d ≡ true → is_at comps k h c ≡ true → is_at comps k h d ≡ true → i ≡ h

  -- a degree, counted by items
  pub degree-count : (v : ℕ) → degree skel v ≡ count size (λ i. is_at comps k i v)
  degree-count v = filter-count (0, 0) (is_end_of v) skel ∙ ap (λ n. count n (λ i. is_end_of v (slice_index_or skel i (0, 0)))) (skeleton-length comps k)
      ∙ count-ext size (λ i. is_end_of v (slice_index_or skel i (0, 0))) (λ i. is_at comps k i v) (λ i l. ap (is_end_of v) (skeleton-at comps k i l))

  -- an item of a polygon at a vertex of two items is one of them
  pub polygon-two : IsPolygon skel → (v i h x : ℕ) → i < size → h < size → x < size → i ≢ h → is_at comps k i v ≡ true → is_at comps k h v ≡ true → is_at comps k x v ≡ true → (x ≡ i) ⊎ (x ≡ h)
  polygon-two p v i h x li lh lx n a b c = third-of size (λ i. is_at comps k i v) (omega (arith, degree-count v, p.degrees v (at-vertex comps k i v li a)))
      (record { first = i; second = h; differ = n; first_in = li; second_in = lh; first_on = a; second_on = b }) x lx c

  -- a test on vertices that has the same value at both ends of each item is the same on vertices that the items connect
  closed-items : (t : ℕ → Bool) → ((i : ℕ) → i < size → t (piece_ends (item_at comps k i)).0 ≡ t (piece_ends (item_at comps k i)).1) → (u v : ℕ) → connected skel u v ≡ true → t u ≡ t v
  closed-items t h = connected-closed skel t (All-from_get_or (λ (link : ℕ × ℕ). t link.0 ≡ t link.1) skel (0, 0) (λ i l.
      let b : i < size = omega (arith, l, skeleton-length comps k) in
      subst (λ (link : ℕ × ℕ). t link.0 ≡ t link.1) (sym (skeleton-at comps k i b)) (h i b)))

  -- a polygon is simple
  pub polygon-simple : IsPolygon skel → IsSimpleAt
  polygon-simple p i h c d li lh n ic id hc hd = elim (cases_eq i h) [
    | inl e ↦ e
    | inr m ↦
        let w = three-vertices 3 skel (omega arith) p.three in
        absurd (three w.a w.b w.c w.ab w.bc w.ca (all m w.a w.a_vertex) (all m w.b w.b_vertex) (all m w.c w.c_vertex))
  ]
    where
      -- an item with one of the two ends has both ends among them
      other : i ≢ h → (x : ℕ) → x < size → (v w : ℕ) → is_at comps k i v ≡ true → is_at comps k x v ≡ true → is_at comps k x w ≡ true → is_at comps k i w ≡ true
      other m x lx v w a b e = elim (polygon-two p v i h x li lh lx m a (shared v a) b) [
        | inl q ↦ subst (λ z. is_at comps k z w ≡ true) q e
        | inr q ↦ elim (end-of_two (piece_ends (item_at comps k h)) c d w n hc hd (subst (λ z. is_at comps k z w ≡ true) q e)) [
          | inl r ↦ subst (λ z. is_at comps k i z ≡ true) (sym r) ic
          | inr r ↦ subst (λ z. is_at comps k i z ≡ true) (sym r) id
        ]
      ]
        where
          shared : (v : ℕ) → is_at comps k i v ≡ true → is_at comps k h v ≡ true
          shared v a = elim (end-of_two (piece_ends (item_at comps k i)) c d v n ic id a) [
            | inl r ↦ subst (λ z. is_at comps k h z ≡ true) (sym r) hc
            | inr r ↦ subst (λ z. is_at comps k h z ≡ true) (sym r) hd
          ]

      all : i ≢ h → (v : ℕ) → is_vertex skel v ≡ true → is_at comps k i v ≡ true
      all m v a = sym (closed-items (is_at comps k i) (λ x lx.
          same-tests (is_at comps k i (piece_ends (item_at comps k x)).0) (is_at comps k i (piece_ends (item_at comps k x)).1)
          (λ t. other m x lx (piece_ends (item_at comps k x)).0 (piece_ends (item_at comps k x)).1 t (first-end (piece_ends (item_at comps k x))) (second-end (piece_ends (item_at comps k x))))
          (λ t. other m x lx (piece_ends (item_at comps k x)).1 (piece_ends (item_at comps k x)).0 t (second-end (piece_ends (item_at comps k x))) (first-end (piece_ends (item_at comps k x)))))
          c v (p.connects c v (at-vertex comps k i c li ic) a)) ∙ ic

      three : (x y z : ℕ) → x ≢ y → y ≢ z → z ≢ x → is_at comps k i x ≡ true → is_at comps k i y ≡ true → is_at comps k i z ≡ true → ⊥
      three x y z xy yz zx a b e = pick (end-of_two (piece_ends (item_at comps k i)) c d x n ic id a) (end-of_two (piece_ends (item_at comps k i)) c d y n ic id b) (end-of_two (piece_ends (item_at comps k i)) c d z n ic id e)
        where
          pick : (x ≡ c) ⊎ (x ≡ d) → (y ≡ c) ⊎ (y ≡ d) → (z ≡ c) ⊎ (z ≡ d) → ⊥
          pick q r t = grind (arith, xy, yz, zx, q, r, t)

  -- a triconnected skeleton is simple
  pub rigid-simple : IsRigid skel → IsSimpleAt
  rigid-simple r i h c d li lh n ic id hc hd = r.simple i h (omega (arith, li, skeleton-length comps k)) (omega (arith, lh, skeleton-length comps k))
      (subst (λ (z : ℕ × ℕ). SameEnds z (slice_index_or skel h (0, 0))) (sym (skeleton-at comps k i li)) (subst (SameEnds (piece_ends (item_at comps k i))) (sym (skeleton-at comps k h lh))
      (same-pairs (piece_ends (item_at comps k i)) (piece_ends (item_at comps k h)) c d n ic id hc hd)))

  -- all items of a bond have the ends of one of them
  pub bond-ends : IsBond skel → (i h v : ℕ) → i < size → h < size → is_at comps k i v ≡ true → is_at comps k h v ≡ true
  bond-ends b i h v li lh a = same-end_back b.two.poles (piece_ends (item_at comps k h)) v (pole h lh) (same-end b.two.poles (piece_ends (item_at comps k i)) v (pole i li) a)
    where
      pole : (x : ℕ) → x < size → SameEnds b.two.poles (piece_ends (item_at comps k x))
      pole x l = subst (SameEnds b.two.poles) (skeleton-at comps k x l) (All-get_or (SameEnds b.two.poles) skel x (0, 0) (omega (arith, l, skeleton-length comps k)) b.two.joined)

  -- in a triconnected skeleton no items are parted from the others by two vertices: where only p and q are ends of items that
  -- pass a test and of items that do not, not both have ends other than these
  pub rigid-apart : IsRigid skel → (t : ℕ → Bool) (p q : ℕ)
      → ((i h v : ℕ) → i < size → h < size → t i ≡ true → t h ≡ false → is_at comps k i v ≡ true → is_at comps k h v ≡ true → (v ≡ p) ⊎ (v ≡ q))
      → (i u : ℕ) → i < size → t i ≡ true → is_at comps k i u ≡ true → u ≢ p → u ≢ q
      → (h w : ℕ) → h < size → t h ≡ false → is_at comps k h w ≡ true → w ≢ p → w ≢ q → ⊥
  rigid-apart r t p q only i u li ti ui up uq h w lh th wh wp wq = both_ways (touched w) (apart w h lh th wh wp wq) (sym joined ∙ some-from size (λ x. t x && is_at comps k x u) i li (and_from (t i) (is_at comps k i u) ti ui))
    where
      -- whether an item that passes has the end
      touched : ℕ → Bool
      touched v = some size (λ x. t x && is_at comps k x v)

      -- an end other than p and q of an item that does not pass is none of one that does
      apart : (v x : ℕ) → x < size → t x ≡ false → is_at comps k x v ≡ true → v ≢ p → v ≢ q → touched v ≡ false
      apart v x lx tx vx vp vq = false_from_ne_true (touched v) (λ s.
          let y = some-witness size (λ x. t x && is_at comps k x v) s in
          let c = and_parts (t y.0) (is_at comps k y.0 v) y.2 in
          elim (only y.0 x v y.1 lx c.0 tx c.1 vx) [ inl e ↦ vp e | inr e ↦ vq e ])

      not_removed : (v : ℕ) → is_member v (p ∷ q ∷ []) ≡ false → (v ≢ p) × (v ≢ q)
      not_removed v m = ((λ e. no_member-head v p (q ∷ []) m (sym e)), (λ e. no_member-head v q [] (no_member-tail v p (q ∷ []) m) (sym e)))

      removed-not : (v : ℕ) → v ≢ p → v ≢ q → is_member v (p ∷ q ∷ []) ≡ false
      removed-not v m n = grind (arith, ne_eqb p v (λ e. m (sym e)), ne_eqb q v (λ e. n (sym e)))

      same : (link : ℕ × ℕ) → Contains (filter (avoids (p ∷ q ∷ [])) skel) link → touched link.0 ≡ touched link.1
      same link c =
          let f = filter-contains (avoids (p ∷ q ∷ [])) link skel c in
          let m = and_parts (not (is_member link.0 (p ∷ q ∷ []))) (not (is_member link.1 (p ∷ q ∷ []))) f.1 in
          let n0 = not_removed link.0 (not-true (is_member link.0 (p ∷ q ∷ [])) m.0) in
          let n1 = not_removed link.1 (not-true (is_member link.1 (p ∷ q ∷ [])) m.1) in
          let x = place link (f.0) in
          elim (cases_Bool (t x.0)) [
            | inl y ↦ some-from size (λ z. t z && is_at comps k z link.0) x.0 x.1 (and_from (t x.0) (is_at comps k x.0 link.0) y (x.2))
                ∙ sym (some-from size (λ z. t z && is_at comps k z link.1) x.0 x.1 (and_from (t x.0) (is_at comps k x.0 link.1) y (x.3)))
            | inr y ↦ apart link.0 x.0 x.1 y x.2 n0.0 n0.1 ∙ sym (apart link.1 x.0 x.1 y x.3 n1.0 n1.1)
          ]
        where
          place : (link : ℕ × ℕ) → Contains skel link → (x : ℕ) × (x < size) × (is_at comps k x link.0 ≡ true) × (is_at comps k x link.1 ≡ true)
          place link c =
              let b : c.0 < size = omega (arith, c.1, skeleton-length comps k) in
              let e : piece_ends (item_at comps k c.0) ≡ link = sym (skeleton-at comps k c.0 b) ∙ get_or_default skel c.0 (0, 0) link c.1 ∙ c.2 in
              (c.0, b, subst (λ (z : ℕ × ℕ). is_at comps k c.0 z.0 ≡ true) e (first-end (piece_ends (item_at comps k c.0))), subst (λ (z : ℕ × ℕ). is_at comps k c.0 z.1 ≡ true) e (second-end (piece_ends (item_at comps k c.0))))

      joined : touched u ≡ touched w
      joined = connected-closed (filter (avoids (p ∷ q ∷ [])) skel) touched (all-from_contained (λ (link : ℕ × ℕ). touched link.0 ≡ touched link.1) (filter (avoids (p ∷ q ∷ [])) skel) same) u w
          (r.stays_connected p q u w (at-vertex comps k i u li ui) (at-vertex comps k h w lh wh) (removed-not u up uq) (removed-not w wp wq))

-- of four vertices one is other than three given ones
pub fourth-vertex : (skel : List (ℕ × ℕ)) → HasVertices 4 skel → (a b c : ℕ) → (v : ℕ) × (is_vertex skel v ≡ true) × (v ≢ a) × (v ≢ b) × (v ≢ c)
fourth-vertex skel h a b c = pick h.vertices (omega (arith, h.enough)) h.distinct (λ v m. All-contains (λ v. is_vertex skel v ≡ true) h.vertices v h.are_vertices m)
  where
    is_given : ℕ → Bool
    is_given v = is_member v (a ∷ b ∷ c ∷ [])

    from : (v : ℕ) → is_vertex skel v ≡ true → is_given v ≡ false → (v : ℕ) × (is_vertex skel v ≡ true) × (v ≢ a) × (v ≢ b) × (v ≢ c)
    from v i m = (v, i, (λ e. no_member-head v a (b ∷ c ∷ []) m (sym e)), (λ e. no_member-head v b (c ∷ []) (no_member-tail v a (b ∷ c ∷ []) m) (sym e)), (λ e. no_member-head v c [] (no_member-tail v b (c ∷ []) (no_member-tail v a (b ∷ c ∷ []) m)) (sym e)))

    given : (v : ℕ) → is_given v ≡ true → (v ≡ a) ⊎ ((v ≡ b) ⊎ (v ≡ c))
    given v m = grind (arith, m, eqb-true, cases_Bool (a == v), cases_Bool (b == v), cases_Bool (c == v))

    four : (x y z w : ℕ) → x ≢ y → x ≢ z → x ≢ w → y ≢ z → y ≢ w → z ≢ w → (x ≡ a) ⊎ ((x ≡ b) ⊎ (x ≡ c)) → (y ≡ a) ⊎ ((y ≡ b) ⊎ (y ≡ c)) → (z ≡ a) ⊎ ((z ≡ b) ⊎ (z ≡ c)) → (w ≡ a) ⊎ ((w ≡ b) ⊎ (w ≡ c)) → ⊥
    four x y z w xy xz xw yz yw zw p q r s = grind (arith, xy, xz, xw, yz, yw, zw, p, q, r, s)

    pick : (vs : List ℕ) → 4 ≤ length vs → is_distinct vs ≡ true → ((v : ℕ) → Contains vs v → is_vertex skel v ≡ true) → (v : ℕ) × (is_vertex skel v ≡ true) × (v ≢ a) × (v ≢ b) × (v ≢ c)
    pick [] l d all = absurd (omega (arith, l))
    pick (x ∷ []) l d all = absurd (omega (arith, l))
    pick (x ∷ y ∷ []) l d all = absurd (omega (arith, l))
    pick (x ∷ y ∷ z ∷ []) l d all = absurd (omega (arith, l))
    pick (x ∷ y ∷ z ∷ w ∷ vs) l d all = elim (cases_Bool (is_given x)) [
      | inr m ↦ from x (all x (contains-here x (y ∷ z ∷ w ∷ vs))) m
      | inl mx ↦ elim (cases_Bool (is_given y)) [
        | inr m ↦ from y (all y (contains-later y x (y ∷ z ∷ w ∷ vs) (contains-here y (z ∷ w ∷ vs)))) m
        | inl my ↦ elim (cases_Bool (is_given z)) [
          | inr m ↦ from z (all z (contains-later z x (y ∷ z ∷ w ∷ vs) (contains-later z y (z ∷ w ∷ vs) (contains-here z (w ∷ vs))))) m
          | inl mz ↦ elim (cases_Bool (is_given w)) [
            | inr m ↦ from w (all w (contains-later w x (y ∷ z ∷ w ∷ vs) (contains-later w y (z ∷ w ∷ vs) (contains-later w z (w ∷ vs) (contains-here w vs))))) m
            | inl mw ↦ absurd (four x y z w (λ e. no_member-head x y (z ∷ w ∷ vs) dx (sym e)) (λ e. no_member-head x z (w ∷ vs) dx1 (sym e)) (λ e. no_member-head x w vs dx2 (sym e)) (λ e. no_member-head y z (w ∷ vs) dy (sym e)) (λ e. no_member-head y w vs dy1 (sym e)) (λ e. no_member-head z w vs dz (sym e))
                (given x mx) (given y my) (given z mz) (given w mw))
          ]
        ]
      ]
    ]
      where
        dx : is_member x (y ∷ z ∷ w ∷ vs) ≡ false
        dx = distinct-head x (y ∷ z ∷ w ∷ vs) d

        dx1 : is_member x (z ∷ w ∷ vs) ≡ false
        dx1 = no_member-tail x y (z ∷ w ∷ vs) dx

        dx2 : is_member x (w ∷ vs) ≡ false
        dx2 = no_member-tail x z (w ∷ vs) dx1

        dy : is_member y (z ∷ w ∷ vs) ≡ false
        dy = distinct-head y (z ∷ w ∷ vs) (distinct-tail x (y ∷ z ∷ w ∷ vs) d)

        dy1 : is_member y (w ∷ vs) ≡ false
        dy1 = no_member-tail y z (w ∷ vs) dy

        dz : is_member z (w ∷ vs) ≡ false
        dz = distinct-head z (w ∷ vs) (distinct-tail y (z ∷ w ∷ vs) (distinct-tail x (y ∷ z ∷ w ∷ vs) d))
