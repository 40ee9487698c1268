-- Canonical orders by vertices: which stay, which are on the contour, and which are covered.
use Rattle.std.proofs.Common.{◌≡◌, ◌≢◌, ◌⊎◌, inl, inr, ℕ, zero, suc, ◌+◌, ◌*◌, ◌<◌, ◌≤◌, Bool, true, false, not, ◌&&◌, ◌||◌, ◌==◌, nat_lt, List, [], ◌∷◌, ◌++◌, length, map, take, arith, refl, sym, ap, ap₂, ◌∙◌, subst}
use Rattle.std.proofs.lemmas.Bool.{both_ways, cases_Bool, false_from_ne_true, eqb-true, eq-eqb, ne_eqb, and_parts, ltb-true, lt-ltb, le-ltb, cases_eq, cases_lt}
use Rattle.std.proofs.lemmas.List.{map-append}
use Rattle.std.proofs.Math.Seq.{take-suc}
use Rattle.permutations.specs.Count.{count}
use Rattle.permutations.specs.Members.{is_member, is_distinct}
use Rattle.permutations.specs.Cyclic.{last_or}
use Rattle.permutations.proofs.Arrangements.{all-member, count-list}
use Rattle.permutations.proofs.Count.{count-ext, count-all, count-remove, count-same}
use Rattle.permutations.proofs.Members.{member-head, member-tail, member-cases, member-append, member-append_left, member-append_right, member-append_cases, no_member-cons, no_member-append, distinct-head, distinct-tail, distinct-cons, distinct-append_right, distinct-append_apart}
use Rattle.dart_maps.specs.Map.{twin}
use Rattle.faces.specs.Euler.{tail}
use Rattle.canonical_orders.specs.Contours.{stays_dart, IsContour}
use Rattle.canonical_orders.specs.Order.{Removed, stays_after}
use Rattle.canonical_orders.proofs.Lists.{ends-with, last-cons}
use Rattle.canonical_orders.proofs.Triangles.{stays-tail}
use Rattle.canonical_orders.proofs.ContourParts.{contour-dart, vertex-dart}
use Rattle.canonical_orders.proofs.Arms.{heads-distinct}
use Rattle.shift_method.specs.Peeled.{IsPeeled, removed_at, contour_at, IsInnerHead}
use Rattle.shift_method.proofs.Rows.{IsStretched, removal-stretched}

-- v is below the bound and not among those gone; one more, w, goes
settle : (b g e f : Bool) → e ≡ f → (f ≡ true → (b && not g) ≡ true) → (b && not g) ≡ ((b && not (g || (e || false))) || f)
settle b g e f same here = grind (arith, cases_Bool b, cases_Bool g, cases_Bool e, cases_Bool f, here)

eqb-swap : (a b : ℕ) → (a == b) ≡ (b == a)
eqb-swap a b = elim (cases_eq a b) [ inl e ↦ eq-eqb a b e ∙ sym (eq-eqb b a (sym e)) | inr n ↦ ne_eqb a b n ∙ sym (ne_eqb b a (λ e. n (sym e))) ]

-- the inner members of a list are known from it
pub same-inner : (a b : ℕ) (k l : List ℕ) (x y : ℕ) → a ∷ (k ++ x ∷ []) ≡ b ∷ (l ++ y ∷ []) → k ≡ l
same-inner a b [] [] x y e = refl
same-inner a b [] (d ∷ l) x y e = absurd (too_long l e)
  where
    too_long : (l : List ℕ) → a ∷ x ∷ [] ≡ b ∷ d ∷ (l ++ y ∷ []) → ⊥
    too_long [] e = cc
    too_long (z ∷ l) e = cc
same-inner a b (c ∷ k) [] x y e = absurd (too_long k e)
  where
    too_long : (k : List ℕ) → a ∷ c ∷ (k ++ x ∷ []) ≡ b ∷ y ∷ [] → ⊥
    too_long [] e = cc
    too_long (z ∷ k) e = cc
same-inner a b (c ∷ k) (d ∷ l) x y e = ap₂ (λ (z : ℕ) (s : List ℕ). z ∷ s) first (same-inner c d k l x y rest)
  where
    first : c ≡ d
    first = cc

    rest : c ∷ (k ++ x ∷ []) ≡ d ∷ (l ++ y ∷ [])
    rest = cc

module _ (n left right : ℕ) (order : List Removed) (p : IsPeeled n left right order) where
  -- the vertices that stay after k removals
  abbrev pub stays_at : ℕ → ℕ → Bool
  stays_at k = stays_after p.h order k

  -- the row: the vertices of the contour after k removals
  abbrev pub row_at : ℕ → List ℕ
  row_at k = map (tail p.h) (contour_at p k)

  abbrev pub vertex_at : ℕ → ℕ
  vertex_at k = (removed_at order k).0

  abbrev pub heads_at : ℕ → List ℕ
  heads_at k = (removed_at order k).1

  pub zero-below : 0 < 2 * p.m
  zero-below = let c = p.canonical.contour 0 (omega arith) in (all-member (λ d. (d < 2 * p.m) × (stays_dart p.h (stays_at 0) d ≡ true)) (contour_at p 0) 0 c.darts (ap (is_member 0) c.begins ∙ member-head 0 c.rest)).0

  pub number-order : length order + 2 ≡ n
  number-order = p.canonical.all ∙ p.number

  gone : ℕ → List ℕ
  gone k = map (λ (w : Removed). w.0) (take k order)

  gone-more : (k : ℕ) → k < length order → gone (suc k) ≡ gone k ++ vertex_at k ∷ []
  unfolding gone
  gone-more k l = ap (map (λ (w : Removed). w.0)) (take-suc order k (0, []) l) ∙ map-append (λ (w : Removed). w.0) (take k order) (removed_at order k ∷ [])

  -- one vertex is removed
  pub one-gone : (k : ℕ) → k < length order → (v : ℕ) → stays_at k v ≡ (stays_at (suc k) v || (v == vertex_at k))
  unfolding gone
  one-gone k l v = settle (nat_lt v p.h.vertex_count) (is_member v (gone k)) (vertex_at k == v) (v == vertex_at k) (eqb-swap (vertex_at k) v)
      (λ e. subst (λ (z : ℕ). stays_at k z ≡ true) (sym (eqb-true v (vertex_at k) e)) (p.canonical.present k l))
      ∙ ap (λ (b : Bool). (nat_lt v p.h.vertex_count && not b) || (v == vertex_at k)) (sym (ap (is_member v) (gone-more k l) ∙ member-append v (gone k) (vertex_at k ∷ [])))

  -- and does not stay
  pub is-gone : (k : ℕ) → k < length order → stays_at (suc k) (vertex_at k) ≡ false
  unfolding gone
  is-gone k l = ap (λ (b : Bool). nat_lt (vertex_at k) p.h.vertex_count && not b) (ap (is_member (vertex_at k)) (gone-more k l) ∙ member-append_right (vertex_at k) (gone k) (vertex_at k ∷ []) (member-head (vertex_at k) [])) ∙ none (nat_lt (vertex_at k) p.h.vertex_count)
    where
      none : (b : Bool) → (b && not true) ≡ false
      none b = grind (arith, cases_Bool b)

  pub stays-below : (k v : ℕ) → stays_at k v ≡ true → v < n
  stays-below k v s = subst (λ (z : ℕ). v < z) p.number (ltb-true v p.h.vertex_count (and_parts (nat_lt v p.h.vertex_count) (not (is_member v (map (λ (w : Removed). w.0) (take k order)))) s).0)

  -- what stays longer stays
  pub stays-before : (k : ℕ) → k < length order → (v : ℕ) → stays_at (suc k) v ≡ true → stays_at k v ≡ true
  stays-before k l v s = one-gone k l v ∙ ap (λ (b : Bool). b || (v == vertex_at k)) s

  pub stays-differs : (k : ℕ) → k < length order → (v : ℕ) → stays_at (suc k) v ≡ true → v ≢ vertex_at k
  stays-differs k l v s e = both_ways (stays_at (suc k) v) (ap (stays_at (suc k)) e ∙ is-gone k l) s

  -- those on the contour stay
  pub row-stays : (k : ℕ) → k ≤ length order → (v : ℕ) → is_member v (row_at k) ≡ true → stays_at k v ≡ true
  row-stays k l v i = let d = vertex-dart p.m p.h p.next p.previous p.triangulated 0 zero-below (stays_at k) (contour_at p k) (p.canonical.contour k l) v i in
      subst (λ (z : ℕ). stays_at k z ≡ true) d.2 (stays-tail p.h (stays_at k) d.0 (contour-dart p.m p.h p.next p.previous p.triangulated 0 zero-below (stays_at k) (contour_at p k) (p.canonical.contour k l) d.0 d.1).1)

  pub row-distinct : (k : ℕ) → k ≤ length order → is_distinct (row_at k) ≡ true
  row-distinct k l = (p.canonical.contour k l).once

  -- the first and the last
  pub row-begins : (k : ℕ) → k ≤ length order → (rest : List ℕ) × (row_at k ≡ left ∷ rest)
  row-begins k l = let c = p.canonical.contour k l in (map (tail p.h) c.rest, ap (map (tail p.h)) c.begins ∙ ap (λ (z : ℕ). z ∷ map (tail p.h) c.rest) p.first)

  pub row-ends : (k : ℕ) → k ≤ length order → (rest : List ℕ) × (row_at k ≡ rest ++ right ∷ [])
  row-ends k l = (map (tail p.h) e.0, ap (map (tail p.h)) (c.begins ∙ e.1) ∙ map-append (tail p.h) e.0 (last_or 0 c.rest ∷ []) ∙ ap (λ (z : ℕ). map (tail p.h) e.0 ++ z ∷ []) last)
    where
      c : IsContour p.m p.h p.next 0 (stays_at k) (contour_at p k)
      c = p.canonical.contour k l

      e : (r : List ℕ) × (0 ∷ c.rest ≡ r ++ last_or 0 c.rest ∷ [])
      e = ends-with 0 c.rest

      last : tail p.h (last_or 0 c.rest) ≡ right
      last = ap (tail p.h) (sym (last-cons 0 0 c.rest) ∙ sym (ap (last_or 0) c.begins)) ∙ c.closes ∙ p.last

  pub left-on : (k : ℕ) → k ≤ length order → is_member left (row_at k) ≡ true
  left-on k l = let b = row-begins k l in ap (is_member left) b.1 ∙ member-head left b.0

  pub right-on : (k : ℕ) → k ≤ length order → is_member right (row_at k) ≡ true
  right-on k l = let b = row-ends k l in ap (is_member right) b.1 ∙ member-append_right right b.0 (right ∷ []) (member-head right [])

  -- what a removal does
  pub stretched : (k : ℕ) → k < length order → IsStretched (row_at k) (row_at (suc k)) (vertex_at k) (heads_at k)
  stretched k l = removal-stretched p.m p.h p.next p.previous p.triangulated 0 zero-below (stays_at k) (contour_at p k) (p.canonical.contour k (omega arith)) (contour_at p (suc k)) (vertex_at k) (heads_at k) (p.canonical.removal k l)

  pub heads-apart : (k : ℕ) → k < length order → is_distinct (heads_at k) ≡ true
  heads-apart k l = heads-distinct p.m p.h p.next p.previous p.triangulated 0 zero-below (stays_at k) (contour_at p k) (p.canonical.contour k (omega arith)) (contour_at p (suc k)) (vertex_at k) (heads_at k) (p.canonical.removal k l) (row-distinct (suc k) (omega arith))

  -- inner heads, by the stretch
  pub inner-among : (k : ℕ) (l : k < length order) (v : ℕ) → IsInnerHead (heads_at k) v → is_member v (stretched k l).inner ≡ true
  inner-among k l v i = let s = stretched k l in subst (λ (z : List ℕ). is_member v z ≡ true) (same-inner i.left s.left i.inner s.inner i.right s.right (sym i.cut ∙ s.stretch)) i.among

  pub among-inner : (k : ℕ) (l : k < length order) (v : ℕ) → is_member v (stretched k l).inner ≡ true → IsInnerHead (heads_at k) v
  among-inner k l v i = let s = stretched k l in record { left = s.left; inner = s.inner; right = s.right; cut = s.stretch; among = i }

  -- inner heads are on the later row, and not on the row
  pub inner-later : (k : ℕ) → k < length order → (v : ℕ) → IsInnerHead (heads_at k) v → is_member v (row_at (suc k)) ≡ true
  inner-later k l v i = let s = stretched k l in ap (is_member v) s.later_is ∙ member-append_right v s.front (s.left ∷ (s.inner ++ s.right ∷ s.back)) (member-tail v s.left (s.inner ++ s.right ∷ s.back) (member-append_left v s.inner (s.right ∷ s.back) (inner-among k l v i)))

  pub inner-off : (k : ℕ) → k < length order → (v : ℕ) → IsInnerHead (heads_at k) v → is_member v (row_at k) ≡ false
  inner-off k l v i = ap (is_member v) s.row_is ∙ no_member-append v s.front (s.left ∷ vertex_at k ∷ s.right ∷ s.back) not_front
      (no_member-cons v s.left (vertex_at k ∷ s.right ∷ s.back) not_left (no_member-cons v (vertex_at k) (s.right ∷ s.back) (λ e. stays-differs k l v (row-stays (suc k) (omega arith) v (inner-later k l v i)) (sym e)) not_back))
    where
      s : IsStretched (row_at k) (row_at (suc k)) (vertex_at k) (heads_at k)
      s = stretched k l

      apart : is_distinct (s.front ++ s.left ∷ (s.inner ++ s.right ∷ s.back)) ≡ true
      apart = subst (λ (z : List ℕ). is_distinct z ≡ true) s.later_is (row-distinct (suc k) (omega arith))

      on : is_member v (s.inner ++ s.right ∷ s.back) ≡ true
      on = member-append_left v s.inner (s.right ∷ s.back) (inner-among k l v i)

      not_front : is_member v s.front ≡ false
      not_front = false_from_ne_true (is_member v s.front) (λ f. both_ways (is_member v (s.left ∷ (s.inner ++ s.right ∷ s.back))) (distinct-append_apart s.front (s.left ∷ (s.inner ++ s.right ∷ s.back)) apart v f) (member-tail v s.left (s.inner ++ s.right ∷ s.back) on))

      rest : is_distinct (s.left ∷ (s.inner ++ s.right ∷ s.back)) ≡ true
      rest = distinct-append_right s.front (s.left ∷ (s.inner ++ s.right ∷ s.back)) apart

      not_left : s.left ≢ v
      not_left e = both_ways (is_member s.left (s.inner ++ s.right ∷ s.back)) (distinct-head s.left (s.inner ++ s.right ∷ s.back) rest) (subst (λ (z : ℕ). is_member z (s.inner ++ s.right ∷ s.back) ≡ true) (sym e) on)

      not_back : is_member v (s.right ∷ s.back) ≡ false
      not_back = distinct-append_apart s.inner (s.right ∷ s.back) (distinct-tail s.left (s.inner ++ s.right ∷ s.back) rest) v (inner-among k l v i)

  -- a vertex on the row is on the later row, or it is the one that is removed
  pub row-later : (k : ℕ) → k < length order → (v : ℕ) → is_member v (row_at k) ≡ true → (is_member v (row_at (suc k)) ≡ true) ⊎ (v ≡ vertex_at k)
  row-later k l v i = elim (member-append_cases v s.front (s.left ∷ vertex_at k ∷ s.right ∷ s.back) (sym (ap (is_member v) s.row_is) ∙ i)) [
    | inl a ↦ inl (in-later (member-append_left v s.front (s.left ∷ (s.inner ++ s.right ∷ s.back)) a))
    | inr a ↦ elim (member-cases v s.left (vertex_at k ∷ s.right ∷ s.back) a) [
      | inl e ↦ inl (in-later (member-append_right v s.front (s.left ∷ (s.inner ++ s.right ∷ s.back)) (subst (λ (z : ℕ). is_member z (s.left ∷ (s.inner ++ s.right ∷ s.back)) ≡ true) e (member-head s.left (s.inner ++ s.right ∷ s.back)))))
      | inr b ↦ elim (member-cases v (vertex_at k) (s.right ∷ s.back) b) [
        | inl e ↦ inr (sym e)
        | inr c ↦ inl (in-later (member-append_right v s.front (s.left ∷ (s.inner ++ s.right ∷ s.back)) (member-tail v s.left (s.inner ++ s.right ∷ s.back) (member-append_right v s.inner (s.right ∷ s.back) c))))
      ]
    ]
  ]
    where
      s : IsStretched (row_at k) (row_at (suc k)) (vertex_at k) (heads_at k)
      s = stretched k l

      in-later : is_member v (s.front ++ s.left ∷ (s.inner ++ s.right ∷ s.back)) ≡ true → is_member v (row_at (suc k)) ≡ true
      in-later j = ap (is_member v) s.later_is ∙ j

  -- a vertex on the later row is on the row, or it is an inner head
  pub later-row : (k : ℕ) → k < length order → (v : ℕ) → is_member v (row_at (suc k)) ≡ true → (is_member v (row_at k) ≡ true) ⊎ IsInnerHead (heads_at k) v
  later-row k l v i = elim (member-append_cases v s.front (s.left ∷ (s.inner ++ s.right ∷ s.back)) (sym (ap (is_member v) s.later_is) ∙ i)) [
    | inl a ↦ inl (in-row (member-append_left v s.front (s.left ∷ vertex_at k ∷ s.right ∷ s.back) a))
    | inr a ↦ elim (member-cases v s.left (s.inner ++ s.right ∷ s.back) a) [
      | inl e ↦ inl (in-row (member-append_right v s.front (s.left ∷ vertex_at k ∷ s.right ∷ s.back) (subst (λ (z : ℕ). is_member z (s.left ∷ vertex_at k ∷ s.right ∷ s.back) ≡ true) e (member-head s.left (vertex_at k ∷ s.right ∷ s.back)))))
      | inr b ↦ elim (member-append_cases v s.inner (s.right ∷ s.back) b) [
        | inl c ↦ inr (among-inner k l v c)
        | inr c ↦ inl (in-row (member-append_right v s.front (s.left ∷ vertex_at k ∷ s.right ∷ s.back) (member-tail v s.left (vertex_at k ∷ s.right ∷ s.back) (member-tail v (vertex_at k) (s.right ∷ s.back) c))))
      ]
    ]
  ]
    where
      s : IsStretched (row_at k) (row_at (suc k)) (vertex_at k) (heads_at k)
      s = stretched k l

      in-row : is_member v (s.front ++ s.left ∷ vertex_at k ∷ s.right ∷ s.back) ≡ true → is_member v (row_at k) ≡ true
      in-row j = ap (is_member v) s.row_is ∙ j

  -- a vertex that was covered stays, and never comes back onto the contour
  pub covered-off : (d k i : ℕ) → i ≡ k + d → i < length order → (v : ℕ) → IsInnerHead (heads_at i) v → (is_member v (row_at k) ≡ false) × (stays_at k v ≡ true)
  covered-off zero k i e l v h = let f : i ≡ k = omega (arith, e) in
      (subst (λ (z : ℕ). is_member v (row_at z) ≡ false) f (inner-off i l v h), subst (λ (z : ℕ). stays_at z v ≡ true) f (stays-before i l v (row-stays (suc i) (omega arith) v (inner-later i l v h))))
  covered-off (suc d) k i e l v h = step (covered-off d (suc k) i (omega (arith, e)) l v h)
    where
      short : k < length order
      short = omega (arith, e)

      back : (is_member v (row_at (suc k)) ≡ false) × (stays_at (suc k) v ≡ true) → is_member v (row_at k) ≡ true → ⊥
      back rest j = elim (row-later k short v j) [ inl a ↦ both_ways (is_member v (row_at (suc k))) rest.0 a | inr f ↦ stays-differs k short v rest.1 f ]

      step : (is_member v (row_at (suc k)) ≡ false) × (stays_at (suc k) v ≡ true) → (is_member v (row_at k) ≡ false) × (stays_at k v ≡ true)
      step rest = (false_from_ne_true (is_member v (row_at k)) (back rest), stays-before k short v rest.1)

  -- what stays longest stays all along
  pub stays-long : (d k i : ℕ) → i ≡ k + d → i ≤ length order → (v : ℕ) → stays_at i v ≡ true → stays_at k v ≡ true
  stays-long zero k i e l v s = subst (λ (z : ℕ). stays_at z v ≡ true) (omega (arith, e)) s
  stays-long (suc d) k i e l v s = stays-before k (omega (arith, e)) v (stays-long d (suc k) i (omega (arith, e)) l v s)

  -- the number of vertices that stay
  count-stays : (k : ℕ) → k ≤ length order → count n (stays_at k) + k ≡ n
  count-stays zero l = omega (arith, count-all n (stays_at 0) (λ x b. ap (λ (z : Bool). z && true) (lt-ltb x p.h.vertex_count (subst (λ (z : ℕ). x < z) (sym p.number) b))))
  count-stays (suc k) l = omega (arith, count-stays k (omega arith), count-remove n (stays_at k) (vertex_at k) (stays-below k (vertex_at k) here) here, count-ext n (λ x. stays_at k x && not (x == vertex_at k)) (stays_at (suc k)) (λ x b. without x))
    where
      short : k < length order
      short = omega arith

      here : stays_at k (vertex_at k) ≡ true
      here = p.canonical.present k short

      bare : (a b c : Bool) → a ≡ (b || c) → (b ≡ true → c ≡ false) → (a && not c) ≡ b
      bare a b c e f = grind (arith, cases_Bool a, cases_Bool b, cases_Bool c, e, f)

      without : (x : ℕ) → (stays_at k x && not (x == vertex_at k)) ≡ stays_at (suc k) x
      without x = bare (stays_at k x) (stays_at (suc k) x) (x == vertex_at k) (one-gone k short x) (λ s. ne_eqb x (vertex_at k) (stays-differs k short x s))

  pub left-right : left ≢ right
  left-right e = both_ways (is_member left (tail p.h (twin 0) ∷ [])) (distinct-head left (tail p.h (twin 0) ∷ []) (subst (λ (z : ℕ). is_distinct (z ∷ tail p.h (twin 0) ∷ []) ≡ true) p.first last)) (subst (λ (z : ℕ). is_member left (z ∷ []) ≡ true) (e ∙ sym p.last) (member-head left []))
    where
      last : is_distinct (tail p.h 0 ∷ tail p.h (twin 0) ∷ []) ≡ true
      last = subst (λ (z : List ℕ). is_distinct (map (tail p.h) z) ≡ true) p.canonical.ends (row-distinct (length order) (omega arith))

  -- at the end the row has the two ends alone, and no other vertex stays
  pub row-last : row_at (length order) ≡ left ∷ right ∷ []
  row-last = ap (map (tail p.h)) p.canonical.ends ∙ ap₂ (λ (a b : ℕ). a ∷ b ∷ []) p.first p.last

  pub stays-last : (v : ℕ) → stays_at (length order) v ≡ ((v == left) || (v == right))
  stays-last v = elim (cases_lt v n) [
    | inl b ↦ sym (count-same n (λ x. is_member x (left ∷ right ∷ [])) (stays_at (length order)) ends-stay few v b) ∙ told
    | inr b ↦ ap (λ (z : Bool). z && not (is_member v (map (λ (w : Removed). w.0) (take (length order) order)))) (le-ltb v p.h.vertex_count (subst (λ (z : ℕ). z ≤ v) (sym p.number) b))
        ∙ sym (ap₂ (λ (c d : Bool). c || d) (ne_eqb v left (λ e. far left (left-on (length order) (omega arith)) b e)) (ne_eqb v right (λ e. far right (right-on (length order) (omega arith)) b e)))
  ]
    where
      told : is_member v (left ∷ right ∷ []) ≡ ((v == left) || (v == right))
      told = ap₂ (λ (c d : Bool). c || d) (eqb-swap left v) (spare (right == v) ∙ eqb-swap right v)
        where
          spare : (c : Bool) → (c || false) ≡ c
          spare c = grind (arith, cases_Bool c)

      ends-stay : (x : ℕ) → x < n → is_member x (left ∷ right ∷ []) ≡ true → stays_at (length order) x ≡ true
      ends-stay x b i = row-stays (length order) (omega arith) x (subst (λ (z : List ℕ). is_member x z ≡ true) (sym row-last) i)

      far : (u : ℕ) → is_member u (row_at (length order)) ≡ true → n ≤ v → v ≡ u → ⊥
      far u i b e = omega (arith, stays-below (length order) u (row-stays (length order) (omega arith) u i), b, e)

      few : count n (stays_at (length order)) ≤ count n (λ x. is_member x (left ∷ right ∷ []))
      few = omega (
        arith,
        count-stays (length order) (omega arith),
        number-order,
        count-list n (λ x. is_member x (left ∷ right ∷ [])) (left ∷ right ∷ []) (distinct-cons left (right ∷ []) (no_member-cons left right [] (λ e. left-right (sym e)) refl) refl)
            (λ x i. stays-below (length order) x (row-stays (length order) (omega arith) x (subst (λ (z : List ℕ). is_member x z ≡ true) (sym row-last) i))) (λ x b. refl),
      )
