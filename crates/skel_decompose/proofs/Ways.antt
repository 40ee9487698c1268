-- Ways up in a tree that is given by the parents, and lists in which each node is after its parent.
use Rattle.std.proofs.Common.{◌≡◌, ◌≢◌, ℕ, zero, suc, ◌+◌, ◌<◌, ◌⊎◌, inl, inr, Bool, true, false, ◌||◌, ◌==◌, List, [], ◌∷◌, ◌++◌, length, replicate, reverse, slice_index_or, slice_set, refl, sym, ap, ap₂, ◌∙◌, subst, arith, append-nil, append_assoc}
use Rattle.std.proofs.lemmas.Bool.{cases_Bool, cases_eq, both_ways, true≢false, or_cases}
use Rattle.std.proofs.lemmas.List.{length-append, length-set, get_or_append_left, reverse-append}
use Rattle.std.proofs.Math.Seq.{get_or-append_seam}
use Rattle.std.proofs.Math.Bool.{or-false}
use Rattle.permutations.specs.Members.{is_member, is_distinct}
use Rattle.permutations.proofs.Members.{member-head, member-tail, member-cases, member-append, member-append_left, member-append_right, member-append_cases, member-reverse, distinct-head, distinct-tail, distinct-append, no_member-cons, no_member-append}
use Rattle.permutations.proofs.Places.{place-of}
use Rattle.multigraph.specs.Marks.{is_marked}
use Rattle.faces.proofs.Walk.{marked-set}
use Rattle.spqr_tree.specs.Absent.{absent}
use Rattle.spqr_tree.specs.Keys.{parent_at}
use Rattle.skel_decompose.specs.Ways.{IsFalling, AreDown, IsWay, IsClimbing, IsClimbed}

-- the empty list has no members
pub no-member : {A : Type 0} → (y : ℕ) → is_member y [] ≡ true → A
no-member y m = absurd (true≢false (sym m))

-- the one of a list of one
pub member-one : (x y : ℕ) → is_member y (x ∷ []) ≡ true → x ≡ y
member-one x y m = elim (member-cases y x [] m) [ inl q ↦ q | inr n ↦ no-member y n ]

-- neither of two tests passes
neither : (a b : Bool) → (a || b) ≡ false → (a ≡ false) × (b ≡ false)
neither a b q = elim (cases_Bool a) [
  | inl t ↦ absurd (both_ways (a || b) q (ap (λ z. z || b) t))
  | inr t ↦ (t, sym (ap (λ z. z || b) t) ∙ q)
]

-- nothing is marked where all marks are false
pub marked-none : (n y : ℕ) → is_marked (replicate n false) y ≡ false
marked-none zero y = refl
marked-none (suc n) zero = refl
marked-none (suc n) (suc y) = marked-none n y

-- a way with one node more
way-more : (parents : List ℕ) (k : ℕ) (way : List ℕ) (x : ℕ) → IsWay parents k way x → IsWay parents k (way ++ x ∷ []) (parent_at parents x)
way-more parents k [] x w = (w, refl)
way-more parents k (y ∷ way) x w = (w.0, way-more parents (parent_at parents y) way x w.1)

-- and continues at the parent
module _ (parents : List ℕ) (k : ℕ) (old now : List Bool) (way : List ℕ) (x : ℕ) (c : IsClimbing parents k old now way x) (n : x ≢ absent) (u : is_marked now x ≡ false) where
  -- the node is one
  pub climbing-inside : x < length parents
  climbing-inside = elim c.inside [ inl q ↦ absurd (n q) | inr l ↦ l ]

  fresh : (is_marked old x ≡ false) × (is_member x way ≡ false)
  fresh = neither (is_marked old x) (is_member x way) (sym (c.placed x) ∙ u)

  pub climbing-more : (rank : ℕ → ℕ) → IsFalling parents rank → length old ≡ length parents → IsClimbing parents k old (slice_set now x true) (way ++ x ∷ []) (parent_at parents x)
  climbing-more rank f places = record {
    number = length-set now x true ∙ c.number;
    way = way-more parents k way x c.way;
    distinct = distinct-append way (x ∷ []) c.distinct refl (λ z m. no_member-cons z x [] (λ q. both_ways (is_member z way) (subst (λ y. is_member y way ≡ false) q fresh.1) m) refl);
    within = λ y m. elim (member-append_cases y way (x ∷ []) m) [ inl a ↦ c.within y a | inr b ↦ subst (λ z. z < length parents) (member-one x y b) climbing-inside ];
    unplaced = λ y m. elim (member-append_cases y way (x ∷ []) m) [ inl a ↦ c.unplaced y a | inr b ↦ subst (λ z. is_marked old z ≡ false) (member-one x y b) fresh.0 ];
    placed = λ y. marked-set now x y (subst (λ z. x < z) (sym (c.number ∙ places)) climbing-inside) ∙ ap (λ z. z || (x == y)) (c.placed y) ∙ joined (is_marked old y) (is_member y way) (x == y)
        ∙ ap (λ z. is_marked old y || z) (sym (member-append y way (x ∷ []) ∙ ap (λ z. is_member y way || z) (or-false (x == y))));
    inside = elim (cases_eq (parent_at parents x) absent) [ inl q ↦ inl q | inr o ↦ inr (f x climbing-inside o).0 ];
    above = λ rank f o y m.
        let low : rank (parent_at parents x) < rank x = (f x climbing-inside o).1 in
        elim (member-append_cases y way (x ∷ []) m) [
          | inl a ↦ let high : rank x < rank y = c.above rank f n y a in omega (arith, low, high)
          | inr b ↦ subst (λ z. rank (parent_at parents x) < rank z) (member-one x y b) low
        ];
  }
    where
      joined : (a b d : Bool) → ((a || b) || d) ≡ (a || (b || d))
      joined a b d = grind (arith, cases_Bool a, cases_Bool b, cases_Bool d)

-- it ends at the root, or at a node that was placed before
pub climbed : (parents : List ℕ) (k : ℕ) (old now : List Bool) (way : List ℕ) (x : ℕ) → (rank : ℕ → ℕ) → IsFalling parents rank → IsClimbing parents k old now way x → (x ≡ absent) ⊎ (is_marked now x ≡ true) → IsClimbed parents k old now way
climbed parents k old now way x rank f c (inl q) = record { next = x; climbing = c; ends = inl q }
climbed parents k old now way x rank f c (inr m) = record {
  next = x;
  climbing = c;
  ends = elim (cases_eq x absent) [
    | inl q ↦ inl q
    | inr n ↦ inr (elim (or_cases (is_marked old x) (is_member x way) (sym (c.placed x) ∙ m)) [ inl o ↦ o | inr o ↦ absurd (falls (c.above rank f n x o)) ])
  ];
}
  where
    falls : rank x < rank x → ⊥
    falls l = omega (arith, l)

-- one node more
pub down-more : (parents order : List ℕ) (x : ℕ) → AreDown parents order → x < length parents → is_member x order ≡ false → (parent_at parents x ≡ absent) ⊎ (is_member (parent_at parents x) order ≡ true) → AreDown parents (order ++ x ∷ [])
down-more parents order x d l u p = record {
  within = λ q m. elim (place q m) [
    | inl s ↦ subst (λ z. z < length parents) (sym (earlier q s)) (d.within q s)
    | inr s ↦ subst (λ z. z < length parents) (sym (last q s)) l
  ];
  distinct = distinct-append order (x ∷ []) d.distinct refl (λ z m. no_member-cons z x [] (λ q. both_ways (is_member z order) (subst (λ y. is_member y order ≡ false) q u) m) refl);
  after = λ q m. elim (place q m) [
    | inl s ↦ subst (IsAfter q) (sym (earlier q s)) (before q s)
    | inr s ↦ subst (IsAfter q) (sym (last q s)) (own q s)
  ];
}
  where
    place : (q : ℕ) → q < length (order ++ x ∷ []) → (q < length order) ⊎ (q ≡ length order)
    place q m = elim (cases_eq q (length order)) [ inl s ↦ inr s | inr s ↦ inl (omega (arith, m, s, length-append order (x ∷ []))) ]

    earlier : (q : ℕ) → q < length order → slice_index_or (order ++ x ∷ []) q 0 ≡ slice_index_or order q 0
    earlier q s = get_or_append_left order (x ∷ []) 0 q s

    last : (q : ℕ) → q ≡ length order → slice_index_or (order ++ x ∷ []) q 0 ≡ x
    last q s = ap (λ z. slice_index_or (order ++ x ∷ []) z 0) s ∙ get_or-append_seam order x [] 0

    IsAfter : ℕ → ℕ → Type 0
    IsAfter q y = (parent_at parents y ≡ absent) ⊎ ((h : ℕ) × (h < q) × (slice_index_or (order ++ x ∷ []) h 0 ≡ parent_at parents y))

    before : (q : ℕ) → q < length order → IsAfter q (slice_index_or order q 0)
    before q s = elim (d.after q s) [ inl a ↦ inl a | inr w ↦ inr (w.0, w.1, earlier w.0 (omega (arith, w.1, s)) ∙ w.2) ]

    own : (q : ℕ) → q ≡ length order → IsAfter q x
    own q s = elim p [ inl a ↦ inl a | inr m ↦ let w = place-of order (parent_at parents x) m in inr (w.0, omega (arith, w.1, s), earlier w.0 w.1 ∙ w.2) ]

-- a way begins with its node, or ends there
pub way-first : (parents : List ℕ) (k : ℕ) (way : List ℕ) (next : ℕ) → IsWay parents k way next → (next ≡ k) ⊎ (is_member k way ≡ true)
way-first parents k [] next w = inl w
way-first parents k (x ∷ way) next w = inr (subst (λ z. is_member z (x ∷ way) ≡ true) w.0 (member-head x way))

-- a way put down, the upper end first
down-way : (parents order : List ℕ) (k : ℕ) (way : List ℕ) (next : ℕ) → AreDown parents order → IsWay parents k way next → is_distinct way ≡ true → ((y : ℕ) → is_member y way ≡ true → (y < length parents) × (is_member y order ≡ false))
    → (next ≡ absent) ⊎ (is_member next order ≡ true) → AreDown parents (order ++ reverse way)
down-way parents order k [] next d w o u e = subst (AreDown parents) (sym (append-nil order)) d
down-way parents order k (x ∷ way) next d w o u e =
    subst (AreDown parents) (append_assoc order (reverse way) (x ∷ []) ∙ ap (λ (z : List ℕ). order ++ z) (sym (reverse-append (x ∷ []) way)))
    (down-more parents (order ++ reverse way) x (down-way parents order (parent_at parents x) way next d w.1 (distinct-tail x way o) (λ y m. u y (member-tail y x way m)) e) (u x (member-head x way)).0
    (no_member-append x order (reverse way) (u x (member-head x way)).1 (member-reverse x way ∙ distinct-head x way o)) up)
  where
    up : (parent_at parents x ≡ absent) ⊎ (is_member (parent_at parents x) (order ++ reverse way) ≡ true)
    up = elim (way-first parents (parent_at parents x) way next w.1) [
      | inl q ↦ elim e [ inl a ↦ inl (sym q ∙ a) | inr m ↦ inr (member-append_left (parent_at parents x) order (reverse way) (subst (λ z. is_member z order ≡ true) q m)) ]
      | inr m ↦ inr (member-append_right (parent_at parents x) order (reverse way) (member-reverse (parent_at parents x) way ∙ m))
    ]

-- the list so far: each node of it is after its parent, it has what is placed, and it has the first k nodes
pub record AreListed (parents : List ℕ) (placed : List Bool) (order : List ℕ) (k : ℕ) : Type 0 where
  pub down : AreDown parents order
  pub number : length placed ≡ length parents
  pub marks : (y : ℕ) → is_marked placed y ≡ is_member y order
  pub first : (j : ℕ) → j < k → is_member j order ≡ true

-- one node more, and those above it
pub listed-more : (parents : List ℕ) (placed new : List Bool) (order way : List ℕ) (k : ℕ) → AreListed parents placed order k → k < length parents → length parents < absent → IsClimbed parents k placed new way → AreListed parents new (order ++ reverse way) (k + 1)
listed-more parents placed new order way k a l few c = record {
  down = down-way parents order k way c.next a.down c.climbing.way c.climbing.distinct (λ y m. (c.climbing.within y m, sym (a.marks y) ∙ c.climbing.unplaced y m)) ends;
  number = c.climbing.number ∙ a.number;
  marks = λ y. c.climbing.placed y ∙ ap₂ (λ (u v : Bool). u || v) (a.marks y) (sym (member-reverse y way)) ∙ sym (member-append y order (reverse way));
  first = λ j m. elim (cases_eq j k) [
    | inl q ↦ subst (λ z. is_member z (order ++ reverse way) ≡ true) (sym q) own
    | inr n ↦ member-append_left j order (reverse way) (a.first j (omega (arith, m, n)))
  ];
}
  where
    ends : (c.next ≡ absent) ⊎ (is_member c.next order ≡ true)
    ends = elim c.ends [ inl q ↦ inl q | inr m ↦ inr (sym (a.marks c.next) ∙ m) ]

    own : is_member k (order ++ reverse way) ≡ true
    own = elim (way-first parents k way c.next c.climbing.way) [
      | inl q ↦ elim ends [
        | inl e ↦ absurd (none (sym q ∙ e))
        | inr m ↦ member-append_left k order (reverse way) (subst (λ z. is_member z order ≡ true) q m)
      ]
      | inr m ↦ member-append_right k order (reverse way) (member-reverse k way ∙ m)
    ]
      where
        none : k ≡ absent → ⊥
        none e = omega (arith, e, l, few)
