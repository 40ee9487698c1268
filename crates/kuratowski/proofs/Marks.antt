-- Marks on vertices: what is marked after some vertices were, and what "vertices without a mark, all different" says.
use Rattle.std.proofs.Common.{◌≡◌, ◌≢◌, ℕ, ◌<◌, inl, inr, Bool, true, false, not, ◌&&◌, List, [], ◌∷◌, ◌++◌, length, set, replicate, refl, sym, ap, ◌∙◌, subst, arith}
use Rattle.std.proofs.lemmas.Bool.{cases_Bool, cases_eq, cases_lt, both_ways, false_from_ne_true, and_parts, and_from, not-true, not_from_false, true≢false}
use Rattle.std.proofs.lemmas.List.{get_or-set_same, get_or-set_other, get_or_past, get_or-replicate, length-set, length-replicate}
use Rattle.permutations.specs.Members.{is_member, is_distinct}
use Rattle.permutations.proofs.Members.{member-head, member-tail, member-cases, distinct-cons, distinct-head, distinct-tail}
use Rattle.kuratowski.specs.Checking.{is_taken, marked_also, are_free}

-- a vertex that is marked is taken
pub taken-same : (m : List Bool) (v : ℕ) → is_taken (set m v true) v ≡ true
taken-same m v = elim (cases_lt v (length m)) [
  | inl a ↦ get_or-set_same m v true true a
  | inr b ↦ get_or_past (set m v true) v true (omega (arith, length-set m v true))
]

-- another vertex is taken where it was
pub taken-other : (m : List Bool) (v z : ℕ) → z ≢ v → is_taken (set m v true) z ≡ is_taken m z
taken-other m v z n = get_or-set_other m v z true true n

-- a vertex that is taken stays so
pub taken-kept : (m : List Bool) (v z : ℕ) → is_taken m z ≡ true → is_taken (set m v true) z ≡ true
taken-kept m v z h = elim (cases_eq z v) [ inl e ↦ ap (is_taken (set m v true)) e ∙ taken-same m v | inr n ↦ taken-other m v z n ∙ h ]

-- a vertex that is taken stays so when others are marked
pub taken-also : (m : List Bool) (vs : List ℕ) (z : ℕ) → is_taken m z ≡ true → is_taken (marked_also m vs) z ≡ true
taken-also m [] z h = h
taken-also m (v ∷ vs) z h = taken-also (set m v true) vs z (taken-kept m v z h)

-- each of the vertices that were marked is taken
pub taken-among : (m : List Bool) (vs : List ℕ) (z : ℕ) → is_member z vs ≡ true → is_taken (marked_also m vs) z ≡ true
taken-among m [] z h = absurd (true≢false (sym h))
taken-among m (v ∷ vs) z h = elim (member-cases z v vs h) [
  | inl e ↦ taken-also (set m v true) vs z (subst (λ (k : ℕ). is_taken (set m v true) k ≡ true) e (taken-same m v))
  | inr t ↦ taken-among (set m v true) vs z t
]

-- of two lists of vertices, first the one and then, with those marked, the other is without marks
pub free-append : (m : List Bool) (us vs : List ℕ) → are_free m (us ++ vs) ≡ (are_free m us && are_free (marked_also m us) vs)
free-append m [] vs = refl
free-append m (u ∷ us) vs = ap (λ (b : Bool). not (is_taken m u) && b) (free-append (set m u true) us vs) ∙ joined (not (is_taken m u)) (are_free (set m u true) us) (are_free (marked_also (set m u true) us) vs)
  where
    joined : (a b c : Bool) → (a && (b && c)) ≡ ((a && b) && c)
    joined a b c = grind (arith, cases_Bool a)

-- the first of vertices without marks has none
pub free-head : (m : List Bool) (v : ℕ) (vs : List ℕ) → are_free m (v ∷ vs) ≡ true → is_taken m v ≡ false
free-head m v vs h = not-true (is_taken m v) (and_parts (not (is_taken m v)) (are_free (set m v true) vs) h).0

-- the others have none once the first is marked
pub free-tail : (m : List Bool) (v : ℕ) (vs : List ℕ) → are_free m (v ∷ vs) ≡ true → are_free (set m v true) vs ≡ true
free-tail m v vs h = (and_parts (not (is_taken m v)) (are_free (set m v true) vs) h).1

-- each of vertices without marks has none
pub free-each : (m : List Bool) (vs : List ℕ) (z : ℕ) → are_free m vs ≡ true → is_member z vs ≡ true → is_taken m z ≡ false
free-each m [] z h i = absurd (true≢false (sym i))
free-each m (v ∷ vs) z h i = elim (member-cases z v vs i) [
  | inl e ↦ subst (λ (k : ℕ). is_taken m k ≡ false) e (free-head m v vs h)
  | inr t ↦ false_from_ne_true (is_taken m z) (λ w. both_ways (is_taken (set m v true) z) (free-each (set m v true) vs z (free-tail m v vs h) t) (taken-kept m v z w))
]

-- vertices without marks are all different
pub free-distinct : (m : List Bool) (vs : List ℕ) → are_free m vs ≡ true → is_distinct vs ≡ true
free-distinct m [] h = refl
free-distinct m (v ∷ vs) h =
    distinct-cons v vs
    (false_from_ne_true (is_member v vs) (λ i. both_ways (is_taken (set m v true) v) (free-each (set m v true) vs v (free-tail m v vs h) i) (taken-same m v)))
    (free-distinct (set m v true) vs (free-tail m v vs h))

-- different vertices of which none has a mark are without marks, one after another
pub free-from : (m : List Bool) (vs : List ℕ) → is_distinct vs ≡ true → ((z : ℕ) → is_member z vs ≡ true → is_taken m z ≡ false) → are_free m vs ≡ true
free-from m [] d f = refl
free-from m (v ∷ vs) d f =
    and_from (not (is_taken m v)) (are_free (set m v true) vs) (not_from_false (is_taken m v) (f v (member-head v vs)))
    (free-from (set m v true) vs (distinct-tail v vs d)
    (λ z i. taken-other m v z (λ e. both_ways (is_member v vs) (distinct-head v vs d) (subst (λ (k : ℕ). is_member k vs ≡ true) e i)) ∙ f z (member-tail z v vs i)))

-- at first all vertices are without marks, and nothing else is
pub taken-at_first : (n z : ℕ) → z < n → is_taken (replicate n false) z ≡ false
taken-at_first n z l = get_or-replicate n z false true l

-- what has no mark at first is a vertex
pub taken-vertex : (n z : ℕ) → is_taken (replicate n false) z ≡ false → z < n
taken-vertex n z h = elim (cases_lt z n) [ inl a ↦ a | inr b ↦ absurd (true≢false (sym (get_or_past (replicate n false) z true (omega (arith, length-replicate n false))) ∙ h)) ]
