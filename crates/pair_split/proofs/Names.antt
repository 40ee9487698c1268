-- Entries of a family by their names: no two entries have one name.
use Rattle.std.proofs.Common.{◌≡◌, ◌≢◌, ℕ, zero, suc, ◌<◌, ◌≤◌, inl, inr, Bool, true, false, ◌&&◌, ◌==◌, List, [], ◌∷◌, length, filter, slice_index_or, refl, sym, ap, ◌∙◌, subst, arith, Contains}
use Rattle.std.proofs.lemmas.Bool.{cases_Bool, both_ways, true≢false, or_cases, eq-eqb, eqb-true, ne_eqb, cases_eq, cases_lt, and_parts, and_from, or_left, or_right}
use Rattle.std.proofs.lemmas.List.Elements.{Contains-get_or}
use Rattle.permutations.proofs.Relation.{same-tests}
use Rattle.permutations.specs.Members.{is_member, is_distinct}
use Rattle.permutations.proofs.Members.{member-head, member-tail, member-cases, distinct-head, distinct-tail}
use Rattle.permutations.proofs.Filter.{filter-yes, filter-no}
use Rattle.pair_split.specs.Bridges.{side_of}
use Rattle.pair_split.specs.Family.{Entry, names, on_side}
use Rattle.pair_split.proofs.Elements.{contains-here, contains-later, contains-cases, contains-none, some-element, filter-contains}

-- the name of an entry is one of the names
pub name-member : (entries : List Entry) (e : Entry) → Contains entries e → is_member e.name (names entries) ≡ true
name-member [] e c = absurd (contains-none e c)
name-member (f ∷ entries) e c = elim (contains-cases e f entries c) [
  | inl i ↦ subst (λ (z : Entry). is_member z.name (names (f ∷ entries)) ≡ true) i (member-head f.name (names entries))
  | inr r ↦ member-tail e.name f.name (names entries) (name-member entries e r)
]

-- each of the names is that of an entry
pub member-name : (entries : List Entry) (n : ℕ) → is_member n (names entries) ≡ true → (e : Entry) × Contains entries e × (e.name ≡ n)
member-name [] n m = absurd (true≢false (sym m))
member-name (f ∷ entries) n m = elim (member-cases n f.name (names entries) m) [
  | inl i ↦ (f, contains-here f entries, i)
  | inr r ↦ let w = member-name entries n r in (w.0, contains-later w.0 f entries w.1, w.2)
]

-- entries with one name are equal
pub same-name : (entries : List Entry) → is_distinct (names entries) ≡ true → (e f : Entry) → Contains entries e → Contains entries f → e.name ≡ f.name → e ≡ f
same-name [] d e f c k n = absurd (contains-none e c)
same-name (g ∷ entries) d e f c k n = elim (contains-cases e g entries c) [
  | inl i ↦ elim (contains-cases f g entries k) [
    | inl j ↦ sym i ∙ j
    | inr s ↦ absurd (both_ways (is_member f.name (names entries)) (subst (λ (z : ℕ). is_member z (names entries) ≡ false) (ap (λ (z : Entry). z.name) i ∙ n) (distinct-head g.name (names entries) d)) (name-member entries f s))
  ]
  | inr r ↦ elim (contains-cases f g entries k) [
    | inl j ↦ absurd (both_ways (is_member e.name (names entries)) (subst (λ (z : ℕ). is_member z (names entries) ≡ false) (ap (λ (z : Entry). z.name) j ∙ sym n) (distinct-head g.name (names entries) d)) (name-member entries e r))
    | inr s ↦ same-name entries (distinct-tail g.name (names entries) d) e f r s n
  ]
]

-- places with one name are the same
pub same-place : (entries : List Entry) → is_distinct (names entries) ≡ true → (i j : ℕ) (d : Entry) → i < length entries → j < length entries → (slice_index_or entries i d).name ≡ (slice_index_or entries j d).name → i ≡ j
same-place [] u i j d l m n = absurd (omega (arith, l))
same-place (g ∷ entries) u zero zero d l m n = refl
same-place (g ∷ entries) u zero (suc j) d l m n = absurd (both_ways (is_member (slice_index_or entries j d).name (names entries))
    (subst (λ (z : ℕ). is_member z (names entries) ≡ false) n (distinct-head g.name (names entries) u))
    (name-member entries (slice_index_or entries j d) (Contains-get_or entries j d (omega (arith, m)))))
same-place (g ∷ entries) u (suc i) zero d l m n = absurd (both_ways (is_member (slice_index_or entries i d).name (names entries))
    (subst (λ (z : ℕ). is_member z (names entries) ≡ false) (sym n) (distinct-head g.name (names entries) u))
    (name-member entries (slice_index_or entries i d) (Contains-get_or entries i d (omega (arith, l)))))
same-place (g ∷ entries) u (suc i) (suc j) d l m n = ap suc (same-place entries (distinct-tail g.name (names entries) u) i j d (omega (arith, l)) (omega (arith, m)) n)

-- at most one entry has this name
pub one-name : (entries : List Entry) (n : ℕ) → is_distinct (names entries) ≡ true → length (on_side (λ k. k == n) entries) ≤ 1
one-name [] n d = omega arith
one-name (e ∷ entries) n d = let rest = one-name entries n (distinct-tail e.name (names entries) d) in elim (cases_eq e.name n) [
  | inl i ↦ elim (cases_lt 0 (length (on_side (λ k. k == n) entries))) [
    | inl l ↦ let w = some-element (on_side (λ k. k == n) entries) (omega (arith, l)) in
        let c = filter-contains (λ (z : Entry). z.name == n) w.0 entries w.1 in
        absurd (both_ways (is_member n (names entries)) (subst (λ (z : ℕ). is_member z (names entries) ≡ false) i (distinct-head e.name (names entries) d))
        (subst (λ (z : ℕ). is_member z (names entries) ≡ true) (eqb-true w.0.name n c.1) (name-member entries w.0 c.0)))
    | inr l ↦ rw (eq-eqb e.name n i) (omega (arith, l))
  ]
  | inr i ↦ rw (ne_eqb e.name n i) rest
]

-- where two entries pass a test, two with different names do
pub two-names : (entries : List Entry) (p : Entry → Bool) → is_distinct (names entries) ≡ true → 2 ≤ length (filter p entries)
    → (e f : Entry) × Contains entries e × Contains entries f × (p e ≡ true) × (p f ≡ true) × (e.name ≢ f.name)
two-names [] p d l = absurd (omega (arith, l))
two-names (e ∷ entries) p d l = elim (cases_Bool (p e)) [
  | inl t ↦ let w = some-element (filter p entries) (omega (arith, subst (λ (k : List Entry). 2 ≤ length k) (filter-yes p e entries t) l)) in
      let c = filter-contains p w.0 entries w.1 in (
        e,
        w.0,
        contains-here e entries,
        contains-later w.0 e entries c.0,
        t,
        c.1,
        λ i. both_ways (is_member w.0.name (names entries))
            (subst (λ (z : ℕ). is_member z (names entries) ≡ false) i (distinct-head e.name (names entries) d)) (name-member entries w.0 c.0),
      )
  | inr f ↦ let w = two-names entries p (distinct-tail e.name (names entries) d) (subst (λ (k : List Entry). 2 ≤ length k) (filter-no p e entries f) l) in
      (w.0, w.1, contains-later w.0 e entries w.2, contains-later w.1 e entries w.3, w.4, w.5, w.6)
]

-- a name on that side is the name of an entry that passes
pub side_of-entry : (entries : List Entry) (test : Entry → Bool) (n : ℕ) → side_of entries test n ≡ true → (e : Entry) × Contains entries e × (e.name ≡ n) × (test e ≡ true)
side_of-entry [] test n h = absurd (true≢false (sym h))
side_of-entry (f ∷ entries) test n h = elim (or_cases ((f.name == n) && test f) (side_of entries test n) h) [
  | inl a ↦ let b = and_parts (f.name == n) (test f) a in (f, contains-here f entries, eqb-true f.name n b.0, b.1)
  | inr r ↦ let w = side_of-entry entries test n r in (w.0, contains-later w.0 f entries w.1, w.2, w.3)
]

-- an entry that passes is on that side
pub entry-side_of : (entries : List Entry) (test : Entry → Bool) (e : Entry) → Contains entries e → test e ≡ true → side_of entries test e.name ≡ true
entry-side_of [] test e c h = absurd (contains-none e c)
entry-side_of (f ∷ entries) test e c h = elim (contains-cases e f entries c) [
  | inl i ↦ or_left ((f.name == e.name) && test f) (side_of entries test e.name) (and_from (f.name == e.name) (test f) (eq-eqb f.name e.name (ap (λ (z : Entry). z.name) i)) (ap test i ∙ h))
  | inr r ↦ or_right ((f.name == e.name) && test f) (side_of entries test e.name) (entry-side_of entries test e r h)
]

-- in a family an entry is on that side just where it passes
pub side_of-at : (entries : List Entry) (test : Entry → Bool) → is_distinct (names entries) ≡ true → (e : Entry) → Contains entries e → side_of entries test e.name ≡ test e
side_of-at entries test d e c = same-tests (side_of entries test e.name) (test e)
    (λ h. let w = side_of-entry entries test e.name h in ap test (sym (same-name entries d w.0 e w.1 c w.2)) ∙ w.3)
    (entry-side_of entries test e c)
