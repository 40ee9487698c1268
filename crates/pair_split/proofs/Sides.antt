-- The two sides of a division of a family: entries of them, the vertices that they touch, and those that they have in common.
use Rattle.std.proofs.Common.{◌≡◌, ◌≢◌, ℕ, ◌+◌, ◌≤◌, ◌⊎◌, inl, inr, Bool, true, not, ◌&&◌, List, [], ◌∷◌, length, sym, ◌∙◌, subst, arith, Contains}
use Rattle.std.proofs.lemmas.Bool.{cases_Bool, true≢false, or_cases, and_parts, and_from, or_left, or_right}
use Rattle.pair_split.specs.Family.{Entry, has_end, on_side, off_side, touches, is_common, IsTight, IsSeparation}
use Rattle.pair_split.proofs.Elements.{contains-here, contains-later, contains-cases, contains-none, contains-filter, filter-contains, some-element, element-some, length-parts, filter-same}

-- an entry on a side
pub record OnSide (entries : List Entry) (s : ℕ → Bool) : Type 0 where
  pub entry : Entry
  pub within : Contains entries entry
  pub side : s entry.name ≡ true

-- an entry on a side with the end x
pub record Touching (entries : List Entry) (s : ℕ → Bool) (x : ℕ) : Type 0 where
  pub entry : Entry
  pub within : Contains entries entry
  pub side : s entry.name ≡ true
  pub end : has_end x entry ≡ true

-- a side with an entry has at least one
pub one-from_entry : (entries : List Entry) (s : ℕ → Bool) → OnSide entries s → 1 ≤ length (on_side s entries)
one-from_entry entries s o = element-some o.entry (on_side s entries) (contains-filter (λ e. s e.name) o.entry entries o.within o.side)

-- a side of at least one entry has an entry
pub entry-from_one : (entries : List Entry) (s : ℕ → Bool) → 1 ≤ length (on_side s entries) → OnSide entries s
entry-from_one entries s l =
    let w = some-element (on_side s entries) l in
    let c = filter-contains (λ e. s e.name) w.0 entries w.1 in
    record { entry = w.0; within = c.0; side = c.1 }

-- a list with an entry at x touches x
pub touches-from : (entries : List Entry) (x : ℕ) (entry : Entry) → Contains entries entry → has_end x entry ≡ true → touches entries x ≡ true
touches-from [] x entry c h = absurd (contains-none entry c)
touches-from (e ∷ entries) x entry c h = elim (contains-cases entry e entries c) [
  | inl i ↦ or_left (has_end x e) (touches entries x) (subst (λ (z : Entry). has_end x z ≡ true) (sym i) h)
  | inr r ↦ or_right (has_end x e) (touches entries x) (touches-from entries x entry r h)
]

-- a list that touches x has an entry at x
pub touching-entry : (entries : List Entry) (x : ℕ) → touches entries x ≡ true → (entry : Entry) × Contains entries entry × (has_end x entry ≡ true)
touching-entry [] x h = absurd (true≢false (sym h))
touching-entry (e ∷ entries) x h = elim (or_cases (has_end x e) (touches entries x) h) [
  | inl i ↦ (e, contains-here e entries, i)
  | inr r ↦ let w = touching-entry entries x r in (w.0, contains-later w.0 e entries w.1, w.2)
]

-- a side with an entry at x touches x
pub touches-from_side : (entries : List Entry) (s : ℕ → Bool) (x : ℕ) → Touching entries s x → touches (on_side s entries) x ≡ true
touches-from_side entries s x t = touches-from (on_side s entries) x t.entry (contains-filter (λ e. s e.name) t.entry entries t.within t.side) t.end

-- a side that touches x has an entry at x
pub touching-on_side : (entries : List Entry) (s : ℕ → Bool) (x : ℕ) → touches (on_side s entries) x ≡ true → Touching entries s x
touching-on_side entries s x h =
    let w = touching-entry (on_side s entries) x h in
    let c = filter-contains (λ e. s e.name) w.0 entries w.1 in
    record { entry = w.0; within = c.0; side = c.1; end = w.2 }

-- a vertex at which both sides have an entry is common
pub common-from : (entries : List Entry) (s : ℕ → Bool) (x : ℕ) → Touching entries s x → Touching entries (λ n. not (s n)) x → is_common entries s x ≡ true
common-from entries s x i o = and_from (touches (on_side s entries) x) (touches (off_side s entries) x) (touches-from_side entries s x i) (touches-from_side entries (λ n. not (s n)) x o)

-- at a common vertex the side has an entry
pub common-inside : (entries : List Entry) (s : ℕ → Bool) (x : ℕ) → is_common entries s x ≡ true → Touching entries s x
common-inside entries s x c = touching-on_side entries s x (and_parts (touches (on_side s entries) x) (touches (off_side s entries) x) c).0

-- at a common vertex the other side has an entry
pub common-outside : (entries : List Entry) (s : ℕ → Bool) (x : ℕ) → is_common entries s x ≡ true → Touching entries (λ n. not (s n)) x
common-outside entries s x c = touching-on_side entries (λ n. not (s n)) x (and_parts (touches (on_side s entries) x) (touches (off_side s entries) x) c).1

-- an entry on a side is on a larger one
pub touching-weaker : (entries : List Entry) (s t : ℕ → Bool) (x : ℕ) → ((n : ℕ) → s n ≡ true → t n ≡ true) → Touching entries s x → Touching entries t x
touching-weaker entries s t x h w = record { entry = w.entry; within = w.within; side = h w.entry.name w.side; end = w.end }

-- sides that agree have the same entries
pub on_side-ext : (entries : List Entry) (s t : ℕ → Bool) → ((n : ℕ) → s n ≡ t n) → on_side s entries ≡ on_side t entries
on_side-ext entries s t h = filter-same (λ e. s e.name) (λ e. t e.name) entries (λ e c. h e.name)

-- both sides together are the family
pub length-sides : (entries : List Entry) (s : ℕ → Bool) → length (on_side s entries) + length (off_side s entries) ≡ length entries
length-sides entries s = length-parts (λ e. s e.name) entries

-- what is off the other side is on the side
pub off_other : (entries : List Entry) (s : ℕ → Bool) → off_side (λ n. not (s n)) entries ≡ on_side s entries
off_other entries s = on_side-ext entries (λ n. not (not (s n))) s (λ n. grind (arith, cases_Bool (s n)))

-- the other side has the same vertices in common
pub common-other : (entries : List Entry) (s : ℕ → Bool) (x : ℕ) → is_common entries (λ n. not (s n)) x ≡ is_common entries s x
common-other entries s x = rw (off_other entries s) (swapped (touches (off_side s entries) x) (touches (on_side s entries) x))
  where
    swapped : (a b : Bool) → (a && b) ≡ (b && a)
    swapped a b = grind (arith, cases_Bool a, cases_Bool b)

-- the other side of a 2-separation is one
pub separation-other : (entries : List Entry) (s : ℕ → Bool) (p q : ℕ) → IsSeparation entries s p q → IsSeparation entries (λ n. not (s n)) p q
separation-other entries s p q c = record {
  differ = c.differ;
  first_common = common-other entries s p ∙ c.first_common;
  second_common = common-other entries s q ∙ c.second_common;
  no_other = λ x h. c.no_other x (sym (common-other entries s x) ∙ h);
  two_inside = c.two_outside;
  two_outside = subst (λ (l : List Entry). 2 ≤ length l) (sym (off_other entries s)) c.two_inside;
}

-- in a tight family a side that is not empty and whose other side is not has two vertices in common with it: so if there
-- are no others than p and q, it is these two
pub exactly_two : (entries : List Entry) (s : ℕ → Bool) (p q : ℕ) → IsTight entries → 1 ≤ length (on_side s entries) → 1 ≤ length (off_side s entries)
    → ((x : ℕ) → is_common entries s x ≡ true → (x ≡ p) ⊎ (x ≡ q))
    → (p ≢ q) × (is_common entries s p ≡ true) × (is_common entries s q ≡ true)
exactly_two entries s p q tight a b only = let t = tight s a b in both t.0 t.1 t.2 t.3 t.4 (only t.0 t.3) (only t.1 t.4)
  where
    both : (u v : ℕ) → u ≢ v → is_common entries s u ≡ true → is_common entries s v ≡ true → (u ≡ p) ⊎ (u ≡ q) → (v ≡ p) ⊎ (v ≡ q) → (p ≢ q) × (is_common entries s p ≡ true) × (is_common entries s q ≡ true)
    both u v n cu cv (inl i) (inl j) = absurd (n (i ∙ sym j))
    both u v n cu cv (inl i) (inr j) = (λ e. n (i ∙ (e ∙ sym j)), subst (λ (z : ℕ). is_common entries s z ≡ true) i cu, subst (λ (z : ℕ). is_common entries s z ≡ true) j cv)
    both u v n cu cv (inr i) (inl j) = (λ e. n (i ∙ (sym e ∙ sym j)), subst (λ (z : ℕ). is_common entries s z ≡ true) j cv, subst (λ (z : ℕ). is_common entries s z ≡ true) i cu)
    both u v n cu cv (inr i) (inr j) = absurd (n (i ∙ sym j))

-- in a tight family a side with two entries on it and two off it, and no common vertices but p and q, is a 2-separation
pub separation-from : (entries : List Entry) (s : ℕ → Bool) (p q : ℕ) → IsTight entries → 2 ≤ length (on_side s entries) → 2 ≤ length (off_side s entries)
    → ((x : ℕ) → is_common entries s x ≡ true → (x ≡ p) ⊎ (x ≡ q)) → IsSeparation entries s p q
separation-from entries s p q tight a b only =
    let t = exactly_two entries s p q tight (omega (arith, a)) (omega (arith, b)) only in
    record { differ = t.0; first_common = t.1; second_common = t.2; no_other = only; two_inside = a; two_outside = b }
