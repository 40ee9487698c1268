-- Sides that hold the entries at some places of the stack.
use Rattle.std.proofs.Common.{◌≡◌, ℕ, zero, suc, ◌<◌, ◌≤◌, ◌⊎◌, inl, inr, Bool, true, false, not, ◌&&◌, ◌==◌, List, [], ◌∷◌, length, filter, map, drop, refl, sym, ap, ◌∙◌, subst, arith, Contains}
use Rattle.std.proofs.lemmas.Bool.{cases_Bool, both_ways, and_parts, and_from, eq-eqb, eqb-true, false_from_ne_true, not_from_false, not-true}
use Rattle.permutations.specs.Count.{some}
use Rattle.permutations.proofs.Search.{some-witness, some-from}
use Rattle.pair_split.specs.Family.{Entry, has_end, on_side, off_side, touches, is_common, IsFamily}
use Rattle.pair_split.proofs.Elements.{two-pass, contains-here, contains-later}
use Rattle.permutations.proofs.Filter.{filter-yes, filter-no}
use Rattle.pair_split.proofs.Sides.{common-from, common-inside, common-outside, separation-from, touching-entry}
use Rattle.split_comp.specs.declared.items.StackEntry.{StackEntry}
use Rattle.split_comp.specs.Stack.{item, entry, family, IsStack, IsBad, IsTopped}
use Rattle.split_comp.specs.Sides.{IsCutOff}
use Rattle.split_comp.proofs.Entries.{stack-contains, rest-contains, family-cases, same-item, not-rest, rest-touches}

-- the side that holds the entries at the places that pass the test
abbrev pub side_at : List StackEntry → (ℕ → Bool) → ℕ → Bool
side_at stack test name = some (length stack) (λ i. test i && ((item stack i).name == name))

-- an entry of the stack is on it where its place passes
pub side-place : (stack : List StackEntry) (rest : List Entry) → IsFamily (family stack rest) → (test : ℕ → Bool) (i : ℕ) → i < length stack → side_at stack test (item stack i).name ≡ test i
side-place stack rest f test i l = elim (cases_Bool (test i)) [
  | inl t ↦ some-from (length stack) (λ k. test k && ((item stack k).name == (item stack i).name)) i l (and_from (test i) ((item stack i).name == (item stack i).name) t (eq-eqb (item stack i).name (item stack i).name refl)) ∙ sym t
  | inr t ↦ false_from_ne_true (side_at stack test (item stack i).name) (λ s.
      let w = some-witness (length stack) (λ k. test k && ((item stack k).name == (item stack i).name)) s in
      let p = and_parts (test w.0) ((item stack w.0).name == (item stack i).name) w.2 in
      both_ways (test i) t (subst (λ (k : ℕ). test k ≡ true) (same-item stack rest f w.0 i w.1 l (eqb-true (item stack w.0).name (item stack i).name p.1)) p.0)) ∙ sym t
]

-- and none of the rest is
pub side-rest : (stack : List StackEntry) (rest : List Entry) → IsFamily (family stack rest) → (test : ℕ → Bool) (x : Entry) → Contains rest x → side_at stack test x.name ≡ false
side-rest stack rest f test x c = false_from_ne_true (side_at stack test x.name) (λ s.
    let w = some-witness (length stack) (λ k. test k && ((item stack k).name == x.name)) s in
    let p = and_parts (test w.0) ((item stack w.0).name == x.name) w.2 in
    not-rest stack rest f w.0 x w.1 c (eqb-true (item stack w.0).name x.name p.1))

-- two places that pass make two entries
pub side-two : (stack : List StackEntry) (rest : List Entry) → IsFamily (family stack rest) → (s : ℕ → Bool) (i j : ℕ) → i < j → j < length stack → s (item stack i).name ≡ true → s (item stack j).name ≡ true → 2 ≤ length (on_side s (family stack rest))
side-two stack rest f s i j l m a b = two-pass (λ (e : Entry). s e.name) (entry (item stack i)) (entry (item stack j)) (family stack rest)
    (λ e. omega (arith, l, same-item stack rest f i j (omega (arith, l, m)) m (ap (λ (y : Entry). y.name) e))) (stack-contains stack rest i (omega (arith, l, m))) (stack-contains stack rest j m) a b

-- a place that fails and an entry of the rest make two entries off the side
pub side-off_two : (stack : List StackEntry) (rest : List Entry) → IsFamily (family stack rest) → (s : ℕ → Bool) (i : ℕ) (x : Entry) → i < length stack → s (item stack i).name ≡ false → Contains rest x → s x.name ≡ false → 2 ≤ length (off_side s (family stack rest))
side-off_two stack rest f s i x l a c b = two-pass (λ (e : Entry). not (s e.name)) (entry (item stack i)) x (family stack rest)
    (λ e. not-rest stack rest f i x l c (ap (λ (y : Entry). y.name) e)) (stack-contains stack rest i l) (rest-contains stack rest x c) (not_from_false (s (item stack i).name) a) (not_from_false (s x.name) b)

-- a vertex common to a side inside the stack: an entry on it, and one off it or of the rest
pub record IsShared (stack : List StackEntry) (rest : List Entry) (s : ℕ → Bool) (z : ℕ) : Type 0 where
  pub place : ℕ
  pub within : place < length stack
  pub on : s (item stack place).name ≡ true
  pub end : has_end z (entry (item stack place)) ≡ true
  pub other : ((j : ℕ) × (j < length stack) × (s (item stack j).name ≡ false) × (has_end z (entry (item stack j)) ≡ true)) ⊎ (touches rest z ≡ true)

pub shared-from : (stack : List StackEntry) (rest : List Entry) (s : ℕ → Bool) → ((x : Entry) → Contains rest x → s x.name ≡ false) → (z : ℕ) → is_common (family stack rest) s z ≡ true → IsShared stack rest s z
shared-from stack rest s off z c = on (common-inside (family stack rest) s z c).entry (common-inside (family stack rest) s z c).side (common-inside (family stack rest) s z c).end (family-cases stack rest (common-inside (family stack rest) s z c).entry (common-inside (family stack rest) s z c).within)
  where
    out : (e : Entry) → not (s e.name) ≡ true → has_end z e ≡ true → ((i : ℕ) × (i < length stack) × (e ≡ entry (item stack i))) ⊎ Contains rest e → ((j : ℕ) × (j < length stack) × (s (item stack j).name ≡ false) × (has_end z (entry (item stack j)) ≡ true)) ⊎ (touches rest z ≡ true)
    out e n h (inr r) = inr (rest-touches rest e z r h)
    out e n h (inl p) = inl (p.0, p.1, ap (λ (y : Entry). s y.name) (sym p.2) ∙ not-true (s e.name) n, subst (λ (y : Entry). has_end z y ≡ true) p.2 h)

    on : (e : Entry) → s e.name ≡ true → has_end z e ≡ true → ((i : ℕ) × (i < length stack) × (e ≡ entry (item stack i))) ⊎ Contains rest e → IsShared stack rest s z
    on e n h (inr r) = absurd (both_ways (s e.name) (off e r) n)
    on e n h (inl p) =
        let o = common-outside (family stack rest) s z c in
        record { place = p.0; within = p.1; on = ap (λ (y : Entry). s y.name) (sym p.2) ∙ n; end = subst (λ (y : Entry). has_end z y ≡ true) p.2 h; other = out o.entry o.side o.end (family-cases stack rest o.entry o.within) }

-- a stretch of two or more places below place h, with no common vertices but p and q: it is a side without the entry at h
pub stretch-not : (last : ℕ → ℕ) (done v h : ℕ) (stack : List StackEntry) (rest : List Entry) → IsStack last done v stack rest → h < length stack → IsTopped stack rest h → (test : ℕ → Bool) → test h ≡ false → (i j : ℕ) → i < j → j < length stack → test i ≡ true → test j ≡ true
    → (p q : ℕ) → ((z : ℕ) → IsShared stack rest (side_at stack test) z → (z ≡ p) ⊎ (z ≡ q)) → ⊥
stretch-not last done v h stack rest s l topped test out i j m n a b p q only =
    let f = s.left.is_family in
    let off : (x : Entry) → Contains rest x → side_at stack test x.name ≡ false = side-rest stack rest f test in
    let w = touching-entry rest v s.left.own in
    let two = side-two stack rest f (side_at stack test) i j m n (side-place stack rest f test i (omega (arith, m, n)) ∙ a) (side-place stack rest f test j n ∙ b) in
    let rest-two = side-off_two stack rest f (side_at stack test) h w.0 l (side-place stack rest f test h l ∙ out) w.1 (off w.0 w.1) in
    let bad : IsBad stack rest (side_at stack test) p q = record { separates = separation-from (family stack rest) (side_at stack test) p q s.left.is_tight two rest-two (λ z c. only z (shared-from stack rest (side_at stack test) off z c)); stacked = off } in
    both_ways (side_at stack test (item stack h).name) (side-place stack rest f test h l ∙ out) (topped (side_at stack test) p q bad)

-- a common vertex, from an entry on the side and one off it
pub common-at : (stack : List StackEntry) (rest : List Entry) (s : ℕ → Bool) (z i j : ℕ) → i < length stack → j < length stack → s (item stack i).name ≡ true → s (item stack j).name ≡ false → has_end z (entry (item stack i)) ≡ true → has_end z (entry (item stack j)) ≡ true → is_common (family stack rest) s z ≡ true
common-at stack rest s z i j l m a b x y = common-from (family stack rest) s z
    (record { entry = entry (item stack i); within = stack-contains stack rest i l; side = a; end = x })
    (record { entry = entry (item stack j); within = stack-contains stack rest j m; side = not_from_false (s (item stack j).name) b; end = y })

-- or one of the rest
pub common-rest : (stack : List StackEntry) (rest : List Entry) (s : ℕ → Bool) → ((x : Entry) → Contains rest x → s x.name ≡ false) → (z i : ℕ) → i < length stack → s (item stack i).name ≡ true → has_end z (entry (item stack i)) ≡ true → touches rest z ≡ true → is_common (family stack rest) s z ≡ true
common-rest stack rest s off z i l a x t =
    let e = touching-entry rest z t in
    common-from (family stack rest) s z
    (record { entry = entry (item stack i); within = stack-contains stack rest i l; side = a; end = x })
    (record { entry = e.0; within = rest-contains stack rest e.0 e.1; side = not_from_false (s e.0.name) (off e.0 e.1); end = e.2 })

-- a side that is the whole stack, without its first entry
tail-cut : (keeps : StackEntry → Bool) (x : StackEntry) (stack : List StackEntry) (rest : List Entry) (side : ℕ → Bool) → IsCutOff keeps (x ∷ stack) rest 0 side → IsCutOff keeps stack rest 0 side
tail-cut keeps x stack rest side c = record { from = λ i l m. c.from (suc i) (omega arith) (omega (arith, m)); before = λ i l m. absurd (omega (arith, l)); off = c.off }

-- the entries of a side that is cut off
pub cut-is : (keeps : StackEntry → Bool) (stack : List StackEntry) (rest : List Entry) (k : ℕ) (side : ℕ → Bool) → IsCutOff keeps stack rest k side → on_side side (family stack rest) ≡ map entry (filter keeps (drop k stack))
cut-is keeps [] rest k side c = none rest c.off ∙ ap (λ (l : List StackEntry). map entry (filter keeps l)) (sym (drop-nil k))
  where
    none : (l : List Entry) → ((x : Entry) → Contains l x → side x.name ≡ false) → on_side side l ≡ []
    none [] h = refl
    none (x ∷ l) h = filter-no (λ (e : Entry). side e.name) x l (h x (contains-here x l)) ∙ none l (λ y d. h y (contains-later y x l d))

    drop-nil : (n : ℕ) → drop {A = StackEntry} n [] ≡ []
    drop-nil zero = refl
    drop-nil (suc n) = refl
cut-is keeps (x ∷ stack) rest zero side c = elim (cases_Bool (keeps x)) [
  | inl t ↦ filter-yes (λ (e : Entry). side e.name) (entry x) (family stack rest) (c.from 0 (omega arith) (omega arith) ∙ t) ∙ (ap (λ (l : List Entry). entry x ∷ l) (cut-is keeps stack rest zero side (tail-cut keeps x stack rest side c)) ∙ ap (map entry) (sym (filter-yes keeps x stack t)))
  | inr t ↦ filter-no (λ (e : Entry). side e.name) (entry x) (family stack rest) (c.from 0 (omega arith) (omega arith) ∙ t) ∙ (cut-is keeps stack rest zero side (tail-cut keeps x stack rest side c) ∙ ap (map entry) (sym (filter-no keeps x stack t)))
]
cut-is keeps (x ∷ stack) rest (suc k) side c = filter-no (λ (e : Entry). side e.name) (entry x) (family stack rest) (c.before 0 (omega arith) (omega arith))
    ∙ cut-is keeps stack rest k side (record { from = λ i l m. c.from (suc i) (omega (arith, l)) (omega (arith, m)); before = λ i l m. c.before (suc i) (omega (arith, l)) (omega (arith, m)); off = c.off })
