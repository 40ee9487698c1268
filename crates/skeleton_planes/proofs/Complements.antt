-- Members of a cyclic order that pass a test, and those that fail it: where the ones end the others begin.
use Rattle.std.proofs.Common.{◌≡◌, ℕ, Bool, true, false, not, ◌&&◌, ◌||◌, ◌==◌, List, inl, inr, ◌⊎◌, refl, sym, ap, ◌∙◌, arith, eq-eqb, eqb-true}
use Rattle.std.proofs.lemmas.Bool.{cases_Bool, both_ways, and_from, and_parts, or_cases, or_left, or_right, not-true, not_from_false}
use Rattle.permutations.specs.Members.{is_member, is_distinct}
use Rattle.permutations.specs.Cyclic.{successor}
use Rattle.permutations.proofs.Successor.{successor-member}
use Rattle.permutations.proofs.Chains.{chain-test}
use Rattle.skeleton_planes.proofs.RunTests.{ends_run, begins_run}

-- a member that follows itself is the only one
pub follows-itself : (l : List ℕ) (c : ℕ) → is_distinct l ≡ true → is_member c l ≡ true → successor l c ≡ c → (x : ℕ) → is_member x l ≡ true → x ≡ c
follows-itself l c d m s x n = eqb-true x c (chain-test (λ z. z == c) l d (λ z k t. eq-eqb (successor l z) c (ap (successor l) (eqb-true z c t) ∙ s)) c x m n (eq-eqb c c refl))

-- the parts of the tests
pub ends-parts : (l : List ℕ) (p : ℕ → Bool) (c : ℕ) → ends_run l p c ≡ true → (is_member c l ≡ true) × (p c ≡ true) × ((p (successor l c) ≡ false) ⊎ (successor l c ≡ c))
ends-parts l p c h = let a = and_parts (is_member c l) (p c && (not (p (successor l c)) || (successor l c == c))) h in let b = and_parts (p c) (not (p (successor l c)) || (successor l c == c)) a.1 in
    (a.0, b.0, elim (or_cases (not (p (successor l c))) (successor l c == c) b.1) [ inl i ↦ inl (not-true (p (successor l c)) i) | inr i ↦ inr (eqb-true (successor l c) c i) ])

pub ends-from : (l : List ℕ) (p : ℕ → Bool) (c : ℕ) → is_member c l ≡ true → p c ≡ true → ((p (successor l c) ≡ false) ⊎ (successor l c ≡ c)) → ends_run l p c ≡ true
ends-from l p c m h e = and_from (is_member c l) (p c && (not (p (successor l c)) || (successor l c == c))) m (and_from (p c) (not (p (successor l c)) || (successor l c == c)) h (elim e [
  | inl i ↦ or_left (not (p (successor l c))) (successor l c == c) (not_from_false (p (successor l c)) i)
  | inr i ↦ or_right (not (p (successor l c))) (successor l c == c) (eq-eqb (successor l c) c i)
]))

pub begins-parts : (l : List ℕ) (p : ℕ → Bool) (c : ℕ) → begins_run l p c ≡ true → (is_member c l ≡ true) × (p (successor l c) ≡ true) × ((p c ≡ false) ⊎ (successor l c ≡ c))
begins-parts l p c h = let a = and_parts (is_member c l) (p (successor l c) && (not (p c) || (successor l c == c))) h in let b = and_parts (p (successor l c)) (not (p c) || (successor l c == c)) a.1 in
    (a.0, b.0, elim (or_cases (not (p c)) (successor l c == c) b.1) [ inl i ↦ inl (not-true (p c) i) | inr i ↦ inr (eqb-true (successor l c) c i) ])

pub begins-from : (l : List ℕ) (p : ℕ → Bool) (c : ℕ) → is_member c l ≡ true → p (successor l c) ≡ true → ((p c ≡ false) ⊎ (successor l c ≡ c)) → begins_run l p c ≡ true
begins-from l p c m h e = and_from (is_member c l) (p (successor l c) && (not (p c) || (successor l c == c))) m (and_from (p (successor l c)) (not (p c) || (successor l c == c)) h (elim e [
  | inl i ↦ or_left (not (p c)) (successor l c == c) (not_from_false (p c) i)
  | inr i ↦ or_right (not (p c)) (successor l c == c) (eq-eqb (successor l c) c i)
]))

-- where the ones begin the others end
pub begins-ends : (l : List ℕ) (p q : ℕ → Bool) → is_distinct l ≡ true → ((c : ℕ) → is_member c l ≡ true → p c ≡ not (q c)) → (f : ℕ) → is_member f l ≡ true → q f ≡ true → (c : ℕ) → begins_run l p c ≡ true → ends_run l q c ≡ true
begins-ends l p q d other f m h c b = let w = begins-parts l p c b in let s : is_member (successor l c) l ≡ true = successor-member l c w.0 in
    elim w.2 [
      | inl i ↦ ends-from l q c w.0 (from-not (p c) (q c) (other c w.0) i) (inl (to-not (p (successor l c)) (q (successor l c)) (other (successor l c) s) w.1))
      | inr i ↦ absurd (both_ways (q f) (ap q (follows-itself l c d w.0 i f m ∙ sym i) ∙ to-not (p (successor l c)) (q (successor l c)) (other (successor l c) s) w.1) h)
    ]
  where
    from-not : (x y : Bool) → x ≡ not y → x ≡ false → y ≡ true
    from-not x y e f = grind (arith, cases_Bool x, cases_Bool y)

    to-not : (x y : Bool) → x ≡ not y → x ≡ true → y ≡ false
    to-not x y e f = grind (arith, cases_Bool x, cases_Bool y)
