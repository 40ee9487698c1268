-- The darts of a list are linked one after another.
use Rattle.std.proofs.Common.{◌≡◌, ◌≢◌, ℕ, zero, suc, ◌+◌, ◌-◌, ◌*◌, ◌<◌, ◌≤◌, true, cond, eqb, List, [], ◌∷◌, length, get_or, refl, sym, ap, ◌∙◌, subst, inl, inr, arith, add-one}
use Rattle.std.proofs.lemmas.List.{get_or_past, get_or_default}
use Rattle.std.proofs.lemmas.Bool.{cases_eq, cases_lt, eq-eqb, ne_eqb, cond-true, cond-false, both_ways}
use Rattle.permutations.specs.Members.{is_member, is_distinct}
use Rattle.permutations.specs.Cyclic.{first_or, successor_from, successor}
use Rattle.permutations.proofs.Members.{distinct-head, distinct-tail}
use Rattle.permutations.proofs.Places.{same-place, place-of}
use Rattle.permutations.proofs.Arrangements.{member-at}
use Rattle.ring_arena.specs.Links.{Links, AreInverse, AreNow, linked_after}
use Rattle.rotations.specs.Rings.{dart_at, StandRound, AreLinked}
use Rattle.rotations.proofs.Darts.{dart-in, dart-injective}

pub first_is : (z : ℕ) (l : List ℕ) → first_or z l ≡ get_or l 0 z
first_is z [] = refl
first_is z (x ∷ xs) = refl

-- the member that follows the one at place i stands at the next place, or is the one that follows the last
successor_from-at : (z : ℕ) (l : List ℕ) (i : ℕ) → is_distinct l ≡ true → i < length l → successor_from z l (get_or l i 0) ≡ get_or l (suc i) z
successor_from-at z [] i d l = absurd (omega arith)
successor_from-at z (y ∷ ys) zero d l = cond-true (eqb y y) (first_or z ys) (successor_from z ys y) (eq-eqb y y refl) ∙ first_is z ys
successor_from-at z (y ∷ ys) (suc i) d l =
    cond-false (eqb y (get_or ys i 0)) (first_or z ys) (successor_from z ys (get_or ys i 0)) (ne_eqb y (get_or ys i 0) apart)
    ∙ successor_from-at z ys i (distinct-tail y ys d) (omega arith)
  where
    apart : y ≡ get_or ys i 0 → ⊥
    apart e = both_ways (is_member y ys) (distinct-head y ys d) (subst (λ (x : ℕ). is_member x ys ≡ true) (sym e) (member-at ys i 0 (omega arith)))

-- the successor of the member at place i
pub successor-at : (l : List ℕ) (i : ℕ) → is_distinct l ≡ true → i < length l → successor l (get_or l i 0) ≡ get_or l (i + 1) (get_or l 0 0)
successor-at [] i d l = absurd (omega arith)
successor-at (y ∷ ys) i d l = rw add-one (successor_from-at y (y ∷ ys) i d l)

-- what comes behind a node, where d is put behind x
after-place : (d x : ℕ) (f : ℕ → ℕ) → linked_after d x f x ≡ d
after-place d x f = cond-true (eqb x x) d (cond (eqb x d) (f x) (f x)) (eq-eqb x x refl)

after-new : (d x : ℕ) (f : ℕ → ℕ) → d ≢ x → linked_after d x f d ≡ f x
after-new d x f n = cond-false (eqb d x) d (cond (eqb d d) (f x) (f d)) (ne_eqb d x n) ∙ cond-true (eqb d d) (f x) (f d) (eq-eqb d d refl)

after-other : (d x y : ℕ) (f : ℕ → ℕ) → y ≢ x → y ≢ d → linked_after d x f y ≡ f y
after-other d x y f n m = cond-false (eqb y x) d (cond (eqb y d) (f x) (f y)) (ne_eqb y x n) ∙ cond-false (eqb y d) (f x) (f y) (ne_eqb y d m)

-- links forth round a vertex are links back as well, since each list is the inverse of the other
pub linked-back : (tails : List ℕ) (links : Links) (v : ℕ) (order : List ℕ) → AreInverse links → length links.next ≡ length tails → StandRound tails v order
    → ((e : ℕ) → is_member e order ≡ true → get_or links.next (dart_at tails v e) 0 ≡ dart_at tails v (successor order e)) → AreLinked tails links.next links.prev v order order
linked-back tails links v order inv long round forth = record {
  forth = forth;
  back = λ e m. ap (λ (d : ℕ). get_or links.prev d 0) (sym (forth e m)) ∙ inv.permutes.back_forth (dart_at tails v e) (dart-in tails v e (length links.next) (omega (arith, round.darts e m, long)));
}

-- after i edges: their darts form one ring, those of the later edges are alone, and those that leave other vertices are as they were
pub record LinkedSoFar (tails : List ℕ) (old new : Links) (v : ℕ) (list : List ℕ) (i : ℕ) : Type 0 where
  pub inverse : AreInverse new
  pub count : length new.next ≡ length old.next
  pub within : 0 < length list → i ≤ length list
  pub steps : (k : ℕ) → k + 1 < i → get_or new.next (dart_at tails v (get_or list k 0)) 0 ≡ dart_at tails v (get_or list (k + 1) 0)
  pub closed : (k : ℕ) → k + 1 ≡ i → k < length list → get_or new.next (dart_at tails v (get_or list k 0)) 0 ≡ dart_at tails v (get_or list 0 0)
  pub alone : (k : ℕ) → i ≤ k → k < length list → get_or new.next (dart_at tails v (get_or list k 0)) 0 ≡ dart_at tails v (get_or list k 0)
  pub next_kept : (d : ℕ) → get_or tails d 0 ≢ v → get_or new.next d 0 ≡ get_or old.next d 0

-- the first edge is a ring of its own
pub linked-first : (tails : List ℕ) (old : Links) (v : ℕ) (list : List ℕ) → AreInverse old → ((e : ℕ) → is_member e list ≡ true → get_or old.next (dart_at tails v e) 0 ≡ dart_at tails v e) → LinkedSoFar tails old old v list 1
linked-first tails old v list inv alone = record {
  inverse = inv;
  count = refl;
  within = λ l. omega arith;
  steps = λ k l. absurd (omega arith);
  closed = λ k e m. let first : k ≡ 0 = omega arith in
      subst (λ (z : ℕ). get_or old.next (dart_at tails v (get_or list z 0)) 0 ≡ dart_at tails v (get_or list 0 0)) (sym first)
      (alone (get_or list 0 0) (member-at list 0 0 (subst (λ (z : ℕ). z < length list) first m)));
  alone = λ k l m. alone (get_or list k 0) (member-at list k 0 m);
  next_kept = λ d n. refl;
}

-- darts at different places are different
dart-apart : (tails : List ℕ) (v : ℕ) (list : List ℕ) (j k : ℕ) → is_distinct list ≡ true → j < length list → k < length list → j ≢ k → dart_at tails v (get_or list j 0) ≢ dart_at tails v (get_or list k 0)
dart-apart tails v list j k d lj lk n e = n (same-place list j k d lj lk (dart-injective tails v (get_or list j 0) (get_or list k 0) e))

-- the edge at a place has its two darts
pub edge-darts : (tails : List ℕ) (v : ℕ) (list : List ℕ) (k : ℕ) → StandRound tails v list → k < length list → 2 * get_or list k 0 + 1 < length tails
edge-darts tails v list k round l = round.darts (get_or list k 0) (member-at list k 0 l)

-- the dart of the edge at a place is a node
pub dart-node : (tails : List ℕ) (v : ℕ) (list : List ℕ) (k n : ℕ) → StandRound tails v list → k < length list → n ≡ length tails → dart_at tails v (get_or list k 0) < n
dart-node tails v list k n round l e = dart-in tails v (get_or list k 0) n (omega (arith, round.darts (get_or list k 0) (member-at list k 0 l)))

-- one edge more is linked behind the last
pub linked-more : (tails : List ℕ) (old mid new : Links) (v : ℕ) (list : List ℕ) (i : ℕ) → StandRound tails v list → length old.next ≡ length tails → LinkedSoFar tails old mid v list (i + 1) → i + 1 < length list
    → AreNow mid new (linked_after (dart_at tails v (get_or list (i + 1) 0)) (dart_at tails v (get_or list i 0)) (λ d. get_or mid.next d 0)) → LinkedSoFar tails old new v list (i + 2)
linked-more tails old mid new v list i round long r l now = record {
  inverse = now.inverse;
  count = now.count ∙ r.count;
  within = λ m. omega arith;
  steps = λ k m. elim (cases_eq k i) [
    | inl same ↦ subst (λ (z : ℕ). get_or new.next (D z) 0 ≡ D (z + 1)) (sym same) (at (D i) (node i (omega arith)) ∙ after-place (D (i + 1)) (D i) f)
    | inr n ↦ kept k (omega arith) n (omega arith) ∙ r.steps k (omega arith)
  ];
  closed = λ k e m. let last : k ≡ i + 1 = omega arith in
      subst (λ (z : ℕ). get_or new.next (D z) 0 ≡ D 0) (sym last)
      (at (D (i + 1)) (node (i + 1) l) ∙ after-new (D (i + 1)) (D i) f (dart-apart tails v list (i + 1) i round.distinct l (omega arith) (omega arith)) ∙ r.closed i refl (omega arith));
  alone = λ k m w. kept k w (omega arith) (omega arith) ∙ r.alone k (omega arith) w;
  next_kept = λ d n. elim (cases_lt d (length mid.next)) [
    | inl w ↦ at d w ∙ after-other (D (i + 1)) (D i) d f (elsewhere d i n (omega arith)) (elsewhere d (i + 1) n l) ∙ r.next_kept d n
    | inr w ↦ get_or_past new.next d 0 (omega (arith, now.count)) ∙ sym (get_or_past old.next d 0 (omega (arith, r.count)))
  ];
}
  where
    D : ℕ → ℕ
    D k = dart_at tails v (get_or list k 0)

    f : ℕ → ℕ
    f d = get_or mid.next d 0

    at : (d : ℕ) → d < length mid.next → get_or new.next d 0 ≡ linked_after (dart_at tails v (get_or list (i + 1) 0)) (dart_at tails v (get_or list i 0)) (λ d. get_or mid.next d 0) d
    at d w = now.behind d w

    node : (k : ℕ) → k < length list → dart_at tails v (get_or list k 0) < length mid.next
    node k w = dart-node tails v list k (length mid.next) round w (r.count ∙ long)

    kept : (k : ℕ) → k < length list → k ≢ i → k ≢ i + 1 → get_or new.next (dart_at tails v (get_or list k 0)) 0 ≡ get_or mid.next (dart_at tails v (get_or list k 0)) 0
    kept k w n m = at (dart_at tails v (get_or list k 0)) (node k w)
        ∙ after-other (dart_at tails v (get_or list (i + 1) 0)) (dart_at tails v (get_or list i 0)) (dart_at tails v (get_or list k 0)) (λ d. get_or mid.next d 0) (dart-apart tails v list k i round.distinct w (omega arith) n) (dart-apart tails v list k (i + 1) round.distinct w l m)

    elsewhere : (d k : ℕ) → get_or tails d 0 ≢ v → k < length list → d ≢ dart_at tails v (get_or list k 0)
    elsewhere d k n w same = n (ap (λ (z : ℕ). get_or tails z 0) same ∙ round.tail (get_or list k 0) (member-at list k 0 w))

-- one turn of the loop, from place i on
pub linked-turn : (tails : List ℕ) (old mid new : Links) (v : ℕ) (list : List ℕ) (i : ℕ) → StandRound tails v list → length old.next ≡ length tails → LinkedSoFar tails old mid v list i → 1 ≤ i → i < length list
    → AreNow mid new (linked_after (dart_at tails v (get_or list i 0)) (dart_at tails v (get_or list (i - 1) 0)) (λ d. get_or mid.next d 0)) → LinkedSoFar tails old new v list (i + 1)
linked-turn tails old mid new v list i round long r one l now =
    subst (λ (z : ℕ). LinkedSoFar tails old new v list z) again
    (linked-more tails old mid new v list (i - 1) round long (subst (λ (z : ℕ). LinkedSoFar tails old mid v list z) (sym back) r) (omega arith)
    (subst (λ (z : ℕ). AreNow mid new (linked_after (dart_at tails v (get_or list z 0)) (dart_at tails v (get_or list (i - 1) 0)) (λ d. get_or mid.next d 0))) (sym back) now))
  where
    back : i - 1 + 1 ≡ i
    back = omega arith

    again : i - 1 + 2 ≡ i + 1
    again = omega arith

-- after the last turn
pub linked-all : (tails : List ℕ) (old new : Links) (v : ℕ) (list : List ℕ) (i : ℕ) → StandRound tails v list → length old.next ≡ length tails → LinkedSoFar tails old new v list i → length list ≤ i → AreLinked tails new.next new.prev v list list
linked-all tails old new v list i round long r l = linked-back tails new v list r.inverse (r.count ∙ long) round forth
  where
    forth : (e : ℕ) → is_member e list ≡ true → get_or new.next (dart_at tails v e) 0 ≡ dart_at tails v (successor list e)
    forth e m =
        let place = place-of list e m in
        let inside : place.0 < length list = place.1 in
        subst (λ (x : ℕ). get_or new.next (dart_at tails v x) 0 ≡ dart_at tails v (successor list x)) place.2 (elim (cases_lt (place.0 + 1) (length list)) [
          | inl more ↦ r.steps (place.0) (omega arith) ∙ ap (dart_at tails v) (get_or_default list (place.0 + 1) 0 (get_or list 0 0) more ∙ sym (successor-at list (place.0) round.distinct inside))
          | inr end ↦ r.closed (place.0) (omega (arith, r.within (omega arith))) inside ∙ ap (dart_at tails v) (sym (get_or_past list (place.0 + 1) (get_or list 0 0) end) ∙ sym (successor-at list (place.0) round.distinct inside))
        ])
