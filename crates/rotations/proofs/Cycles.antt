-- Lists of edges whose darts follow one another, and what an exchange and a reversal of rings do to them.
use Rattle.std.proofs.Common.{◌≡◌, ◌≢◌, ℕ, ◌/◌, ◌<◌, true, false, cond, eqb, List, [], ◌∷◌, ◌++◌, length, get_or, reverse, refl, sym, ap, ◌∙◌, subst, inl, inr, append_assoc, append-nil}
use Rattle.std.proofs.lemmas.Bool.{cases_Bool, eq-eqb, eqb-true, cond-true, cond-false, both_ways, true≢false, false_from_ne_true}
use Rattle.permutations.specs.Members.{is_member, is_distinct}
use Rattle.permutations.specs.Cyclic.{first_or, successor, predecessor}
use Rattle.permutations.specs.Permutation.{same_orbit}
use Rattle.permutations.specs.Relation.{IsEquivalence}
use Rattle.permutations.specs.Exchange.{exchange}
use Rattle.permutations.proofs.Members.{member-head, member-tail, member-cases, member-append_left, member-append_right, distinct-append_apart, distinct-append_left, distinct-append_right}
use Rattle.permutations.proofs.Successor.{first_or-append, successor-cut, successor-member, predecessor-member, successor-predecessor}
use Rattle.permutations.proofs.Permutations.{exchange-left, exchange-right, exchange-other}
use Rattle.permutations.proofs.Orbits.{orbit-equivalence, orbit-step, orbit-kept}
use Rattle.permutations.proofs.Chains.{chain}
use Rattle.ring_arena.specs.Links.{Links, AreInverse, AreNow, reversed_at}

-- the dart of each member goes on to that of the next, and the last one's to that of z
abbrev pub Chain : (ℕ → ℕ) → (ℕ → ℕ) → List ℕ → ℕ → Type 0
Chain D f [] z = Unit {0}
Chain D f (x ∷ xs) z = (f (D x) ≡ D (first_or z xs)) × Chain D f xs z

-- a chain of two parts
pub chain-join : (D f : ℕ → ℕ) (a b : List ℕ) (z : ℕ) → Chain D f a (first_or z b) → Chain D f b z → Chain D f (a ++ b) z
chain-join D f [] b z p q = q
chain-join D f (x ∷ xs) b z p q = (p.0 ∙ ap D (sym (first_or-append z xs b)), chain-join D f xs b z p.1 q)

pub chain-front : (D f : ℕ → ℕ) (a b : List ℕ) (z : ℕ) → Chain D f (a ++ b) z → Chain D f a (first_or z b)
chain-front D f [] b z p = tt
chain-front D f (x ∷ xs) b z p = (p.0 ∙ ap D (first_or-append z xs b), chain-front D f xs b z p.1)

pub chain-back : (D f : ℕ → ℕ) (a b : List ℕ) (z : ℕ) → Chain D f (a ++ b) z → Chain D f b z
chain-back D f [] b z p = p
chain-back D f (x ∷ xs) b z p = chain-back D f xs b z p.1

-- it speaks of the darts of its members alone
pub chain-ext : (D f h : ℕ → ℕ) (l : List ℕ) (z : ℕ) → ((e : ℕ) → is_member e l ≡ true → h (D e) ≡ f (D e)) → Chain D f l z → Chain D h l z
chain-ext D f h [] z same p = tt
chain-ext D f h (x ∷ xs) z same p = (same x (member-head x xs) ∙ p.0, chain-ext D f h xs z (λ e m. same e (member-tail e x xs m)) p.1)

-- the head of a list with a member
head-middle : (z : ℕ) (front : List ℕ) (y : ℕ) (ys : List ℕ) → first_or z (front ++ y ∷ ys) ≡ first_or y front
head-middle z front y ys = first_or-append z front (y ∷ ys)

-- where each dart goes on to that of the successor, a cyclic order is a chain back to its head
from-walk : (D f : ℕ → ℕ) (l front back : List ℕ) (z : ℕ) → l ≡ front ++ back → is_distinct l ≡ true → ((e : ℕ) → is_member e l ≡ true → f (D e) ≡ D (successor l e)) → Chain D f back (first_or z l)
from-walk D f l front [] z is once forth = tt
from-walk D f l front (y ∷ ys) z is once forth =
    (forth y at_y ∙ ap D step, from-walk D f l (front ++ y ∷ []) ys z (is ∙ sym (append_assoc front (y ∷ []) ys)) once forth)
  where
    at_y : is_member y l ≡ true
    at_y = subst (λ (k : List ℕ). is_member y k ≡ true) (sym is) (member-append_right y front (y ∷ ys) (member-head y ys))

    new : is_member y front ≡ false
    new = false_from_ne_true (is_member y front)
        (λ m. both_ways (is_member y (y ∷ ys)) (distinct-append_apart front (y ∷ ys) (subst (λ (k : List ℕ). is_distinct k ≡ true) is once) y m) (member-head y ys))

    step : successor l y ≡ first_or (first_or z l) ys
    step = ap (λ (k : List ℕ). successor k y) is ∙ successor-cut front y ys new ∙ ap (λ (x : ℕ). first_or x ys) (sym (ap (first_or z) is ∙ head-middle z front y ys))

pub cycle-from : (D f : ℕ → ℕ) (l : List ℕ) (z : ℕ) → is_distinct l ≡ true → ((e : ℕ) → is_member e l ≡ true → f (D e) ≡ D (successor l e)) → Chain D f l (first_or z l)
cycle-from D f l z once forth = from-walk D f l [] l z refl once forth

-- and the other way round
to-walk : (D f : ℕ → ℕ) (l front back : List ℕ) (z : ℕ) → l ≡ front ++ back → is_distinct l ≡ true → Chain D f back (first_or z l) → (e : ℕ) → is_member e back ≡ true → f (D e) ≡ D (successor l e)
to-walk D f l front [] z is once p e m = absurd (true≢false (sym m))
to-walk D f l front (y ∷ ys) z is once p e m = elim (member-cases e y ys m) [
  | inl same ↦ subst (λ (x : ℕ). f (D x) ≡ D (successor l x)) same (p.0 ∙ ap D (sym step))
  | inr later ↦ to-walk D f l (front ++ y ∷ []) ys z (is ∙ sym (append_assoc front (y ∷ []) ys)) once p.1 e later
]
  where
    new : is_member y front ≡ false
    new = false_from_ne_true (is_member y front)
        (λ m. both_ways (is_member y (y ∷ ys)) (distinct-append_apart front (y ∷ ys) (subst (λ (k : List ℕ). is_distinct k ≡ true) is once) y m) (member-head y ys))

    step : successor l y ≡ first_or (first_or z l) ys
    step = ap (λ (k : List ℕ). successor k y) is ∙ successor-cut front y ys new ∙ ap (λ (x : ℕ). first_or x ys) (sym (ap (first_or z) is ∙ head-middle z front y ys))

pub cycle-to : (D f : ℕ → ℕ) (l : List ℕ) (z : ℕ) → is_distinct l ≡ true → Chain D f l (first_or z l) → (e : ℕ) → is_member e l ≡ true → f (D e) ≡ D (successor l e)
cycle-to D f l z once p e m = to-walk D f l [] l z refl once p e m

-- a cyclic order may be read from another member on
pub cycle-swap : (D f : ℕ → ℕ) (a b : List ℕ) (z : ℕ) → Chain D f (a ++ b) (first_or z (a ++ b)) → Chain D f (b ++ a) (first_or z (b ++ a))
cycle-swap D f [] b z p = subst (λ (l : List ℕ). Chain D f l (first_or z l)) (sym (append-nil b)) p
cycle-swap D f (x ∷ xs) [] z p = subst (λ (l : List ℕ). Chain D f l (first_or z l)) (append-nil (x ∷ xs)) p
cycle-swap D f (x ∷ xs) (y ∷ ys) z p = chain-join D f (y ∷ ys) (x ∷ xs) y (chain-back D f (x ∷ xs) (y ∷ ys) x p) (chain-front D f (x ∷ xs) (y ∷ ys) x p)

-- after an exchange of what follows the last members of two chains each goes on as the other did
pub chains-exchanged : (D f h : ℕ → ℕ) (a : List ℕ) (p : ℕ) (c : List ℕ) (q za zb : ℕ) → ((e : ℕ) → is_member e a ≡ true → h (D e) ≡ f (D e)) → ((e : ℕ) → is_member e c ≡ true → h (D e) ≡ f (D e))
    → h (D p) ≡ f (D q) → h (D q) ≡ f (D p) → Chain D f (a ++ p ∷ []) za → Chain D f (c ++ q ∷ []) zb → Chain D h (a ++ p ∷ []) zb × Chain D h (c ++ q ∷ []) za
chains-exchanged D f h a p c q za zb ka kc hp hq ca cb = (
  chain-join D h a (p ∷ []) zb (chain-ext D f h a p ka (chain-front D f a (p ∷ []) za ca)) (hp ∙ (chain-back D f c (q ∷ []) zb cb).0, tt),
  chain-join D h c (q ∷ []) za (chain-ext D f h c q kc (chain-front D f c (q ∷ []) zb cb)) (hq ∙ (chain-back D f a (p ∷ []) za ca).0, tt),
)

-- the same of links, by the exchange
module _ (D : ℕ → ℕ) (one : (e f : ℕ) → D e ≡ D f → e ≡ f) (mid new : Links) where
  -- what follows other nodes stays
  pub exchange-kept : (p q d : ℕ) → AreNow mid new (exchange (D p) (D q) (λ x. get_or mid.next x 0)) → d < length mid.next → d ≢ D p → d ≢ D q → get_or new.next d 0 ≡ get_or mid.next d 0
  exchange-kept p q d now l n m = now.behind d l ∙ exchange-other (D p) (D q) (λ x. get_or mid.next x 0) d n m

  pub links-exchanged : (a : List ℕ) (p : ℕ) (c : List ℕ) (q za zb : ℕ) → AreNow mid new (exchange (D p) (D q) (λ x. get_or mid.next x 0)) → is_distinct ((a ++ p ∷ []) ++ (c ++ q ∷ [])) ≡ true
      → ((e : ℕ) → is_member e ((a ++ p ∷ []) ++ (c ++ q ∷ [])) ≡ true → D e < length mid.next)
      → Chain D (λ x. get_or mid.next x 0) (a ++ p ∷ []) za → Chain D (λ x. get_or mid.next x 0) (c ++ q ∷ []) zb
      → Chain D (λ x. get_or new.next x 0) (a ++ p ∷ []) zb × Chain D (λ x. get_or new.next x 0) (c ++ q ∷ []) za
  links-exchanged a p c q za zb now once node ca cb =
      chains-exchanged D (λ x. get_or mid.next x 0) (λ x. get_or new.next x 0) a p c q za zb
      (λ e m. exchange-kept p q (D e) now (node e (left e (member-append_left e a (p ∷ []) m)))
      (λ s. both_ways (is_member p (p ∷ [])) (distinct-append_apart a (p ∷ []) (distinct-append_left (a ++ p ∷ []) (c ++ q ∷ []) once) p (subst (λ (x : ℕ). is_member x a ≡ true) (one e p s) m)) (member-head p []))
      (λ s. both_ways (is_member q (c ++ q ∷ [])) (distinct-append_apart (a ++ p ∷ []) (c ++ q ∷ []) once q (subst (λ (x : ℕ). is_member x (a ++ p ∷ []) ≡ true) (one e q s) (member-append_left e a (p ∷ []) m))) last_q))
      (λ e m. exchange-kept p q (D e) now (node e (right e (member-append_left e c (q ∷ []) m)))
      (λ s. both_ways (is_member p (c ++ q ∷ [])) (distinct-append_apart (a ++ p ∷ []) (c ++ q ∷ []) once p last_p) (subst (λ (x : ℕ). is_member x (c ++ q ∷ []) ≡ true) (one e p s) (member-append_left e c (q ∷ []) m)))
      (λ s. both_ways (is_member q (q ∷ [])) (distinct-append_apart c (q ∷ []) (distinct-append_right (a ++ p ∷ []) (c ++ q ∷ []) once) q (subst (λ (x : ℕ). is_member x c ≡ true) (one e q s) m)) (member-head q [])))
      (now.behind (D p) (node p (left p last_p)) ∙ exchange-left (D p) (D q) (λ x. get_or mid.next x 0))
      (now.behind (D q) (node q (right q last_q)) ∙ exchange-right (D p) (D q) (λ x. get_or mid.next x 0))
      ca cb
    where
      last_p : is_member p (a ++ p ∷ []) ≡ true
      last_p = member-append_right p a (p ∷ []) (member-head p [])

      last_q : is_member q (c ++ q ∷ []) ≡ true
      last_q = member-append_right q c (q ∷ []) (member-head q [])

      left : (e : ℕ) → is_member e (a ++ p ∷ []) ≡ true → is_member e ((a ++ p ∷ []) ++ (c ++ q ∷ [])) ≡ true
      left e m = member-append_left e (a ++ p ∷ []) (c ++ q ∷ []) m

      right : (e : ℕ) → is_member e (c ++ q ∷ []) ≡ true → is_member e ((a ++ p ∷ []) ++ (c ++ q ∷ [])) ≡ true
      right e m = member-append_right e (a ++ p ∷ []) (c ++ q ∷ []) m

-- a ring turned round, where the half of each dart is its edge
module _ (D : ℕ → ℕ) (half : (e : ℕ) → D e / 2 ≡ e) (mid new : Links) (inv : AreInverse mid) (run : List ℕ) (once : is_distinct run ≡ true)
    (node : (e : ℕ) → is_member e run ≡ true → D e < length mid.next) (forth : (e : ℕ) → is_member e run ≡ true → get_or mid.next (D e) 0 ≡ D (successor run e))
    (x : ℕ) (at_x : is_member x run ≡ true) (now : AreNow mid new (reversed_at mid (D x))) where
  f : ℕ → ℕ
  f d = get_or mid.next d 0

  -- the darts of the run are in its orbit
  inside : (e : ℕ) → is_member e run ≡ true → same_orbit (length mid.next) (λ d. get_or mid.next d 0) (D x) (D e) ≡ true
  inside e m =
      chain (λ a b. same_orbit (length mid.next) (λ d. get_or mid.next d 0) (D a) (D b)) pulled run once
      (λ z w. subst (λ (y : ℕ). same_orbit (length mid.next) (λ d. get_or mid.next d 0) (D z) y ≡ true) (forth z w) (orbit-step (length mid.next) (λ d. get_or mid.next d 0) (D z) (node z w)))
      x e at_x m
    where
      whole : IsEquivalence (same_orbit (length mid.next) (λ d. get_or mid.next d 0))
      whole = orbit-equivalence (length mid.next) (λ d. get_or mid.next d 0)

      pulled : IsEquivalence (λ a b. same_orbit (length mid.next) (λ d. get_or mid.next d 0) (D a) (D b))
      pulled = record {
        reflexive = λ a. whole.reflexive (D a);
        symmetric = λ a b. whole.symmetric (D a) (D b);
        transitive = λ a b c. whole.transitive (D a) (D b) (D c);
      }

  dart-true : (e : ℕ) → is_member e run ≡ true → cond (eqb (D (D e / 2)) (D e)) (is_member (D e / 2) run) false ≡ true
  dart-true e m = cond-true (eqb (D (D e / 2)) (D e)) (is_member (D e / 2) run) false (eq-eqb (D (D e / 2)) (D e) (ap D (half e))) ∙ (ap (λ (y : ℕ). is_member y run) (half e) ∙ m)

  true-dart : (d : ℕ) → cond (eqb (D (d / 2)) d) (is_member (d / 2) run) false ≡ true → (e : ℕ) × (is_member e run ≡ true) × (D e ≡ d)
  true-dart d t = elim (cases_Bool (eqb (D (d / 2)) d)) [
    | inl s ↦ (d / 2, sym (cond-true (eqb (D (d / 2)) d) (is_member (d / 2) run) false s) ∙ t, eqb-true (D (d / 2)) d s)
    | inr n ↦ absurd (true≢false (sym t ∙ cond-false (eqb (D (d / 2)) d) (is_member (d / 2) run) false n))
  ]

  -- other nodes are not
  outside : (d : ℕ) → ((e : ℕ) → is_member e run ≡ true → D e ≢ d) → same_orbit (length mid.next) (λ y. get_or mid.next y 0) (D x) d ≡ false
  outside d n = false_from_ne_true (same_orbit (length mid.next) (λ y. get_or mid.next y 0) (D x) d) (λ s.
      let t : cond (eqb (D (d / 2)) d) (is_member (d / 2) run) false ≡ true = sym (orbit-kept (length mid.next) (λ y. get_or mid.next y 0) (λ y. get_or mid.prev y 0) inv.permutes (λ y. cond (eqb (D (y / 2)) y) (is_member (y / 2) run) false) kept (D x) d s) ∙ dart-true x at_x in
      let w = true-dart d t in n w.0 w.1 w.2)
    where
      kept : (z : ℕ) → z < length mid.next → cond (eqb (D (z / 2)) z) (is_member (z / 2) run) false ≡ true → cond (eqb (D (get_or mid.next z 0 / 2)) (get_or mid.next z 0)) (is_member (get_or mid.next z 0 / 2) run) false ≡ true
      kept z l t =
          let w = true-dart z t in
          subst (λ (y : ℕ). cond (eqb (D (y / 2)) y) (is_member (y / 2) run) false ≡ true) (sym (forth w.0 w.1) ∙ ap (λ (y : ℕ). get_or mid.next y 0) w.2) (dart-true (successor run w.0) (successor-member run w.0 w.1))

  -- before each dart of the run is that of the predecessor
  before : (e : ℕ) → is_member e run ≡ true → get_or mid.prev (D e) 0 ≡ D (predecessor run e)
  before e m =
      let p : is_member (predecessor run e) run ≡ true = predecessor-member run e m in
      ap (λ (y : ℕ). get_or mid.prev y 0) (sym (forth (predecessor run e) p ∙ ap D (successor-predecessor run e once))) ∙ inv.permutes.back_forth (D (predecessor run e)) (node (predecessor run e) p)

  pub run-reversed : (e : ℕ) → is_member e run ≡ true → get_or new.next (D e) 0 ≡ D (successor (reverse run) e)
  run-reversed e m = now.behind (D e) (node e m) ∙ (cond-true (same_orbit (length mid.next) (λ y. get_or mid.next y 0) (D x) (D e)) (get_or mid.prev (D e) 0) (get_or mid.next (D e) 0) (inside e m) ∙ before e m)

  pub others-kept : (d : ℕ) → d < length mid.next → ((e : ℕ) → is_member e run ≡ true → D e ≢ d) → get_or new.next d 0 ≡ get_or mid.next d 0
  others-kept d l n = now.behind d l ∙ cond-false (same_orbit (length mid.next) (λ y. get_or mid.next y 0) (D x) d) (get_or mid.prev d 0) (get_or mid.next d 0) (outside d n)
