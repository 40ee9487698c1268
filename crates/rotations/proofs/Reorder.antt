-- New cyclic orders of the same edges, told by new rings: the walks give them, and they are kept.
use Rattle.std.proofs.Common.{◌≡◌, ℕ, zero, suc, ◌/◌, ◌<◌, ◌≤◌, true, List, [], ◌∷◌, length, get_or, refl, sym, ap, ◌∙◌, subst, inl, inr, arith}
use Rattle.std.proofs.lemmas.List.{get_or-map, length-map, nil_from_length}
use Rattle.std.proofs.lemmas.Bool.{cases_eq, true≢false}
use Rattle.permutations.specs.Members.{is_member, is_distinct}
use Rattle.permutations.specs.Cyclic.{first_or, successor, from_least}
use Rattle.permutations.proofs.Members.{member-head, member-tail}
use Rattle.permutations.proofs.Arrangements.{length-from_members, contains-from_member}
use Rattle.permutations.proofs.NormalForm.{least-same, least-first_member, from_least-first_or, from_least-member, from_least-distinct, from_least-successor}
use Rattle.ring_arena.specs.Links.{Links, AreInverse}
use Rattle.rotations.specs.Rotation.{order_at}
use Rattle.rotations.specs.Rings.{dart_at, orders, StandRound, AreLinked, AreRings}
use Rattle.permutations.specs.Ring.{turns}
use Rattle.rotations.specs.declared.rings.Ring.{Ring}
use Rattle.rotations.proofs.Steps.{order-ring}
use Rattle.rotations.proofs.Links.{linked-back}
use Rattle.rotations.proofs.Turns.{turns-order}

-- a cyclic order of the same edges, followed by the links
pub record IsReordered (tails : List ℕ) (v : ℕ) (new : Links) (old order : List ℕ) : Type 0 where
  pub distinct : is_distinct order ≡ true
  pub members : (e : ℕ) → is_member e order ≡ is_member e old
  pub forth : (e : ℕ) → is_member e order ≡ true → get_or new.next (dart_at tails v e) 0 ≡ dart_at tails v (successor order e)

-- a walk has as many edges as turns
pub length-turns : (next : List ℕ) (d k : ℕ) → length (turns next d k) ≡ k
length-turns next d zero = refl
length-turns next d (suc k) = ap suc (length-turns next (get_or next d 0) k)

-- no ring
abbrev no_ring : Ring
no_ring = record { first = 0; degree = 0 }

module _ (tails : List ℕ) (old new : Links) (rings : List Ring) (k : AreRings tails old.next old.prev rings) (inv : AreInverse new) (count : length new.next ≡ length old.next) (R : ℕ → List ℕ)
    (is : (w : ℕ) → w < length rings → IsReordered tails w new (order_at (orders old.next rings) w) (R w)) where
  was-turns : (w : ℕ) → w < length rings → order_at (orders old.next rings) w ≡ turns old.next (get_or rings w no_ring).first (get_or rings w no_ring).degree
  was-turns w l = get_or-map (λ (ring : Ring). turns old.next ring.first ring.degree) rings w no_ring [] l

  now-turns : (w : ℕ) → w < length rings → order_at (orders new.next rings) w ≡ turns new.next (get_or rings w no_ring).first (get_or rings w no_ring).degree
  now-turns w l = get_or-map (λ (ring : Ring). turns new.next ring.first ring.degree) rings w no_ring [] l

  was-long : (w : ℕ) → w < length rings → length (order_at (orders old.next rings) w) ≡ (get_or rings w no_ring).degree
  was-long w l = ap length (was-turns w l) ∙ length-turns old.next (get_or rings w no_ring).first (get_or rings w no_ring).degree

  -- the new order begins as the old one
  same-first : (w : ℕ) → w < length rings → 0 < length (order_at (orders old.next rings) w) → first_or 0 (from_least (R w)) ≡ first_or 0 (order_at (orders old.next rings) w)
  same-first w l some = begin (order_at (orders old.next rings) w) refl some
    where
      begin : (o : List ℕ) → o ≡ order_at (orders old.next rings) w → 0 < length o → first_or 0 (from_least (R w)) ≡ first_or 0 (order_at (orders old.next rings) w)
      begin [] e m = absurd (omega arith)
      begin (x ∷ xs) e m =
          from_least-first_or (R w) x ((is w l).members x ∙ (ap (is_member x) (sym e) ∙ member-head x xs))
          ∙ (least-same (R w) (x ∷ xs) (λ z. (is w l).members z ∙ ap (is_member z) (sym e))
          ∙ (least-first_member x xs (λ z t. subst (λ (o : List ℕ). first_or 0 o ≤ z) (sym e) (k.least w z l (subst (λ (o : List ℕ). is_member z o ≡ true) e (member-tail z x xs t))))
          ∙ ap (first_or 0) e))

  new-round : (w : ℕ) → w < length rings → StandRound tails w (from_least (R w))
  new-round w l = record {
    distinct = from_least-distinct (R w) (is w l).distinct;
    darts = λ e m. (k.rounds w l).darts e (sym ((is w l).members e) ∙ (sym (from_least-member (R w) e) ∙ m));
    tail = λ e m. (k.rounds w l).tail e (sym ((is w l).members e) ∙ (sym (from_least-member (R w) e) ∙ m));
  }

  new-linked : (w : ℕ) → w < length rings → AreLinked tails new.next new.prev w (from_least (R w)) (from_least (R w))
  new-linked w l = linked-back tails new w (from_least (R w)) inv (count ∙ k.next_long) (new-round w l)
      (λ e m. (is w l).forth e (sym (from_least-member (R w) e) ∙ m) ∙ ap (dart_at tails w) (sym (from_least-successor (R w) e (is w l).distinct)))

  new-long : (w : ℕ) → w < length rings → length (from_least (R w)) ≡ (get_or rings w no_ring).degree
  new-long w l = length-from_members (from_least (R w)) (order_at (orders old.next rings) w) (from_least-distinct (R w) (is w l).distinct) (k.rounds w l).distinct (λ z. from_least-member (R w) z ∙ (is w l).members z) ∙ was-long w l

  -- the walks give the new orders
  pub new-order : (w : ℕ) → w < length rings → order_at (orders new.next rings) w ≡ from_least (R w)
  new-order w l = elim (cases_eq (get_or rings w no_ring).degree 0) [
    | inl none ↦ now-turns w l ∙ (ap (turns new.next (get_or rings w no_ring).first) none ∙ sym (nil_from_length (from_least (R w)) (new-long w l ∙ none)))
    | inr n ↦
        let some : 0 < (get_or rings w no_ring).degree = omega (arith, n) in
        now-turns w l
        ∙ ((λ j. turns new.next (begin some j) (sym (new-long w l) j))
        ∙ turns-order tails new.next new.prev w (from_least (R w)) (new-round w l) (new-linked w l))
  ]
    where
      begin : 0 < (get_or rings w no_ring).degree → (get_or rings w no_ring).first ≡ dart_at tails w (first_or 0 (from_least (R w)))
      begin some = k.begins w no_ring l some ∙ ap (dart_at tails w) (sym (same-first w l (omega (arith, was-long w l))))

  -- and are kept
  pub new-rings : AreRings tails new.next new.prev rings
  new-rings = record {
    few = k.few;
    few_rings = k.few_rings;
    next_long = count ∙ k.next_long;
    prev_long = inv.long ∙ (count ∙ k.next_long);
    permutes = inv.permutes;
    first_in = λ j other l some. subst (λ (n : ℕ). (get_or rings j other).first < n) (sym count) (k.first_in j other l some);
    begins = λ w other l some. k.begins w other l some ∙ ap (dart_at tails w) (sym (ap (first_or 0) (new-order w l) ∙ same-first w l (positive w other l some)));
    rounds = λ w l. subst (λ (o : List ℕ). StandRound tails w o) (sym (new-order w l)) (new-round w l);
    linked = λ w l. subst (λ (o : List ℕ). AreLinked tails new.next new.prev w o o) (sym (new-order w l)) (new-linked w l);
    least = λ w e l m. begins-least w e l (subst (λ (o : List ℕ). is_member e o ≡ true) (new-order w l) m);
    each = λ d l. still (get_or tails d 0) (d / 2) (k.each d l);
  }
    where
      still : (w e : ℕ) → is_member e (order_at (orders old.next rings) w) ≡ true → is_member e (order_at (orders new.next rings) w) ≡ true
      still w e m =
          let l : w < length rings = order-ring old.next rings w e (contains-from_member (order_at (orders old.next rings) w) e m) in
          subst (λ (o : List ℕ). is_member e o ≡ true) (sym (new-order w l)) (from_least-member (R w) e ∙ ((is w l).members e ∙ m))

      positive : (w : ℕ) (other : Ring) → w < length rings → 0 < (get_or rings w other).degree → 0 < length (order_at (orders old.next rings) w)
      positive w other l some = omega (arith, ap length (get_or-map (λ (ring : Ring). turns old.next ring.first ring.degree) rings w other [] l), length-turns old.next (get_or rings w other).first (get_or rings w other).degree)

      begins-least : (w e : ℕ) → w < length rings → is_member e (from_least (R w)) ≡ true → first_or 0 (order_at (orders new.next rings) w) ≤ e
      begins-least w e l m =
          let t : is_member e (order_at (orders old.next rings) w) ≡ true = sym ((is w l).members e) ∙ (sym (from_least-member (R w) e) ∙ m) in
          omega (arith, ap (first_or 0) (new-order w l), same-first w l (some (order_at (orders old.next rings) w) t), k.least w e l t)
        where
          some : (xs : List ℕ) → is_member e xs ≡ true → 0 < length xs
          some [] t = absurd (true≢false (sym t))
          some (y ∷ ys) t = omega arith

  pub new-vertices : length (orders new.next rings) ≡ length (orders old.next rings)
  new-vertices = length-map rings (λ (ring : Ring). turns new.next ring.first ring.degree) ∙ sym (length-map rings (λ (ring : Ring). turns old.next ring.first ring.degree))
