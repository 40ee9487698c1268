-- The walk round a vertex gives its edges in cyclic order.
use Rattle.std.proofs.Common.{◌≡◌, ◌≢◌, ℕ, zero, suc, ◌-◌, ◌/◌, true, false, List, [], ◌∷◌, ◌++◌, length, get_or, refl, sym, ap, ◌∙◌, subst, append_assoc, arith}
use Rattle.std.proofs.lemmas.Bool.{both_ways, false_from_ne_true}
use Rattle.permutations.specs.Members.{is_member, is_distinct}
use Rattle.permutations.specs.Cyclic.{first_or, successor}
use Rattle.permutations.proofs.Members.{member-head, member-append_right, distinct-append_apart}
use Rattle.permutations.proofs.Successor.{successor-cut}
use Rattle.rotations.specs.Rings.{dart_at, StandRound, AreLinked}
use Rattle.permutations.specs.Ring.{turns}
use Rattle.rotations.proofs.Darts.{dart-edge}

-- from any place of the order to its end
walk : (tails next prev : List ℕ) (v : ℕ) (order front back : List ℕ) (z : ℕ) → order ≡ front ++ back → StandRound tails v order → AreLinked tails next prev v order order → turns next (dart_at tails v (first_or z back)) (length back) ≡ back
walk tails next prev v order front [] z is round linked = refl
walk tails next prev v order front (y ∷ ys) z is round linked =
    (λ k. dart-edge tails v y k ∷ turns next (step k) (length ys))
    ∙ ap (λ (l : List ℕ). y ∷ l) (walk tails next prev v order (front ++ y ∷ []) ys (first_or y front) (is ∙ sym (append_assoc front (y ∷ []) ys)) round linked)
  where
    at_y : is_member y order ≡ true
    at_y = subst (λ (l : List ℕ). is_member y l ≡ true) (sym is) (member-append_right y front (y ∷ ys) (member-head y ys))

    new : is_member y front ≡ false
    new = false_from_ne_true (is_member y front)
        (λ m. both_ways (is_member y (y ∷ ys)) (distinct-append_apart front (y ∷ ys) (subst (λ (l : List ℕ). is_distinct l ≡ true) is round.distinct) y m) (member-head y ys))

    step : get_or next (dart_at tails v y) 0 ≡ dart_at tails v (first_or (first_or y front) ys)
    step = linked.forth y at_y ∙ ap (dart_at tails v) (ap (λ (l : List ℕ). successor l y) is ∙ successor-cut front y ys new)

-- the whole round, from the first edge on
pub turns-order : (tails next prev : List ℕ) (v : ℕ) (order : List ℕ) → StandRound tails v order → AreLinked tails next prev v order order → turns next (dart_at tails v (first_or 0 order)) (length order) ≡ order
turns-order tails next prev v order round linked = walk tails next prev v order [] order 0 refl round linked

-- a walk that is read as far as a dart, and one edge further
pub walk-more : (next : List ℕ) (start degree dart left : ℕ) (round new : List ℕ) → left ≢ 0 → round ++ turns next dart left ≡ turns next start degree → new ≡ round ++ (dart / 2) ∷ []
    → new ++ turns next (get_or next dart 0) (left - 1) ≡ turns next start degree
walk-more next start degree dart zero round new some is e = absurd (some refl)
walk-more next start degree dart (suc left) round new some is e =
    let one_less : suc left - 1 ≡ left = omega arith in
    rw one_less (ap (λ (l : List ℕ). l ++ turns next (get_or next dart 0) left) e ∙ append_assoc round ((dart / 2) ∷ []) (turns next (get_or next dart 0) left) ∙ is)
