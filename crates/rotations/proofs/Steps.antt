-- Steps round a vertex, by the vectors that keep a rotation system.
use Rattle.std.proofs.Common.{◌≡◌, ℕ, ◌+◌, ◌*◌, ◌/◌, ◌<◌, List, [], length, get_or, sym, ap, ◌∙◌, inl, inr, arith}
use Rattle.std.specs.List.{Contains}
use Rattle.std.proofs.lemmas.List.{length-map, get_or_past}
use Rattle.std.proofs.lemmas.Bool.{cases_lt}
use Rattle.permutations.specs.Cyclic.{successor, predecessor}
use Rattle.permutations.proofs.Successor.{predecessor-member, successor-predecessor}
use Rattle.rotations.specs.Rotation.{order_at}
use Rattle.rotations.specs.Rings.{dart_at, orders, AreRings}
use Rattle.permutations.specs.Ring.{turns}
use Rattle.rotations.specs.declared.rings.Ring.{Ring}
use Rattle.rotations.proofs.Membership.{member-from_contains}
use Rattle.rotations.proofs.Darts.{dart-edge, dart-in}

-- a number with an edge round it is a vertex
pub order-vertex : (r : List (List ℕ)) (v e : ℕ) → Contains (order_at r v) e → v < length r
order-vertex r v e c = elim (cases_lt v (length r)) [
  | inl l ↦ l
  | inr l ↦ absurd (omega (arith, c.1, ap length (get_or_past r v [] l)))
]

-- there is a ring for it
pub order-ring : (next : List ℕ) (rings : List Ring) (v e : ℕ) → Contains (order_at (orders next rings) v) e → v < length rings
order-ring next rings v e c = omega (arith, order-vertex (orders next rings) v e c, length-map rings (λ (ring : Ring). turns next ring.first ring.degree))

-- an edge round a vertex has its two darts
pub kept-dart : (tails next prev : List ℕ) (rings : List Ring) (v e : ℕ) → AreRings tails next prev rings → Contains (order_at (orders next rings) v) e → 2 * e + 1 < length tails
kept-dart tails next prev rings v e k c = (k.rounds v (order-ring next rings v e c)).darts e (member-from_contains (order_at (orders next rings) v) e c)

-- its dart is a place of the vectors
pub kept-next_in : (tails next prev : List ℕ) (rings : List Ring) (v e : ℕ) → AreRings tails next prev rings → Contains (order_at (orders next rings) v) e → dart_at tails v e < length next
kept-next_in tails next prev rings v e k c = dart-in tails v e (length next) (omega (arith, kept-dart tails next prev rings v e k c, k.next_long))

-- the next dart is that of the successor
pub kept-succ : (tails next prev : List ℕ) (rings : List Ring) (v e : ℕ) → AreRings tails next prev rings → Contains (order_at (orders next rings) v) e → get_or next (dart_at tails v e) 0 / 2 ≡ successor (order_at (orders next rings) v) e
kept-succ tails next prev rings v e k c =
    let order = order_at (orders next rings) v in
    let linked = k.linked v (order-ring next rings v e c) in
    ap (λ (d : ℕ). d / 2) (linked.forth e (member-from_contains order e c)) ∙ dart-edge tails v (successor order e)

-- the dart before is that of the predecessor
pub kept-pred : (tails next prev : List ℕ) (rings : List Ring) (v e : ℕ) → AreRings tails next prev rings → Contains (order_at (orders next rings) v) e → get_or prev (dart_at tails v e) 0 / 2 ≡ predecessor (order_at (orders next rings) v) e
kept-pred tails next prev rings v e k c =
    let order = order_at (orders next rings) v in
    let linked = k.linked v (order-ring next rings v e c) in
    let round = k.rounds v (order-ring next rings v e c) in
    let before = predecessor-member order e (member-from_contains order e c) in
    ap (λ (f : ℕ). get_or prev (dart_at tails v f) 0 / 2) (sym (successor-predecessor order e round.distinct))
    ∙ (ap (λ (d : ℕ). d / 2) (linked.back (predecessor order e) before) ∙ dart-edge tails v (predecessor order e))
