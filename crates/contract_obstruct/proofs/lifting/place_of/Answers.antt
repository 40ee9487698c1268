-- The place that the search finds.
use Rattle.std.proofs.Common.{◌≡◌, rules, tests, ℕ, ◌<◌, Option, None, Some, MatchOption, false, List, length, slice_index, arith}
use Rattle.std.specs.List.{AllWithin, HoldsAt}
use Rattle.std.proofs.lemmas.Bool.{false_from_ne_true}
use Rattle.std.proofs.lemmas.Iterator.{YieldsList-from_slice, IsFirst-from_position}
use Rattle.permutations.specs.Members.{is_member}
use Rattle.permutations.proofs.Arrangements.{contains-from_member}
use Rattle.contract_obstruct.proofs.lifting.place_of.Goals as goal

-- a first place is one, and where there is no place the number is no member
place-found : (list : List ℕ) (number : ℕ) (r : Option ℕ)
    → MatchOption r (AllWithin (λ x. x ≡ number → ⊥) list 0 (length list)) (λ i. (i < length list) × HoldsAt (λ x. x ≡ number) list i × AllWithin (λ x. x ≡ number → ⊥) list 0 i)
    → MatchOption r (is_member number list ≡ false) (λ m. (m < length list) × (slice_index list m ≡ number))
place-found list number None none = false_from_ne_true (is_member number list) (λ m. let c = contains-from_member list number m in none c.0 number (omega arith) c.1 c.2)
place-found list number (Some i) w = (w.0, w.1 0)

pub returns : goal.returns
returns c = place-found c.args.list.now c.args.number c.position.result
    (IsFirst-from_position _ _ _ (λ x. x ≡ c.args.number) (λ x. x ≡ c.args.number → ⊥) c.position.ensures.ran (YieldsList-from_slice c.args.list.now cc) (λ x q k. search (rules, tests)) (λ x q k. search (rules, tests)))
