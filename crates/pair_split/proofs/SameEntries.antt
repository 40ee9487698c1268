-- What is said of a family depends on its entries alone, and not on their order.
use Rattle.std.proofs.Common.{◌≡◌, ℕ, ◌≤◌, Bool, true, not, List, length, ap, Contains}
use Rattle.permutations.specs.Members.{is_distinct}
use Rattle.pair_split.specs.Family.{Entry, names, on_side, is_common, IsTight, IsSeparation}
use Rattle.pair_split.proofs.Elements.{two-pass}
use Rattle.pair_split.proofs.Sides.{Touching, one-from_entry, entry-from_one, common-from, common-inside, common-outside}
use Rattle.pair_split.proofs.Names.{two-names}

-- each entry of the one is an entry of the other
abbrev pub IsWithin : List Entry → List Entry → Type 0
IsWithin entries others = (e : Entry) → Contains entries e → Contains others e

-- a touching entry is one of the larger family
touching-within : (entries others : List Entry) (s : ℕ → Bool) (x : ℕ) → IsWithin entries others → Touching entries s x → Touching others s x
touching-within entries others s x h t = record { entry = t.entry; within = h t.entry t.within; side = t.side; end = t.end }

-- a common vertex is one of the larger family
common-within : (entries others : List Entry) (s : ℕ → Bool) (x : ℕ) → IsWithin entries others → is_common entries s x ≡ true → is_common others s x ≡ true
common-within entries others s x h c = common-from others s x
    (touching-within entries others s x h (common-inside entries s x c))
    (touching-within entries others (λ n. not (s n)) x h (common-outside entries s x c))

-- a side with an entry has one in the larger family
one-within : (entries others : List Entry) (s : ℕ → Bool) → IsWithin entries others → 1 ≤ length (on_side s entries) → 1 ≤ length (on_side s others)
one-within entries others s h l = let o = entry-from_one entries s l in one-from_entry others s (record { entry = o.entry; within = h o.entry o.within; side = o.side })

-- a side with two entries has two in the larger family
two-within : (entries others : List Entry) (s : ℕ → Bool) → is_distinct (names entries) ≡ true → IsWithin entries others → 2 ≤ length (on_side s entries) → 2 ≤ length (on_side s others)
two-within entries others s d h l =
    let w = two-names entries (λ e. s e.name) d l in
    two-pass (λ e. s e.name) w.0 w.1 others (λ i. w.6 (ap (λ (z : Entry). z.name) i)) (h w.0 w.2) (h w.1 w.3) w.4 w.5

-- where the one is tight, so is the other
pub same-tight : (entries others : List Entry) → IsWithin entries others → IsWithin others entries → IsTight entries → IsTight others
same-tight entries others h k tight s a b =
    let t = tight s (one-within others entries s k a) (one-within others entries (λ n. not (s n)) k b) in
    (t.0, t.1, t.2, common-within entries others s t.0 h t.3, common-within entries others s t.1 h t.4)

-- a 2-separation of the one is one of the other
pub same-separation : (entries others : List Entry) (s : ℕ → Bool) (p q : ℕ) → is_distinct (names entries) ≡ true → IsWithin entries others → IsWithin others entries → IsSeparation entries s p q → IsSeparation others s p q
same-separation entries others s p q d h k c = record {
  differ = c.differ;
  first_common = common-within entries others s p h c.first_common;
  second_common = common-within entries others s q h c.second_common;
  no_other = λ x i. c.no_other x (common-within others entries s x k i);
  two_inside = two-within entries others s d h c.two_inside;
  two_outside = two-within entries others (λ n. not (s n)) d h c.two_outside;
}
