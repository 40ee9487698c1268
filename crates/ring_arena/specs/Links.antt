-- Nodes in rings: the numbers below some count, each with the node after it and the node before it.
use Rattle.std.specs.Prelude.{◌≡◌, ℕ, Bool, ◌<◌, cond, ◌==◌, if◌then◌else◌, List, length, slice_index}
use Rattle.permutations.specs.Permutation.{Permutes, same_orbit}

-- the node after each node, and the node before each
pub record Links : Type 0 where
  pub next : List ℕ
  pub prev : List ℕ

-- each of the two permutes the nodes, and is the inverse of the other
pub record AreInverse (links : Links) : Type 0 where
  pub long : length links.prev ≡ length links.next
  pub permutes : Permutes (length links.next) (slice_index links.next) (slice_index links.prev)

-- equally many nodes, and the node after each is given by a function
pub record AreNow (old new : Links) (next : ℕ → ℕ) : Type 0 where
  pub count : length new.next ≡ length old.next
  pub behind : (d : ℕ) → d < length old.next → slice_index new.next d ≡ next d
  pub inverse : AreInverse new

-- next and prev exchanged on the ring of d, and next elsewhere
abbrev pub reversed_at : Links → ℕ → ℕ → ℕ
reversed_at links d x = cond (same_orbit (length links.next) (slice_index links.next) d x) (slice_index links.prev x) (slice_index links.next x)

-- n nodes, each alone
pub record AreAlone (n : ℕ) (links : Links) : Type 0 where
  pub count : length links.next ≡ n
  pub alone : (d : ℕ) → d < n → slice_index links.next d ≡ d
  pub inverse : AreInverse links

-- next with d, which is alone, inserted between x and the node after x
abbrev pub linked_after : ℕ → ℕ → (ℕ → ℕ) → ℕ → ℕ
linked_after d x next y = (if y == x then d else (if y == d then next x else next y))

-- the rings the other way around: after each node the node that was before it
abbrev pub flipped : Links → Links
flipped links = record { next = links.prev; prev = links.next }

-- the rings as they are, or the other way around
abbrev pub seen : Bool → Links → Links
seen turned links = cond turned (flipped links) links
