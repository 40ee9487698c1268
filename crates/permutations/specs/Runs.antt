-- Cyclic orders in which members with one key are together: runs, cut into groups.
use Rattle.std.specs.Prelude.{◌≡◌, ◌≢◌, ℕ, ◌<◌, ◌==◌, if◌then◌else◌, List, [], ◌∷◌, ◌++◌, true, map, length, reverse, All}
use Rattle.permutations.specs.Members.{is_member, is_distinct}
use Rattle.permutations.specs.Cyclic.{IsTurn, FollowsAround}

-- a group is a key with a list of members: all members, one group after the other
abbrev pub joined : List (ℕ × List ℕ) → List ℕ
joined [] = []
joined (g ∷ gs) = g.1 ++ joined gs

-- the keys of the groups
abbrev pub group_keys : List (ℕ × List ℕ) → List ℕ
group_keys gs = map (λ g. g.0) gs

-- a group that is not empty, and whose members have its key
pub record IsGroup (key : ℕ → ℕ) (g : ℕ × List ℕ) : Type 0 where
  pub filled : 0 < length g.1
  pub same_key : (x : ℕ) → is_member x g.1 ≡ true → key x ≡ g.0

-- the cyclic order l is cut into groups: no key comes twice, and around it come the groups one after the other
pub record InRuns (key : ℕ → ℕ) (l : List ℕ) (gs : List (ℕ × List ℕ)) : Type 0 where
  pub once : is_distinct (group_keys gs) ≡ true
  pub groups : All (IsGroup key) gs
  pub around : IsTurn l (joined gs)

-- no four members a, b, c, d come in this order where a and c have one key, and b and d have other keys
abbrev pub NothingCrosses : (ℕ → ℕ) → List ℕ → Type 0
NothingCrosses key l = (a b c d : ℕ) → FollowsAround l (a ∷ b ∷ c ∷ d ∷ []) → key a ≡ key c → key b ≢ key a → key d ≢ key a → ⊥

-- x put before the first group, where it has its key, and else into a group of its own
abbrev pub group_onto : (ℕ → ℕ) → ℕ → List (ℕ × List ℕ) → List (ℕ × List ℕ)
group_onto key x [] = (key x, x ∷ []) ∷ []
group_onto key x (g ∷ gs) = (if key x == g.0 then (g.0, x ∷ g.1) ∷ gs else (key x, x ∷ []) ∷ g ∷ gs)

-- the list cut into groups of neighbours with one key
abbrev pub grouped : (ℕ → ℕ) → List ℕ → List (ℕ × List ℕ)
grouped key [] = []
grouped key (x ∷ xs) = group_onto key x (grouped key xs)

-- the group written backwards
abbrev pub mirrored : ℕ × List ℕ → ℕ × List ℕ
mirrored g = (g.0, reverse g.1)
