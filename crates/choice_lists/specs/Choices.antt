-- Choices: orders of the keys of a node, the least key first; their mirror images, and which are possible.
use Rattle.std.specs.Prelude.{◌≡◌, ◌≢◌, ℕ, ◌⊎◌, nat_lt, if◌then◌else◌, List, [], ◌∷◌, map, reverse, IsPermutation}
use Rattle.permutations.specs.Cyclic.{first_or}
use Rattle.choice_lists.specs.Order.{IsRising, is_before}
use Rattle.choice_lists.specs.Arrangements.{arrangements}

-- the same cyclic order reversed, from the same first key
abbrev pub mirror_choice : List ℕ → List ℕ
mirror_choice [] = []
mirror_choice (x ∷ xs) = x ∷ reverse xs

-- a choice that is possible in a bond: an arrangement of its keys that begins with the least, which is the first of them
pub record IsBondChoice (keys choice : List ℕ) : Type 0 where
  pub arranged : IsPermutation keys choice
  pub least_first : first_or 0 choice ≡ first_or 0 keys

-- the choices of a bond: the first key, and after it each arrangement of the others
abbrev pub bond_choices : List ℕ → List (List ℕ)
bond_choices [] = [] ∷ []
bond_choices (key ∷ keys) = map (λ a. key ∷ a) (arrangements keys)

-- the two choices of a rigid node: one and its mirror image, the one that comes before first
abbrev pub rigid_choices : List ℕ → List (List ℕ)
rigid_choices c = (if is_before c (mirror_choice c) then c ∷ mirror_choice c ∷ [] else mirror_choice c ∷ c ∷ [])

-- the choices of a bond whose keys increase
pub record IsBondList (l : List (List ℕ)) : Type 0 where
  pub key : ℕ
  pub keys : List ℕ
  pub rise : IsRising nat_lt (key ∷ keys)
  pub is : l ≡ bond_choices (key ∷ keys)

-- the two choices of a rigid node, where a choice is not its own mirror image
pub record IsRigidList (l : List (List ℕ)) : Type 0 where
  pub choice : List ℕ
  pub two_ways : mirror_choice choice ≢ choice
  pub is : l ≡ rigid_choices choice

-- the choices of a node: of a bond, of a rigid node, or the one empty choice of a polygon or a lone edge
abbrev pub IsChoiceList : List (List ℕ) → Type 0
IsChoiceList l = IsBondList l ⊎ (IsRigidList l ⊎ (l ≡ [] ∷ []))
