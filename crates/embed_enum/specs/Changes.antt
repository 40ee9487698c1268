-- What a change of one node leaves. Contracts of private functions cite these.
use Rattle.std.specs.Prelude.{◌≡◌, ◌≢◌, ℕ, ◌<◌, ◌≤◌, true, false, List, length, map}
use Rattle.permutations.specs.Members.{is_member, is_distinct}
use Rattle.faces.specs.Euler.{IsPlaneSystem}
use Rattle.pair_split.specs.Tutte.{node_at}
use Rattle.skeletons.specs.Choices.{choice}
use Rattle.skeletons.specs.Moves.{Move, moved_node, MoveLeads, Lead}
use Rattle.skel_embed.specs.Block.{BlockState, lock_at, IsBlockState}
use Rattle.embed_enum.specs.Digits.{digit_of, radix_at, digit_at, number_to}
use Rattle.embed_enum.specs.Walk.{KeepsRest}

-- graph, tree and locks stay, and the choices of all nodes but k
pub record KeepsOthers (old new : BlockState) (k : ℕ) : Type 0 where
  pub graph : new.graph ≡ old.graph
  pub tree : new.tree ≡ old.tree
  pub locks : new.locks ≡ old.locks
  pub others : (j : ℕ) → j < length old.tree → j ≢ k → choice old.tree new.rotation j ≡ choice old.tree old.rotation j

-- the choice of node k became c, and the others stayed
abbrev pub IsChosen : BlockState → BlockState → ℕ → List ℕ → Type 0
IsChosen old new k c = KeepsOthers old new k × (choice old.tree new.rotation k ≡ c)

-- the place of the present choice of node k among its possible choices
abbrev pub node_digit : BlockState → ℕ → ℕ
node_digit s k = digit_of (node_at s.tree k).kind (choice s.tree s.rotation k)

-- the choice of node k became the one at place d, and the others stayed
abbrev pub IsMoved : BlockState → BlockState → ℕ → ℕ → Type 0
IsMoved old new k d = KeepsOthers old new k × (node_digit new k ≡ d)

-- the nodes of a range that are not locked are at their first choices, and the choices of all others stayed
pub record AreReset (old new : BlockState) (from to : ℕ) : Type 0 where
  pub rest : KeepsRest old new
  pub kept : (j : ℕ) → j < length old.tree → (from ≤ j → j < to → lock_at old.locks j ≡ true) → choice old.tree new.rotation j ≡ choice old.tree old.rotation j
  pub first : (j : ℕ) → from ≤ j → j < to → lock_at old.locks j ≡ false → node_digit new j ≡ 0

-- the locked nodes kept their choices, and the places of all choices make this number
pub record IsNumbered (old new : BlockState) (number : ℕ) : Type 0 where
  pub rest : KeepsRest old new
  pub kept : (j : ℕ) → j < length old.tree → lock_at old.locks j ≡ true → choice old.tree new.rotation j ≡ choice old.tree old.rotation j
  pub is : number_to (length old.tree) (radix_at old.tree (lock_at old.locks)) (digit_at old.tree (lock_at old.locks) new.rotation) ≡ number

-- the move leads from a block to a state of it in which the choice of node k is the one at place d, and the others stayed
pub record LeadsToDigit (s : BlockState) (move : Move) (k d : ℕ) : Type 0 where
  pub state : BlockState
  pub right : IsBlockState state
  pub leads : MoveLeads s.graph s.tree move s.rotation state.rotation
  pub is_moved : IsMoved s state k d

-- the move of node k does so from each state in which node k has its present choice
pub record IsMoveTo (s : BlockState) (k d : ℕ) (move : Move) : Type 0 where
  pub node : moved_node move ≡ k
  pub from : (t : BlockState) → IsBlockState t → KeepsRest s t → choice s.tree t.rotation k ≡ choice s.tree s.rotation k → LeadsToDigit t move k d

-- moves of different nodes below `to` lead to a state in which the nodes of a range are reset, and all else is as in a block `mid`, which
-- from that range on has the present choices
pub record AreResetBy (old mid : BlockState) (from to : ℕ) (moves : List Move) : Type 0 where
  pub rest : KeepsRest old mid
  pub same : (j : ℕ) → from ≤ j → j < length old.tree → choice old.tree mid.rotation j ≡ choice old.tree old.rotation j
  pub state : BlockState
  pub right : IsBlockState state
  pub lead : Lead old.graph old.tree (IsPlaneSystem old.graph) moves old.rotation state.rotation
  pub reset : AreReset mid state from to
  pub apart : is_distinct (map moved_node moves) ≡ true
  pub below : (j : ℕ) → is_member j (map moved_node moves) ≡ true → j < to
