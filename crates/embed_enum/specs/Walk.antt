-- The list that a block with locks is in, and a walk through it.
use Rattle.std.specs.Prelude.{◌≡◌, ℕ, zero, suc, ◌+◌, ◌≤◌, ◌^◌, true, List, length, map, ⊤}
use Rattle.permutations.specs.Members.{is_distinct}
use Rattle.faces.specs.Euler.{IsPlaneSystem}
use Rattle.skeletons.specs.Lists.{IsKeptList, IsRank}
use Rattle.skeletons.specs.Moves.{Move, moved_node, Lead}
use Rattle.skel_embed.specs.Block.{BlockState, lock_at}
use Rattle.embed_enum.specs.declared.reaching.GotoFault.{GotoFault}
use Rattle.embed_enum.specs.declared.reaching.GotoFault.TheVariants.{CountOver, RankOut, Memory}

-- the list of the plane rotation systems that have the present choices at the locked nodes
abbrev pub IsMemberList : BlockState → List (List (List ℕ)) → Type 0
IsMemberList s l = IsKeptList s.graph s.tree (lock_at s.locks) s.rotation l

-- graph, tree and locks stay
pub record KeepsRest (old new : BlockState) : Type 0 where
  pub graph : new.graph ≡ old.graph
  pub tree : new.tree ≡ old.tree
  pub locks : new.locks ≡ old.locks

-- from one block to the other the rotation system alone changed, to the next of each list that it is in
pub record IsNextOf (old new : BlockState) : Type 0 where
  pub rest : KeepsRest old new
  pub next : (l : List (List (List ℕ))) (i : ℕ) → IsMemberList old l → IsRank l old.rotation i → IsRank l new.rotation (i + 1)

-- n times so
abbrev pub AreNexts : ℕ → BlockState → BlockState → Type 0
AreNexts zero old new = old ≡ new
AreNexts (suc n) old new = (s : BlockState) × IsNextOf old s × AreNexts n s new

-- this rotation system has rank i in each list that the block is in
abbrev pub IsAtRank : BlockState → ℕ → List (List ℕ) → Type 0
IsAtRank s i q = (l : List (List (List ℕ))) → IsMemberList s l → IsRank l q i

-- it is the next of the present one in each such list
abbrev pub IsAfter : BlockState → List (List ℕ) → Type 0
IsAfter s q = (l : List (List (List ℕ))) (i : ℕ) → IsMemberList s l → IsRank l s.rotation i → IsRank l q (i + 1)

-- the present one is the last of each such list
abbrev pub IsAtLast : BlockState → Type 0
IsAtLast s = (l : List (List (List ℕ))) (i : ℕ) → IsMemberList s l → IsRank l s.rotation i → i + 1 ≡ length l

-- the moves, of nodes that are all different, lead through plane rotation systems to one that meets the condition
pub record AreMovesTo (s : BlockState) (Condition : List (List ℕ) → Type 0) (moves : List Move) : Type 0 where
  pub end : List (List ℕ)
  pub lead : Lead s.graph s.tree (IsPlaneSystem s.graph) moves s.rotation end
  pub meets : Condition end
  pub apart : is_distinct (map moved_node moves) ≡ true

-- a rank is refused: the list has 2^128 members or more; or n members, and the rank is n at least; or memory ran out
abbrev pub IsGotoRefusal : List (List (List ℕ)) → ℕ → GotoFault → Type 0
IsGotoRefusal l rank CountOver = 2 ^ 128 ≤ length l
IsGotoRefusal l rank (RankOut n) = (n ≡ length l) × (n ≤ rank)
IsGotoRefusal l rank Memory = ⊤
