-- Rotation systems of the skeletons of a block by the choices that they give its nodes.
use Rattle.std.specs.Prelude.{◌≡◌, ℕ, ◌<◌, List, [], length, slice_index_or}
use Rattle.pair_split.specs.Tutte.{Node}
use Rattle.faces.specs.Euler.{IsPlaneSystem}
use Rattle.skeletons.specs.Families.{skeleton_graph, system_at}
use Rattle.skel_compose.specs.Followers.{IsRow}
use Rattle.skel_embed.specs.First.{choice_in}
use Rattle.skel_embed.specs.Members.{AreRows}

-- a plane rotation system of the skeleton of node k that gives it this choice
pub record HasChoice (nodes : List Node) (k : ℕ) (keys : List ℕ) (s : List (List ℕ)) : Type 0 where
  pub plane : IsPlaneSystem (skeleton_graph nodes k) s
  pub chosen : choice_in nodes k s ≡ keys

-- the list is that of what follows each item in such a one
pub record HasChoiceIn (nodes : List Node) (k : ℕ) (keys row : List ℕ) : Type 0 where
  pub system : List (List ℕ)
  pub choice : HasChoice nodes k keys system
  pub row_is : IsRow nodes k system row

-- for each node there is one that gives it the choice in the list
abbrev pub ArePossible : List Node → List (List ℕ) → Type 0
ArePossible nodes lists = (k : ℕ) → k < length nodes → (s : List (List ℕ)) × HasChoice nodes k (slice_index_or lists k []) s

-- the members give the first n nodes the choices in the list
pub record GiveChoices (nodes : List Node) (lists : List (List ℕ)) (n : ℕ) (family : List (List (List ℕ))) : Type 0 where
  pub each : length family ≡ n
  pub chosen : (k : ℕ) → k < n → HasChoice nodes k (slice_index_or lists k []) (system_at family k)

-- so do members that have these lists of what follows each item
pub record HaveChoices (nodes : List Node) (lists : List (List ℕ)) (n : ℕ) (table : List (List ℕ)) : Type 0 where
  pub family : List (List (List ℕ))
  pub choices : GiveChoices nodes lists n family
  pub rows : AreRows nodes n family table
