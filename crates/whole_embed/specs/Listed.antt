-- What is proved of the list of a component, as statements.
use Rattle.std.specs.Prelude.{◌≡◌, ℕ, List, map}
use Rattle.skeletons.specs.Lists.{IsRank}
use Rattle.whole_embed.specs.Component.{Component, BlockInPlane, IsComponentInPlane}
use Rattle.whole_embed.specs.Around.{outer_at}
use Rattle.whole_embed.specs.Whole.{AreArranged, whole_system, block_part, IsWholeMember, IsWholeList}

-- a component whose blocks are in the plane has a list
abbrev pub WholeListExists : Type 0
WholeListExists = (k : Component) (block : ℕ → BlockInPlane) → IsComponentInPlane k block → (l : List (List (List ℕ))) × IsWholeList k block l

-- there is only one
abbrev pub WholeListIsUnique : Type 0
WholeListIsUnique = (k : Component) (block : ℕ → BlockInPlane) (l m : List (List (List ℕ))) → IsWholeList k block l → IsWholeList k block m → l ≡ m

-- the rotation system of a component with arrangements at its cut vertices is in it
abbrev pub WholeHasRank : Type 0
WholeHasRank = (k : Component) (block : ℕ → BlockInPlane) (lists : List (List ℕ)) (l : List (List (List ℕ))) → IsComponentInPlane k block → AreArranged k block lists → IsWholeList k block l
    → (i : ℕ) × IsRank l (whole_system k block lists) i

-- the blocks with the parts of a rotation system of the component in the place of their own
abbrev pub with_parts : Component → (ℕ → BlockInPlane) → List (List ℕ) → ℕ → BlockInPlane
with_parts k block q b = record { part = (block b).part; nodes = (block b).nodes; rotation = block_part k (block b).part q; locks = (block b).locks }

-- each member of the list is the rotation system that its parts in the blocks and its orders around the cut vertices make: these are
-- arrangements for its parts
abbrev pub MemberIsOfParts : Type 0
MemberIsOfParts = (k : Component) (block : ℕ → BlockInPlane) (q : List (List ℕ)) → IsComponentInPlane k block → IsWholeMember k block q
    → IsComponentInPlane k (with_parts k block q) × AreArranged k (with_parts k block q) (map (outer_at k.part q) k.cuts) × (whole_system k (with_parts k block q) (map (outer_at k.part q) k.cuts) ≡ q)
