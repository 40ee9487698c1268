-- What is proved of components, their plane rotation systems and the moves between these, as statements.
use Rattle.std.specs.Prelude.{◌≡◌, ℕ, true, List}
use Rattle.permutations.specs.Members.{is_member}
use Rattle.faces.specs.Euler.{component_count, IsPlaneSystem}
use Rattle.whole_embed.specs.Component.{Component, BlockInPlane, IsComponentInPlane}
use Rattle.whole_embed.specs.Whole.{AreArranged, block_part, IsWholeMember}
use Rattle.whole_convert.specs.Between.{whole_moves_between}
use Rattle.whole_convert.specs.Leading.{LeadTo}

-- a component is connected, so a rotation system of it is plane exactly where V - E + F is 2
abbrev pub ComponentIsConnected : Type 0
ComponentIsConnected = (k : Component) (block : ℕ → BlockInPlane) → IsComponentInPlane k block → component_count k.part.graph ≡ 1

-- a plane rotation system of a component leaves a plane one on each block
abbrev pub PartsArePlane : Type 0
PartsArePlane = (k : Component) (block : ℕ → BlockInPlane) (q : List (List ℕ)) (b : ℕ) → IsComponentInPlane k block → IsPlaneSystem k.part.graph q → is_member b k.blocks ≡ true → IsPlaneSystem (block b).part.graph (block_part k (block b).part q)

-- the moves to a plane rotation system that keeps the choices of the locked nodes lead there, through plane ones alone
abbrev pub WholeMovesLead : Type 0
WholeMovesLead = (k : Component) (block : ℕ → BlockInPlane) (lists q : List (List ℕ)) → IsComponentInPlane k block → AreArranged k block lists → IsWholeMember k block q → LeadTo k block lists (whole_moves_between k block lists q) q
