-- Blocks led along their lists, as blocks in the plane.
use Rattle.std.proofs.Common.{◌≡◌, ℕ, ◌+◌, ◌⊎◌, List, Option, Some, refl, sym, ◌∙◌, subst}
use Rattle.multigraph.specs.Graph.{Multigraph}
use Rattle.multigraph.specs.Part.{GraphPart}
use Rattle.faces.specs.Euler.{IsPlaneSystem}
use Rattle.skeletons.specs.Choices.{Precedes}
use Rattle.skeletons.specs.Lists.{IsKept}
use Rattle.skel_embed.specs.Block.{BlockState, lock_at, IsBlockState}
use Rattle.embed_enum.specs.Walk.{KeepsRest, IsNextOf}
use Rattle.whole_embed.specs.declared.members.Member.{Member}
use Rattle.whole_embed.specs.Component.{BlockInPlane}
use Rattle.whole_embed.specs.Cuts.{in_plane}
use Rattle.whole_embed.specs.Advanced.{IsFirstOf, IsLastState, IsLed, IsLastMember}
use Rattle.whole_embed.proofs.Moved.{IsMovedBlock}
use Rattle.whole_embed.proofs.BlockSteps.{state-list, rank-kept, place-follows, place-first, place-last, present-place}

-- in the list of the block
abbrev pub IsKeptBlock : BlockInPlane → List (List ℕ) → Type 0
IsKeptBlock a s = IsKept a.part.graph a.nodes (lock_at a.locks) a.rotation s

-- b is the block a at the next of its list
pub record IsNextBlock (a b : BlockInPlane) : Type 0 where
  pub moved : IsMovedBlock a b
  pub after : Precedes a.nodes a.rotation b.rotation
  pub between : (s : List (List ℕ)) → IsKeptBlock a s → Precedes a.nodes a.rotation s → (b.rotation ≡ s) ⊎ Precedes a.nodes b.rotation s

-- b is the block a at the first of its list
pub record IsFirstBlock (a b : BlockInPlane) : Type 0 where
  pub moved : IsMovedBlock a b
  pub first : (s : List (List ℕ)) → IsKeptBlock a s → (b.rotation ≡ s) ⊎ Precedes a.nodes b.rotation s

-- the block is at the last of its list
abbrev pub IsLastBlock : BlockInPlane → Type 0
IsLastBlock a = (s : List (List ℕ)) → IsKeptBlock a s → Precedes a.nodes a.rotation s → ⊥

-- the block of a state
abbrev as_block : GraphPart → BlockState → BlockInPlane
as_block part p = record { part = part; nodes = p.tree; rotation = p.rotation; locks = p.locks }

-- a member of the list of the state is one of the list of the block
to-state : (part : GraphPart) (p : BlockState) → p.graph ≡ part.graph → (s : List (List ℕ)) → IsKeptBlock (as_block part p) s → IsKept p.graph p.tree (lock_at p.locks) p.rotation s
to-state part p e s h = subst (λ (z : Multigraph). IsKept z p.tree (lock_at p.locks) p.rotation s) (sym e) h

-- a state that moved in the list
moved-state : (part : GraphPart) (p q : BlockState) → p.graph ≡ part.graph → IsBlockState q → KeepsRest p q → IsKept p.graph p.tree (lock_at p.locks) p.rotation q.rotation → IsMovedBlock (as_block part p) (as_block part q)
moved-state part p q e h rest kept = record {
  part = refl;
  nodes = rest.tree;
  locks = rest.locks;
  plane = subst (λ (z : Multigraph). IsPlaneSystem z q.rotation) (rest.graph ∙ e) h.plane;
  keeps = kept.keeps;
}

next-state : (part : GraphPart) (p q : BlockState) → p.graph ≡ part.graph → IsBlockState p → IsBlockState q → IsNextOf p q → IsNextBlock (as_block part p) (as_block part q)
next-state part p q e hp hq step =
    let w = state-list p hp in
    let i = present-place p hp w.0 w.1 in
    let r = step.next w.0 i.0 w.1 i.1 in
    let f = place-follows p hp p.rotation q.rotation w.0 i.0 w.1 i.1 r in
    record {
      moved = moved-state part p q e hq step.rest (rank-kept p hp w.0 q.rotation (i.0 + 1) w.1 r);
      after = f.0;
      between = λ s k l. f.1 s (to-state part p e s k) l;
    }

first-state : (part : GraphPart) (p q : BlockState) → p.graph ≡ part.graph → IsBlockState p → IsBlockState q → IsFirstOf p q → IsFirstBlock (as_block part p) (as_block part q)
first-state part p q e hp hq step =
    let w = state-list p hp in
    let r = step.first w.0 w.1 in
    record {
      moved = moved-state part p q e hq step.rest (rank-kept p hp w.0 q.rotation 0 w.1 r);
      first = λ s k. place-first p hp q.rotation w.0 w.1 r s (to-state part p e s k);
    }

last-state : (part : GraphPart) (p : BlockState) → p.graph ≡ part.graph → IsBlockState p → IsLastState p → IsLastBlock (as_block part p)
last-state part p e hp last s k l =
    let w = state-list p hp in
    let i = present-place p hp w.0 w.1 in
    place-last p hp p.rotation w.0 i.0 w.1 i.1 (last w.0 i.0 w.1 i.1) s (to-state part p e s k) l

-- where the block in the plane has the graph of the part
abbrev pub FitsPart : Member → Type 0
FitsPart m = (p : BlockState) → m.plane ≡ Some p → p.graph ≡ m.part.graph

module _ (m n : Member) (fits : FitsPart m) where
  as-led : (Step : BlockState → BlockState → Type 0) (R : BlockInPlane → BlockInPlane → Type 0) (w : IsLed Step m n) → R (as_block m.part w.before) (as_block m.part w.after) → R (in_plane m.part m.plane) (in_plane n.part n.plane)
  as-led Step R w r =
      subst (λ (z : GraphPart). R (in_plane m.part m.plane) (in_plane z n.plane)) (sym w.part)
      (subst (λ (z : Option BlockState). R (in_plane m.part z) (in_plane m.part n.plane)) (sym w.old_is)
      (subst (λ (z : Option BlockState). R (in_plane m.part (Some w.before)) (in_plane m.part z)) (sym w.new_is) r))

  pub led-next : IsLed IsNextOf m n → IsNextBlock (in_plane m.part m.plane) (in_plane n.part n.plane)
  led-next w = as-led IsNextOf IsNextBlock w (next-state m.part w.before w.after (fits w.before w.old_is) w.old_state w.new_state w.step)

  pub led-first : IsLed IsFirstOf m n → IsFirstBlock (in_plane m.part m.plane) (in_plane n.part n.plane)
  led-first w = as-led IsFirstOf IsFirstBlock w (first-state m.part w.before w.after (fits w.before w.old_is) w.old_state w.new_state w.step)

pub last-block : (m : Member) → FitsPart m → IsLastMember m → IsLastBlock (in_plane m.part m.plane)
last-block m fits w = subst (λ (z : Option BlockState). IsLastBlock (in_plane m.part z)) (sym w.is) (last-state m.part w.state (fits w.state w.is) w.is_state w.last)
