-- What taking lists makes of a block, where they are a plane rotation system of it; and why it may be refused.
use Rattle.std.proofs.Common.{◌≡◌, ◌≢◌, ℕ, ◌<◌, inl, inr, true, List, length, slice_index, Some, Option, sym, ap, subst, arith}
use Rattle.permutations.specs.Members.{is_member, place_of}
use Rattle.permutations.proofs.Arrangements.{member-at}
use Rattle.permutations.proofs.Places.{place-holds}
use Rattle.multigraph.specs.Graph.{Multigraph}
use Rattle.multigraph.specs.Part.{GraphPart, IsNumbered, Rises}
use Rattle.rotations.specs.PartLists.{IsFirstBadInPart}
use Rattle.faces.specs.Euler.{face_count, component_count, IsPlaneSystem}
use Rattle.skeletons.specs.Choices.{choice}
use Rattle.skeletons.specs.Lists.{KeepsChoices}
use Rattle.skel_embed.specs.Block.{BlockState, lock_at, IsBlockState}
use Rattle.skel_embed.specs.Taken.{IsGiven, IsNotPlane, IsLockedOut}
use Rattle.skel_embed.proofs.Spheres.{one-component}
use Rattle.whole_embed.specs.declared.members.Member.{Member}
use Rattle.whole_embed.specs.Component.{Component}
use Rattle.whole_embed.specs.Cuts.{in_plane, member_at, blocks_in}
use Rattle.whole_embed.specs.Whole.{block_part}
use Rattle.whole_embed.proofs.FrameFacts.{plane-part}
use Rattle.whole_embed.proofs.Steps.{place-less}
use Rattle.whole_convert.specs.Target.{IsLeastLocked, KeepsLocked}
use Rattle.whole_convert.specs.Led.{IsTaken, IsTakenRefusal, IsLedTo, IsLeadRefusal, IsLeadAllRefusal, AreLedBelow}
use Rattle.whole_convert.specs.declared.faults.WholeFault.{WholeFault}
use Rattle.whole_convert.specs.declared.faults.WholeFault.TheVariants.{BadRotation, NotGenusZero, Locked, Memory}
use Rattle.whole_convert.proofs.Connected.{plane-two}
use Rattle.whole_convert.proofs.PartOf.{given-one}

-- lists that give a rotation system are not bad at any number
pub no-bad : (part : GraphPart) (entries : List (ℕ × List ℕ)) (r : List (List ℕ)) (v : ℕ) → IsGiven part entries r → IsFirstBadInPart part entries v → ⊥
no-bad part entries r v given h = elim h.bad [
  | inl w ↦ w.3 (given.arranged.arranged w.0 w.1)
  | inr w ↦ w.0 (given.arranged.vertices v w.1)
]

-- and where it is plane, so is each one that they give
pub no-genus : (part : GraphPart) (entries : List (ℕ × List ℕ)) (r : List (List ℕ)) (v e f : ℕ) → IsNumbered part → component_count part.graph ≡ 1 → IsGiven part entries r → IsPlaneSystem part.graph r → IsNotPlane part entries v e f → ⊥
no-genus part entries r v e f numbered one given plane n =
    let faces : face_count part.graph n.system ≡ face_count part.graph r = ap (face_count part.graph) (given-one part entries numbered n.system r n.given given) in
    n.differs (omega (arith, n.vertices, n.edges, n.faces, faces, plane-two part.graph r one plane.plane))

-- a block is connected
pub block-connected : (s : BlockState) (g : Multigraph) → IsBlockState s → g ≡ s.graph → component_count g ≡ 1
block-connected s g h e = subst (λ (z : Multigraph). component_count z ≡ 1) (sym e) (one-component s.graph h.block.graph h.block.block)

-- a block that has taken the lists is led to the rotation system that they give
pub taken-led : (old new : Member) (before after : BlockState) (entries : List (ℕ × List ℕ)) (r : List (List ℕ)) → old.plane ≡ Some before → new.plane ≡ Some after → new.part ≡ old.part → IsNumbered old.part
    → IsGiven old.part entries r → IsTaken old.part entries before after → IsLedTo old r new
taken-led old new before after entries r p q e numbered given t =
    let same : after.rotation ≡ r = given-one old.part entries numbered after.rotation r t.given given in
    record { part = e; before = before; after = after; old_is = p; new_is = q; rest = t.rest; rotation = same; keeps = subst (KeepsChoices before.tree (lock_at before.locks) before.rotation) same t.keeps }

-- a refusal to take them is one to lead the block there
pub taken-refusal : (old : Member) (before : BlockState) (b : ℕ) (entries : List (ℕ × List ℕ)) (r : List (List ℕ)) (fault : WholeFault) → old.plane ≡ Some before → IsNumbered old.part → IsGiven old.part entries r
    → IsTakenRefusal b old.part entries before fault → IsLeadRefusal b (in_plane old.part old.plane) r fault
taken-refusal old before b entries r (BadRotation v) p numbered given h = absurd h
taken-refusal old before b entries r (NotGenusZero v e f) p numbered given h = absurd h
taken-refusal old before b entries r (Locked c j) p numbered given h = (h.0, subst (λ (o : Option BlockState). IsLeastLocked (in_plane old.part o) r j) (sym p) least)
  where
    out : IsLockedOut before old.part entries j
    out = h.1

    same : (out : IsLockedOut before old.part entries j) → out.system ≡ r
    same w = given-one old.part entries numbered w.system r w.given given

    least : IsLeastLocked (in_plane old.part (Some before)) r j
    least = record {
      within = out.least.within;
      locked = out.least.locked;
      other = subst (λ (z : List (List ℕ)). choice before.tree z j ≢ choice before.tree before.rotation j) (same out) out.least.other;
      none_before = λ i l on. subst (λ (z : List (List ℕ)). choice before.tree z i ≡ choice before.tree before.rotation i) (same out) (out.least.none_before i l on);
    }
taken-refusal old before b entries r Memory p numbered given h = tt

-- a block that is led keeps the choices of its locked nodes
pub led-kept : (old new : Member) (r : List (List ℕ)) → IsLedTo old r new → KeepsLocked (in_plane old.part old.plane) r
led-kept old new r w = subst (λ (o : Option BlockState). KeepsLocked (in_plane old.part o) r) (sym w.old_is) w.keeps

-- the refusal of the first block that refuses is one of all
pub lead-refusal : (k : Component) (all new : List Member) (q : List (List ℕ)) (j : ℕ) (fault : WholeFault) → Rises k.blocks → j < length k.blocks → AreLedBelow k all q new j
    → IsLeadRefusal (slice_index k.blocks j) (blocks_in all (slice_index k.blocks j)) (block_part k (member_at all (slice_index k.blocks j)).part q) fault → IsLeadAllRefusal k (blocks_in all) q fault
lead-refusal k all new q j (BadRotation v) rise l h f = absurd f
lead-refusal k all new q j (NotGenusZero v e x) rise l h f = absurd f
lead-refusal k all new q j (Locked c i) rise l h f = record {
  among = subst (λ z. is_member z k.blocks ≡ true) (sym f.0) (member-at k.blocks j 0 l);
  node = subst (λ z. IsLeastLocked (blocks_in all z) (block_part k (blocks_in all z).part q) i) (sym f.0) (subst (λ (z : List (List ℕ)). IsLeastLocked (blocks_in all b) z i) (part b) f.1);
  none_before = λ d less m.
      let p : place_of k.blocks d < j = place-less k.blocks d j rise m l (subst (λ z. d < z) f.0 less) in
      let w : IsLedTo (member_at all d) (block_part k (member_at all d).part q) (member_at new d) =
      subst (λ z. IsLedTo (member_at all z) (block_part k (member_at all z).part q) (member_at new z)) (place-holds k.blocks d m) (h.led (place_of k.blocks d) p) in
      subst (KeepsLocked (blocks_in all d)) (part d) (led-kept (member_at all d) (member_at new d) (block_part k (member_at all d).part q) w);
}
  where
    b : ℕ
    b = slice_index k.blocks j

    part : (d : ℕ) → block_part k (member_at all d).part q ≡ block_part k (blocks_in all d).part q
    part d = ap (λ (z : GraphPart). block_part k z q) (sym (plane-part (member_at all d).part (member_at all d).plane))
lead-refusal k all new q j Memory rise l h f = tt
