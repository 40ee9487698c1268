-- Blocks of a component led to their parts of a plane rotation system of it.
use Rattle.std.proofs.Common.{◌≡◌, ℕ, ◌+◌, ◌<◌, inl, inr, true, List, length, slice_index, slice_set, Option, refl, sym, ap, ap₂, ◌∙◌, subst, arith}
use Rattle.std.proofs.Math.Path.{fun_ext}
use Rattle.std.proofs.lemmas.Bool.{cases_Bool, cases_eq, both_ways, cond-true, cond-false}
use Rattle.std.proofs.lemmas.List.{length-set}
use Rattle.permutations.specs.Members.{is_member, place_of}
use Rattle.permutations.proofs.Arrangements.{member-at}
use Rattle.permutations.proofs.Places.{place-below, place-holds}
use Rattle.multigraph.specs.Part.{GraphPart, Rises}
use Rattle.multigraph.proofs.Places.{rises-once}
use Rattle.faces.specs.Euler.{IsPlaneSystem}
use Rattle.skel_embed.specs.Block.{BlockState}
use Rattle.whole_embed.specs.declared.members.Member.{Member}
use Rattle.whole_embed.specs.Component.{Component, IsComponentInPlane}
use Rattle.whole_embed.specs.Cuts.{in_plane, member_at, blocks_in, HavePlanes}
use Rattle.whole_embed.specs.Whole.{block_part, IsWholeMember}
use Rattle.whole_embed.proofs.Advance.{set-here, set-there}
use Rattle.whole_embed.proofs.FrameFacts.{one-value, plane-part}
use Rattle.whole_embed.proofs.Moved.{IsMovedBlock, AreMoved, component-moved}
use Rattle.whole_convert.specs.Between.{blocks_to}
use Rattle.whole_convert.specs.Target.{KeepsLocked}
use Rattle.whole_convert.specs.Led.{IsLedTo, AreLedBelow}
use Rattle.whole_convert.proofs.PartOf.{IsPartOf, parts-plane}
use Rattle.whole_convert.proofs.Stages.{with-rotation}
use Rattle.whole_convert.proofs.Takes.{led-kept}

-- one block more
pub led-more : (k : Component) (all new : List Member) (q : List (List ℕ)) (j : ℕ) (m : Member) → Rises k.blocks → j < length k.blocks → slice_index k.blocks j < length all
    → AreLedBelow k all q new j → IsLedTo (member_at all (slice_index k.blocks j)) (block_part k (member_at all (slice_index k.blocks j)).part q) m → AreLedBelow k all q (slice_set new (slice_index k.blocks j) m) (j + 1)
led-more k all new q j m rise high within h led = record {
  count = length-set new (slice_index k.blocks j) m ∙ h.count;
  led = λ i l. elim (cases_eq i j) [
    | inl e ↦ subst (λ z. IsLedTo (member_at all (slice_index k.blocks z)) (block_part k (member_at all (slice_index k.blocks z)).part q) (member_at (slice_set new (slice_index k.blocks j) m) (slice_index k.blocks z))) (sym e) here
    | inr n ↦ subst (IsLedTo (member_at all (slice_index k.blocks i)) (block_part k (member_at all (slice_index k.blocks i)).part q))
        (sym (set-there new (slice_index k.blocks j) (slice_index k.blocks i) m (λ e. n (rises-once k.blocks rise i j (omega (arith, l, high)) high e)))) (h.led i (omega (arith, l, n)))
  ];
  others = λ b n. set-there new (slice_index k.blocks j) b m (λ e. n j (omega arith) (sym e)) ∙ h.others b (λ i l. n i (omega (arith, l)));
}
  where
    here : IsLedTo (member_at all (slice_index k.blocks j)) (block_part k (member_at all (slice_index k.blocks j)).part q) (member_at (slice_set new (slice_index k.blocks j) m) (slice_index k.blocks j))
    here = subst (IsLedTo (member_at all (slice_index k.blocks j)) (block_part k (member_at all (slice_index k.blocks j)).part q)) (sym (set-here new (slice_index k.blocks j) m (omega (arith, within, h.count)))) led

-- a block that is led has the rotation system
led-block : (old new : Member) (r : List (List ℕ)) → IsLedTo old r new → in_plane new.part new.plane ≡ with-rotation (in_plane old.part old.plane) r
led-block old new r w =
    ap₂ in_plane w.part w.new_is
    ∙ ((λ i. record { part = old.part; nodes = w.rest.tree i; rotation = w.rotation i; locks = w.rest.locks i })
    ∙ ap (λ (o : Option BlockState). with-rotation (in_plane old.part o) r) (sym w.old_is))

module _ (k : Component) (all new : List Member) (q : List (List ℕ)) (is : IsComponentInPlane k (blocks_in all)) (have : HavePlanes k all) (plane : IsPlaneSystem k.part.graph q) (h : AreLedBelow k all q new (length k.blocks)) where
  led-at : (b : ℕ) → is_member b k.blocks ≡ true → IsLedTo (member_at all b) (block_part k (member_at all b).part q) (member_at new b)
  led-at b m = subst (λ z. IsLedTo (member_at all z) (block_part k (member_at all z).part q) (member_at new z)) (place-holds k.blocks b m) (h.led (place_of k.blocks b) (place-below k.blocks b m))

  same-part : (b : ℕ) → block_part k (member_at all b).part q ≡ block_part k (blocks_in all b).part q
  same-part b = ap (λ (z : GraphPart). block_part k z q) (sym (plane-part (member_at all b).part (member_at all b).plane))

  -- the blocks are those with their parts
  pub led-blocks : blocks_in new ≡ blocks_to k (blocks_in all) q
  led-blocks = fun_ext (λ b. elim (cases_Bool (is_member b k.blocks)) [
    | inl m ↦
        led-block (member_at all b) (member_at new b) (block_part k (member_at all b).part q) (led-at b m)
        ∙ (ap (with-rotation (blocks_in all b)) (same-part b)
        ∙ sym (cond-true (is_member b k.blocks) (with-rotation (blocks_in all b) (block_part k (blocks_in all b).part q)) (blocks_in all b) m))
    | inr n ↦
        ap (λ (m : Member). in_plane m.part m.plane) (h.others b (λ j l e. both_ways (is_member b k.blocks) n (subst (λ z. is_member z k.blocks ≡ true) e (member-at k.blocks j 0 l))))
        ∙ sym (cond-false (is_member b k.blocks) (with-rotation (blocks_in all b) (block_part k (blocks_in all b).part q)) (blocks_in all b) n)
  ])

  pub all-kept : (b : ℕ) → is_member b k.blocks ≡ true → KeepsLocked (blocks_in all b) (block_part k (blocks_in all b).part q)
  all-kept b m = subst (KeepsLocked (blocks_in all b)) (same-part b) (led-kept (member_at all b) (member_at new b) (block_part k (member_at all b).part q) (led-at b m))

  part-at : (b : ℕ) → is_member b k.blocks ≡ true → IsPartOf k (blocks_in all) q b
  part-at b m = parts-plane k (blocks_in all) is q plane b m

  -- the rotation system keeps the locks of all blocks
  pub led-member : IsWholeMember k (blocks_in all) q
  led-member = record { plane = plane; kept = λ b m. record { plane = (part-at b m).plane; keeps = all-kept b m } }

  -- the component with these blocks is in the plane
  pub led-component : IsComponentInPlane k (blocks_in new)
  led-component = component-moved k (blocks_in all) (blocks_in new) moved is
    where
      moved : AreMoved k (blocks_in all) (blocks_in new)
      moved b m = subst (IsMovedBlock (blocks_in all b)) (sym (led-block (member_at all b) (member_at new b) (block_part k (member_at all b).part q) (led-at b m) ∙ ap (with-rotation (blocks_in all b)) (same-part b)))
          (record { part = refl; nodes = refl; locks = refl; plane = (part-at b m).plane; keeps = all-kept b m })

  pub led-planes : HavePlanes k new
  led-planes = record {
    within = λ b m. let l = have.within b m in omega (arith, l, h.count);
    plane = λ b m.
        let w = led-at b m in
        let p = have.plane b m in
        let one : w.before ≡ p.0 = one-value (member_at all b).plane w.before p.0 w.old_is p.1 in
        (w.after, w.new_is, w.rest.graph ∙ (ap (λ (z : BlockState). z.graph) one ∙ (p.2 ∙ ap (λ (z : GraphPart). z.graph) (sym w.part))));
  }
