-- A component with its blocks and its lists, as calls have it.
use Rattle.std.proofs.Common.{◌≡◌, ℕ, List, sym, ap, ◌∙◌, subst}
use Rattle.whole_embed.specs.declared.members.Member.{Member}
use Rattle.whole_embed.specs.Component.{IsComponentInPlane}
use Rattle.whole_embed.specs.Cuts.{CutState, blocks_in, HavePlanes}
use Rattle.whole_embed.specs.Whole.{AreArranged}
use Rattle.spqr_session.specs.Setting.{Setting}
use Rattle.spqr_session.specs.Kept.{Kept, family_of}
use Rattle.spqr_session.specs.Wholes.{IsPresentComponent}
use Rattle.spqr_session.proofs.WholesWalked.{IsPresent}

pub present-of : (setting : Setting) (kept : Kept) (c : ℕ) (cuts : CutState) (all borrowed : List Member) → IsPresentComponent setting kept c cuts all → borrowed ≡ all → IsPresent setting c (family_of setting kept) cuts borrowed
present-of setting kept c cuts all borrowed p e = record {
  component = p.blocks.component;
  blocks = ap blocks_in e ∙ p.blocks.blocks;
  present = p.present;
  together = record {
    in_plane = subst (λ (z : List Member). IsComponentInPlane cuts.component (blocks_in z)) (sym e) p.blocks.in_plane;
    planes = subst (HavePlanes cuts.component) (sym e) p.blocks.planes;
    arranged = subst (λ (z : List Member). AreArranged cuts.component (blocks_in z) cuts.lists) (sym e) p.arranged;
  };
}
