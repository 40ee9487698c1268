-- The move that leads back: the rotation system that it leads to has the old choices, and choices tell.
use Rattle.std.proofs.Common.{◌≡◌, ◌≢◌, ℕ, ◌<◌, List, length, sym, ap, ◌∙◌, subst, IsPermutation}
use Rattle.permutations.specs.Cyclic.{from_least}
use Rattle.skeletons.specs.Items.{node_keys}
use Rattle.faces.specs.Euler.{IsPlaneSystem}
use Rattle.skeletons.specs.Choices.{choice}
use Rattle.skeletons.specs.Moves.{permute}
use Rattle.skeletons.proofs.Moved.{move-others}
use Rattle.skeleton_runs.proofs.Contiguous.{plane-contiguous}
use Rattle.skeleton_choices.proofs.Plane.{move-plane}
use Rattle.skeleton_choices.proofs.Listed.{choice-normal}
use Rattle.skel_embed.specs.Block.{BlockState, IsBlockState}
use Rattle.embed_moves.specs.Made.{LeadsBack}
use Rattle.embed_moves.proofs.Told.{permute-told}
use Rattle.embed_moves.proofs.Arranging.{choice-arranged}

-- a permute to the old choice leads back
pub permute-back : (s : BlockState) → IsBlockState s → (k : ℕ) (keys old : List ℕ) → old ≡ choice s.tree s.rotation k → LeadsBack s (permute k keys) (permute k old)
permute-back s is k keys old e q m = (m.0, permute-told s.graph s.tree is.block q s.rotation plane is.plane k m.0 old (subst (IsPermutation (node_keys s.tree k)) (sym e) (choice-arranged s is k m.0)) others own)
  where
    plane : IsPlaneSystem s.graph q
    plane = move-plane s.graph s.tree (permute k keys) s.rotation q is.block is.plane m

    others : (j : ℕ) → j < length s.tree → j ≢ k → choice s.tree s.rotation j ≡ choice s.tree q j
    others j l n = sym (move-others s.graph s.tree (permute k keys) s.rotation q is.block is.plane.system (plane-contiguous s.graph s.tree s.rotation is.block is.plane) m j l n)

    own : choice s.tree s.rotation k ≡ from_least old
    own = sym (choice-normal s.graph s.tree is.block s.rotation k is.plane m.0.0).1 ∙ ap from_least (sym e)
