-- The look-up of a block in the plane.
use Rattle.std.specs.Prelude.{◌≡◌, ℕ, ◌<◌, ◌≤◌, ◌⊎◌, List, length, None}
use Rattle.multigraph.specs.Part.{GraphPart}
use Rattle.skel_embed.specs.Block.{BlockState}
use Rattle.skel_embed.specs.declared.planes.Outcome.TheVariants.{Plane}
use Rattle.spqr_session.specs.Embedded.{BlockView, block_view, view_at, IsEmbedded}
use Rattle.spqr_session.specs.declared.code.Code.{Code}
use Rattle.spqr_session.specs.declared.code.Code.TheVariants.{NoBlock, NonPlanar}

-- block b is in the plane: it is this part, and it is so in the plane
pub record IsPlaneAt (views : List BlockView) (b : ℕ) (part : GraphPart) (p : BlockState) : Type 0 where
  pub there : b < length views
  pub view : view_at views b ≡ block_view part (Plane p)
  pub right : IsEmbedded part (Plane p)

-- it is not, for the reason that the code gives: there is no block b, or it has no plane rotation system
abbrev pub IsNotPlaneAt : List BlockView → ℕ → Code → Type 0
IsNotPlaneAt views b code = ((code ≡ NoBlock) × (length views ≤ b)) ⊎ ((code ≡ NonPlanar) × (b < length views) × ((view_at views b).entry ≡ None))
