-- The draft has the choices of a plane rotation system from which the moves that are left lead where all lead.
use Rattle.std.proofs.Common.{◌≡◌, ℕ, List, drop, All}
use Rattle.faces.specs.Euler.{IsPlaneSystem}
use Rattle.skel_embed.specs.Block.{choices_by}
use Rattle.embed_moves.specs.Made.{Fits}
use Rattle.spqr_session.specs.AtOnce.{moves_of}
use Rattle.spqr_session.specs.Moved.{all_moved}
use Rattle.spqr_session.proofs.at_once.drafted.Given as goal

abbrev pub invariant-loop-pair : goal.invariant-loop-pair
invariant-loop-pair l = (r : List (List ℕ)) × IsPlaneSystem l.plane.graph r × (l.draft ≡ choices_by l.plane.tree r) × All (Fits l.plane.tree) (moves_of (drop l.pair-index l.moves))
    × (all_moved l.plane.tree (moves_of (drop l.pair-index l.moves)) r ≡ all_moved l.plane.tree (moves_of l.moves) l.plane.rotation)
