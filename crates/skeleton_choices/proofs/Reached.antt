-- The moves lead, and what is reached is kept.
use Rattle.skeletons.specs.Laws.{MovesLead, ReachedIsKept, ReachedListIsKeptList}
use Rattle.skeletons.proofs.Leading.{moves-lead, reached-kept, reached-list}
use Rattle.skeleton_runs.proofs.Contiguous.{plane-contiguous}
use Rattle.skeleton_choices.proofs.Plane.{plane-kept}
use Rattle.skeleton_choices.proofs.Told.{tell, two-choices}

pub lead : MovesLead
lead g nodes r q b p s = moves-lead g nodes b (λ r p. plane-contiguous g nodes r b p) (plane-kept g nodes b) (tell g nodes b) (two-choices g nodes b) r q p s

pub kept : ReachedIsKept
kept g nodes locked r q b p = reached-kept g nodes b (λ r p. plane-contiguous g nodes r b p) (plane-kept g nodes b) (tell g nodes b) (two-choices g nodes b) locked r q p

pub list-kept : ReachedListIsKeptList
list-kept g nodes locked r l b p = reached-list g nodes b (λ r p. plane-contiguous g nodes r b p) (plane-kept g nodes b) (tell g nodes b) (two-choices g nodes b) locked r l p
