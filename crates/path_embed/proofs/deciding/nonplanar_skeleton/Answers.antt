use Rattle.std.proofs.Common.{subst}
use Rattle.std.proofs.lemmas.Option.{MatchOption-at_none, MatchOption-at_some}
use Rattle.faces.specs.Euler.{IsPlaneSystem}
use Rattle.path_embed.specs.Planar.{HasPlaneSystem, HasNoPlaneSystem}
use Rattle.path_embed.proofs.deciding.nonplanar_skeleton.Goals as goal

pub plane_system-requires : goal.plane_system-requires
plane_system-requires c = c.in_ok-skeleton.ensures.triconnected c.requires.node.1

pub returns-in-Some : goal.returns-in-Some
returns-in-Some c = λ _. subst HasPlaneSystem c.in_ok-skeleton.ensures.skeleton (c.in-Some.field-0, MatchOption-at_some (HasNoPlaneSystem c.in_ok-skeleton.skeleton) (IsPlaneSystem c.in_ok-skeleton.skeleton) c.in-Some.field-0 c.in-Some.is c.in_ok-system.ensures)

pub returns-in-None : goal.returns-in-None
returns-in-None c = record {
  node = c.requires.node;
  skeleton_is = c.in_ok-skeleton.ensures.skeleton;
  triconnected = c.in_ok-skeleton.ensures.triconnected c.requires.node.1;
  nonplanar = MatchOption-at_none (HasNoPlaneSystem c.in_ok-skeleton.skeleton) (IsPlaneSystem c.in_ok-skeleton.skeleton) c.in-None.is c.in_ok-system.ensures;
}
