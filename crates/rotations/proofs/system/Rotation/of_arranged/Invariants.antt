use Rattle.rotations.specs.Entries.{IsReachedAt}
use Rattle.rotations.proofs.Stages.{AreBuilt}
use Rattle.rotations.proofs.system.Rotation.of_arranged.Given as goal

-- the rings of the vertices so far are built
abbrev pub invariant-loop-v : goal.invariant-loop-v
invariant-loop-v l = record {
  reached : IsReachedAt l.lists l.at l.v;
  built : AreBuilt l.g l.lists l.tails.items l.nodes l.rings.items l.v;
}
