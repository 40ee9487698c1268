use Rattle.planarity.proofs.CommonNeighbours.{common-two}
use Rattle.planarity.proofs.ContractedUnique.{contracted-tells}
use Rattle.planarity.proofs.ExpandedPlane.{runs-expand}
use Rattle.planarity.proofs.contracting.plane_rotation_systems_are_expanded.Goals as goal

pub returns : goal.returns
returns c = record {
  common = λ g h e x y edge vertex ok simple con may r system plane. common-two g h e x y edge vertex ok con r system plane simple may;
  told = contracted-tells;
  expands = runs-expand;
}
