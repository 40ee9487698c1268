use Rattle.planarity.proofs.ContractedSystem.{contracted-exists, contracted-unique, contracted-plane}
use Rattle.planarity.proofs.contracting.rotation_systems_are_contracted.Goals as goal

pub returns : goal.returns
returns c = record {
  exists = contracted-exists;
  unique = λ g h e x y edge vertex ok okh con r s t system first second. contracted-unique g h e x y edge vertex ok okh con r system s t first second;
  plane = λ g h e x y edge vertex ok okh con r s system plane first. contracted-plane g h e x y edge vertex ok okh con r system plane s first;
}
