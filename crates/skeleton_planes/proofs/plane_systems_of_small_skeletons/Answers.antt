use Rattle.skeleton_planes.proofs.OneSystem.{polygon-law, bond-law, small-law}
use Rattle.skeleton_planes.proofs.BondMade.{bond-orders}
use Rattle.skeleton_planes.proofs.plane_systems_of_small_skeletons.Goals as goal

pub returns : goal.returns
returns c = record { polygon = polygon-law; bond = bond-law; bond_orders = bond-orders; small = small-law }
