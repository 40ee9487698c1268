use Rattle.skeletons.proofs.Unique.{follower-unique}
use Rattle.skeletons.proofs.Places.{family-followed, contiguous-follows, family-unique}
use Rattle.skeletons.proofs.laws.rotation_systems_follow_families.Goals as goal

pub returns : goal.returns
returns c = record { followed = family-followed; one_follower = follower-unique; follows = contiguous-follows; one_family = family-unique }
