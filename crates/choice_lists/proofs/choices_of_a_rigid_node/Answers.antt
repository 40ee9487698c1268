use Rattle.choice_lists.proofs.Choices.{mirror-is, mirror-mirror, mirror-differs, rigid-length, rigid-same}
use Rattle.choice_lists.proofs.Laws.{rigid-listed, second-key}
use Rattle.choice_lists.proofs.choices_of_a_rigid_node.Goals as goal

pub returns : goal.returns
returns c = record { turned = mirror-is; twice = mirror-mirror; differs = mirror-differs; listed = rigid-listed; counted = rigid-length; either = rigid-same; second = second-key }
