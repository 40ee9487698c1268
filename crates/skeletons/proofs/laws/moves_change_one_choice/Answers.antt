use Rattle.skeletons.proofs.Moved.{flip-exists, permute-exists, move-unique, move-contiguous, move-others, flip-turns, permute-sets, mirror-turns}
use Rattle.skeletons.proofs.laws.moves_change_one_choice.Goals as goal

pub returns : goal.returns
returns c = record {
  flip = flip-exists;
  permute = permute-exists;
  unique = move-unique;
  runs = move-contiguous;
  others = move-others;
  flipped = flip-turns;
  permuted = permute-sets;
  mirrored = mirror-turns;
}
