use Rattle.stacked_points.proofs.Corners.{inner_turns, left_end_turns, right_end_turns, first_turns, last_turns}
use Rattle.stacked_points.proofs.corners_turn.Goals as goal

pub returns : goal.returns
returns c = record { inner = inner_turns; left = left_end_turns; right = right_end_turns; first = first_turns; last = last_turns }
