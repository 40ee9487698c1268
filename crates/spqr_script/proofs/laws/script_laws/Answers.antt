use Rattle.spqr_script.proofs.Entries.{number_spelled, number_read}
use Rattle.spqr_script.proofs.Scripts.{decided, apart, one_reading, one_bad_line}
use Rattle.spqr_script.proofs.Printed.{printed_entries}
use Rattle.spqr_script.proofs.PrintedMoves.{printed_move, printed_arrangement}
use Rattle.spqr_script.proofs.laws.script_laws.Goals as goal

pub returns : goal.returns
returns c = record {
  decided = decided;
  apart = apart;
  one_reading = one_reading;
  one_bad_line = one_bad_line;
  numbers = λ limit text n. (number_spelled limit text n, number_read limit text n);
  printed = printed_entries;
  printed_moves = printed_move;
  printed_arrangements = printed_arrangement;
}
