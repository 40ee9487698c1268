use Rattle.spqr_script.proofs.Scripts.{is_spelled, all_is_read, fault_is}
use Rattle.spqr_script.proofs.reader.read.Goals as goal

pub returns-clause-spelled : goal.returns-clause-spelled
returns-clause-spelled c = is_spelled c.args.bytes.now c.read_lines.result c.read_lines.ensures

pub returns-clause-all_spelled : goal.returns-clause-all_spelled
returns-clause-all_spelled c = all_is_read c.args.bytes.now c.read_lines.result c.read_lines.ensures

pub returns-clause-bad_line : goal.returns-clause-bad_line
returns-clause-bad_line c = fault_is c.args.bytes.now c.read_lines.result c.read_lines.ensures
