use Rattle.graph_theory.proofs.Joined.{joined-path, path-joined}
use Rattle.graph_theory.proofs.connection_by_some_edges_is_by_paths.Goals as goal

pub returns : goal.returns
returns c = record { by_path = joined-path; by_links = path-joined }
