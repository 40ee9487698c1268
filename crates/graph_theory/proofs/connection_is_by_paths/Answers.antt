use Rattle.graph_theory.proofs.Connection.{connected-path, path-connected}
use Rattle.graph_theory.proofs.connection_is_by_paths.Goals as goal

pub returns : goal.returns
returns c = record { by_path = connected-path; by_links = path-connected }
