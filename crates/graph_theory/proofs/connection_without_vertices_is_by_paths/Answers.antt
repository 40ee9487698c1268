use Rattle.graph_theory.proofs.Removed.{path-without, without-path}
use Rattle.graph_theory.proofs.connection_without_vertices_is_by_paths.Goals as goal

pub returns : goal.returns
returns c = record { by_path = path-without; by_links = without-path }
