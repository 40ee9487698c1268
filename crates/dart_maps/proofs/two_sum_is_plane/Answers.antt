use Rattle.dart_maps.proofs.Glue.{glue-plane}
use Rattle.dart_maps.proofs.GlueCorners.{glue-corners-defect}
use Rattle.dart_maps.proofs.two_sum_is_plane.Goals as goal

pub returns : goal.returns
returns c = record { along_edges = glue-plane; at_corners = glue-corners-defect }
