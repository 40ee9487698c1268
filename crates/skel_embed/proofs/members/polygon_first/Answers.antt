use Rattle.std.proofs.Common.{ℕ, List, arith}
use Rattle.rotations.specs.Rotation.{IsRotationSystem}
use Rattle.skeletons.specs.Families.{skeleton_graph}
use Rattle.skel_compose.specs.Followers.{IsRow}
use Rattle.skel_embed.specs.Fan.{fan_system}
use Rattle.skel_embed.proofs.Fans.{fan-system}
use Rattle.skel_embed.proofs.FirstRows.{if-ok}
use Rattle.skel_embed.proofs.members.polygon_first.Goals as goal

pub polygon_row-requires-clause-block : goal.polygon_row-requires-clause-block
polygon_row-requires-clause-block c = let y = c.requires.block in (y.0, y.1, y.2, omega (arith, c.deref_mut.ensures.len, c.in_ok-resize.ensures.len, y.3))

pub returns : goal.returns
returns c =
    let graph = skeleton_graph c.args.tree.now c.args.k in
    let row = c.polygon_row.new.row.items in
    if-ok c.polygon_row.result ((s : List (List ℕ)) → IsRotationSystem (skeleton_graph c.args.tree.now c.args.k) s → IsRow c.args.tree.now c.args.k s row) (IsRow c.args.tree.now c.args.k (fan_system graph) row)
    (λ h. h (fan_system graph) (fan-system graph)) c.polygon_row.ensures.row
