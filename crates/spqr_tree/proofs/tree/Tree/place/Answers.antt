-- The vertices of a node rise and are few, so the search ends at the place.
use Rattle.std.proofs.Common.{◌∙◌, List, ℕ, length, ap, arith}
use Rattle.permutations.specs.Members.{is_member, place_of}
use Rattle.spqr_tree.proofs.SkeletonMade.{place-there, place-not_missed, vertices-few, vertices-rise}
use Rattle.spqr_tree.proofs.tree.Tree.place.Goals as goal

pub overflow_cast-result : goal.overflow_cast-result
overflow_cast-result c = omega (arith, c.in-Ok.ensures.bound, ap length c.vertices.ensures, vertices-few c.requires.block.0 c.args.self.now c.requires.block.1 c.args.k c.requires.node c.requires.block.2)

pub unreachable-requires : goal.unreachable-requires
unreachable-requires c = place-not_missed c.vertices.result.now c.args.v c.in-Err.field-0 (vertices-rise c.requires.block.0 c.args.self.now c.requires.block.1 c.args.k c.requires.node c.vertices.result.now c.vertices.ensures)
    (ap (is_member c.args.v) c.vertices.ensures ∙ c.requires.vertex) c.in-Err.ensures.position

pub returns : goal.returns
returns c = place-there c.vertices.result.now c.args.v c.in-Ok.place (vertices-rise c.requires.block.0 c.args.self.now c.requires.block.1 c.args.k c.requires.node c.vertices.result.now c.vertices.ensures)
    (ap (is_member c.args.v) c.vertices.ensures ∙ c.requires.vertex) c.in-Ok.ensures.position ∙ ap (λ (z : List ℕ). place_of z c.args.v) c.vertices.ensures
