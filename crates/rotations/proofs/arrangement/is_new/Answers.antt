use Rattle.std.proofs.Common.{refl, sym, ◌∙◌, inl}
use Rattle.rotations.proofs.Membership.{is_edge_at-no, is_edge_at-member}
use Rattle.rotations.proofs.arrangement.is_new.Goals as goal

-- it is no edge at the vertex
pub returns-then-not-is_edge_at : goal.returns-then-not-is_edge_at
returns-then-not-is_edge_at c = (inl (is_edge_at-no c.args.g.now c.args.v c.args.e (sym c.is_edge_at.ensures ∙ c.if-not-is_edge_at.true)), refl)

-- it is an edge at the vertex, and not marked
pub returns : goal.returns
returns c = (is_edge_at-member c.args.g.now c.args.v c.args.e (sym c.is_edge_at.ensures ∙ c.if-not-is_edge_at.false), c.if-seen-e.false, refl)
