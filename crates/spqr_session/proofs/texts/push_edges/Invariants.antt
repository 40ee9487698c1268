use Rattle.std.proofs.Common.{◌≡◌, drop, map, slice_index}
use Rattle.spqr_session.specs.Texts.{with_numbers}
use Rattle.spqr_session.proofs.texts.push_edges.Given as goal

-- with what is left the text is what it is to be
abbrev pub invariant-loop-e : goal.invariant-loop-e
invariant-loop-e l = with_numbers l.text.items (map (slice_index l.part.edges) (drop l.e-index l.edges)) ≡ with_numbers l.initial.text.items (map (slice_index l.part.edges) l.edges)
