use Rattle.std.proofs.Common.{◌≡◌, ℕ, List, length, slice_index, true, sym, ap, ap₂, ◌∙◌, subst, arith}
use Rattle.multigraph.specs.Graph.{is_end, other_end}
use Rattle.palm_tree.specs.PalmTree.{darts_of}
use Rattle.split_comp.specs.Pass.{NumberedTree}
use Rattle.split_comp.proofs.Begins.{dart-in, dart-end, far-in}
use Rattle.split_comp.proofs.tree.NumberedPalmTree.dart.Goals as goal

pub other_end-end-requires-clause-edge : goal.other_end-end-requires-clause-edge
other_end-end-requires-clause-edge c = omega (arith, (ap (λ (l : List ℕ). slice_index l c.args.k) (c.darts.ensures ∙ ap₂ darts_of (ap (λ (t : NumberedTree). t.palm) c.self.view_is) c.vertex_at-v.ensures)), dart-in c.args.g.now c.args.self.now c.requires.tree c.args.x c.requires.within c.args.k c.requires.place)

pub other_end-end-requires-clause-end : goal.other_end-end-requires-clause-end
other_end-end-requires-clause-end c = subst (λ (z : ℕ × ℕ). is_end c.args.g.now z.0 z.1 ≡ true) (λ i. (sym c.vertex_at-v.ensures i, sym (ap (λ (l : List ℕ). slice_index l c.args.k) (c.darts.ensures ∙ ap₂ darts_of (ap (λ (t : NumberedTree). t.palm) c.self.view_is) c.vertex_at-v.ensures)) i))
    (dart-end c.args.g.now c.args.self.now c.requires.tree c.args.x c.requires.within c.args.k c.requires.place)

pub is_frond-requires : goal.is_frond-requires
is_frond-requires c = omega (arith, (ap (λ (l : List ℕ). slice_index l c.args.k) (c.darts.ensures ∙ ap₂ darts_of (ap (λ (t : NumberedTree). t.palm) c.self.view_is) c.vertex_at-v.ensures)), dart-in c.args.g.now c.args.self.now c.requires.tree c.args.x c.requires.within c.args.k c.requires.place, ap (λ (t : NumberedTree). length t.palm.frond) c.self.view_is, c.requires.tree.palm.parents.marks)

pub low1-requires : goal.low1-requires
low1-requires c = omega (arith, c.other_end-end.ensures, ap₂ (other_end c.args.g.now) (ap (λ (l : List ℕ). slice_index l c.args.k) (c.darts.ensures ∙ ap₂ darts_of (ap (λ (t : NumberedTree). t.palm) c.self.view_is) c.vertex_at-v.ensures)) c.vertex_at-v.ensures, far-in c.args.g.now c.args.self.now c.requires.tree c.args.x c.requires.within c.args.k c.requires.place, ap (λ (t : NumberedTree). length t.palm.low1) c.self.view_is, c.requires.tree.palm.low1_places)

pub low2-requires : goal.low2-requires
low2-requires c = omega (arith, c.other_end-end.ensures, ap₂ (other_end c.args.g.now) (ap (λ (l : List ℕ). slice_index l c.args.k) (c.darts.ensures ∙ ap₂ darts_of (ap (λ (t : NumberedTree). t.palm) c.self.view_is) c.vertex_at-v.ensures)) c.vertex_at-v.ensures, far-in c.args.g.now c.args.self.now c.requires.tree c.args.x c.requires.within c.args.k c.requires.place, ap (λ (t : NumberedTree). length t.palm.low2) c.self.view_is, c.requires.tree.palm.low2_places)
