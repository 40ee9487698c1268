use Rattle.std.proofs.Common.{◌≡◌, ◌/◌, ℕ, List, length, get_or, sym, ap, ◌∙◌, subst, arith}
use Rattle.std.specs.List.{Contains}
use Rattle.permutations.specs.Cyclic.{successor}
use Rattle.rotations.specs.Rotation.{order_at}
use Rattle.rotations.specs.Rings.{dart_at}
use Rattle.rotations.specs.declared.rings.Frame.{Frame}
use Rattle.rotations.proofs.Steps.{kept-dart, kept-next_in, kept-succ}
use Rattle.rotations.proofs.system.Rotation.succ.Goals as goal

-- the edge has its two darts
pub dart_at-dart-requires-clause-is_edge : goal.dart_at-dart-requires-clause-is_edge
dart_at-dart-requires-clause-is_edge c =
    let at_v = subst (λ (r : List (List ℕ)). Contains (order_at r c.args.v) c.args.e) (sym c.self.view_is) c.requires in
    let d = kept-dart c.self.inside.frame.value.tails.items c.self.inside.nodes.next c.self.inside.nodes.prev c.self.inside.frame.value.rings.items c.args.v c.args.e c.self.invariant at_v in
    omega (arith, d, ap length (c.deref-2.ensures.value ∙ ap (λ (f : Frame). f.tails.items) c.deref.ensures))

-- its dart is a node
pub next-requires : goal.next-requires
next-requires c =
    let at_v = subst (λ (r : List (List ℕ)). Contains (order_at r c.args.v) c.args.e) (sym c.self.view_is) c.requires in
    let d = kept-next_in c.self.inside.frame.value.tails.items c.self.inside.nodes.next c.self.inside.nodes.prev c.self.inside.frame.value.rings.items c.args.v c.args.e c.self.invariant at_v in
    omega (arith, d, c.dart_at-dart.ensures, ap (λ (t : List ℕ). dart_at t c.args.v c.args.e) (c.deref-2.ensures.value ∙ ap (λ (f : Frame). f.tails.items) c.deref.ensures))

-- what is behind it is the dart of the edge that follows
pub returns : goal.returns
returns c =
    let at_v = subst (λ (r : List (List ℕ)). Contains (order_at r c.args.v) c.args.e) (sym c.self.view_is) c.requires in
    let dart : c.dart_at-dart.result ≡ dart_at c.self.inside.frame.value.tails.items c.args.v c.args.e = c.dart_at-dart.ensures ∙ ap (λ (t : List ℕ). dart_at t c.args.v c.args.e) (c.deref-2.ensures.value ∙ ap (λ (f : Frame). f.tails.items) c.deref.ensures) in
    ap (λ (d : ℕ). d / 2) (c.next.ensures.value ∙ ap (λ (d : ℕ). get_or c.self.inside.nodes.next d 0) dart)
    ∙ (kept-succ c.self.inside.frame.value.tails.items c.self.inside.nodes.next c.self.inside.nodes.prev c.self.inside.frame.value.rings.items c.args.v c.args.e c.self.invariant at_v
    ∙ ap (λ (r : List (List ℕ)). successor (order_at r c.args.v) c.args.e) c.self.view_is)
