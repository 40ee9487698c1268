use Rattle.std.proofs.Common.{◌≡◌, ◌<◌, Bool, List, length, map, drop, take_at, slice_index, sym, ap, ◌∙◌, subst, arith}
use Rattle.multigraph.specs.Part.{GraphPart}
use Rattle.permutations.proofs.Arrangements.{member-at}
use Rattle.rotations.specs.Rotation.{IsCyclicOrder, IsRotationSystem}
use Rattle.faces.specs.Euler.{component_count, IsPlaneSystem}
use Rattle.skel_embed.specs.Taken.{IsGiven}
use Rattle.whole_embed.specs.declared.members.Member.{Member}
use Rattle.whole_embed.specs.Component.{Component, IsComponentInPlane}
use Rattle.whole_embed.specs.Around.{outer_at, edges_around}
use Rattle.whole_embed.specs.Cuts.{blocks_in, HavePlanes}
use Rattle.whole_embed.specs.Frames.{IsFrame}
use Rattle.whole_embed.proofs.Assembly.{assembled}
use Rattle.whole_convert.specs.Between.{as_steps}
use Rattle.whole_convert.specs.Led.{AreLedBelow}
use Rattle.whole_convert.proofs.Connected.{component-connected}
use Rattle.whole_convert.proofs.LedAll.{led-component, led-planes}
use Rattle.whole_convert.proofs.Pieces.{blocks-within}
use Rattle.whole_convert.proofs.Converted.{found-moves, led-whole}
use Rattle.whole_convert.proofs.TargetLists.{round-order}
use Rattle.whole_convert.proofs.converting.lead_whole.Goals as goal

pub system_of-requires : goal.system_of-requires
system_of-requires c =
    let k = c.args.cuts.now.component in
    subst (λ (p : GraphPart). component_count p.graph ≡ 1) (sym (c.part.ensures.value ∙ ap (λ (z : Component). z.part) c.frame-frame.ensures.value)) (component-connected k (blocks_in c.args.all.now) c.requires.component)

pub cuts_then-requires-clause-component : goal.cuts_then-requires-clause-component
cuts_then-requires-clause-component c =
    let k = c.args.cuts.now.component in
    let all = c.args.all.now in
    let q = c.in_ok-q.q in
    let plane : IsPlaneSystem k.part.graph q = subst (λ (p : GraphPart). IsPlaneSystem p.graph q) (c.part.ensures.value ∙ ap (λ (z : Component). z.part) c.frame-frame.ensures.value) (c.in_ok-q.ensures {u = tt}).plane in
    let led : AreLedBelow k all q c.in_ok-new.new.items (length k.blocks) = subst (λ (z : Component). AreLedBelow z all q c.in_ok-new.new.items (length z.blocks)) c.frame-frame.ensures.value (c.in_ok-new.ensures {u = tt}).led in
    subst (λ (z : List Member). IsComponentInPlane k (blocks_in z)) (sym c.deref-2.ensures.value) (led-component k all c.in_ok-new.new.items q c.requires.component c.requires.planes plane led)

pub cuts_then-requires-clause-planes : goal.cuts_then-requires-clause-planes
cuts_then-requires-clause-planes c =
    let k = c.args.cuts.now.component in
    let all = c.args.all.now in
    let q = c.in_ok-q.q in
    let plane : IsPlaneSystem k.part.graph q = subst (λ (p : GraphPart). IsPlaneSystem p.graph q) (c.part.ensures.value ∙ ap (λ (z : Component). z.part) c.frame-frame.ensures.value) (c.in_ok-q.ensures {u = tt}).plane in
    let led : AreLedBelow k all q c.in_ok-new.new.items (length k.blocks) = subst (λ (z : Component). AreLedBelow z all q c.in_ok-new.new.items (length z.blocks)) c.frame-frame.ensures.value (c.in_ok-new.ensures {u = tt}).led in
    subst (λ (z : List Member). HavePlanes k z) (sym c.deref-2.ensures.value) (led-planes k all c.in_ok-new.new.items q c.requires.component c.requires.planes plane led)

pub cuts_then-requires-clause-within : goal.cuts_then-requires-clause-within
cuts_then-requires-clause-within c x l =
    let k = c.args.cuts.now.component in
    let all = c.args.all.now in
    let new : List Bool = c.all_moves.new.marks in
    let marks : c.deref-3.result.now ≡ c.all_moves.new.marks = c.deref-3.ensures.value ∙ take_at new (drop (length new) c.in_ok-marks.marks.items) c.in_ok-marks.marks.len ((c.in_ok-list.ensures {u = tt}).long ∙ c.deref_mut.ensures.len) in
    let inside : slice_index k.edge_blocks x < length all = blocks-within k all (assembled k (blocks_in all) c.requires.component) (subst IsFrame c.frame-frame.ensures.value c.part.ensures.frame) c.requires.planes x l in
    omega (arith, inside, ap length marks, (c.in_ok-list.ensures {u = tt}).long, c.deref_mut.ensures.len, (c.in_ok-marks.ensures {u = tt}).len)

pub arrange_all-requires-clause-system : goal.arrange_all-requires-clause-system
arrange_all-requires-clause-system c =
    let k = c.args.cuts.now.component in
    let q = c.in_ok-q.q in
    let component : c.in_ok-after.after.component ≡ k = (c.in_ok-after.ensures {u = tt}).component in
    let plane : IsPlaneSystem k.part.graph q = subst (λ (p : GraphPart). IsPlaneSystem p.graph q) (c.part.ensures.value ∙ ap (λ (z : Component). z.part) c.frame-frame.ensures.value) (c.in_ok-q.ensures {u = tt}).plane in
    subst (λ (z : Component). IsRotationSystem z.part.graph q) (sym component) plane.system

pub arrange_all-requires-clause-orders : goal.arrange_all-requires-clause-orders
arrange_all-requires-clause-orders c i l =
    let k = c.args.cuts.now.component in
    let q = c.in_ok-q.q in
    let component : c.in_ok-after.after.component ≡ k = (c.in_ok-after.ensures {u = tt}).component in
    let plane : IsPlaneSystem k.part.graph q = subst (λ (p : GraphPart). IsPlaneSystem p.graph q) (c.part.ensures.value ∙ ap (λ (z : Component). z.part) c.frame-frame.ensures.value) (c.in_ok-q.ensures {u = tt}).plane in
    let made = assembled k (blocks_in c.args.all.now) c.requires.component in
    subst (λ (z : Component). IsCyclicOrder (edges_around z (slice_index z.cuts i)) (outer_at z.part q (slice_index z.cuts i))) (sym component)
    (round-order k (blocks_in c.args.all.now) q (slice_index k.cuts i) c.requires.component plane.system (made.cuts_in (slice_index k.cuts i) (member-at k.cuts i 0 (subst (λ (z : Component). i < length z.cuts) component l))))

pub returns-clause-led : goal.returns-clause-led
returns-clause-led c =
    let k = c.args.cuts.now.component in
    let q = c.in_ok-q.q in
    let component : c.in_ok-after.after.component ≡ k = (c.in_ok-after.ensures {u = tt}).component in
    let plane : IsPlaneSystem k.part.graph q = subst (λ (p : GraphPart). IsPlaneSystem p.graph q) (c.part.ensures.value ∙ ap (λ (z : Component). z.part) c.frame-frame.ensures.value) (c.in_ok-q.ensures {u = tt}).plane in
    let led : AreLedBelow k c.args.all.now q c.in_ok-new.new.items (length k.blocks) = subst (λ (z : Component). AreLedBelow z c.args.all.now q c.in_ok-new.new.items (length z.blocks)) c.frame-frame.ensures.value (c.in_ok-new.ensures {u = tt}).led in
    let given : IsGiven k.part c.args.target.now q = subst (λ (p : GraphPart). IsGiven p c.args.target.now q) (c.part.ensures.value ∙ ap (λ (z : Component). z.part) c.frame-frame.ensures.value) (c.in_ok-q.ensures {u = tt}).given in
    let new : List Bool = c.all_moves.new.marks in
    let marks : c.deref-3.result.now ≡ c.all_moves.new.marks = c.deref-3.ensures.value ∙ take_at new (drop (length new) c.in_ok-marks.marks.items) c.in_ok-marks.marks.len ((c.in_ok-list.ensures {u = tt}).long ∙ c.deref_mut.ensures.len) in
    let moved = found-moves c.args.cuts.now.component c.frame-frame.result.now c.in_ok-after.after.component c.part.result.now c.args.all.now c.in_ok-new.new.items c.deref.result.now c.deref-2.result.now c.args.cuts.now.lists c.in_ok-after.after.lists c.in_ok-q.q
    c.all_moves.new.marks c.deref-3.result.now c.args.target.now (as_steps c.in_ok-list.list.items) (as_steps c.add_arrangements.new.list.items) c.requires.component c.requires.planes c.requires.arranged c.frame-frame.ensures.value
    (c.in_ok-after.ensures {u = tt}).component c.part.ensures.value c.deref.ensures.value c.deref-2.ensures.value marks (c.in_ok-q.ensures {u = tt}).plane (c.in_ok-q.ensures {u = tt}).given (c.in_ok-new.ensures {u = tt}).led (c.in_ok-list.ensures {u = tt}).moves
    (c.in_ok-list.ensures {u = tt}).marked (c.in_ok-after.ensures {u = tt}).lists (c.in_ok-add_arrangements.ensures {u = tt}) in
    led-whole k c.args.all.now c.in_ok-new.new.items c.args.cuts.now.lists q c.args.target.now (as_steps c.add_arrangements.new.list.items) c.arrange_all.new.cuts c.requires.component c.requires.planes plane given led moved
    ((c.in_ok-arrange_all.ensures {u = tt}).component ∙ component)
    ((c.in_ok-arrange_all.ensures {u = tt}).lists ∙ ap (λ (z : Component). map (outer_at z.part q) z.cuts) component)
