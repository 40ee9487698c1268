use Rattle.std.proofs.Common.{ℕ, List, sym, ◌∙◌, subst}
use Rattle.multigraph.specs.Graph.{Multigraph}
use Rattle.faces.specs.Steps.{AreFaceSteps}
use Rattle.pair_split.specs.Tutte.{Node}
use Rattle.skel_embed.specs.Values.{as_moves}
use Rattle.moves.specs.declared.values.Move.{Move}
use Rattle.face_weights.specs.Numbers.{KnowFaces}
use Rattle.skel_decompose.specs.Orders.{HangFromFirst, IsOrderOf}
use Rattle.face_weights.specs.Reached.{AreWeights}
use Rattle.face_weights.specs.Weights.{weight_of}
use Rattle.long_face.specs.Present.{AreStepsOf}
use Rattle.long_face.specs.Longest.{HasFace, IsLongest, NoneLonger}
use Rattle.long_face.proofs.FaceLengths.{steps-made}
use Rattle.long_face.proofs.Greatest.{table-bounds, present-family, present-longest}
use Rattle.long_face.proofs.finding.longest.Goals as goal

pub present_faces-requires-clause-steps : goal.present_faces-requires-clause-steps
present_faces-requires-clause-steps c =
    let s = c.args.p.now in
    subst (AreFaceSteps s.graph s.rotation) (sym c.deref.ensures.value)
    (subst (λ (z : Multigraph). AreFaceSteps z s.rotation c.in_ok-steps.steps.items) c.graph-2.ensures.value (subst (λ (z : List (List ℕ)). AreFaceSteps c.graph-2.result.now z c.in_ok-steps.steps.items) c.rotation.ensures.value c.in_ok-steps.ensures))

pub present_faces-requires-clause-order : goal.present_faces-requires-clause-order
present_faces-requires-clause-order c = subst (λ (z : List Node). IsOrderOf z c.in_ok-order.order.parents.items c.in_ok-order.order.nodes.items) c.tree.ensures.value c.in_ok-order.ensures.order

pub present_faces-requires-clause-first : goal.present_faces-requires-clause-first
present_faces-requires-clause-first c = subst (λ (z : List Node). HangFromFirst z c.in_ok-order.order.parents.items) c.tree.ensures.value c.in_ok-order.ensures.first

pub weigh-requires-clause-order : goal.weigh-requires-clause-order
weigh-requires-clause-order c = subst (λ (z : List Node). IsOrderOf z c.in_ok-order.order.parents.items c.in_ok-order.order.nodes.items) (c.tree.ensures.value ∙ sym c.tree-2.ensures.value) c.in_ok-order.ensures.order

pub has_face-requires : goal.has_face-requires
has_face-requires c =
    let s = c.args.p.now in
    let steps : AreStepsOf s.graph s.rotation c.in_ok-steps.steps.items = steps-made s.graph c.graph.result.now c.graph-2.result.now s.rotation c.rotation.result.now c.in_ok-steps.steps.items c.keeps_limits.ensures.graph c.keeps_limits.ensures.limits c.graph.ensures.value c.belongs.ensures.plane.system c.in_ok-steps.ensures c.graph-2.ensures.value c.rotation.ensures.value in
    (s.graph, s.rotation, steps)

pub weigh-requires-clause-faces : goal.weigh-requires-clause-faces
weigh-requires-clause-faces c =
    let s = c.args.p.now in
    let w = present-family s.graph s.tree s.rotation c.belongs.ensures.block c.belongs.ensures.plane in
    subst (λ (z : List Node). (family : List (List (List ℕ))) × KnowFaces z family c.in_ok-faces.faces) (sym c.tree-2.ensures.value)
    (w.0, c.in_ok-faces.ensures w.0 w.1 w.2)

-- the present rotation system has a longest face
pub returns-then-branch : goal.returns-then-branch
returns-then-branch c =
    let s = c.args.p.now in
    let f = present-family s.graph s.tree s.rotation c.belongs.ensures.block c.belongs.ensures.plane in
    let w = c.in_ok-weights.weights in
    let len = c.most-length.result in
    let know : KnowFaces s.tree f.0 c.in_ok-faces.faces = c.in_ok-faces.ensures f.0 f.1 f.2 in
    let weights : AreWeights s.tree f.0 w =
    subst (λ (z : List Node). KnowFaces z f.0 c.in_ok-faces.faces → AreWeights z f.0 w) c.tree-2.ensures.value (c.in_ok-weights.ensures f.0) know in
    let none : NoneLonger s.graph len =
    subst (NoneLonger s.graph) (sym c.most-length.ensures) (table-bounds s.graph s.tree f.0 (weight_of s.tree w) w.most c.belongs.ensures.block f.1 know.plane weights.edges weights.table) in
    let steps : AreStepsOf s.graph s.rotation c.in_ok-steps.steps.items = steps-made s.graph c.graph.result.now c.graph-2.result.now s.rotation c.rotation.result.now c.in_ok-steps.steps.items c.keeps_limits.ensures.graph c.keeps_limits.ensures.limits c.graph.ensures.value c.belongs.ensures.plane.system c.in_ok-steps.ensures c.graph-2.ensures.value c.rotation.ensures.value in
    let has : HasFace s.graph s.rotation len = c.in_ok-has_face.ensures.found c.if-branch.true s.graph s.rotation steps in
    subst (λ (z : List Move). IsLongest s.graph s.tree s.rotation len (as_moves z)) (sym c.new.ensures.items) (present-longest s.graph s.tree s.rotation len c.belongs.ensures.plane none has)

pub moves_to_longest-requires-clause-known : goal.moves_to_longest-requires-clause-known
moves_to_longest-requires-clause-known c =
    let s = c.args.p.now in
    let f = present-family s.graph s.tree s.rotation c.belongs.ensures.block c.belongs.ensures.plane in
    let know : KnowFaces s.tree f.0 c.in_ok-faces.faces = c.in_ok-faces.ensures f.0 f.1 f.2 in
    let weights : AreWeights s.tree f.0 c.in_ok-weights.weights =
    subst (λ (z : List Node). KnowFaces z f.0 c.in_ok-faces.faces → AreWeights z f.0 c.in_ok-weights.weights) c.tree-2.ensures.value (c.in_ok-weights.ensures f.0) know in
    (f.0, know, f.2, weights)

pub moves_to_longest-requires-clause-lacks : goal.moves_to_longest-requires-clause-lacks
moves_to_longest-requires-clause-lacks c = λ h.
    let s = c.args.p.now in
    let steps : AreStepsOf s.graph s.rotation c.in_ok-steps.steps.items = steps-made s.graph c.graph.result.now c.graph-2.result.now s.rotation c.rotation.result.now c.in_ok-steps.steps.items c.keeps_limits.ensures.graph c.keeps_limits.ensures.limits c.graph.ensures.value c.belongs.ensures.plane.system c.in_ok-steps.ensures c.graph-2.ensures.value c.rotation.ensures.value in
    c.in_ok-has_face.ensures.none c.if-branch.false s.graph s.rotation steps (subst (HasFace s.graph s.rotation) (sym c.most-length.ensures) h)
