use Rattle.std.proofs.Common.{ℕ, List, sym, subst}
use Rattle.std.proofs.lemmas.Result.{IfOk-weaker}
use Rattle.multigraph.specs.Graph.{Multigraph, IsWithinLimits}
use Rattle.pair_split.specs.Tutte.{Node}
use Rattle.skeletons.specs.Items.{IsBlockTree}
use Rattle.face_weights.specs.Numbers.{KnowFaces}
use Rattle.face_weights.specs.Reached.{AreWeights}
use Rattle.face_weights.specs.Weights.{weight_of}
use Rattle.long_face.specs.Longest.{IsLongest}
use Rattle.long_face.specs.Settled.{AreSettled}
use Rattle.long_face.specs.Walk.{IsWalked}
use Rattle.long_face.proofs.Final.{wanted-pairs, walked-longest}
use Rattle.long_face.proofs.finding.moves_to_longest.Goals as goal

pub wants_of-requires-clause-known : goal.wants_of-requires-clause-known
wants_of-requires-clause-known c =
    let s = c.args.p.now in
    let w = c.requires.known in
    subst (λ (z : List Node). (family : List (List (List ℕ))) × KnowFaces z family c.args.faces.now × AreWeights z family c.args.weights.now) (sym c.tree.ensures.value) (w.0, w.1, w.3)

pub moves_for-requires-clause-pairs : goal.moves_for-requires-clause-pairs
moves_for-requires-clause-pairs c =
    let s = c.args.p.now in
    let known = c.requires.known in
    let family = known.0 in
    let w = c.args.weights.now in
    let all = subst (λ (z : List Node). (family : List (List (List ℕ))) → KnowFaces z family c.args.faces.now → AreWeights z family w → (g : Multigraph) → IsBlockTree g z → IsWithinLimits g → IsWalked g z family (weight_of z w) w.top w.most c.in_ok-wants.wants.items) c.tree.ensures.value c.in_ok-wants.ensures.walked in
    let walked = all family known.1 known.3 s.graph c.belongs.ensures.block (subst IsWithinLimits c.graph.ensures.value c.keeps_limits.ensures.limits) in
    let settled = subst (AreSettled s.tree family (weight_of s.tree w) w.top w.most walked.parents) (sym c.deref.ensures.value) walked.settled in
    wanted-pairs s.graph s.tree family (weight_of s.tree w) w.top w.most walked.ready walked.parents walked.order walked.ordered walked.once c.deref.result.now settled

pub returns : goal.returns
returns c =
    let s = c.args.p.now in
    let known = c.requires.known in
    let family = known.0 in
    let w = c.args.weights.now in
    let all = subst (λ (z : List Node). (family : List (List (List ℕ))) → KnowFaces z family c.args.faces.now → AreWeights z family w → (g : Multigraph) → IsBlockTree g z → IsWithinLimits g → IsWalked g z family (weight_of z w) w.top w.most c.in_ok-wants.wants.items) c.tree.ensures.value c.in_ok-wants.ensures.walked in
    let walked = all family known.1 known.3 s.graph c.belongs.ensures.block (subst IsWithinLimits c.graph.ensures.value c.keeps_limits.ensures.limits) in
    let settled = subst (AreSettled s.tree family (weight_of s.tree w) w.top w.most walked.parents) (sym c.deref.ensures.value) walked.settled in
    let longest = walked-longest s.graph s.tree family (weight_of s.tree w) w.top w.most walked.ready walked.parents walked.order walked.ordered walked.once c.deref.result.now settled s.rotation c.belongs.ensures.plane known.2
    known.3.edges c.requires.lacks in
    IfOk-weaker c.moves_for.result _ _ (λ moves e. subst (IsLongest s.graph s.tree s.rotation w.most) (sym e) longest) c.moves_for.ensures
