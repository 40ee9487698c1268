use Rattle.std.proofs.Common.{◌≡◌, ℕ, List, subst}
use Rattle.std.proofs.lemmas.Result.{IfOk-weaker}
use Rattle.face_weights.specs.Weights.{weight_of}
use Rattle.long_face.specs.Ready.{AreKnown}
use Rattle.long_face.specs.Settled.{AreSettled}
use Rattle.long_face.proofs.RowsMade.{known-ready}
use Rattle.long_face.proofs.joining.wants_of.Goals as goal

pub wants_from-requires-clause-known : goal.wants_from-requires-clause-known
wants_from-requires-clause-known c =
    let y = c.requires.block in
    let known = c.requires.known in
    (y.0, known.0, record { block = y.1; limits = y.2; numbers = known.1; weighed = known.2 })

pub order_from_top-requires-clause-order : goal.order_from_top-requires-clause-order
order_from_top-requires-clause-order c = c.requires.known.2.ordered

pub order_from_top-requires-clause-top : goal.order_from_top-requires-clause-top
order_from_top-requires-clause-top c = c.requires.known.2.top.node

pub returns-clause-walked : goal.returns-clause-walked
returns-clause-walked c =
    let tree = c.args.tree.now in
    let w = c.args.weights.now in
    let order : List ℕ = c.in_ok-order.order.nodes.items in
    let parents : List ℕ = c.in_ok-order.order.parents.items in
    let top : c.top.result ≡ w.top = c.top.ensures in
    let one : c.deref.result.now ≡ parents = c.deref.ensures.value in
    IfOk-weaker c.wants_from.result _ _ (λ wants h family know weights g b limits.
    let known : AreKnown g tree family c.args.faces.now w = record { block = b; limits = limits; numbers = know; weighed = weights } in
    record {
      ready = known-ready g tree family c.args.faces.now w known;
      parents = parents;
      order = order;
      ordered = c.in_ok-order.ensures.ordered;
      once = c.in_ok-order.ensures.distinct;
      settled = subst (λ (z : List ℕ). AreSettled tree family (weight_of tree w) w.top w.most z wants.items) one (subst (λ (z : ℕ). AreSettled tree family (weight_of tree w) z w.most c.deref.result.now wants.items) top (h g family known));
    }) c.wants_from.ensures.settled
