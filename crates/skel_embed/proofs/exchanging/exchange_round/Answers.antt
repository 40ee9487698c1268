use Rattle.std.proofs.Common.{◌≢◌, sym, subst}
use Rattle.permutations.proofs.Arrangements.{contains-from_member}
use Rattle.rotations.specs.Rotation.{order_at}
use Rattle.rotations.specs.Runs.{IsOutside}
use Rattle.faces.proofs.DartLemmas.{order-distinct}
use Rattle.pair_split.specs.Tutte.{group}
use Rattle.skel_embed.specs.Steps.{IsPut}
use Rattle.skel_embed.proofs.RunSteps.{some-last}
use Rattle.skel_embed.proofs.ExchangeSteps.{cut-groups, first-of_a, first-of_b, cut-two, outside-b, outside-a, put-both, put-system, keys-in}
use Rattle.skel_embed.proofs.exchanging.exchange_round.Goals as goal

pub run_first-first_a-requires-clause-begins : goal.run_first-first_a-requires-clause-begins
run_first-first_a-requires-clause-begins c =
    let q = c.requires.keys in
    first-of_a (group c.args.t.now c.args.k) (order_at c.args.r.now c.args.v) q.groups c.args.a c.args.b (order-distinct c.args.g.now c.args.r.now c.args.v c.requires.system c.requires.vertex) q.runs (cut-groups q.groups c.args.a c.args.b q.runs.once q.first q.second c.if-a-b.false)

pub run_end-end_a-requires-clause-ends : goal.run_end-end_a-requires-clause-ends
run_end-end_a-requires-clause-ends c =
    let q = c.requires.keys in
    some-last (group c.args.t.now c.args.k) (order_at c.args.r.now c.args.v) c.run_first-first_a.result
    (cut-two (group c.args.t.now c.args.k) (order_at c.args.r.now c.args.v) q.groups c.args.a c.args.b (order-distinct c.args.g.now c.args.r.now c.args.v c.requires.system c.requires.vertex) q.runs (cut-groups q.groups c.args.a c.args.b q.runs.once q.first q.second c.if-a-b.false))
    c.run_first-first_a.ensures.within

pub run_first-first_b-requires-clause-begins : goal.run_first-first_b-requires-clause-begins
run_first-first_b-requires-clause-begins c =
    let q = c.requires.keys in
    first-of_b (group c.args.t.now c.args.k) (order_at c.args.r.now c.args.v) q.groups c.args.a c.args.b (order-distinct c.args.g.now c.args.r.now c.args.v c.requires.system c.requires.vertex) q.runs (cut-groups q.groups c.args.a c.args.b q.runs.once q.first q.second c.if-a-b.false)

pub run_end-end_b-requires-clause-ends : goal.run_end-end_b-requires-clause-ends
run_end-end_b-requires-clause-ends c =
    let q = c.requires.keys in
    some-last (group c.args.t.now c.args.k) (order_at c.args.r.now c.args.v) c.run_first-first_b.result
    (cut-two (group c.args.t.now c.args.k) (order_at c.args.r.now c.args.v) q.groups c.args.a c.args.b (order-distinct c.args.g.now c.args.r.now c.args.v c.requires.system c.requires.vertex) q.runs (cut-groups q.groups c.args.a c.args.b q.runs.once q.first q.second c.if-a-b.false))
    c.run_first-first_b.ensures.within

pub pred-before_a-requires : goal.pred-before_a-requires
pred-before_a-requires c = contains-from_member (order_at c.args.r.now c.args.v) c.run_first-first_a.result c.run_first-first_a.ensures.within

pub pred-before_b-requires : goal.pred-before_b-requires
pred-before_b-requires c = contains-from_member (order_at c.args.r.now c.args.v) c.run_first-first_b.result c.run_first-first_b.ensures.within

pub put_run-requires : goal.put_run-requires
put_run-requires c =
    let q = c.requires.keys in
    let l = order_at c.args.r.now c.args.v in
    subst (λ z. z ≢ c.run_end-end_b.result.last → IsOutside l c.run_first-first_b.result c.run_end-end_b.result.last z) (sym c.pred-before_a.ensures)
    (outside-b (group c.args.t.now c.args.k) l q.groups c.args.a c.args.b (order-distinct c.args.g.now c.args.r.now c.args.v c.requires.system c.requires.vertex) q.runs (cut-groups q.groups c.args.a c.args.b q.runs.once q.first q.second c.if-a-b.false)
    c.run_first-first_a.result c.run_end-end_a.result.last c.run_first-first_b.result c.run_end-end_b.result.last c.run_first-first_a.ensures c.run_end-end_a.ensures.ends c.run_first-first_b.ensures c.run_end-end_b.ensures.ends)

pub put_run-requires-2 : goal.put_run-requires-2
put_run-requires-2 c =
    let q = c.requires.keys in
    let l = order_at c.args.r.now c.args.v in
    let m = order_at c.put_run.new.r c.args.v in
    let system = put-system c.args.g.now c.args.r.now c.put_run.new.r c.args.v c.run_first-first_b.result c.run_end-end_b.result.last c.pred-before_a.result c.requires.system c.requires.vertex c.put_run.ensures.put c.put_run.ensures.elsewhere in
    subst (λ z. z ≢ c.run_end-end_a.result.last → IsOutside m c.run_first-first_a.result c.run_end-end_a.result.last z) (sym c.pred-before_b.ensures)
    (outside-a (group c.args.t.now c.args.k) l q.groups c.args.a c.args.b (order-distinct c.args.g.now c.args.r.now c.args.v c.requires.system c.requires.vertex) q.runs (cut-groups q.groups c.args.a c.args.b q.runs.once q.first q.second c.if-a-b.false)
    c.run_first-first_a.result c.run_end-end_a.result.last c.run_first-first_b.result c.run_end-end_b.result.last c.run_first-first_a.ensures c.run_end-end_a.ensures.ends c.run_first-first_b.ensures c.run_end-end_b.ensures.ends
    m (order-distinct c.args.g.now c.put_run.new.r c.args.v system c.requires.vertex) (subst (λ z. IsPut l m c.run_first-first_b.result c.run_end-end_b.result.last z) c.pred-before_a.ensures c.put_run.ensures.put))

pub returns-clause-system : goal.returns-clause-system
returns-clause-system c =
    let system = put-system c.args.g.now c.args.r.now c.put_run.new.r c.args.v c.run_first-first_b.result c.run_end-end_b.result.last c.pred-before_a.result c.requires.system c.requires.vertex c.put_run.ensures.put c.put_run.ensures.elsewhere in
    put-system c.args.g.now c.put_run.new.r c.put_run-2.new.r c.args.v c.run_first-first_a.result c.run_end-end_a.result.last c.pred-before_b.result system c.requires.vertex c.put_run-2.ensures.put c.put_run-2.ensures.elsewhere

pub returns-clause-exchanged : goal.returns-clause-exchanged
returns-clause-exchanged c gs r =
    let q = c.requires.keys in
    let l = order_at c.args.r.now c.args.v in
    let m = order_at c.put_run.new.r c.args.v in
    let n = order_at c.put_run-2.new.r c.args.v in
    let key = group c.args.t.now c.args.k in
    let system = put-system c.args.g.now c.args.r.now c.put_run.new.r c.args.v c.run_first-first_b.result c.run_end-end_b.result.last c.pred-before_a.result c.requires.system c.requires.vertex c.put_run.ensures.put c.put_run.ensures.elsewhere in
    put-both key l gs c.args.a c.args.b (order-distinct c.args.g.now c.args.r.now c.args.v c.requires.system c.requires.vertex) r
    (cut-groups gs c.args.a c.args.b r.once (keys-in key l q.groups gs c.args.a q.runs r q.first) (keys-in key l q.groups gs c.args.b q.runs r q.second) c.if-a-b.false)
    c.run_first-first_a.result c.run_end-end_a.result.last c.run_first-first_b.result c.run_end-end_b.result.last c.run_first-first_a.ensures c.run_end-end_a.ensures.ends c.run_first-first_b.ensures c.run_end-end_b.ensures.ends
    m (order-distinct c.args.g.now c.put_run.new.r c.args.v system c.requires.vertex) (subst (λ z. IsPut l m c.run_first-first_b.result c.run_end-end_b.result.last z) c.pred-before_a.ensures c.put_run.ensures.put)
    n (subst (λ z. IsPut m n c.run_first-first_a.result c.run_end-end_a.result.last z) c.pred-before_b.ensures c.put_run-2.ensures.put)
