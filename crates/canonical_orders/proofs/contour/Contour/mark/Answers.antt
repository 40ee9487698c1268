-- The vertex counts as a neighbour of its neighbours.
use Rattle.std.proofs.Common.{◌≡◌, ◌<◌, ◌+◌, ◌++◌, cond, ℕ, List, true, length, take, drop, slice_index, slice_set, ◌∙◌, sym, subst, arith}
use Rattle.permutations.specs.Members.{is_distinct, is_member}
use Rattle.faces.specs.Euler.{tail, dart_count}
use Rattle.canonical_orders.specs.State.{IsMet, heads_of, ring_of}
use Rattle.canonical_orders.proofs.Counting.{whole-again}
use Rattle.canonical_orders.proofs.Marking.{met-small, ring-in, ring-differ, ring-marked}
use Rattle.canonical_orders.proofs.contour.Contour.mark.Goals as goal

pub count_up-requires-clause-darts_in : goal.count_up-requires-clause-darts_in
count_up-requires-clause-darts_in c =
    let t = c.args.map.now in
    subst (λ (s : List ℕ). (k : ℕ) → k < length s → slice_index s k < dart_count t.graph) (sym (c.deref.ensures.value ∙ c.in_ok-around.ensures)) (ring-in t c.requires.triangulated c.args.dart c.requires.dart_in)

pub count_up-requires-clause-differ : goal.count_up-requires-clause-differ
count_up-requires-clause-differ c =
    let t = c.args.map.now in
    subst (λ (s : List ℕ). is_distinct (heads_of t.graph s) ≡ true) (sym (c.deref.ensures.value ∙ c.in_ok-around.ensures)) (ring-differ t c.requires.triangulated c.args.dart c.requires.dart_in)

pub count_up-requires-clause-small : goal.count_up-requires-clause-small
count_up-requires-clause-small c =
    let t = c.args.map.now in
    let u = tail t.graph c.args.dart in
    subst (λ (s : List ℕ). (v : ℕ) → slice_index s v + 1 < 4294967296) (sym c.deref_mut.ensures.value)
    (met-small t.graph c.args.self.now.on.items c.args.self.now.met.items u c.requires.met (c.requires.triangulated.map.drawn.inside c.args.dart c.requires.dart_in) c.requires.unmarked)

pub returns-clause-met : goal.returns-clause-met
returns-clause-met c =
    let t = c.args.map.now in
    let on = c.args.self.now.on.items in
    let met = c.args.self.now.met.items in
    let new = c.count_up.new.met in
    let counted : (v : ℕ) → slice_index new v ≡ slice_index met v + cond (is_member v (heads_of t.graph (ring_of t c.args.dart))) 1 0
    = subst (λ (s : List ℕ). (v : ℕ) → slice_index new v ≡ slice_index met v + cond (is_member v (heads_of t.graph s)) 1 0) (c.deref.ensures.value ∙ c.in_ok-around.ensures)
    (subst (λ (s : List ℕ). (v : ℕ) → slice_index new v ≡ slice_index s v + cond (is_member v (heads_of t.graph c.deref.result.now)) 1 0) c.deref_mut.ensures.value c.count_up.ensures.counted) in
    let whole : take c.args.self.now.met.len (new ++ drop (length new) met) ≡ new = whole-again c.args.self.now.met.len new (drop (length new) met) (omega (arith, c.count_up.ensures.met_each, c.requires.met.met_each, c.args.self.now.met.ok.0)) in
    subst (IsMet t.graph (slice_set on c.tail.result true)) (sym whole)
    (subst (λ (u : ℕ). IsMet t.graph (slice_set on u true) new) (sym c.tail.ensures) (ring-marked t c.requires.triangulated c.args.dart c.requires.dart_in on met new c.requires.met c.requires.unmarked c.count_up.ensures.met_each counted))
