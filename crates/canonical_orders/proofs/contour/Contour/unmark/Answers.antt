-- The vertex no longer counts as a neighbour of its neighbours.
use Rattle.std.proofs.Common.{◌≡◌, ◌<◌, ◌+◌, ◌++◌, cond, ℕ, List, false, true, length, take, drop, slice_index, slice_set, ◌∙◌, sym, subst, arith}
use Rattle.permutations.specs.Members.{is_distinct, is_member}
use Rattle.faces.specs.Euler.{dart_count}
use Rattle.canonical_orders.specs.State.{IsMet, heads_of, ring_of}
use Rattle.canonical_orders.proofs.Counting.{whole-again}
use Rattle.canonical_orders.proofs.Marking.{ring-in, ring-differ, ring-met, ring-unmarked}
use Rattle.canonical_orders.proofs.contour.Contour.unmark.Goals as goal

pub count_down-requires-clause-darts_in : goal.count_down-requires-clause-darts_in
count_down-requires-clause-darts_in c =
    let t = c.args.map.now in
    subst (λ (s : List ℕ). (k : ℕ) → k < length s → slice_index s k < dart_count t.graph) (sym (c.deref.ensures.value ∙ c.in_ok-around.ensures)) (ring-in t c.requires.triangulated c.args.dart c.requires.dart_in)

pub count_down-requires-clause-differ : goal.count_down-requires-clause-differ
count_down-requires-clause-differ c =
    let t = c.args.map.now in
    subst (λ (s : List ℕ). is_distinct (heads_of t.graph s) ≡ true) (sym (c.deref.ensures.value ∙ c.in_ok-around.ensures)) (ring-differ t c.requires.triangulated c.args.dart c.requires.dart_in)

pub count_down-requires-clause-positive : goal.count_down-requires-clause-positive
count_down-requires-clause-positive c =
    let t = c.args.map.now in
    let all = ring-met t c.requires.triangulated c.args.dart c.requires.dart_in c.args.self.now.on.items c.args.self.now.met.items c.requires.met c.requires.marked in
    subst (λ (s : List ℕ). (v : ℕ) → is_member v (heads_of t.graph c.deref.result.now) ≡ true → 0 < slice_index s v) (sym c.deref_mut.ensures.value)
    (subst (λ (s : List ℕ). (v : ℕ) → is_member v (heads_of t.graph s) ≡ true → 0 < slice_index c.args.self.now.met.items v) (sym (c.deref.ensures.value ∙ c.in_ok-around.ensures)) all)

pub returns-clause-met : goal.returns-clause-met
returns-clause-met c =
    let t = c.args.map.now in
    let on = c.args.self.now.on.items in
    let met = c.args.self.now.met.items in
    let new = c.count_down.new.met in
    let counted : (v : ℕ) → slice_index met v ≡ slice_index new v + cond (is_member v (heads_of t.graph (ring_of t c.args.dart))) 1 0
    = subst (λ (s : List ℕ). (v : ℕ) → slice_index met v ≡ slice_index new v + cond (is_member v (heads_of t.graph s)) 1 0) (c.deref.ensures.value ∙ c.in_ok-around.ensures)
    (subst (λ (s : List ℕ). (v : ℕ) → slice_index s v ≡ slice_index new v + cond (is_member v (heads_of t.graph c.deref.result.now)) 1 0) c.deref_mut.ensures.value c.count_down.ensures.counted) in
    let whole : take c.args.self.now.met.len (new ++ drop (length new) met) ≡ new = whole-again c.args.self.now.met.len new (drop (length new) met) (omega (arith, c.count_down.ensures.met_each, c.requires.met.met_each, c.args.self.now.met.ok.0)) in
    subst (IsMet t.graph (slice_set on c.tail.result false)) (sym whole)
    (subst (λ (u : ℕ). IsMet t.graph (slice_set on u false) new) (sym c.tail.ensures) (ring-unmarked t c.requires.triangulated c.args.dart c.requires.dart_in on met new c.requires.met c.requires.marked c.count_down.ensures.met_each counted))
