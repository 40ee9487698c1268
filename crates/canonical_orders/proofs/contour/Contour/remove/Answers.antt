-- A free vertex is taken off the contour.
use Rattle.std.proofs.Common.{◌≡◌, ◌<◌, ◌||◌, ◌∷◌, ℕ, Bool, List, true, length, slice_index, ap, ◌∙◌, sym, subst}
use Rattle.permutations.specs.Count.{some}
use Rattle.permutations.specs.Members.{is_distinct, is_member}
use Rattle.multigraph.specs.Marks.{is_marked}
use Rattle.faces.specs.Euler.{dart_count}
use Rattle.canonical_orders.specs.State.{AreEntered, heads_of, third_darts, arms_after, leads_on}
use Rattle.canonical_orders.proofs.Taking.{x-in, w-marked, some-on, arms-in, arms-differ, found-index, found-first, found-leaves, found-arms, found-all}
use Rattle.canonical_orders.proofs.contour.Contour.remove.Goals as goal

pub arms-requires-clause-first_in : goal.arms-requires-clause-first_in
arms-requires-clause-first_in c =
    let t = c.args.map.now in
    let s = c.args.self.now in
    let first = c.index-first.result.now in
    let is = found-index t c.requires.triangulated s.left.items s.on.items s.met.items c.args.vertex c.requires.ready first c.index-first.ensures in
    subst (λ (d : ℕ). d < dart_count t.graph) (sym (found-first t c.requires.triangulated s.left.items s.on.items s.met.items c.args.vertex c.requires.ready first is))
    (x-in t c.requires.triangulated s.left.items s.on.items s.met.items c.args.vertex c.requires.ready)

pub arms-requires-clause-some_on : goal.arms-requires-clause-some_on
arms-requires-clause-some_on c =
    let t = c.args.map.now in
    let s = c.args.self.now in
    let first = c.index-first.result.now in
    let is = found-index t c.requires.triangulated s.left.items s.on.items s.met.items c.args.vertex c.requires.ready first c.index-first.ensures in
    subst (λ (on : List Bool). some (dart_count t.graph) (leads_on t on first) ≡ true) (sym c.deref.ensures.value)
    (subst (λ (d : ℕ). some (dart_count t.graph) (leads_on t s.on.items d) ≡ true) (sym (found-first t c.requires.triangulated s.left.items s.on.items s.met.items c.args.vertex c.requires.ready first is))
    (some-on t c.requires.triangulated s.left.items s.on.items s.met.items c.args.vertex c.requires.ready))

pub heads-requires-clause-first_in : goal.heads-requires-clause-first_in
heads-requires-clause-first_in c =
    let t = c.args.map.now in
    let s = c.args.self.now in
    let first = c.index-first.result.now in
    let is = found-index t c.requires.triangulated s.left.items s.on.items s.met.items c.args.vertex c.requires.ready first c.index-first.ensures in
    subst (λ (d : ℕ). d < dart_count t.graph) (sym (found-first t c.requires.triangulated s.left.items s.on.items s.met.items c.args.vertex c.requires.ready first is))
    (x-in t c.requires.triangulated s.left.items s.on.items s.met.items c.args.vertex c.requires.ready)

pub heads-requires-clause-arms_in : goal.heads-requires-clause-arms_in
heads-requires-clause-arms_in c =
    let t = c.args.map.now in
    let s = c.args.self.now in
    let first = c.index-first.result.now in
    let is = found-index t c.requires.triangulated s.left.items s.on.items s.met.items c.args.vertex c.requires.ready first c.index-first.ensures in
    let found : c.in_ok-arms.arms.items ≡ arms_after t s.on.items first = c.in_ok-arms.ensures ∙ ap (λ (on : List Bool). arms_after t on first) c.deref.ensures.value in
    let same = found-arms t c.requires.triangulated s.left.items s.on.items s.met.items c.args.vertex c.requires.ready first c.in_ok-arms.arms.items is found in
    subst (λ (l : List ℕ). (k : ℕ) → k < length l → slice_index l k < dart_count t.graph) (sym (c.deref-2.ensures.value ∙ same))
    (arms-in t c.requires.triangulated s.left.items s.on.items s.met.items c.args.vertex c.requires.ready)

pub unmark-requires-clause-dart_in : goal.unmark-requires-clause-dart_in
unmark-requires-clause-dart_in c =
    let t = c.args.map.now in
    let s = c.args.self.now in
    let first = c.index-first.result.now in
    let is = found-index t c.requires.triangulated s.left.items s.on.items s.met.items c.args.vertex c.requires.ready first c.index-first.ensures in
    subst (λ (d : ℕ). d < dart_count t.graph) (sym (found-first t c.requires.triangulated s.left.items s.on.items s.met.items c.args.vertex c.requires.ready first is))
    (x-in t c.requires.triangulated s.left.items s.on.items s.met.items c.args.vertex c.requires.ready)

pub unmark-requires-clause-marked : goal.unmark-requires-clause-marked
unmark-requires-clause-marked c =
    let t = c.args.map.now in
    let s = c.args.self.now in
    let first = c.index-first.result.now in
    let is = found-index t c.requires.triangulated s.left.items s.on.items s.met.items c.args.vertex c.requires.ready first c.index-first.ensures in
    ap (is_marked s.on.items) (found-leaves t c.requires.triangulated s.left.items s.on.items s.met.items c.args.vertex c.requires.ready first is)
    ∙ w-marked t c.requires.triangulated s.left.items s.on.items s.met.items c.args.vertex c.requires.ready

pub enter_all-requires-clause-arms_in : goal.enter_all-requires-clause-arms_in
enter_all-requires-clause-arms_in c =
    let t = c.args.map.now in
    let s = c.args.self.now in
    let first = c.index-first.result.now in
    let is = found-index t c.requires.triangulated s.left.items s.on.items s.met.items c.args.vertex c.requires.ready first c.index-first.ensures in
    let found : c.in_ok-arms.arms.items ≡ arms_after t s.on.items first = c.in_ok-arms.ensures ∙ ap (λ (on : List Bool). arms_after t on first) c.deref.ensures.value in
    let same = found-arms t c.requires.triangulated s.left.items s.on.items s.met.items c.args.vertex c.requires.ready first c.in_ok-arms.arms.items is found in
    subst (λ (l : List ℕ). (k : ℕ) → k < length l → slice_index l k < dart_count t.graph) (sym (c.deref-3.ensures.value ∙ same))
    (arms-in t c.requires.triangulated s.left.items s.on.items s.met.items c.args.vertex c.requires.ready)

pub enter_all-requires-clause-differ : goal.enter_all-requires-clause-differ
enter_all-requires-clause-differ c =
    let t = c.args.map.now in
    let s = c.args.self.now in
    let first = c.index-first.result.now in
    let is = found-index t c.requires.triangulated s.left.items s.on.items s.met.items c.args.vertex c.requires.ready first c.index-first.ensures in
    let found : c.in_ok-arms.arms.items ≡ arms_after t s.on.items first = c.in_ok-arms.ensures ∙ ap (λ (on : List Bool). arms_after t on first) c.deref.ensures.value in
    let same = found-arms t c.requires.triangulated s.left.items s.on.items s.met.items c.args.vertex c.requires.ready first c.in_ok-arms.arms.items is found in
    subst (λ (l : List ℕ). is_distinct (heads_of t.graph l) ≡ true) (sym (c.deref-3.ensures.value ∙ same))
    (arms-differ t c.requires.triangulated s.left.items s.on.items s.met.items c.args.vertex c.requires.ready)

pub returns : goal.returns
returns c =
    let t = c.args.map.now in
    let s = c.args.self.now in
    let first = c.index-first.result.now in
    let arms = c.in_ok-arms.arms.items in
    let new = c.enter_all.new.self in
    let found : arms ≡ arms_after t s.on.items first = c.in_ok-arms.ensures ∙ ap (λ (on : List Bool). arms_after t on first) c.deref.ensures.value in
    let leads : c.in_ok-heads.heads.items ≡ heads_of t.graph (first ∷ arms) = c.in_ok-heads.ensures ∙ ap (λ (l : List ℕ). heads_of t.graph (first ∷ l)) c.deref-2.ensures.value in
    let entered : AreEntered t.graph (third_darts t arms) s.left.items new.left.items
    = subst (λ (l : List ℕ). AreEntered t.graph (third_darts t arms) l new.left.items) c.in_ok-unmark.ensures.left
    (subst (λ (l : List ℕ). AreEntered t.graph (third_darts t l) c.unmark.new.self.left.items new.left.items) c.deref-3.ensures.value c.in_ok-enter_all.ensures.left) in
    let marked : (v : ℕ) → is_marked new.on.items v ≡ (is_marked c.unmark.new.self.on.items v || is_member v (heads_of t.graph arms))
    = subst (λ (l : List ℕ). (v : ℕ) → is_marked new.on.items v ≡ (is_marked c.unmark.new.self.on.items v || is_member v (heads_of t.graph l))) c.deref-3.ensures.value c.in_ok-enter_all.ensures.marked in
    λ p. found-all t c.requires.triangulated s.left.items s.on.items s.met.items c.args.vertex p first arms c.in_ok-heads.heads.items new.left.items c.unmark.new.self.on.items new.on.items new.met.items c.of.result
    (found-index t c.requires.triangulated s.left.items s.on.items s.met.items c.args.vertex p first c.index-first.ensures) found leads entered c.in_ok-unmark.ensures.marked marked c.in_ok-enter_all.ensures.met c.of.ensures
