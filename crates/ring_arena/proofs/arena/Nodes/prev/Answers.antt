use Rattle.std.proofs.Common.{sym, ap, ◌∙◌, subst, ◌<◌, ℕ, slice_index, length, lit<}
use Rattle.std.specs.Vec.{vec_ptr}
use Rattle.ring_arena.specs.Nodes.{number_at}
use Rattle.ring_arena.proofs.Nodes.{read_item, next-long, before_number}
use Rattle.ring_arena.proofs.arena.Nodes.prev.Goals as goal

pub behind-requires : goal.behind-requires
behind-requires c =
    let nodes = c.self.inside.nodes.items in let base = vec_ptr c.self.inside.nodes in let node = c.index.result.now in
    let within : c.args.d < length nodes = subst (λ (n : ℕ). c.args.d < n) (ap (λ r. length r.next) (sym c.self.view_is) ∙ next-long base nodes) c.requires in
    let is = c.self.invariant.0.each c.args.d node (read_item nodes c.args.d node within c.index.ensures) in
    (number_at base node.prev, is.prev_in, is.prev_place)

pub returns-clause-value : goal.returns-clause-value
returns-clause-value c =
    let nodes = c.self.inside.nodes.items in let base = vec_ptr c.self.inside.nodes in let node = c.index.result.now in
    let within : c.args.d < length nodes = subst (λ (n : ℕ). c.args.d < n) (ap (λ r. length r.next) (sym c.self.view_is) ∙ next-long base nodes) c.requires in
    let held = read_item nodes c.args.d node within c.index.ensures in
    let is = c.self.invariant.0.each c.args.d node held in
    before_number base nodes c.args.d node c.behind.result.now c.self.invariant.0 held (c.behind.ensures (number_at base node.prev) is.prev_in (lit< tt) is.prev_place)
    ∙ ap (λ r. slice_index r.prev c.args.d) c.self.view_is

pub returns-clause-within : goal.returns-clause-within
returns-clause-within c =
    let nodes = c.self.inside.nodes.items in let base = vec_ptr c.self.inside.nodes in let node = c.index.result.now in
    let long = ap (λ r. length r.next) (sym c.self.view_is) ∙ next-long base nodes in
    let within : c.args.d < length nodes = subst (λ (n : ℕ). c.args.d < n) long c.requires in
    let held = read_item nodes c.args.d node within c.index.ensures in
    let is = c.self.invariant.0.each c.args.d node held in
    let same = (c.self.invariant.0.each (number_at base node.prev) c.behind.result.now (c.behind.ensures (number_at base node.prev) is.prev_in (lit< tt) is.prev_place)).numbered in
    subst (λ (n : ℕ). c.behind.result.now.number < n) (sym long) (subst (λ (n : ℕ). n < length nodes) (sym same) is.prev_in)
