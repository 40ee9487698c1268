use Rattle.std.proofs.Common.{sym, ap, ◌∙◌, subst, ◌<◌, ℕ, slice_index, length}
use Rattle.std.specs.Vec.{vec_ptr}
use Rattle.ring_arena.proofs.Nodes.{read_item, next-long, after_number}
use Rattle.ring_arena.proofs.arena.Nodes.next.Goals as goal

pub returns-clause-value : goal.returns-clause-value
returns-clause-value c =
    let nodes = c.self.inside.nodes.items in let base = vec_ptr c.self.inside.nodes in let node = c.index.result.now in
    let within : c.args.d < length nodes = subst (λ (n : ℕ). c.args.d < n) (ap (λ r. length r.next) (sym c.self.view_is) ∙ next-long base nodes) c.requires in
    after_number base nodes c.args.d node c.self.invariant.0 (read_item nodes c.args.d node within c.index.ensures) ∙ ap (λ r. slice_index r.next c.args.d) c.self.view_is

pub returns-clause-within : goal.returns-clause-within
returns-clause-within c =
    let nodes = c.self.inside.nodes.items in let base = vec_ptr c.self.inside.nodes in let node = c.index.result.now in
    let long = ap (λ r. length r.next) (sym c.self.view_is) ∙ next-long base nodes in
    let within : c.args.d < length nodes = subst (λ (n : ℕ). c.args.d < n) long c.requires in
    let is = c.self.invariant.0.each c.args.d node (read_item nodes c.args.d node within c.index.ensures) in
    subst (λ (n : ℕ). node.after < n) (sym long) (subst (λ (n : ℕ). n < length nodes) (sym is.followed) is.next_in)
