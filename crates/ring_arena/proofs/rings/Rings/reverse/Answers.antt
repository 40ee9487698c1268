use Rattle.std.proofs.Common.{◌≡◌, ℕ, ◌<◌, length, sym, ap, ◌∙◌, subst}
use Rattle.ring_arena.specs.Links.{Links, AreNow, reversed_at, seen}
use Rattle.ring_arena.proofs.Flipped.{seen-count, seen-reversed}
use Rattle.ring_arena.proofs.rings.Rings.reverse.Goals as goal

pub returns : goal.returns
returns c =
    let nodes : Links = c.self.inside.nodes in let new : Links = c.reverse.new.self in
    let count : length c.args.self.now.next ≡ length nodes.next = ap (λ (l : Links). length l.next) (sym c.self.view_is) ∙ seen-count c.self.inside.turned nodes c.keeps_rings.ensures in
    subst (λ (l : Links). AreNow l (seen c.self.inside.turned new) (reversed_at l c.args.d)) c.self.view_is
    (seen-reversed c.self.inside.turned nodes new c.args.d c.keeps_rings.ensures (subst (λ (n : ℕ). c.args.d < n) count c.requires) c.reverse.ensures)
