use Rattle.std.proofs.Common.{◌≡◌, ℕ, ◌<◌, Bool, length, slice_index, sym, ap, ◌∙◌, subst}
use Rattle.permutations.specs.Exchange.{exchange}
use Rattle.ring_arena.specs.Links.{Links, AreNow, flipped, seen}
use Rattle.ring_arena.proofs.Flipped.{seen-count, flip-exchanged}
use Rattle.ring_arena.proofs.rings.Rings.exchange.Goals as goal

pub returns-then-self : goal.returns-then-self
returns-then-self c =
    let now : Links = c.args.self.now in let nodes : Links = c.self.inside.nodes in let new : Links = c.exchange.new.self in
    let count : length now.next ≡ length nodes.next = ap (λ (l : Links). length l.next) (sym c.self.view_is) ∙ seen-count c.self.inside.turned nodes c.keeps_rings.ensures in
    let there : flipped nodes ≡ now = ap (λ (t : Bool). seen t nodes) (sym c.if-self.true) ∙ c.self.view_is in
    let made : AreNow nodes new (exchange (slice_index nodes.prev c.args.a) (slice_index nodes.prev c.args.b) (slice_index nodes.next)) =
    subst (λ (p : ℕ). AreNow nodes new (exchange p (slice_index nodes.prev c.args.b) (slice_index nodes.next))) c.prev-before_a.ensures.value
    (subst (λ (q : ℕ). AreNow nodes new (exchange c.prev-before_a.result q (slice_index nodes.next))) c.prev-before_b.ensures.value c.exchange.ensures) in
    subst (λ (t : Bool). AreNow now (seen t new) (exchange c.args.a c.args.b (slice_index now.next))) (sym c.if-self.true)
    (subst (λ (l : Links). AreNow l (flipped new) (exchange c.args.a c.args.b (slice_index l.next))) there
    (flip-exchanged nodes new c.args.a c.args.b c.keeps_rings.ensures (subst (λ (n : ℕ). c.args.a < n) count c.requires.first) (subst (λ (n : ℕ). c.args.b < n) count c.requires.second) made))
