use Rattle.std.proofs.Common.{subst, slice_index}
use Rattle.permutations.specs.Exchange.{exchange}
use Rattle.ring_arena.specs.Links.{AreNow}
use Rattle.ring_arena.proofs.Exchanges.{unlinked}
use Rattle.ring_arena.proofs.rings.Rings.unlink.Goals as goal

pub returns : goal.returns
returns c = unlinked c.args.self.now c.exchange.new.self c.args.d c.keeps_rings.ensures c.requires
    (subst (λ p. AreNow c.args.self.now c.exchange.new.self (exchange p c.args.d (slice_index c.args.self.now.next))) c.prev-before.ensures.value c.exchange.ensures)
