use Rattle.ring_arena.proofs.Exchanges.{put_behind}
use Rattle.ring_arena.proofs.rings.Rings.link_after.Goals as goal

pub returns : goal.returns
returns c = put_behind c.args.self.now c.exchange.new.self c.args.d c.args.x c.requires.alone c.requires.other c.exchange.ensures
