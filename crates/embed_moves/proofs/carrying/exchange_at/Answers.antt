use Rattle.std.proofs.Common.{◌<◌, length, slice_index_or, arith}
use Rattle.skeletons.specs.Choices.{choice}
use Rattle.skel_embed.specs.Exchanges.{exchanged}
use Rattle.embed_moves.proofs.Near.{keys-long, key-own, keeps-permuted, keeps-same}
use Rattle.embed_moves.proofs.carrying.exchange_at.Goals as goal

pub bounds-keys-i : goal.bounds-keys-i
bounds-keys-i c = keys-long c.args.p.now c.belongs.ensures c.args.k c.args.i c.requires.node c.keys.result.now c.keys.ensures c.requires.place

pub offset_bounds-keys-i : goal.offset_bounds-keys-i
offset_bounds-keys-i c = let l : c.args.i < length c.keys.result.now = keys-long c.args.p.now c.belongs.ensures c.args.k c.args.i c.requires.node c.keys.result.now c.keys.ensures c.requires.place in
    omega (arith, l, c.keys.type_inv.1)

pub exchange_groups-requires-clause-first : goal.exchange_groups-requires-clause-first
exchange_groups-requires-clause-first c = key-own c.args.p.now c.belongs.ensures c.args.k c.args.i c.requires.node c.keys.result.now c.keys.ensures
    (keys-long c.args.p.now c.belongs.ensures c.args.k c.args.i c.requires.node c.keys.result.now c.keys.ensures c.requires.place)

pub returns-then-here-key : goal.returns-then-here-key
returns-then-here-key c = keeps-permuted c.args.p.now c.exchange_groups.new.self c.belongs.ensures c.args.k c.requires.node
    (exchanged (slice_index_or c.keys.result.now c.args.i 0) c.args.key (choice c.args.p.now.tree c.args.p.now.rotation c.args.k)) c.exchange_groups.ensures.permute c.exchange_groups.ensures.rest

pub returns-else-here-key : goal.returns-else-here-key
returns-else-here-key c = keeps-same c.args.p.now c.args.k
