use Rattle.std.proofs.Common.{◌≡◌, ◌++◌, length, map, take, drop}
use Rattle.skel_embed.specs.Exchanges.{turned_choice}
use Rattle.skel_embed.specs.Flat.{lists_in, AreFlat}
use Rattle.skel_embed.proofs.choices.turn_all.Given as goal

abbrev pub invariant-loop-k : goal.invariant-loop-k
invariant-loop-k l = (lists_in l.keys.items l.ends ≡ map turned_choice (take l.k (lists_in l.initial.keys.items l.ends)) ++ drop l.k (lists_in l.initial.keys.items l.ends))
    × (length (lists_in l.keys.items l.ends) ≡ length (lists_in l.initial.keys.items l.ends))
    × AreFlat (lists_in l.keys.items l.ends) l.keys.items l.ends
