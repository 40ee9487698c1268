use Rattle.std.proofs.Common.{◌≡◌, map, take}
use Rattle.whole_embed.proofs.copying.copies_of.Given as goal

abbrev pub invariant-loop-list : goal.invariant-loop-list
invariant-loop-list l = map (λ v. v.items) l.copies.items ≡ map (λ v. v.items) (take l.list-index l.lists)
