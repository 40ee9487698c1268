use Rattle.std.proofs.Common.{◌≡◌, ◌≢◌, ◌+◌, length, sym, arith}
use Rattle.long_face.proofs.Changes.{follow-end, follow-next}
use Rattle.long_face.proofs.exchanged.following.Goals as goal

pub returns-then-next-keys : goal.returns-then-next-keys
returns-then-next-keys c =
    let e : c.place_of-next.result + 1 ≡ length c.args.keys.now = omega (arith, c.if-next-keys.true) in
    sym (follow-end c.args.keys.now c.place_of-next.result c.args.key c.requires.once c.place_of-next.ensures e)

pub returns-else-next-keys : goal.returns-else-next-keys
returns-else-next-keys c =
    let n : c.place_of-next.result + 1 ≢ length c.args.keys.now = λ e. omega (arith, e, c.if-next-keys.false) in
    sym (follow-next c.args.keys.now c.place_of-next.result c.args.key c.requires.once c.place_of-next.ensures n)
