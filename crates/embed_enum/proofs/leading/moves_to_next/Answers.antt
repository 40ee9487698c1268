use Rattle.std.proofs.Common.{◌+◌, ◌-◌, ◌<◌, ℕ, List, length, sym, subst, arith}
use Rattle.skel_embed.specs.Block.{BlockState}
use Rattle.skel_embed.specs.Values.{as_move, as_moves}
use Rattle.skel_embed.specs.declared.Move.{Move}
use Rattle.embed_enum.specs.Changes.{node_digit, AreResetBy}
use Rattle.embed_enum.proofs.Leads.{some-held, led-stepped, next-led}
use Rattle.embed_enum.proofs.States.{state-length}
use Rattle.embed_enum.proofs.Walks.{last-number, rank-is}
use Rattle.embed_enum.proofs.leading.moves_to_next.Goals as goal

pub returns-in-Some : goal.returns-in-Some
returns-in-Some c =
    let p : BlockState = c.args.p.now in
    let k : ℕ = c.loop-k.k - 1 in
    let l : k < length p.tree = omega (arith, c.loop-k-test.true, c.loop-k.invariant.within) in
    let found = some-held _ _ c.in-Some.is (c.in_ok-one.ensures {u = tt}) in
    let made = led-stepped p c.belongs.ensures k (node_digit p k + 1) (as_move c.in-Some.one) found.1 in
    let start : AreResetBy p made.0 (k + 1) (k + 1) (as_moves c.in_ok-first.first.items) = subst (λ (z : List Move). AreResetBy p made.0 (k + 1) (k + 1) (as_moves z)) (sym (c.in_ok-first.ensures {u = tt}).items) made.2 in
    next-led p made.0 c.belongs.ensures k (as_moves c.in_ok-moves.moves) l found.0 made.1 (c.in_ok-moves.ensures {u = tt} made.0 start) (λ j a b. c.loop-k.invariant.last j (omega (arith, a, c.loop-k-test.true)) b)

pub returns : goal.returns
returns c = λ l i m r.
    let p : BlockState = c.args.p.now in
    omega (
      arith,
      rank-is p c.belongs.ensures l i m r,
      state-length p c.belongs.ensures l m,
      last-number p (λ j b. c.loop-k.invariant.last j (omega (arith, c.loop-k-test.false)) b),
    )
