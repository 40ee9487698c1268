use Rattle.std.proofs.Common.{ℕ, List, sym, subst, arith}
use Rattle.std.proofs.lemmas.List.{get_or_read}
use Rattle.rotations.specs.Runs.{IsOutside}
use Rattle.rotations.proofs.Runs.{outside-at}
use Rattle.graph_tests.proofs.rotation_systems.make.Goals as goal

-- the places show that the third edge is outside
pub move_run-requires : goal.move_run-requires
move_run-requires c =
    subst (λ (o : List ℕ). IsOutside o c.index.result.now c.index-then-k-len.result.now c.index-then-k-len-2.result.now) c.in_ok-order.ensures
    (subst (λ (p : (ℕ × ℕ × ℕ)). IsOutside c.in_ok-order.order.items p.0 p.1 p.2)
    (λ t. (
      sym (get_or_read c.in_ok-order.order.items c.in-Move.i c.index.result.now (omega (arith, c.if-i-j.true, c.if-j-k.true, c.if-k-len.true, c.len.ensures, c.in_ok-order.order.ok.0)) c.index.ensures 0) t,
      sym (get_or_read c.in_ok-order.order.items c.in-Move.j c.index-then-k-len.result.now (omega (arith, c.if-j-k.true, c.if-k-len.true, c.len.ensures, c.in_ok-order.order.ok.0)) c.index-then-k-len.ensures 0) t,
      sym (get_or_read c.in_ok-order.order.items c.in-Move.k c.index-then-k-len-2.result.now (omega (arith, c.if-k-len.true, c.len.ensures, c.in_ok-order.order.ok.0)) c.index-then-k-len-2.ensures 0) t,
    ))
    (outside-at c.in_ok-order.order.items c.in-Move.i c.in-Move.j c.in-Move.k c.if-i-j.true c.if-j-k.true (omega (arith, c.if-k-len.true, c.len.ensures, c.in_ok-order.order.ok.0))))
