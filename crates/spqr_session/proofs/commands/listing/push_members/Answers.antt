use Rattle.std.proofs.Common.{◌≡◌, ℕ, ◌+◌, List, ◌++◌, length, map, sym, ap, ◌∙◌, subst, arith}
use Rattle.std.specs.List.{concat}
use Rattle.multigraph.specs.Graph.{Multigraph}
use Rattle.rotations.specs.Rotation.{IsRotationSystem}
use Rattle.skeletons.specs.Lists.{IsRank}
use Rattle.spqr_script.specs.Answers.Rotation.{rotation_text}
use Rattle.spqr_session.proofs.MemberLines.{passed-count, passed-all, lines-more}
use Rattle.spqr_session.proofs.commands.listing.push_members.Goals as goal

pub push_member-requires-clause-system : goal.push_member-requires-clause-system
push_member-requires-clause-system c =
    subst (λ (r : List (List ℕ)). IsRotationSystem c.args.part.now.graph r) (sym c.rotation.ensures.value)
    (subst (λ (g : Multigraph). IsRotationSystem g c.next.new.p.rotation) (c.next.ensures.rest.graph ∙ c.loop-turn.invariant.0.0) c.rotation.ensures.state.plane.system)

pub returns-then-not-next-clause-count : goal.returns-then-not-next-clause-count
returns-then-not-next-clause-count c = λ l i m k.
    let h = c.loop-turn.invariant.1 l i m k in
    let e : i + c.loop-turn.turn + 1 ≡ length l = c.next.ensures.last l (i + c.loop-turn.turn) h.0 h.1 c.if-not-next.true in
    sym (passed-count l i c.loop-turn.turn c.loop-turn.walker.rotation h.1) ∙ ap (λ (x : List (List (List ℕ))). length x) (passed-all l i c.loop-turn.turn c.args.n e (omega (arith, c.loop-turn-test.true)))

pub loop-turn-preserved : goal.loop-turn-preserved
loop-turn-preserved c = (
  (c.next.ensures.rest.graph ∙ c.loop-turn.invariant.0.0, c.in_ok-kept.ensures.kept),
  λ l i m k.
      let h = c.loop-turn.invariant.1 l i m k in
      let t = c.loop-turn.turn in
      let n : i + t + 1 ≡ i + (t + 1) = omega arith in
      let r : IsRank l c.next.new.p.rotation (i + (t + 1)) = subst (IsRank l c.next.new.p.rotation) n (c.next.ensures.next l (i + t) h.0 h.1 c.if-not-next.false) in
      let line = c.in_ok-kept.ensures.line ∙ ap (λ (x : List (List ℕ)). c.loop-turn.out.items ++ rotation_text c.args.part.now c.args.b x) c.rotation.ensures.value in
      (c.next.ensures.list l h.0, r, lines-more l i (rotation_text c.args.part.now c.args.b) t c.next.new.p.rotation c.args.out.now.items c.loop-turn.out.items c.push_member.new.out.items r h.2 line),
)

pub returns-then-not-next-clause-lines : goal.returns-then-not-next-clause-lines
returns-then-not-next-clause-lines c = λ l i m k.
    let h = c.loop-turn.invariant.1 l i m k in
    let e : i + c.loop-turn.turn + 1 ≡ length l = c.next.ensures.last l (i + c.loop-turn.turn) h.0 h.1 c.if-not-next.true in
    h.2 ∙ ap (λ (x : List (List (List ℕ))). c.args.out.now.items ++ concat (map (rotation_text c.args.part.now c.args.b) x)) (passed-all l i c.loop-turn.turn c.args.n e (omega (arith, c.loop-turn-test.true)))
