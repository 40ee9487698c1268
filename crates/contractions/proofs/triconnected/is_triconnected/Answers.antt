use Rattle.std.proofs.Common.{◌≡◌, true, false, refl, arith}
use Rattle.std.proofs.lemmas.Bool.{both_ways}
use Rattle.graph_theory.proofs.Triconnected.{first-four, four-vertices}
use Rattle.contractions.proofs.PairsRemoved.{pairs-removed, pair-twice}
use Rattle.contractions.proofs.triconnected.is_triconnected.Goals as goal
use Rattle.contractions.proofs.triconnected.is_triconnected.Goals.{then-vertex_count-lt4-via-then-vertex_count-lt4, then-vertex_count-lt4-via-else-vertex_count-lt4+then-not-is_simple}

pub returns : goal.returns
returns c = (
  λ _. record {
    simple = c.if-not-is_simple.ensures.simple refl;
    four = first-four c.args.g.now (omega (arith, c.if-vertex_count-lt4.false, c.vertex_count.ensures.value));
    stays_connected = pairs-removed c.args.g.now c.vertex_count.ensures.graph
        (λ a b la lb. c.loop-a.invariant a b (omega (arith, la, c.loop-a-test.false, c.vertex_count-a-end.ensures.value)) lb);
  },
  λ _. refl,
)

pub returns-then-not-branch : goal.returns-then-not-branch
returns-then-not-branch c = (
  λ e. absurd (both_ways false refl e),
  λ t.
      let u : c.in_ok-stays_connected.field-0 ≡ true = c.in_ok-stays_connected.ensures.exact (λ b. pair-twice c.args.g.now c.vertex_count.ensures.graph c.loop-a.a b (t.stays_connected c.loop-a.a b)) in
      grind (arith, u, c.if-not-branch.true),
)

pub returns-then-vertex_count-lt4 : goal.returns-then-vertex_count-lt4
returns-then-vertex_count-lt4 c = (
  λ e. absurd (both_ways false refl e),
  λ t. elim c.then-vertex_count-lt4.branch [
    | then-vertex_count-lt4-via-then-vertex_count-lt4 w ↦ absurd (omega (arith, four-vertices c.args.g.now t, w.if-vertex_count-lt4.true, c.vertex_count.ensures.value))
    | then-vertex_count-lt4-via-else-vertex_count-lt4+then-not-is_simple w ↦
        let u : w.is_simple.result ≡ true = w.is_simple.ensures.exact t.simple in
        grind (arith, u, w.if-not-is_simple.true)
  ],
)
