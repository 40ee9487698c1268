use Rattle.std.proofs.Common.{◌≡◌, ◌<◌, ◌+◌, ℕ, List, length, slice_index, sym, ap, ◌∙◌, subst, arith}
use Rattle.dart_maps.specs.Map.{twin}
use Rattle.faces.specs.Euler.{tail, dart_count}
use Rattle.contract_embed.specs.Steps.{first_dart}
use Rattle.contract_embed.specs.Tetrahedron.{turn}
use Rattle.contract_embed.proofs.Orders.{listed-push}
use Rattle.contract_embed.proofs.TetrahedronSteps.{tetrahedron-plane}
use Rattle.contract_embed.proofs.tetrahedron.tetrahedron_steps.Goals as goal

pub loop-dart-preserved : goal.loop-dart-preserved
loop-dart-preserved c =
    let g = c.args.g.now in
    let f : ℕ → ℕ = λ d. first_dart g (tail g d) (turn (tail g d) (tail g (twin d))) in
    let x : c.first_dart.result ≡ first_dart g (tail g c.loop-dart.dart) (turn (tail g c.loop-dart.dart) (tail g (twin c.loop-dart.dart))) =
    c.first_dart.ensures ∙ ap (first_dart g c.tail-from.result) (c.turn.ensures ∙ ap (turn c.tail-from.result) c.head.ensures.is) ∙ ap (λ u. first_dart g u (turn u (tail g (twin c.loop-dart.dart)))) c.tail-from.ensures.is in
    subst (λ (l : List ℕ). (length l ≡ c.loop-dart.dart + 1) × ((d : ℕ) → d < c.loop-dart.dart + 1 → slice_index l d ≡ first_dart g (tail g d) (turn (tail g d) (tail g (twin d))))) (sym c.in_ok-push.ensures.items)
    (listed-push f c.loop-dart.dart c.first_dart.result c.loop-dart.next.items c.loop-dart.invariant.0 c.loop-dart.invariant.1 x)

pub returns : goal.returns
returns c =
    let n : c.loop-dart.dart ≡ dart_count c.args.g.now = omega (arith, c.dart_count-dart-end.ensures.value, c.loop-dart-test.false) in
    tetrahedron-plane c.args.g.now c.dart_count-dart-end.ensures.graph c.requires.triconnected c.requires.four c.loop-dart.next.items (c.loop-dart.invariant.0 ∙ n)
    (λ d l. c.loop-dart.invariant.1 d (subst (λ m. d < m) (sym n) l))
