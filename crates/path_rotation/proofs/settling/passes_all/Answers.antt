-- Some drawn dart at the vertex of this turn is in the face, or none is.
use Rattle.std.proofs.Common.{◌≡◌, ◌∙◌, ◌==◌, ◌<◌, ℕ, inl, inr, Bool, List, true, length, filter, slice_index, sym, subst, arith}
use Rattle.std.specs.Vec.{vec_len}
use Rattle.std.proofs.lemmas.Bool.{cases_lt, both_ways, eqb-true, eq-eqb}
use Rattle.permutations.specs.Members.{is_member}
use Rattle.permutations.proofs.Arrangements.{member-at}
use Rattle.dart_maps.specs.Map.{twin}
use Rattle.path_rotation.specs.Forced.{IsCorner}
use Rattle.path_rotation.specs.Fitting.{AreDartsAt}
use Rattle.path_rotation.proofs.Fits.{twin-within}
use Rattle.path_rotation.proofs.LastLook.{near-corner, near-none}
use Rattle.path_rotation.proofs.Stamps.{at-members}
use Rattle.path_rotation.proofs.settling.passes_all.Goals as goal

pub darts_at-requires-clause-vertex : goal.darts_at-requires-clause-vertex
darts_at-requires-clause-vertex c = c.requires.attached (slice_index c.args.attached.now c.loop-z.z-index) (member-at c.args.attached.now c.loop-z.z-index 0 c.loop-z-test.true)

pub keep_in_face-requires : goal.keep_in_face-requires
keep_in_face-requires c = record {
  within = λ d m.
      let g = c.args.g.now in
      let z = slice_index c.args.attached.now c.loop-z.z-index in
      let there : AreDartsAt g c.deref.result.now z c.darts_at.new.darts.items = c.in_ok-darts_at.ensures in
      subst (λ (l : List ℕ). twin d < length l) (sym c.deref-in-loop-z.ensures.value)
      (twin-within g c.deref.result.now z c.args.board.now.label.items d (there.each d (subst (λ (l : List ℕ). is_member d l ≡ true) c.deref-in-loop-z-2.ensures.value m)) c.requires.labels);
}

pub returns-then-is_empty-clause-missed : goal.returns-then-is_empty-clause-missed
returns-then-is_empty-clause-missed c = λ _.
    let g = c.args.g.now in
    let board = c.args.board.now in
    let z = slice_index c.args.attached.now c.loop-z.z-index in
    let there = c.darts_at.new.darts.items in
    let near = c.keep_in_face.new.kept in
    let at : AreDartsAt g board.drawn.items z there = subst (λ (l : List Bool). AreDartsAt g l z there) c.deref.ensures.value c.in_ok-darts_at.ensures in
    let found : near.items ≡ filter (λ d. slice_index board.label.items (twin d) == c.args.face) there =
    c.in_ok-keep_in_face.ensures ∙ (λ i. filter (λ d. slice_index (c.deref-in-loop-z.ensures.value i) (twin d) == c.args.face) (c.deref-in-loop-z-2.ensures.value i)) in
    let zero : vec_len near ≡ 0 = eqb-true (vec_len near) 0 (sym c.is_empty.ensures ∙ c.if-is_empty.true) in
    (z, member-at c.args.attached.now c.loop-z.z-index 0 c.loop-z-test.true, near-none g board.drawn.items board.label.items z c.args.face there near.items at found (omega (arith, near.ok.0, zero)))

pub loop-z-preserved : goal.loop-z-preserved
loop-z-preserved c = λ j l.
    let g = c.args.g.now in
    let board = c.args.board.now in
    let z = slice_index c.args.attached.now c.loop-z.z-index in
    let there = c.darts_at.new.darts.items in
    let near = c.keep_in_face.new.kept in
    let at : AreDartsAt g board.drawn.items z there = subst (λ (l : List Bool). AreDartsAt g l z there) c.deref.ensures.value c.in_ok-darts_at.ensures in
    let found : near.items ≡ filter (λ d. slice_index board.label.items (twin d) == c.args.face) there =
    c.in_ok-keep_in_face.ensures ∙ (λ i. filter (λ d. slice_index (c.deref-in-loop-z.ensures.value i) (twin d) == c.args.face) (c.deref-in-loop-z-2.ensures.value i)) in
    elim (cases_lt j c.loop-z.z-index) [
      | inl b ↦ c.loop-z.invariant j b
      | inr b ↦
          let e : j ≡ c.loop-z.z-index = omega (arith, b, l) in
          subst (λ (i : ℕ). (k : ℕ) × IsCorner g board.drawn.items board.label.items (slice_index c.args.attached.now i) c.args.face k) (sym e)
          (near-corner g board.drawn.items board.label.items z c.args.face there near.items at found (λ q.
          let zero : vec_len near ≡ 0 = omega (arith, near.ok.0, q) in
          both_ways (vec_len near == 0) (sym c.is_empty.ensures ∙ c.if-is_empty.false) (eq-eqb (vec_len near) 0 zero)))
    ]

pub returns-clause-passed : goal.returns-clause-passed
returns-clause-passed c = λ _.
    let board = c.args.board.now in
    at-members c.args.attached.now (λ z. (k : ℕ) × IsCorner c.args.g.now board.drawn.items board.label.items z c.args.face k) (λ j l. c.loop-z.invariant j (omega (arith, l, c.loop-z-test.false)))
