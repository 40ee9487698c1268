-- The one corner in the face that is kept, and the way to it.
use Rattle.std.proofs.Common.{◌≡◌, ◌∙◌, ◌==◌, ◌<◌, ℕ, Bool, List, true, length, filter, slice_index, sym, ap, subst, arith}
use Rattle.std.proofs.lemmas.List.{get_or_read}
use Rattle.permutations.specs.Members.{is_member}
use Rattle.multigraph.specs.Graph.{edge_count}
use Rattle.dart_maps.specs.Map.{twin}
use Rattle.dart_maps.proofs.Darts.{twin-below}
use Rattle.path_rotation.specs.Forced.{IsSoleCorner}
use Rattle.path_rotation.specs.Search.{IsWayFound}
use Rattle.path_rotation.specs.Fitting.{AreDartsAt}
use Rattle.path_rotation.proofs.Fits.{twin-within, sole-one}
use Rattle.path_rotation.proofs.attempts.way_to.Goals as goal

pub index-face-requires : goal.index-face-requires
index-face-requires c = omega (arith, twin-below (edge_count c.args.g.now) c.args.c c.requires.corner, c.twin.ensures.is, c.requires.labels.each, c.args.board.now.label.ok.0)

pub keep_in_face-requires : goal.keep_in_face-requires
keep_in_face-requires c = record {
  within = λ d m.
      let g = c.args.g.now in
      let there : AreDartsAt g c.deref-2.result.now c.args.z c.darts_at.new.darts.items = c.in_ok-darts_at.ensures in
      subst (λ (l : List ℕ). twin d < length l) (sym c.deref-3.ensures.value)
      (twin-within g c.deref-2.result.now c.args.z c.args.board.now.label.items d (there.each d (subst (λ (l : List ℕ). is_member d l ≡ true) c.deref-4.ensures.value m)) c.requires.labels);
}

pub returns-then-branch-clause-way : goal.returns-then-branch-clause-way
returns-then-branch-clause-way c =
    let g = c.args.g.now in
    let t = c.args.t in
    let z = c.args.z in
    let board = c.args.board.now in
    let label = board.label.items in
    let there = c.darts_at.new.darts.items in
    let kept = c.keep_in_face.new.kept.items in
    let at : AreDartsAt g board.drawn.items z there = subst (λ (l : List Bool). AreDartsAt g l z there) c.deref-2.ensures.value c.in_ok-darts_at.ensures in
    let face : c.index-face.result.now ≡ slice_index label (twin c.args.c) =
    get_or_read label c.twin.result c.index-face.result.now (omega (arith, twin-below (edge_count g) c.args.c c.requires.corner, c.twin.ensures.is, c.requires.labels.each)) c.index-face.ensures 0 ∙ ap (slice_index label) c.twin.ensures.is in
    let found : kept ≡ filter (λ d. slice_index label (twin d) == slice_index label (twin c.args.c)) there =
    c.in_ok-keep_in_face.ensures ∙ (λ i. filter (λ d. slice_index (c.deref-3.ensures.value i) (twin d) == face i) (c.deref-4.ensures.value i)) in
    let one : length kept ≡ 1 = omega arith in
    let k : c.index.result.now ≡ slice_index kept 0 = get_or_read kept 0 c.index.result.now (omega (arith, one)) c.index.ensures 0 in
    record {
      place = z;
      way = subst (λ (l : List Bool). IsWayFound g l t c.way_back.new.path.items z) c.deref-5.ensures.value (c.in_ok-way_back.ensures c.if-branch.true);
      sole = subst (λ (x : ℕ). IsSoleCorner g board.drawn.items label z (slice_index label (twin c.args.c)) x) (sym k) (sole-one g board.drawn.items label z (slice_index label (twin c.args.c)) there kept at found one);
    }
