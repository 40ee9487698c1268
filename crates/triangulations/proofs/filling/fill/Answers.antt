use Rattle.std.proofs.Common.{◌≡◌, ◌<◌, ◌∙◌, true, false, slice_index, subst, sym}
use Rattle.triangulations.specs.Cutting.{is_triangle, can_cut}
use Rattle.triangulations.specs.Listed.{ListedMap}
use Rattle.triangulations.proofs.FillLoop.{IsFillingFrom, left_in, from-start, from-cut, from-onward, from-end, less-cut, less-onward}
use Rattle.triangulations.proofs.filling.fill.Goals as goal

pub loop-map-init : goal.loop-map-init
loop-map-init c = record { state = from-start c.args.start c.args.map.now c.requires.map c.requires.dart; pairs = c.requires.pairs }

pub loop-map-smaller-in_ok-dart : goal.loop-map-smaller-in_ok-dart
loop-map-smaller-in_ok-dart c =
    let old : ListedMap = c.loop-map.map in
    let s = c.loop-map.invariant.state in
    let can : can_cut old.graph (slice_index old.next) c.loop-map.dart ≡ true = sym c.can_cut.ensures ∙ c.if-can_cut.true in
    subst (λ z. left_in c.cut.new.map z < left_in old c.loop-map.dart) (sym c.in_ok-dart.ensures.first) (less-cut old c.loop-map.dart s.map s.dart can c.cut.new.map c.in_ok-dart.ensures.cut)

pub loop-map-preserved-in_ok-dart : goal.loop-map-preserved-in_ok-dart
loop-map-preserved-in_ok-dart c =
    let old : ListedMap = c.loop-map.map in
    let s = c.loop-map.invariant.state in
    let can : can_cut old.graph (slice_index old.next) c.loop-map.dart ≡ true = sym c.can_cut.ensures ∙ c.if-can_cut.true in
    let long : is_triangle (slice_index old.next) c.loop-map.dart ≡ false = sym c.is_triangle.ensures ∙ c.loop-map-test.true in
    record {
      state = subst (λ z. IsFillingFrom c.args.start c.args.map.now z c.cut.new.map) (sym c.in_ok-dart.ensures.first) (from-cut old c.loop-map.dart s.map s.dart can c.cut.new.map c.in_ok-dart.ensures.cut c.args.start c.args.map.now long s);
      pairs = c.in_ok-dart.ensures.pairs;
    }

pub loop-map-smaller : goal.loop-map-smaller
loop-map-smaller c =
    let old : ListedMap = c.loop-map.map in
    let cannot : can_cut old.graph (slice_index old.next) c.loop-map.dart ≡ false = sym c.can_cut.ensures ∙ c.if-can_cut.false in
    let long : is_triangle (slice_index old.next) c.loop-map.dart ≡ false = sym c.is_triangle.ensures ∙ c.loop-map-test.true in
    subst (λ z. left_in old z < left_in old c.loop-map.dart) (sym c.face-dart.ensures) (less-onward c.args.start c.args.map.now c.loop-map.dart old c.loop-map.invariant.state long cannot)

pub loop-map-preserved : goal.loop-map-preserved
loop-map-preserved c = record {
  state = subst (λ z. IsFillingFrom c.args.start c.args.map.now z c.loop-map.map) (sym c.face-dart.ensures) (from-onward c.args.start c.args.map.now c.loop-map.dart c.loop-map.map c.loop-map.invariant.state);
  pairs = c.loop-map.invariant.pairs;
}

pub returns-clause-filled : goal.returns-clause-filled
returns-clause-filled c = from-end c.args.start c.args.map.now c.loop-map.dart c.loop-map.map c.loop-map.invariant.state (sym c.is_triangle.ensures ∙ c.loop-map-test.false)
