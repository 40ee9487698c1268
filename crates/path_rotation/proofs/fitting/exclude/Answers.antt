-- The drawn darts have labels, and those corners are kept whose faces have the stamp.
use Rattle.std.proofs.Common.{◌≡◌, ◌∙◌, ◌==◌, ◌<◌, ℕ, Bool, List, true, length, drop, filter, slice_index, sym, subst}
use Rattle.std.proofs.lemmas.List.{take_at}
use Rattle.permutations.specs.Members.{is_member}
use Rattle.dart_maps.specs.Map.{twin}
use Rattle.faces.specs.Euler.{tail}
use Rattle.path_rotation.specs.Search.{IsWayFound}
use Rattle.path_rotation.specs.Fitting.{AreDartsAt, AreFitting}
use Rattle.path_rotation.proofs.Fits.{twin-within, fitting-more}
use Rattle.path_rotation.proofs.fitting.exclude.Goals as goal

pub stamp_faces-requires-clause-within : goal.stamp_faces-requires-clause-within
stamp_faces-requires-clause-within c = λ d m.
    let g = c.args.g.now in
    let there : AreDartsAt g c.deref-2.result.now c.args.z c.darts_at.new.darts.items = c.in_ok-darts_at.ensures in
    subst (λ (l : List ℕ). twin d < length l) (sym c.deref-3.ensures.value)
    (twin-within g c.deref-2.result.now c.args.z c.args.board.now.label.items d (there.each d (subst (λ (l : List ℕ). is_member d l ≡ true) c.deref-4.ensures.value m)) c.requires.labels)

pub keep_passing-requires-clause-within : goal.keep_passing-requires-clause-within
keep_passing-requires-clause-within c = λ d m.
    let g = c.args.g.now in
    subst (λ (l : List ℕ). twin d < length l) (sym c.deref-5.ensures.value)
    (twin-within g c.args.board.now.drawn.items (tail g c.args.t) c.args.board.now.label.items d (c.requires.fitting.each d (subst (λ (l : List ℕ). is_member d l ≡ true) c.deref-7.ensures.value m)) c.requires.labels)

pub returns-clause-fitting : goal.returns-clause-fitting
returns-clause-fitting c =
    let g = c.args.g.now in
    let board = c.args.board.now in
    let label = board.label.items in
    let passed = c.stamp_faces.new.passed in
    let there = c.darts_at.new.darts.items in
    let corners = c.args.fits.now.corners.items in
    let stamp = c.saturating_add-fits.result in
    let at : AreDartsAt g board.drawn.items c.args.z there = subst (λ (l : List Bool). AreDartsAt g l c.args.z there) c.deref-2.ensures.value c.in_ok-darts_at.ensures in
    let way : IsWayFound g board.on.items c.args.t c.way_back.new.path.items c.args.z =
    subst (λ (l : List Bool). IsWayFound g l c.args.t c.way_back.new.path.items c.args.z) c.deref-8.ensures.value (c.in_ok-way_back.ensures c.if-not-branch.false) in
    let stamped : (d : ℕ) → is_member d there ≡ true → slice_index passed (slice_index label (twin d)) ≡ stamp = λ d m.
    subst (λ (l : List ℕ). slice_index passed (slice_index l (twin d)) ≡ stamp) c.deref-3.ensures.value
    (c.stamp_faces.ensures.stamped d (subst (λ (l : List ℕ). is_member d l ≡ true) (sym c.deref-4.ensures.value) m)) in
    let e6 : c.deref-6.result.now ≡ passed =
    c.deref-6.ensures.value ∙ take_at passed (drop (length passed) c.args.fits.now.passed.items) c.args.fits.now.passed.len (c.stamp_faces.auto.passed ∙ c.deref_mut.ensures.len) in
    let kept : c.keep_passing.new.kept.items ≡ filter (λ d. slice_index passed (slice_index label (twin d)) == stamp) corners =
    c.in_ok-keep_passing.ensures ∙ (λ i. filter (λ d. slice_index (e6 i) (slice_index (c.deref-5.ensures.value i) (twin d)) == stamp) (c.deref-7.ensures.value i)) in
    subst (λ (l : List ℕ). AreFitting g board.drawn.items board.on.items label c.args.t l) (sym (λ i. (c.swap.ensures.x_after i).items))
    (fitting-more g board.drawn.items board.on.items label c.args.t corners c.args.z c.way_back.new.path.items there passed stamp c.keep_passing.new.kept.items c.requires.fitting way at stamped kept)
