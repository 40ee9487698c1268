-- The corners at the tail, those that are left, and the one that is chosen.
use Rattle.std.proofs.Common.{◌≡◌, ◌∙◌, ◌∷◌, [], ℕ, ◌<◌, ◌⊎◌, Bool, List, Option, Some, IfSome, true, length, slice_index, sym, subst, arith}
use Rattle.std.specs.Vec.{vec_len}
use Rattle.std.proofs.lemmas.Bool.{eqb-true}
use Rattle.permutations.specs.Members.{is_member}
use Rattle.multigraph.specs.Graph.{edge_count}
use Rattle.dart_maps.specs.Map.{twin, same_face}
use Rattle.dart_maps.proofs.Darts.{twin-below}
use Rattle.faces.specs.Euler.{tail, dart_count}
use Rattle.path_rotation.specs.Fitting.{AreDartsAt, MayDraw, IsWayTo}
use Rattle.path_rotation.proofs.Fits.{fitting-begin, fitting-choice}
use Rattle.path_rotation.proofs.BoardSteps.{board-none}
use Rattle.path_rotation.proofs.attempts.choose.Goals as goal

pub narrow-requires-clause-fitting : goal.narrow-requires-clause-fitting
narrow-requires-clause-fitting c =
    let g = c.args.g.now in
    let board = c.args.board.now in
    let corners = c.darts_at.new.darts.items in
    let at : AreDartsAt g board.drawn.items (tail g c.args.t) corners =
    subst (λ (l : List Bool). AreDartsAt g l (tail g c.args.t) corners) c.deref.ensures.value (subst (λ (v : ℕ). AreDartsAt g c.deref.result.now v corners) c.tail.ensures.is c.in_ok-darts_at.ensures) in
    fitting-begin g board.drawn.items board.on.items board.label.items c.args.t corners at

pub returns-then-is_empty-clause-choice : goal.returns-then-is_empty-clause-choice
returns-then-is_empty-clause-choice c =
    let g = c.args.g.now in
    let board = c.args.board.now in
    let left = c.narrow.new.fits.corners in
    let zero : vec_len left ≡ 0 = eqb-true (vec_len left) 0 (sym c.is_empty.ensures ∙ c.if-is_empty.true) in
    let none : length left.items ≡ 0 = omega (arith, left.ok.0, zero) in
    board-none g c.keeps_limits.ensures.graph board.drawn.items board.on.items board.next.items board.label.items c.args.t left.items c.requires.board c.requires.foot c.in_ok-narrow.ensures.fitting none

pub find_way-requires-clause-corner : goal.find_way-requires-clause-corner
find_way-requires-clause-corner c =
    let g = c.args.g.now in
    let board = c.args.board.now in
    let corners = c.darts_at.new.darts.items in
    let other = c.one_of_two-other.result in
    let at : AreDartsAt g board.drawn.items (tail g c.args.t) corners =
    subst (λ (l : List Bool). AreDartsAt g l (tail g c.args.t) corners) c.deref.ensures.value (subst (λ (v : ℕ). AreDartsAt g c.deref.result.now v corners) c.tail.ensures.is c.in_ok-darts_at.ensures) in
    let member : IfSome other (λ x. is_member x corners ≡ true) = subst (λ (l : List ℕ). IfSome other (λ x. is_member x l ≡ true)) c.deref-3.ensures.value c.one_of_two-other.ensures.member in
    let two : IfSome other (λ x. (d : ℕ) → is_member d corners ≡ true → (d ≡ x) ⊎ (d ≡ slice_index board.next.items x)) =
    subst (λ (l : List ℕ). IfSome other (λ x. (d : ℕ) → is_member d l ≡ true → (d ≡ x) ⊎ (d ≡ slice_index board.next.items x))) c.deref-3.ensures.value
    (subst (λ (l : List ℕ). IfSome other (λ x. (d : ℕ) → is_member d c.deref-3.result.now ≡ true → (d ≡ x) ⊎ (d ≡ slice_index l x))) c.deref-2.ensures.value c.one_of_two-other.ensures.two) in
    let one : (c.narrow.new.fits.corners.items ≡ c.in-Some.c ∷ []) ⊎ (other ≡ Some c.in-Some.c) =
    subst (λ (l : List ℕ). (l ≡ c.in-Some.c ∷ []) ⊎ (other ≡ Some c.in-Some.c)) c.deref-4.ensures.value c.in-Some.ensures in
    let may : MayDraw g board.drawn.items board.on.items board.next.items board.label.items c.args.t c.in-Some.c =
    fitting-choice g board.drawn.items board.on.items board.next.items board.label.items c.args.t corners c.narrow.new.fits.corners.items c.args.first other c.in-Some.c at c.in_ok-narrow.ensures.fitting
    c.requires.turns c.one_of_two-other.ensures.wanted member two one in
    may.at.below

pub is_on_face-requires-clause-from : goal.is_on_face-requires-clause-from
is_on_face-requires-clause-from c =
    let g = c.args.g.now in
    let board = c.args.board.now in
    let corners = c.darts_at.new.darts.items in
    let other = c.one_of_two-other.result in
    let at : AreDartsAt g board.drawn.items (tail g c.args.t) corners =
    subst (λ (l : List Bool). AreDartsAt g l (tail g c.args.t) corners) c.deref.ensures.value (subst (λ (v : ℕ). AreDartsAt g c.deref.result.now v corners) c.tail.ensures.is c.in_ok-darts_at.ensures) in
    let member : IfSome other (λ x. is_member x corners ≡ true) = subst (λ (l : List ℕ). IfSome other (λ x. is_member x l ≡ true)) c.deref-3.ensures.value c.one_of_two-other.ensures.member in
    let two : IfSome other (λ x. (d : ℕ) → is_member d corners ≡ true → (d ≡ x) ⊎ (d ≡ slice_index board.next.items x)) =
    subst (λ (l : List ℕ). IfSome other (λ x. (d : ℕ) → is_member d l ≡ true → (d ≡ x) ⊎ (d ≡ slice_index board.next.items x))) c.deref-3.ensures.value
    (subst (λ (l : List ℕ). IfSome other (λ x. (d : ℕ) → is_member d c.deref-3.result.now ≡ true → (d ≡ x) ⊎ (d ≡ slice_index l x))) c.deref-2.ensures.value c.one_of_two-other.ensures.two) in
    let one : (c.narrow.new.fits.corners.items ≡ c.in-Some.c ∷ []) ⊎ (other ≡ Some c.in-Some.c) =
    subst (λ (l : List ℕ). (l ≡ c.in-Some.c ∷ []) ⊎ (other ≡ Some c.in-Some.c)) c.deref-4.ensures.value c.in-Some.ensures in
    let may : MayDraw g board.drawn.items board.on.items board.next.items board.label.items c.args.t c.in-Some.c =
    fitting-choice g board.drawn.items board.on.items board.next.items board.label.items c.args.t corners c.narrow.new.fits.corners.items c.args.first other c.in-Some.c at c.in_ok-narrow.ensures.fitting
    c.requires.turns c.one_of_two-other.ensures.wanted member two one in
    subst (λ (d : ℕ). d < dart_count g) (sym c.twin.ensures.is) (twin-below (edge_count g) c.in-Some.c may.at.below)

pub is_on_face-requires-clause-to : goal.is_on_face-requires-clause-to
is_on_face-requires-clause-to c =
    let g = c.args.g.now in
    let board = c.args.board.now in
    let way = subst (λ (o : Option ℕ). IfSome o (IsWayTo g board.drawn.items board.on.items board.label.items c.args.t c.in-Some.c c.find_way.new.fits.path.items)) c.in-Some-2.is c.in_ok-k.ensures.way in
    subst (λ (d : ℕ). d < dart_count g) (sym c.twin-2.ensures.is) (twin-below (edge_count g) c.in-Some-2.k way.sole.corner.below)

pub returns-then-is_on_face-clause-choice : goal.returns-then-is_on_face-clause-choice
returns-then-is_on_face-clause-choice c =
    let g = c.args.g.now in
    let board = c.args.board.now in
    let corners = c.darts_at.new.darts.items in
    let other = c.one_of_two-other.result in
    let at : AreDartsAt g board.drawn.items (tail g c.args.t) corners =
    subst (λ (l : List Bool). AreDartsAt g l (tail g c.args.t) corners) c.deref.ensures.value (subst (λ (v : ℕ). AreDartsAt g c.deref.result.now v corners) c.tail.ensures.is c.in_ok-darts_at.ensures) in
    let member : IfSome other (λ x. is_member x corners ≡ true) = subst (λ (l : List ℕ). IfSome other (λ x. is_member x l ≡ true)) c.deref-3.ensures.value c.one_of_two-other.ensures.member in
    let two : IfSome other (λ x. (d : ℕ) → is_member d corners ≡ true → (d ≡ x) ⊎ (d ≡ slice_index board.next.items x)) =
    subst (λ (l : List ℕ). IfSome other (λ x. (d : ℕ) → is_member d l ≡ true → (d ≡ x) ⊎ (d ≡ slice_index board.next.items x))) c.deref-3.ensures.value
    (subst (λ (l : List ℕ). IfSome other (λ x. (d : ℕ) → is_member d c.deref-3.result.now ≡ true → (d ≡ x) ⊎ (d ≡ slice_index l x))) c.deref-2.ensures.value c.one_of_two-other.ensures.two) in
    let one : (c.narrow.new.fits.corners.items ≡ c.in-Some.c ∷ []) ⊎ (other ≡ Some c.in-Some.c) =
    subst (λ (l : List ℕ). (l ≡ c.in-Some.c ∷ []) ⊎ (other ≡ Some c.in-Some.c)) c.deref-4.ensures.value c.in-Some.ensures in
    let may : MayDraw g board.drawn.items board.on.items board.next.items board.label.items c.args.t c.in-Some.c =
    fitting-choice g board.drawn.items board.on.items board.next.items board.label.items c.args.t corners c.narrow.new.fits.corners.items c.args.first other c.in-Some.c at c.in_ok-narrow.ensures.fitting
    c.requires.turns c.one_of_two-other.ensures.wanted member two one in
    let face : same_face (edge_count g) (slice_index board.next.items) (twin c.in-Some.c) (twin c.in-Some-2.k) ≡ true =
    subst (λ (l : List ℕ). same_face (edge_count g) (slice_index l) (twin c.in-Some.c) (twin c.in-Some-2.k) ≡ true) c.deref-6.ensures.value
    (subst (λ (x : ℕ). same_face (edge_count g) (slice_index c.deref-6.result.now) x (twin c.in-Some-2.k) ≡ true) c.twin.ensures.is
    (subst (λ (x : ℕ). same_face (edge_count g) (slice_index c.deref-6.result.now) c.twin.result x ≡ true) c.twin-2.ensures.is (c.is_on_face.ensures c.if-is_on_face.true))) in
    (may, subst (λ (o : Option ℕ). IfSome o (IsWayTo g board.drawn.items board.on.items board.label.items c.args.t c.in-Some.c c.find_way.new.fits.path.items)) c.in-Some-2.is c.in_ok-k.ensures.way, face)
