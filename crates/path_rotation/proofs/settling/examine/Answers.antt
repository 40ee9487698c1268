-- The attachments, the corners that fit, and the corner at the first attachment.
use Rattle.std.proofs.Common.{◌≡◌, ◌∙◌, ◌==◌, ◌<◌, inl, inr, ℕ, Bool, List, Option, IfSome, true, length, filter, slice_index, sym, ap, subst, arith}
use Rattle.std.specs.Vec.{vec_len}
use Rattle.std.proofs.lemmas.Bool.{eqb-false}
use Rattle.std.proofs.lemmas.List.{get_or_read}
use Rattle.permutations.specs.Members.{is_member}
use Rattle.permutations.proofs.Arrangements.{member-at}
use Rattle.multigraph.specs.Graph.{edge_count}
use Rattle.dart_maps.specs.Map.{twin, same_face}
use Rattle.dart_maps.proofs.Darts.{twin-below}
use Rattle.path_rotation.specs.Forced.{IsAdmissible}
use Rattle.path_rotation.specs.Fitting.{AreDartsAt, MayDraw, IsWayTo}
use Rattle.path_rotation.specs.Settling.{AreAllAttached}
use Rattle.path_rotation.proofs.Fits.{twin-within}
use Rattle.path_rotation.proofs.FreeLabels.{attached-in}
use Rattle.path_rotation.proofs.LastLook.{none-fit, one-fits, mirror-fits, two-fit, look-way}
use Rattle.path_rotation.proofs.settling.examine.Goals as goal

pub find_fit-requires-clause-attached : goal.find_fit-requires-clause-attached
find_fit-requires-clause-attached c = λ z m.
    let g = c.args.g.now in
    let b = c.args.board.now in
    let t = c.args.t in
    let attached = c.attachments.new.attached.items in
    let all : AreAllAttached g b.drawn.items t attached = c.in_ok-attachments.ensures in
    attached-in g c.keeps_limits.ensures.graph b.drawn.items b.on.items b.next.items c.requires.board.tables t c.requires.foot.dart z (all.each z (subst (λ (l : List ℕ). is_member z l ≡ true) c.deref-2.ensures.value m))

pub has_choice-requires-clause-attached : goal.has_choice-requires-clause-attached
has_choice-requires-clause-attached c = λ z m.
    let g = c.args.g.now in
    let b = c.args.board.now in
    let t = c.args.t in
    let attached = c.attachments.new.attached.items in
    let all : AreAllAttached g b.drawn.items t attached = c.in_ok-attachments.ensures in
    attached-in g c.keeps_limits.ensures.graph b.drawn.items b.on.items b.next.items c.requires.board.tables t c.requires.foot.dart z (all.each z m)

pub returns-in_default-clause-choice : goal.returns-in_default-clause-choice
returns-in_default-clause-choice c =
    let g = c.args.g.now in
    let b = c.args.board.now in
    let t = c.args.t in
    let attached = c.attachments.new.attached.items in
    let all : AreAllAttached g b.drawn.items t attached = c.in_ok-attachments.ensures in
    none-fit g c.keeps_limits.ensures.graph b.drawn.items b.on.items b.next.items b.label.items c.requires.board c.requires.exact t c.requires.foot attached all
    (λ x h. c.in_ok-c.ensures.none c.in_default.is x (λ e. omega (arith, e, h.below, c.keeps_limits.ensures.limits.few_edges)) (subst (λ (l : List ℕ). IsAdmissible g b.drawn.items b.label.items l t x) (sym c.deref-2.ensures.value) h))

pub returns-then-branch-clause-open : goal.returns-then-branch-clause-open
returns-then-branch-clause-open c = λ _.
    let g = c.args.g.now in
    let b = c.args.board.now in
    let t = c.args.t in
    let attached = c.attachments.new.attached.items in
    let all : AreAllAttached g b.drawn.items t attached = c.in_ok-attachments.ensures in
    let x = c.in-Some.c in
    let fits : IsAdmissible g b.drawn.items b.label.items attached t x =
    subst (λ (l : List ℕ). IsAdmissible g b.drawn.items b.label.items l t x) c.deref-2.ensures.value (subst (λ (o : Option ℕ). IfSome o (IsAdmissible g b.drawn.items b.label.items c.deref-2.result.now t)) c.in-Some.is c.in_ok-c.ensures.found) in
    let other = c.in_ok-has_choice.ensures.choice c.if-branch.true in
    inr (two-fit g c.keeps_limits.ensures.graph b.drawn.items b.on.items b.next.items b.label.items c.requires.board c.requires.exact t c.requires.foot attached all x other.1.0 fits other.1.2 other.1.1, c.requires.moves other.0)

pub index-face-requires : goal.index-face-requires
index-face-requires c =
    let g = c.args.g.now in
    let b = c.args.board.now in
    let t = c.args.t in
    let attached = c.attachments.new.attached.items in
    let all : AreAllAttached g b.drawn.items t attached = c.in_ok-attachments.ensures in
    let x = c.in-Some.c in
    let fits : IsAdmissible g b.drawn.items b.label.items attached t x =
    subst (λ (l : List ℕ). IsAdmissible g b.drawn.items b.label.items l t x) c.deref-2.ensures.value (subst (λ (o : Option ℕ). IfSome o (IsAdmissible g b.drawn.items b.label.items c.deref-2.result.now t)) c.in-Some.is c.in_ok-c.ensures.found) in
    omega (arith, twin-below (edge_count g) x fits.below, c.twin.ensures.is, c.requires.board.labels.each, c.args.board.now.label.ok.0)

pub darts_at-requires-2-clause-vertex : goal.darts_at-requires-2-clause-vertex
darts_at-requires-2-clause-vertex c =
    let g = c.args.g.now in
    let b = c.args.board.now in
    let t = c.args.t in
    let attached = c.attachments.new.attached.items in
    let all : AreAllAttached g b.drawn.items t attached = c.in_ok-attachments.ensures in
    let empty = c.attachments.new.attached in
    let some : 0 < length attached = omega (arith, empty.ok.0, eqb-false (vec_len empty) 0 (sym c.is_empty.ensures ∙ c.if-is_empty.false)) in
    let z : c.index-z.result.now ≡ slice_index attached 0 = get_or_read attached 0 c.index-z.result.now some c.index-z.ensures 0 in
    let member : is_member c.index-z.result.now attached ≡ true = subst (λ (v : ℕ). is_member v attached ≡ true) (sym z) (member-at attached 0 0 some) in
    attached-in g c.keeps_limits.ensures.graph b.drawn.items b.on.items b.next.items c.requires.board.tables t c.requires.foot.dart c.index-z.result.now (all.each c.index-z.result.now member)

pub keep_in_face-requires : goal.keep_in_face-requires
keep_in_face-requires c = record {
  within = λ d m.
      let g = c.args.g.now in
      let there : AreDartsAt g c.deref-4.result.now c.index-z.result.now c.darts_at-2.new.darts.items = c.in_ok-darts_at-2.ensures in
      subst (λ (l : List ℕ). twin d < length l) (sym c.deref-5.ensures.value)
      (twin-within g c.deref-4.result.now c.index-z.result.now c.args.board.now.label.items d (there.each d (subst (λ (l : List ℕ). is_member d l ≡ true) c.deref-6.ensures.value m)) c.requires.board.labels);
}

pub way-requires-clause-attached : goal.way-requires-clause-attached
way-requires-clause-attached c =
    let g = c.args.g.now in
    let b = c.args.board.now in
    let t = c.args.t in
    let attached = c.attachments.new.attached.items in
    let all : AreAllAttached g b.drawn.items t attached = c.in_ok-attachments.ensures in
    let empty = c.attachments.new.attached in
    let some : 0 < length attached = omega (arith, empty.ok.0, eqb-false (vec_len empty) 0 (sym c.is_empty.ensures ∙ c.if-is_empty.false)) in
    let z : c.index-z.result.now ≡ slice_index attached 0 = get_or_read attached 0 c.index-z.result.now some c.index-z.ensures 0 in
    let member : is_member c.index-z.result.now attached ≡ true = subst (λ (v : ℕ). is_member v attached ≡ true) (sym z) (member-at attached 0 0 some) in
    all.each c.index-z.result.now member

pub index-requires : goal.index-requires
index-requires c =
    let g = c.args.g.now in
    let b = c.args.board.now in
    let t = c.args.t in
    let attached = c.attachments.new.attached.items in
    let all : AreAllAttached g b.drawn.items t attached = c.in_ok-attachments.ensures in
    let x = c.in-Some.c in
    let fits : IsAdmissible g b.drawn.items b.label.items attached t x =
    subst (λ (l : List ℕ). IsAdmissible g b.drawn.items b.label.items l t x) c.deref-2.ensures.value (subst (λ (o : Option ℕ). IfSome o (IsAdmissible g b.drawn.items b.label.items c.deref-2.result.now t)) c.in-Some.is c.in_ok-c.ensures.found) in
    let empty = c.attachments.new.attached in
    let some : 0 < length attached = omega (arith, empty.ok.0, eqb-false (vec_len empty) 0 (sym c.is_empty.ensures ∙ c.if-is_empty.false)) in
    let z : c.index-z.result.now ≡ slice_index attached 0 = get_or_read attached 0 c.index-z.result.now some c.index-z.ensures 0 in
    let member : is_member c.index-z.result.now attached ≡ true = subst (λ (v : ℕ). is_member v attached ≡ true) (sym z) (member-at attached 0 0 some) in
    let there = c.darts_at-2.new.darts.items in
    let near = c.keep_in_face.new.kept.items in
    let at : AreDartsAt g b.drawn.items c.index-z.result.now there = subst (λ (l : List Bool). AreDartsAt g l c.index-z.result.now there) c.deref-4.ensures.value c.in_ok-darts_at-2.ensures in
    let face : c.index-face.result.now ≡ slice_index b.label.items (twin x) =
    get_or_read b.label.items c.twin.result c.index-face.result.now (omega (arith, twin-below (edge_count g) x fits.below, c.twin.ensures.is, c.requires.board.labels.each)) c.index-face.ensures 0 ∙ ap (slice_index b.label.items) c.twin.ensures.is in
    let found : near ≡ filter (λ d. slice_index b.label.items (twin d) == slice_index b.label.items (twin x)) there =
    c.in_ok-keep_in_face.ensures ∙ (λ i. filter (λ d. slice_index (c.deref-5.ensures.value i) (twin d) == face i) (c.deref-6.ensures.value i)) in
    let look = look-way g c.keeps_limits.ensures.graph b.drawn.items b.on.items b.next.items b.label.items c.requires.board c.requires.exact t c.requires.foot attached all x fits c.index-z.result.now member c.way.new.path.items there near
    c.in_ok-way.ensures at found in
    omega (arith, look.0, c.keep_in_face.new.kept.ok.0)

pub returns-clause-choice : goal.returns-clause-choice
returns-clause-choice c =
    let g = c.args.g.now in
    let b = c.args.board.now in
    let t = c.args.t in
    let attached = c.attachments.new.attached.items in
    let all : AreAllAttached g b.drawn.items t attached = c.in_ok-attachments.ensures in
    let x = c.in-Some.c in
    let fits : IsAdmissible g b.drawn.items b.label.items attached t x =
    subst (λ (l : List ℕ). IsAdmissible g b.drawn.items b.label.items l t x) c.deref-2.ensures.value (subst (λ (o : Option ℕ). IfSome o (IsAdmissible g b.drawn.items b.label.items c.deref-2.result.now t)) c.in-Some.is c.in_ok-c.ensures.found) in
    let empty = c.attachments.new.attached in
    let some : 0 < length attached = omega (arith, empty.ok.0, eqb-false (vec_len empty) 0 (sym c.is_empty.ensures ∙ c.if-is_empty.false)) in
    let z : c.index-z.result.now ≡ slice_index attached 0 = get_or_read attached 0 c.index-z.result.now some c.index-z.ensures 0 in
    let member : is_member c.index-z.result.now attached ≡ true = subst (λ (v : ℕ). is_member v attached ≡ true) (sym z) (member-at attached 0 0 some) in
    let there = c.darts_at-2.new.darts.items in
    let near = c.keep_in_face.new.kept.items in
    let at : AreDartsAt g b.drawn.items c.index-z.result.now there = subst (λ (l : List Bool). AreDartsAt g l c.index-z.result.now there) c.deref-4.ensures.value c.in_ok-darts_at-2.ensures in
    let face : c.index-face.result.now ≡ slice_index b.label.items (twin x) =
    get_or_read b.label.items c.twin.result c.index-face.result.now (omega (arith, twin-below (edge_count g) x fits.below, c.twin.ensures.is, c.requires.board.labels.each)) c.index-face.ensures 0 ∙ ap (slice_index b.label.items) c.twin.ensures.is in
    let found : near ≡ filter (λ d. slice_index b.label.items (twin d) == slice_index b.label.items (twin x)) there =
    c.in_ok-keep_in_face.ensures ∙ (λ i. filter (λ d. slice_index (c.deref-5.ensures.value i) (twin d) == face i) (c.deref-6.ensures.value i)) in
    let look = look-way g c.keeps_limits.ensures.graph b.drawn.items b.on.items b.next.items b.label.items c.requires.board c.requires.exact t c.requires.foot attached all x fits c.index-z.result.now member c.way.new.path.items there near
    c.in_ok-way.ensures at found in
    let k : c.index.result.now ≡ slice_index near 0 = get_or_read near 0 c.index.result.now look.0 c.index.ensures 0 in
    let may : MayDraw g b.drawn.items b.on.items b.next.items b.label.items t x =
    elim (c.in_ok-has_choice.ensures.none c.if-branch.false) [
      | inl first ↦ mirror-fits g c.keeps_limits.ensures.graph b.drawn.items b.on.items b.next.items b.label.items c.requires.board c.requires.exact t c.requires.foot attached all x fits (c.requires.turns first)
      | inr none ↦ one-fits g c.keeps_limits.ensures.graph b.drawn.items b.on.items b.next.items b.label.items c.requires.board c.requires.exact t c.requires.foot attached all x fits none
    ] in (
      may,
      subst (λ (d : ℕ). IsWayTo g b.drawn.items b.on.items b.label.items t x c.way.new.path.items d) (sym k) look.1,
      subst (λ (d : ℕ). same_face (edge_count g) (slice_index b.next.items) (twin x) (twin d) ≡ true) (sym k) look.2,
    )
