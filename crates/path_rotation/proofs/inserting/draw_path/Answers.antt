-- The four tables after the path is drawn.
use Rattle.std.proofs.Common.{◌≡◌, ◌∙◌, ◌<◌, ◌/◌, ◌||◌, ◌*◌, ◌+◌, ℕ, Bool, List, cond, length, take, drop, ◌++◌, slice_index, sym, ap, subst, arith}
use Rattle.std.proofs.lemmas.List.{take_at, get_or_read}
use Rattle.permutations.specs.Members.{is_member}
use Rattle.multigraph.specs.Graph.{edge_count}
use Rattle.multigraph.specs.Marks.{is_marked}
use Rattle.dart_maps.specs.Map.{twin}
use Rattle.dart_maps.proofs.Darts.{twin-below}
use Rattle.graph_theory.specs.Path.{walk_vertices}
use Rattle.graph_theory.proofs.Walks.{walk-edge}
use Rattle.faces.specs.Euler.{tail}
use Rattle.path_separation.specs.Drawn.{darts_along}
use Rattle.path_rotation.specs.Forced.{IsPathDrawn}
use Rattle.path_rotation.specs.Insertion.{threaded}
use Rattle.path_rotation.proofs.Assembled.{path-assembled}
use Rattle.path_rotation.proofs.inserting.draw_path.Goals as goal

pub index-face-requires : goal.index-face-requires
index-face-requires c = omega (arith, twin-below (edge_count c.args.g.now) c.args.c c.requires.first, c.twin.ensures.is, c.requires.labels.each, c.args.board.now.label.ok.0)

pub mark_edges-requires : goal.mark_edges-requires
mark_edges-requires c = λ e m. subst (λ (l : List Bool). e < length l) (sym c.deref_mut-2.ensures.value) (omega (arith, walk-edge c.args.g.now (tail c.args.g.now c.args.t) c.args.path.now c.requires.walk e m, c.requires.tables.each_edge))

pub paint-requires : goal.paint-requires
paint-requires c = λ e m. subst (λ (l : List ℕ). 2 * e + 1 < length l) (sym c.deref_mut-4.ensures.value) (omega (arith, walk-edge c.args.g.now (tail c.args.g.now c.args.t) c.args.path.now c.requires.walk e m, c.requires.labels.each))

pub returns : goal.returns
returns c = λ along e.
    let g = c.args.g.now in
    let t = c.args.t in
    let path = c.args.path.now in
    let board = c.args.board.now in
    let drawn = board.drawn.items in
    let on = board.on.items in
    let next = board.next.items in
    let label = board.label.items in
    let new_next = c.insert_path.new.next in
    let new_drawn = c.mark_edges.new.drawn in
    let new_on = c.mark_vertices.new.on in
    let new_label = c.paint.new.label in
    let x = c.tail-x.ensures.is in
    let face : c.index-face.result.now ≡ slice_index label (twin c.args.c) =
    get_or_read label c.twin.result c.index-face.result.now (omega (arith, twin-below (edge_count g) c.args.c c.requires.first, c.twin.ensures.is, c.requires.labels.each)) c.index-face.ensures 0 ∙ ap (slice_index label) c.twin.ensures.is in
    let all : IsPathDrawn g t along c.args.c c.args.k drawn on next label new_drawn new_on new_next new_label =
    path-assembled g c.keeps_limits.ensures.graph t c.args.c c.args.k path along c.requires.dart e drawn on next label new_drawn new_on new_next new_label c.requires.labels.each
    (c.mark_edges.ensures.size ∙ ap (λ (l : List Bool). length l) c.deref_mut-2.ensures.value)
    (c.mark_vertices.ensures.size ∙ ap (λ (l : List Bool). length l) c.deref_mut-3.ensures.value)
    (c.insert_path.ensures.size ∙ ap (λ (l : List ℕ). length l) c.deref_mut.ensures.value)
    (c.paint.ensures.size ∙ ap (λ (l : List ℕ). length l) c.deref_mut-4.ensures.value)
    (λ h. c.mark_edges.ensures.marked h ∙ ap (λ (l : List Bool). is_marked l h || is_member h path) c.deref_mut-2.ensures.value)
    (λ v. c.mark_vertices.ensures.marked v ∙ (λ i. is_marked (c.deref_mut-3.ensures.value i) v || is_member v (walk_vertices g (x i) path)))
    (λ d. c.insert_path.ensures.inserted d ∙ (λ i. threaded c.args.c (darts_along g (x i) path) c.args.k (slice_index (c.deref_mut.ensures.value i)) d))
    (λ d l. c.paint.ensures.painted d (subst (λ (s : List ℕ). d < length s) (sym c.deref_mut-4.ensures.value) l)
    ∙ (λ i. cond (is_member (d / 2) path) (face i) (slice_index (c.deref_mut-4.ensures.value i) d))) in
    let nd = take_at new_drawn (drop (length new_drawn) drawn) board.drawn.len (c.mark_edges.auto.drawn ∙ c.deref_mut-2.ensures.len) in
    let no = take_at new_on (drop (length new_on) on) board.on.len (c.mark_vertices.auto.on ∙ c.deref_mut-3.ensures.len) in
    let nn = take_at new_next (drop (length new_next) next) board.next.len (c.insert_path.auto.next ∙ c.deref_mut.ensures.len) in
    let nl = take_at new_label (drop (length new_label) label) board.label.len (c.paint.auto.label ∙ c.deref_mut-4.ensures.len) in
    subst (λ (l : List Bool). IsPathDrawn g t along c.args.c c.args.k drawn on next label l (take board.on.len (new_on ++ drop (length new_on) on)) (take board.next.len (new_next ++ drop (length new_next) next)) (take board.label.len (new_label ++ drop (length new_label) label))) (sym nd)
    (subst (λ (l : List Bool). IsPathDrawn g t along c.args.c c.args.k drawn on next label new_drawn l (take board.next.len (new_next ++ drop (length new_next) next)) (take board.label.len (new_label ++ drop (length new_label) label))) (sym no)
    (subst (λ (l : List ℕ). IsPathDrawn g t along c.args.c c.args.k drawn on next label new_drawn new_on l (take board.label.len (new_label ++ drop (length new_label) label))) (sym nn)
    (subst (λ (l : List ℕ). IsPathDrawn g t along c.args.c c.args.k drawn on next label new_drawn new_on new_next l) (sym nl) all)))
