-- A bridge tried: what is drawn stays right, and where no corner fits the graph has no plane rotation system.
use Rattle.std.proofs.Common.{◌≡◌, ◌∙◌, ℕ, true, ◌/◌, ◌<◌, ◌≤◌, inl, inr, Bool, cond, if◌then◌else◌, List, ◌∷◌, length, slice_index, sym, subst, arith}
use Rattle.std.proofs.lemmas.Bool.{cases_Bool, or_left, or_right}
use Rattle.permutations.specs.Members.{is_member}
use Rattle.permutations.proofs.Count.{count-less}
use Rattle.permutations.proofs.Members.{member-head}
use Rattle.multigraph.specs.Graph.{Multigraph, edge_count, IsGraph}
use Rattle.multigraph.specs.Marks.{is_marked}
use Rattle.multigraph.proofs.DartEnds.{dart-edge}
use Rattle.dart_maps.specs.Map.{twin, face, same_face}
use Rattle.dart_maps.proofs.Darts.{twin-below}
use Rattle.faces.specs.Euler.{dart_count, IsPlaneSystem}
use Rattle.path_rotation.specs.Forced.{IsForced, IsPathDrawn, IsMapOfDarts, AreClosed}
use Rattle.path_rotation.specs.Fitting.{IsBoard, IsSketch, IsFoot, AreLabels, AreFitting, MayDraw, IsWayTo, IsMoreDrawn, drawn_count}
use Rattle.path_rotation.specs.declared.outcome.Tried.{Tried}
use Rattle.path_rotation.specs.declared.outcome.Tried.TheVariants.{NotPlanar, Drawn, Passed}
use Rattle.path_rotation.proofs.FaceLabels.{label-anew}
use Rattle.path_rotation.proofs.PathTables.{path-tables, path-closed, if-true, if-false}
use Rattle.path_rotation.proofs.DrawingKept.{path-drawn}
use Rattle.path_rotation.proofs.ForcedSteps.{no-plane, sole-forced, mirror-forced}
use Rattle.path_rotation.proofs.Fits.{fitting-none}

-- no corner is left
pub board-none : (g : Multigraph) → IsGraph g → (drawn on : List Bool) (next label : List ℕ) (t : ℕ) (corners : List ℕ) → IsBoard g drawn on next label → IsFoot g drawn on t → AreFitting g drawn on label t corners → length corners ≡ 0
    → (r : List (List ℕ)) → IsPlaneSystem g r → ⊥
board-none g ok drawn on next label t corners b f a e =
    no-plane g ok drawn on next label b.tables b.closed t f.dart f.undrawn f.tail_on b.forced a.attachments a.reached (fitting-none g drawn on label t corners e a)

-- a path drawn where it may be
module _ (g : Multigraph) (ok : IsGraph g) (drawn on : List Bool) (next label : List ℕ) (t c k : ℕ) (path : List ℕ) (b : IsBoard g drawn on next label) (f : IsFoot g drawn on t) (m : MayDraw g drawn on next label t c) (w : IsWayTo g drawn on label t c path k) (one_face : same_face (edge_count g) (slice_index next) (twin c) (twin k) ≡ true)
    (new_drawn new_on : List Bool) (new_next new_label : List ℕ) (all : (along : List ℕ) → path ≡ (t / 2) ∷ along → IsPathDrawn g t along c k drawn on next label new_drawn new_on new_next new_label) where
  -- it is drawn
  d : IsPathDrawn g t w.way.along c k drawn on next label new_drawn new_on new_next new_label
  d = all w.way.along w.way.whole

  -- still forced
  more-forced : IsForced g new_drawn new_next
  more-forced = elim m.certain [
    | inl o ↦ sole-forced g ok drawn on next label b.tables b.closed t f.dart f.undrawn f.tail_on b.forced o.attachments o.reached c o.only w.way.along w.place w.way.leads k w.sole new_drawn new_on new_next new_label d
    | inr o ↦ mirror-forced g ok drawn on next label b.tables b.closed t f.dart f.undrawn f.tail_on b.forced o.turns c m.at.below (λ x l h e. o.two x (record { below = l; drawn_dart = h; leaves = e })) w.way.along w.place w.way.leads k w.sole new_drawn new_on new_next new_label d
  ]

  -- its labels are still labels
  more-labels : AreLabels g new_label
  more-labels = record {
    each = d.each_label ∙ b.labels.each;
    within = λ x l. subst (λ (z : ℕ). z < dart_count g) (sym (d.labelled x l)) (either x l);
  }
    where
      either : (x : ℕ) → x < dart_count g → cond (is_member (x / 2) ((t / 2) ∷ w.way.along)) (slice_index label (twin c)) (slice_index label x) < dart_count g
      either x l = elim (cases_Bool (is_member (x / 2) ((t / 2) ∷ w.way.along))) [
        | inl h ↦ rw h (b.labels.within (twin c) (twin-below (edge_count g) c m.at.below))
        | inr h ↦ rw h (b.labels.within x l)
      ]

  -- all of it is still right
  pub board-more : IsBoard g new_drawn new_on new_next new_label
  board-more = record {
    tables = path-tables g ok drawn on next b.tables t f.dart f.undrawn f.tail_on w.way.along w.place w.way.leads c k m.at.below m.at.drawn_dart w.sole.corner.below w.sole.corner.drawn_dart label new_drawn new_on new_next new_label d;
    forced = more-forced;
    drawing = path-drawn g ok drawn on next b.tables t f.dart f.undrawn f.tail_on w.way.along w.place w.way.leads c k m.at.below m.at.drawn_dart m.at.leaves w.sole.corner.below w.sole.corner.drawn_dart w.sole.corner.leaves one_face label new_drawn new_on new_next new_label d b.drawing;
    closed = path-closed g ok drawn on next b.tables t f.dart f.undrawn f.tail_on w.way.along w.place w.way.leads c k m.at.below m.at.drawn_dart w.sole.corner.below w.sole.corner.drawn_dart label new_drawn new_on new_next new_label d b.closed w.sole.corner.in_face;
    labels = more-labels;
  }

  -- and more edges are drawn
  pub more-drawn : drawn_count g drawn < drawn_count g new_drawn
  more-drawn = count-less (edge_count g) (is_marked drawn) (is_marked new_drawn) (t / 2) (λ x l h. d.edges_marked x ∙ or_left (is_marked drawn x) (is_member x ((t / 2) ∷ w.way.along)) h) (dart-edge g t f.dart) f.undrawn
      (d.edges_marked (t / 2) ∙ or_right (is_marked drawn (t / 2)) (is_member (t / 2) ((t / 2) ∷ w.way.along)) (member-head (t / 2) w.way.along))

-- it is by a map of darts
pub board-map : (g : Multigraph) (drawn on : List Bool) (next label : List ℕ) → IsBoard g drawn on next label → IsMapOfDarts (edge_count g) next
board-map g drawn on next label b = (b.drawing.0, b.drawing.1.map.permutes)

-- and when all faces are labelled
pub board-labelled : (g : Multigraph) (drawn on : List Bool) (next label new : List ℕ) → IsSketch g drawn on next label → AreClosed (edge_count g) next new → AreLabels g new → IsBoard g drawn on next new
board-labelled g drawn on next label new s c l = record { tables = s.tables; forced = s.forced; drawing = s.drawing; closed = c; labels = l }

-- and when a face is labelled anew, by the number of one of its darts
pub board-anew : (g : Multigraph) (drawn on : List Bool) (next label : List ℕ) (t : ℕ) (new : List ℕ) → IsBoard g drawn on next label → t < dart_count g → length new ≡ length label
    → ((d : ℕ) → slice_index new d ≡ (if same_face (edge_count g) (slice_index next) t d then t else slice_index label d)) → IsBoard g drawn on next new
board-anew g drawn on next label t new b l size e = record {
  tables = b.tables;
  forced = b.forced;
  drawing = b.drawing;
  closed = label-anew (dart_count g) (face (slice_index next)) t label new b.closed e;
  labels = record {
    each = size ∙ b.labels.each;
    within = λ x i. elim (cases_Bool (same_face (edge_count g) (slice_index next) t x)) [
      | inl h ↦ subst (λ (z : ℕ). z < dart_count g) (sym (e x ∙ if-true (same_face (edge_count g) (slice_index next) t x) t (slice_index label x) h)) l
      | inr h ↦ subst (λ (z : ℕ). z < dart_count g) (sym (e x ∙ if-false (same_face (edge_count g) (slice_index next) t x) t (slice_index label x) h)) (b.labels.within x i)
    ];
  };
}

-- as many edges or more are drawn after any bridge
pub more-least : (g : Multigraph) (before after : List Bool) (tried : Tried) → IsMoreDrawn g before after tried → drawn_count g before ≤ drawn_count g after
more-least g before after NotPlanar h = h
more-least g before after Drawn h = omega (arith, h)
more-least g before after Passed h = h

-- and still after more
pub more-then : (g : Multigraph) (before after last : List Bool) (tried : Tried) → IsMoreDrawn g before after tried → drawn_count g after ≤ drawn_count g last → IsMoreDrawn g before last tried
more-then g before after last NotPlanar h l = omega (arith, h, l)
more-then g before after last Drawn h l = omega (arith, h, l)
more-then g before after last Passed h l = omega (arith, h, l)

-- a path that is drawn is not passed over
pub drawn-passed : Drawn ≡ Passed → ⊥
drawn-passed e = subst is e tt
  where
    is : Tried → Type 0
    is NotPlanar = Unit {0}
    is Drawn = Unit {0}
    is Passed = ⊥
