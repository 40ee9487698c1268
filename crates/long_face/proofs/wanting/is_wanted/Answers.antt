use Rattle.std.proofs.Common.{ℕ, ◌<◌, ◌==◌, Bool, cond, sym, ap, ap₂, ◌∙◌, subst}
use Rattle.multigraph.specs.Graph.{edge_count}
use Rattle.dart_maps.specs.Map.{twin}
use Rattle.dart_maps.proofs.Darts.{twin-below}
use Rattle.pair_split.specs.declared.components.Kind.{Kind}
use Rattle.skeleton_faces.specs.Faces.{on_one_face}
use Rattle.long_face.specs.Numbers.{number_at}
use Rattle.long_face.specs.Wanted.{on_wanted}
use Rattle.long_face.proofs.wanting.is_wanted.Goals as goal

pub bounds-numbers-twin : goal.bounds-numbers-twin
bounds-numbers-twin c = let f = c.requires.faces in
    subst (λ n. c.twin-in-R.result < n) (sym f.2.places) (c.twin-in-R.ensures.within (edge_count f.0) (subst (λ n. c.args.want.dart < n) f.2.places c.requires.wanted))

pub bounds-numbers-twin-in-R : goal.bounds-numbers-twin-in-R
bounds-numbers-twin-in-R c = let f = c.requires.faces in
    subst (λ n. c.twin-in-R-2.result < n) (sym f.2.places) (c.twin-in-R-2.ensures.within (edge_count f.0) (subst (λ n. c.args.dart < n) f.2.places c.requires.dart))

pub returns-in-R : goal.returns-in-R
returns-in-R c = λ g r f.
    let numbers = c.args.numbers.now in
    let w = c.args.want in
    let d = c.args.dart in
    ap₂ (λ (x y : ℕ). number_at numbers x == number_at numbers y) c.twin-in-R.ensures.is c.twin-in-R-2.ensures.is
    ∙ f.same (twin w.dart) (twin d) (twin-below (edge_count g) w.dart (subst (λ n. w.dart < n) f.places c.requires.wanted)) (twin-below (edge_count g) d (subst (λ n. d < n) f.places c.requires.dart))
    ∙ sym (ap (λ (t : Bool). cond t (on_one_face g r (twin w.dart) (twin d)) (on_one_face g r w.dart d)) c.if-want.true)
    ∙ sym (ap (λ (z : Kind). on_wanted z g r w d) c.in-R.is)
