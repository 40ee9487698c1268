-- Where faces are wanted of the skeletons, some plane rotation system of the block has a face as long as the top's weighs.
use Rattle.std.proofs.Common.{◌≡◌, ℕ, ◌*◌, ◌<◌, ◌≤◌, Bool, true, false, cond, List, length, inl, inr, refl, sym, ap, ◌∙◌, subst}
use Rattle.std.proofs.lemmas.Bool.{cases_Bool}
use Rattle.permutations.specs.Cyclic.{from_least, successor}
use Rattle.multigraph.specs.Graph.{Multigraph}
use Rattle.dart_maps.specs.Map.{twin}
use Rattle.faces.specs.Euler.{dart_count, IsPlane, IsPlaneSystem}
use Rattle.faces.specs.Maps.{dart_after}
use Rattle.pair_split.specs.Tutte.{Node, node_at, node_item}
use Rattle.pair_split.specs.declared.components.Kind.{Kind}
use Rattle.pair_split.specs.declared.components.Kind.TheVariants.{S, P, R, B}
use Rattle.skeletons.specs.Items.{IsBlockTree}
use Rattle.skeletons.specs.Choices.{choice}
use Rattle.skeletons.specs.Families.{skeleton_graph, system_at, AreSkeletonSystems, FollowsFamily, IsPossible}
use Rattle.skeleton_runs.proofs.SkeletonGraph.{skeleton-graph}
use Rattle.skeleton_planes.proofs.OneSystem.{polygon-law, small-law}
use Rattle.skeleton_choices.proofs.Plane.{Parts, parts}
use Rattle.skeleton_choices.proofs.Told.{selection-exists}
use Rattle.skel_embed.specs.Exchanges.{exchanged, turned_choice}
use Rattle.skeleton_faces.specs.Faces.{on_one_face, face_length, face_weight, skeleton_weight, EdgesWeighOne}
use Rattle.skeleton_faces.specs.Tables.{IsTable}
use Rattle.skeleton_faces.proofs.EachFamily.{mirror-weight}
use Rattle.skeleton_faces.proofs.Every.{other-heavy}
use Rattle.skeleton_faces.proofs.Fitted.{faces-fit}
use Rattle.long_face.specs.Wanted.{Want, IsPair, AreWanted, on_wanted, wanted_weight, wanted_choice, is_wanted, weight_wanted, choice_wanted}
use Rattle.long_face.proofs.Chosen.{AreChosen, chosen, demands}
use Rattle.long_face.proofs.Bonds.{bond-next, bond-face, bond-sum}
use Rattle.long_face.proofs.Possible.{mirror-on, bond-round, present-possible, turned-possible, rigid-kept, rigid-turned, exchanged-possible, exchanged-next}

-- a plane rotation system with the choices that are wanted, and a face of it
pub record IsReached (g : Multigraph) (nodes : List Node) (r : List (List ℕ)) (len : ℕ) (is_on : ℕ → Bool) (want : ℕ → Want) : Type 0 where
  pub system : List (List ℕ)
  pub plane : IsPlaneSystem g system
  pub choices : (k : ℕ) → k < length nodes → choice nodes system k ≡ choice_wanted nodes r is_on want k
  pub dart : ℕ
  pub dart_in : dart < dart_count g
  pub long : len ≤ face_length g system dart

module _ (g : Multigraph) (nodes : List Node) (b : IsBlockTree g nodes) (r : List (List ℕ)) (p : IsPlaneSystem g r) (family : List (List (List ℕ))) (systems : AreSkeletonSystems nodes family) (follows : FollowsFamily nodes family r)
    (plane : (k : ℕ) → k < length nodes → IsPlane (skeleton_graph nodes k) (system_at family k)) (weight : ℕ → ℕ → ℕ) (top len : ℕ) (ones : EdgesWeighOne nodes weight)
    (is_on : ℕ → Bool) (want : ℕ → Want) (rank : ℕ → ℕ) (w : AreWanted nodes family weight top len is_on want rank) where
  -- the present family
  abbrev x : Parts g nodes b r
  x = record { family = family; systems = systems; follows = follows; plane = plane }

  -- the key of an item
  abbrev key : ℕ → ℕ → ℕ
  key k i = (node_item nodes k i).key

  -- the choice of a node of which something is wanted, by its kind
  choice-of : (k : ℕ) (kind : Kind) → (node_at nodes k).kind ≡ kind → is_on k ≡ true → choice_wanted nodes r is_on want k ≡ wanted_choice kind (key k) (choice nodes r k) (want k)
  choice-of k kind e h = ap (λ (z : Bool). cond z (wanted_choice (node_at nodes k).kind (key k) (choice nodes r k) (want k)) (choice nodes r k)) h ∙ ap (λ (z : Kind). wanted_choice z (key k) (choice nodes r k) (want k)) e

  -- it is possible
  possible : (k : ℕ) → k < length nodes → IsPossible nodes k (choice_wanted nodes r is_on want k)
  possible k l = elim (cases_Bool (is_on k)) [
    | inl h ↦ by_kind (node_at nodes k).kind refl h
    | inr h ↦ subst (IsPossible nodes k) (sym (ap (λ (z : Bool). cond z (wanted_choice (node_at nodes k).kind (key k) (choice nodes r k) (want k)) (choice nodes r k)) h)) (present-possible g nodes b r p k l)
  ]
    where
      by_kind : (kind : Kind) → (node_at nodes k).kind ≡ kind → is_on k ≡ true → IsPossible nodes k (choice_wanted nodes r is_on want k)
      by_kind S e h = subst (IsPossible nodes k) (sym (choice-of k S e h)) (present-possible g nodes b r p k l)
      by_kind B e h = subst (IsPossible nodes k) (sym (choice-of k B e h)) (present-possible g nodes b r p k l)
      by_kind P e h = let o : IsPair (length (node_at nodes k).items) (want k) = w.pairs k l h e in
          subst (IsPossible nodes k) (sym (choice-of k P e h)) (exchanged-possible g nodes b r p k (l, e) (want k).first (want k).second o.first_in o.second_in o.two)
      by_kind R e h = subst (IsPossible nodes k) (sym (choice-of k R e h)) (elim (cases_Bool (want k).turned) [
        | inl t ↦ subst (λ (z : Bool). IsPossible nodes k (cond z (turned_choice (choice nodes r k)) (choice nodes r k))) (sym t) (turned-possible g nodes b r p k (l, e))
        | inr t ↦ subst (λ (z : Bool). IsPossible nodes k (cond z (turned_choice (choice nodes r k)) (choice nodes r k))) (sym t) (present-possible g nodes b r p k l)
      ])

  -- there is a plane rotation system with these choices
  s : (q : List (List ℕ)) × IsPlaneSystem g q × ((k : ℕ) → k < length nodes → choice nodes q k ≡ choice_wanted nodes r is_on want k)
  s = selection-exists g nodes (choice_wanted nodes r is_on want) b possible

  -- and the family that it follows
  y : Parts g nodes b s.0
  y = parts g nodes b s.0 s.1

  -- a node of which something is wanted
  module _ (k : ℕ) (l : k < length nodes) (h : is_on k ≡ true) where
    -- its skeleton
    abbrev graph : Multigraph
    graph = skeleton_graph nodes k

    -- what is wanted
    abbrev o : Want
    o = want k

    -- in polygons and small nodes all is as it was
    polygon : (node_at nodes k).kind ≡ S → system_at y.family k ≡ system_at family k
    polygon e = (polygon-law g nodes b k (l, e) (system_at y.family k) (y.systems.systems k l)).1 (system_at family k) (systems.systems k l)

    small : (node_at nodes k).kind ≡ B → system_at y.family k ≡ system_at family k
    small e = (small-law g nodes b k (l, e) (system_at y.family k) (y.systems.systems k l)).1 (system_at family k) (systems.systems k l)

    -- a triconnected node is turned or kept
    rigid-choice : (t : Bool) → (want k).turned ≡ t → (node_at nodes k).kind ≡ R → choice nodes s.0 k ≡ cond t (turned_choice (choice nodes r k)) (choice nodes r k)
    rigid-choice t q e = s.2 k l ∙ choice-of k R e h ∙ ap (λ (z : Bool). cond z (turned_choice (choice nodes r k)) (choice nodes r k)) q

    -- in a bond the second item follows the first
    next : (e : (node_at nodes k).kind ≡ P) → dart_after (skeleton_graph nodes k) (system_at y.family k) (2 * (want k).first) ≡ 2 * (want k).second
    next e = let u : IsPair (length (node_at nodes k).items) (want k) = w.pairs k l h e in
        bond-next g nodes b k (l, e) (system_at y.family k) (y.systems.systems k l) (y.plane k l) (from_least (exchanged (successor (choice nodes r k) (key k o.first)) (key k o.second) (choice nodes r k)))
        (bond-round g nodes b s.0 y k (l, e) ∙ s.2 k l ∙ choice-of k P e h) o.first o.second u.first_in u.second_in (exchanged-next g nodes b r p k (l, e) o.first o.second u.first_in u.second_in u.two)

    -- the face of the dart is the wanted one
    face-is : (z : ℕ) → on_one_face (skeleton_graph nodes k) (system_at y.family k) (want k).dart z ≡ is_wanted nodes family want k z
    face-is z = by_kind (node_at nodes k).kind refl ∙ refl
      where
        by_kind : (kind : Kind) → (node_at nodes k).kind ≡ kind → on_one_face (skeleton_graph nodes k) (system_at y.family k) (want k).dart z ≡ is_wanted nodes family want k z
        by_kind S e = ap (λ t. on_one_face graph t o.dart z) (polygon e) ∙ sym (ap (λ (t : Kind). on_wanted t graph (system_at family k) o z) e)
        by_kind B e = ap (λ t. on_one_face graph t o.dart z) (small e) ∙ sym (ap (λ (t : Kind). on_wanted t graph (system_at family k) o z) e)
        by_kind P e = let u : IsPair (length (node_at nodes k).items) (want k) = w.pairs k l h e in
            bond-face g nodes b k (l, e) (system_at y.family k) (y.systems.systems k l) (y.plane k l) o.first o.second u.first_in u.second_in (next e) o.dart z u.on ∙ sym (ap (λ (t : Kind). on_wanted t graph (system_at family k) o z) e)
        by_kind R e = elim (cases_Bool o.turned) [
          | inl q ↦ ap (λ t. on_one_face graph t o.dart z) (rigid-turned g nodes b r p x s.0 y k (l, e) (rigid-choice true q e))
              ∙ mirror-on graph (system_at family k) (skeleton-graph g nodes b k l) (systems.systems k l) o.dart z
              ∙ sym (ap (λ (t : Bool). cond t (on_one_face graph (system_at family k) (twin o.dart) (twin z)) (on_one_face graph (system_at family k) o.dart z)) q) ∙ sym (ap (λ (t : Kind). on_wanted t graph (system_at family k) o z) e)
          | inr q ↦ ap (λ t. on_one_face graph t o.dart z) (rigid-kept g nodes b r p x s.0 y k (l, e) (rigid-choice false q e))
              ∙ sym (ap (λ (t : Bool). cond t (on_one_face graph (system_at family k) (twin o.dart) (twin z)) (on_one_face graph (system_at family k) o.dart z)) q) ∙ sym (ap (λ (t : Kind). on_wanted t graph (system_at family k) o z) e)
        ]

    -- and weighs what is wanted
    weighs : skeleton_weight nodes y.family weight k (want k).dart ≡ weight_wanted nodes family weight want k
    weighs = by_kind (node_at nodes k).kind refl ∙ refl
      where
        by_kind : (kind : Kind) → (node_at nodes k).kind ≡ kind → skeleton_weight nodes y.family weight k (want k).dart ≡ weight_wanted nodes family weight want k
        by_kind S e = ap (λ t. face_weight graph t (weight k) o.dart) (polygon e) ∙ sym (ap (λ (t : Kind). wanted_weight t graph (system_at family k) (weight k) o) e)
        by_kind B e = ap (λ t. face_weight graph t (weight k) o.dart) (small e) ∙ sym (ap (λ (t : Kind). wanted_weight t graph (system_at family k) (weight k) o) e)
        by_kind P e = let u : IsPair (length (node_at nodes k).items) (want k) = w.pairs k l h e in
            bond-sum g nodes b k (l, e) (system_at y.family k) (y.systems.systems k l) (y.plane k l) o.first o.second u.first_in u.second_in (next e) (weight k) u.two o.dart u.on ∙ sym (ap (λ (t : Kind). wanted_weight t graph (system_at family k) (weight k) o) e)
        by_kind R e = elim (cases_Bool o.turned) [
          | inl q ↦ ap (λ t. face_weight graph t (weight k) o.dart) (rigid-turned g nodes b r p x s.0 y k (l, e) (rigid-choice true q e))
              ∙ mirror-weight graph (system_at family k) (skeleton-graph g nodes b k l) (systems.systems k l) (weight k) o.dart
              ∙ sym (ap (λ (t : Bool). face_weight graph (system_at family k) (weight k) (cond t (twin o.dart) o.dart)) q) ∙ sym (ap (λ (t : Kind). wanted_weight t graph (system_at family k) (weight k) o) e)
          | inr q ↦ ap (λ t. face_weight graph t (weight k) o.dart) (rigid-kept g nodes b r p x s.0 y k (l, e) (rigid-choice false q e))
              ∙ sym (ap (λ (t : Bool). face_weight graph (system_at family k) (weight k) (cond t (twin o.dart) o.dart)) q) ∙ sym (ap (λ (t : Kind). wanted_weight t graph (system_at family k) (weight k) o) e)
        ]

  -- the wanted faces are chosen
  are-chosen : AreChosen nodes y.family weight top len is_on (λ k. (want k).dart) rank
  are-chosen = record {
    top_on = w.top_on;
    darts = w.darts;
    at_top = weighs top (w.top_on.0) (w.top_on.1) ∙ w.at_top;
    down = λ k z j e a h o v. w.down k z j e a h (sym (face-is k (a.first.0) h z) ∙ o) v;
    up = λ k l h n. let u = w.up k l h n in (u.0, u.1, u.2, u.3, face-is u.0 (u.2.second.0) u.3 (twin u.1) ∙ u.4, u.5, weighs k l h ∙ u.6);
  }

  -- the theorem
  pub reached : (most : ℕ) → IsTable nodes family weight most → IsReached g nodes r len is_on want
  reached most table = let d = faces-fit g nodes y.family s.0 weight top len is_on (chosen g nodes b y.family y.systems y.plane weight top len is_on (λ k. (want k).dart) rank are-chosen) (λ k. (want k).dart) rank b y.systems (s.1.system) y.follows y.plane ones
      (other-heavy g nodes b family y.family systems y.systems plane y.plane weight most table) (demands g nodes b y.family y.systems y.plane weight top len is_on (λ k. (want k).dart) rank are-chosen) in
      record { system = s.0; plane = s.1; choices = s.2; dart = d.0; dart_in = d.1; long = d.2 }
