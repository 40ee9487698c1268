-- The path from a foot to an attachment, along edges both ends of which are off or the attachment.
use Rattle.std.proofs.Common.{◌≡◌, ◌≢◌, ◌∙◌, ℕ, ◌/◌, ◌<◌, inl, inr, Bool, true, not, ◌||◌, ◌==◌, List, [], ◌∷◌, length, filter, slice_index, sym, subst}
use Rattle.std.proofs.lemmas.Bool.{or_left, or_right, not_from_false, eq-eqb, false≢true}
use Rattle.permutations.specs.Members.{is_member}
use Rattle.permutations.proofs.Arrangements.{member-from_contains}
use Rattle.permutations.proofs.Filter.{member-filter_parts}
use Rattle.multigraph.specs.Graph.{Multigraph, edge_count, numbers_below, IsGraph}
use Rattle.multigraph.specs.Marks.{is_marked}
use Rattle.multigraph.specs.Part.{Rises}
use Rattle.multigraph.proofs.Below.{filter_below-rises, filter_below-at, filter_below-has}
use Rattle.dart_maps.specs.Map.{twin}
use Rattle.graph_theory.specs.Path.{IsPath}
use Rattle.graph_theory.proofs.Paths.{path-none}
use Rattle.graph_theory.proofs.Walks.{walk-edge}
use Rattle.graph_paths.specs.Along.{PathAlong}
use Rattle.faces.specs.Euler.{tail, dart_count}
use Rattle.path_separation.specs.Feet.{IsAttached}
use Rattle.path_rotation.specs.Forced.{AreTables}
use Rattle.path_rotation.specs.Search.{IsWayFound}
use Rattle.path_rotation.specs.Settling.{is_way_edge}
use Rattle.path_rotation.proofs.Attached.{leads-off, touch-way}

-- the edges increase
pub way-rises : (g : Multigraph) (on : List Bool) (z : ℕ) (edges : List ℕ) → edges ≡ filter (is_way_edge g on z) (numbers_below (edge_count g)) → Rises edges
way-rises g on z edges e = subst Rises (sym e) (λ i j a b. filter_below-rises (is_way_edge g on z) (edge_count g) i j 0 a b)

-- and are edges
pub way-within : (g : Multigraph) (on : List Bool) (z : ℕ) (edges : List ℕ) → edges ≡ filter (is_way_edge g on z) (numbers_below (edge_count g)) → (i : ℕ) → i < length edges → slice_index edges i < edge_count g
way-within g on z edges e = subst (λ (l : List ℕ). (i : ℕ) → i < length l → slice_index l i < edge_count g) (sym e) (λ i l. (filter_below-at (is_way_edge g on z) (edge_count g) i 0 l).0)

module _ (g : Multigraph) (ok : IsGraph g) (drawn on : List Bool) (next : List ℕ) (tables : AreTables g drawn on next) (t : ℕ) (l : t < dart_count g) (start : is_marked on (tail g t) ≡ true) (z : ℕ) (a : IsAttached g (is_marked drawn) t z) where
  abbrev head_of : ℕ
  head_of = tail g (twin t)

  -- where the head is z: the edge of the foot alone
  pub way-alone : head_of ≡ z → (path : List ℕ) → path ≡ (t / 2) ∷ [] → IsWayFound g on t path z
  way-alone q path e = record {
    along = [];
    whole = e;
    leads = leads-off g ok drawn on next tables t l start z a.arrives a.elsewhere (or_right (not (is_marked on head_of)) (z == head_of) (eq-eqb z head_of (sym q))) [] (subst (λ (y : ℕ). IsPath g y [] z) (sym q) (path-none g z)) (λ f m. absurd (false≢true m));
  }

  module _ (apart : head_of ≢ z) (edges : List ℕ) (is : edges ≡ filter (is_way_edge g on z) (numbers_below (edge_count g))) where
    -- a path there
    pub way-path : PathAlong g edges head_of z
    way-path = elim a.reached [
      | inl w ↦ absurd (apart (sym w.1))
      | inr w ↦
          let p = touch-way g ok drawn on next tables t l start head_of z w.1 in
          record {
            along = p.along;
            path = p.path;
            among = λ e m. subst (λ (x : List ℕ). is_member e x ≡ true) (sym is) (member-from_contains (filter (is_way_edge g on z) (numbers_below (edge_count g))) e (filter_below-has (is_way_edge g on z) (edge_count g) e (walk-edge g head_of p.along p.path.walk e m) (p.passes e m)));
          }
    ]

    -- each path there leads off what is drawn
    pub way-along : (along path : List ℕ) → IsPath g head_of along z → ((e : ℕ) → is_member e along ≡ true → is_member e edges ≡ true) → path ≡ (t / 2) ∷ along → IsWayFound g on t path z
    way-along along path p among e = record {
      along = along;
      whole = e;
      leads = leads-off g ok drawn on next tables t l start z a.arrives a.elsewhere off along p (λ f m. (member-filter_parts (is_way_edge g on z) (numbers_below (edge_count g)) f (subst (λ (x : List ℕ). is_member f x ≡ true) is (among f m))).1);
    }
      where
        off : (not (is_marked on head_of) || (z == head_of)) ≡ true
        off = elim a.reached [
          | inl w ↦ or_right (not (is_marked on head_of)) (z == head_of) (eq-eqb z head_of w.1)
          | inr w ↦ or_left (not (is_marked on head_of)) (z == head_of) (not_from_false (is_marked on head_of) (tables.on_drawn head_of ∙ w.0))
        ]
