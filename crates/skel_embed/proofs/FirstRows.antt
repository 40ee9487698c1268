-- The lists of first members: of polygons and bonds they are known without a rotation system.
use Rattle.std.proofs.Common.{◌≡◌, ◌≢◌, ℕ, ◌<◌, ◌⊎◌, inl, inr, Bool, true, false, List, [], ◌++◌, append-nil, length, map, reverse, Result, Ok, Err, IfOk, refl, sym, ap, ◌∙◌, subst}
use Rattle.std.proofs.lemmas.Bool.{true≢false}
use Rattle.std.proofs.lemmas.List.{length-map, get_or-map, ext_get_or}
use Rattle.permutations.specs.Cyclic.{from_least}
use Rattle.multigraph.specs.Graph.{Multigraph, edge_count, numbers_below, incident_edges}
use Rattle.multigraph.proofs.Below.{get_or-numbers_below, length-numbers_below}
use Rattle.rotations.specs.Rotation.{order_at, IsRotationSystem}
use Rattle.faces.specs.Euler.{IsPlane}
use Rattle.pair_split.specs.Skeleton.{HasPoles}
use Rattle.pair_split.specs.Split.{skeleton}
use Rattle.pair_split.specs.Tutte.{Node, components, node_at}
use Rattle.pair_split.specs.declared.components.Item.{Item}
use Rattle.pair_split.specs.declared.components.Kind.{Kind}
use Rattle.pair_split.specs.declared.components.Kind.TheVariants.{S, P, R, B}
use Rattle.permutations.specs.Members.{place_of}
use Rattle.skeletons.specs.Items.{item_key, node_keys, least_vertex, IsBlockTree}
use Rattle.skeletons.specs.Families.{skeleton_graph, keys_of}
use Rattle.skeletons.specs.Choices.{choice_of_kind}
use Rattle.skeletons.proofs.NodeItems.{no_item, nth_item}
use Rattle.skeleton_runs.proofs.SkeletonGraph.{graph-edges}
use Rattle.skeleton_planes.proofs.BondSkeleton.{same-incident}
use Rattle.skeleton_planes.proofs.OneSystem.{kind-of, lesser-place, greater-place}
use Rattle.skel_compose.specs.Followers.{IsRow, HasNext, HasTurns}
use Rattle.skel_compose.proofs.BondRows.{zero-in, one-in, all-items, bond-made}
use Rattle.skel_compose.proofs.RowLists.{row-made}
use Rattle.skel_embed.specs.Fan.{fan_system, TurnsRight}
use Rattle.skel_embed.specs.First.{choice_in}
use Rattle.skel_embed.specs.Members.{IsAppended}
use Rattle.skel_embed.proofs.Fans.{fan-at, fan-system, fan-is}
use Rattle.skel_embed.proofs.First.{fan-first, rigid-first, choice-keys}

-- the keys of all items, by their numbers
keys-numbered : (items : List Item) → map item_key items ≡ map (λ i. (nth_item items i).key) (numbers_below (length items))
keys-numbered items = ext_get_or 0 (map item_key items) (map (λ i. (nth_item items i).key) (numbers_below (length items))) (length-map items item_key ∙ sym (length-map (numbers_below (length items)) (λ i. (nth_item items i).key) ∙ length-numbers_below (length items))) (λ i l.
    let m : i < length items = subst (λ n. i < n) (length-map items item_key) l in
    get_or-map item_key items i no_item 0 m
    ∙ sym (get_or-map (λ j. (nth_item items j).key) (numbers_below (length items)) i 0 0 (subst (λ n. i < n) (sym (length-numbers_below (length items))) m) ∙ ap (λ j. (nth_item items j).key) (get_or-numbers_below (length items) i 0 m)))

-- a node without a choice has the empty one
pub no-choice : (nodes : List Node) (k : ℕ) (s : List (List ℕ)) → ((node_at nodes k).kind ≡ S) ⊎ ((node_at nodes k).kind ≡ B) → choice_in nodes k s ≡ []
no-choice nodes k s c =
    let keys = from_least (keys_of nodes k (order_at s (place_of (node_at nodes k).vertices (least_vertex nodes k)))) in
    elim c [ inl e ↦ ap (λ (z : Kind). choice_of_kind z keys) e | inr e ↦ ap (λ (z : Kind). choice_of_kind z keys) e ]

-- what is so if memory does not run out
pub if-ok : {A E : Type 0} (r : Result A E) (X Y : Type 0) → (X → Y) → IfOk r (λ x. X) → IfOk r (λ x. Y)
if-ok (Ok x) X Y f h = f h
if-ok (Err e) X Y f h = tt

-- a kind is another one than that of a triconnected node
abbrev is_rigid : Kind → Bool
is_rigid S = false
is_rigid P = false
is_rigid R = true
is_rigid B = false

not-rigid : (kind : Kind) → is_rigid kind ≡ false → kind ≢ R
not-rigid kind h q = true≢false (sym (ap is_rigid q) ∙ h)

module _ (g : Multigraph) (nodes : List Node) (b : IsBlockTree g nodes) (k : ℕ) (l : k < length nodes) where
  abbrev graph : Multigraph
  graph = skeleton_graph nodes k

  abbrev fan : List (List ℕ)
  fan = fan_system (skeleton_graph nodes k)

  -- all items of such a node join two vertices
  pub poles-of : ((node_at nodes k).kind ≡ P) ⊎ ((node_at nodes k).kind ≡ B) → HasPoles (skeleton (components nodes) k)
  poles-of c = elim c [ inl e ↦ (kind-of g nodes b k P (l, e)).two | inr e ↦ (kind-of g nodes b k B (l, e)).two ]

  module _ (poles : HasPoles (skeleton (components nodes) k)) where
    same-edges : incident_edges graph 1 ≡ incident_edges graph 0
    same-edges = ap (incident_edges graph) (sym (greater-place g nodes b k l poles)) ∙ same-incident g nodes b k l poles ∙ ap (incident_edges graph) (lesser-place g nodes b k l poles)

    pub fan-zero : order_at (fan_system (skeleton_graph nodes k)) 0 ≡ numbers_below (length (node_at nodes k).items)
    fan-zero = fan-at graph 0 (zero-in g nodes b k l poles) ∙ all-items g nodes b k l poles

    reversed : order_at fan 1 ≡ from_least (reverse (order_at fan 0))
    reversed = fan-at graph 1 (one-in g nodes b k l poles) ∙ ap (λ (z : List ℕ). from_least (reverse z)) (same-edges ∙ sym (fan-at graph 0 (zero-in g nodes b k l poles)))

    -- the list in which the items are in order
    pub fan-row : (items row : List ℕ) → items ≡ numbers_below (length (node_at nodes k).items) → HasTurns items row → IsRow nodes k (fan_system (skeleton_graph nodes k)) row
    fan-row items row e h = bond-made g nodes b k l poles fan (fan-system graph) reversed row (subst (λ (z : List ℕ). HasTurns z row) (e ∙ sym fan-zero) h)

  module _ (row old new : List ℕ) where
    -- without a choice
    module _ (row_is : IsRow nodes k (fan_system (skeleton_graph nodes k)) row) (same : new ≡ old) where
      none-added : new ≡ old ++ []
      none-added = same ∙ sym (append-nil old)

      pub first-polygon : (node_at nodes k).kind ≡ S → IsAppended nodes k row old new
      first-polygon e = ([], record { system = fan; member = fan-first g nodes b k l fan (not-rigid (node_at nodes k).kind (ap is_rigid e)) (fan-is graph); row_is = row_is; keys_are = sym (no-choice nodes k fan (inl e)) }, none-added)

      pub first-small : (node_at nodes k).kind ≡ B → IsAppended nodes k row old new
      first-small e = ([], record { system = fan; member = fan-first g nodes b k l fan (not-rigid (node_at nodes k).kind (ap is_rigid e)) (fan-is graph); row_is = row_is; keys_are = sym (no-choice nodes k fan (inr e)) }, none-added)

    -- a bond has its keys in order
    pub first-bond : (node_at nodes k).kind ≡ P → IsRow nodes k (fan_system (skeleton_graph nodes k)) row → new ≡ old ++ node_keys nodes k → IsAppended nodes k row old new
    first-bond e row_is added = (
      node_keys nodes k,
      record {
        system = fan;
        member = fan-first g nodes b k l fan (not-rigid (node_at nodes k).kind (ap is_rigid e)) (fan-is graph);
        row_is = row_is;
        keys_are = choice-keys g nodes b k l fan (fan-system graph) (node_keys nodes k) (inl e) (keys-numbered (node_at nodes k).items ∙ ap (keys_of nodes k) (sym (fan-zero (poles-of (inl e)))));
      },
      added,
    )

    -- a triconnected node that of the rotation system that turns right
    pub first-rigid : (node_at nodes k).kind ≡ R → (s : List (List ℕ)) → IsRotationSystem (skeleton_graph nodes k) s → IsPlane (skeleton_graph nodes k) s → TurnsRight s → HasNext (skeleton_graph nodes k) s (edge_count (skeleton_graph nodes k)) row
        → new ≡ old ++ keys_of nodes k (order_at s 0) → IsAppended nodes k row old new
    first-rigid e s system plane right next added = (
      keys_of nodes k (order_at s 0),
      record {
        system = s;
        member = rigid-first g nodes b k l s e system plane right;
        row_is = row-made g nodes b k l s row (subst (λ n. HasNext (skeleton_graph nodes k) s n row) (graph-edges g nodes b k l) next);
        keys_are = choice-keys g nodes b k l s system (keys_of nodes k (order_at s 0)) (inr e) refl;
      },
      added,
    )
