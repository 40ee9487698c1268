-- The least possible choice of each kind of node, and the first plane rotation system of a block.
use Rattle.std.proofs.Common.{◌≡◌, ◌≢◌, ℕ, ◌+◌, ◌<◌, ◌≤◌, ◌⊎◌, inl, inr, Bool, true, false, cond, List, [], ◌∷◌, ◌++◌, append_assoc, length, map, reverse, get_or, slice_index_or, length-append, refl, sym, ap, ◌∙◌, subst, arith, suc}
use Rattle.std.proofs.lemmas.Bool.{cases_eq, true≢false, both_ways, false_from_ne_true, eq-eqb}
use Rattle.std.proofs.lemmas.List.{get_or-map, length-map}
use Rattle.std.proofs.Math.ListN.{get_or-append}
use Rattle.std.proofs.Math.Seq.{get_or-append_seam}
use Rattle.permutations.specs.Cyclic.{first_or, from_least, successor, predecessor}
use Rattle.permutations.specs.Members.{is_member, is_distinct, place_of}
use Rattle.permutations.proofs.Arrangements.{permutation-member, permutation-distinct, permutation-from_members, member-at}
use Rattle.permutations.proofs.Members.{member-head, member-tail, member-reverse, distinct-head, distinct-tail}
use Rattle.permutations.proofs.NormalForm.{mirror-from_least, written-first}
use Rattle.permutations.proofs.Successor.{successor-cut}
use Rattle.permutations.proofs.Places.{told-distinct, place-below}
use Rattle.permutations.proofs.Mapped.{map-member}
use Rattle.std.proofs.lemmas.List.{reverse-append}
use Rattle.multigraph.specs.Graph.{Multigraph, incident_edges, IsGraph}
use Rattle.multigraph.specs.Part.{Rises}
use Rattle.multigraph.proofs.Places.{rises-once}
use Rattle.multigraph.proofs.Incident.{incident-rises}
use Rattle.graph_theory.specs.Triconnected.{IsTriconnected}
use Rattle.rotations.specs.Rotation.{order_at, IsCyclicOrder, IsRotationSystem}
use Rattle.faces.specs.Euler.{IsPlane}
use Rattle.faces.proofs.DartLemmas.{order-distinct}
use Rattle.faces.proofs.MapMirror.{mirror-order, order-least}
use Rattle.planarity.proofs.TwoSystems.{two-systems}
use Rattle.pair_split.specs.Skeleton.{HasPoles}
use Rattle.pair_split.specs.Split.{skeleton}
use Rattle.pair_split.specs.Tutte.{Node, components, node_at, node_item, is_before, group}
use Rattle.pair_split.specs.declared.components.Kind.{Kind}
use Rattle.pair_split.specs.declared.components.Kind.TheVariants.{S, P, R, B}
use Rattle.skeletons.specs.Items.{node_keys, has_vertex, least_vertex, IsBlockTree}
use Rattle.skeletons.specs.Choices.{choice_of_kind, choice}
use Rattle.skeletons.specs.Moves.{IsNodeOfKind}
use Rattle.skeletons.specs.Families.{skeleton_graph, system_at, AreSkeletonSystems, keys_of, FollowsFamily, IsPossibleFor, IsPossible, IsPlaneChoice}
use Rattle.skeletons.proofs.Before.{before-irreflexive}
use Rattle.skeletons.proofs.KeyRuns.{met-order}
use Rattle.skeletons.proofs.Places.{round-item, keys-round_once, keys-round_members}
use Rattle.skeletons.proofs.Vertices.{least-has, bond-keys}
use Rattle.skeleton_runs.proofs.SkeletonGraph.{skeleton-triconnected}
use Rattle.skeleton_planes.proofs.BondSkeleton.{lesser-in, greater-in, same-incident}
use Rattle.skeleton_planes.proofs.Followed.{follows-plane}
use Rattle.skeleton_planes.proofs.OneSystem.{kind-of, lesser-place, greater-place, polygon-law, bond-law, small-law}
use Rattle.skeleton_choices.proofs.Told.{choice-possible}
use Rattle.skel_compose.proofs.Back.{keys-rise}
use Rattle.skel_embed.specs.Fan.{IsFan, TurnsRight}
use Rattle.skel_embed.specs.First.{choice_in, IsFirstMember, AreFirstMembers, IsFirst}
use Rattle.skel_embed.proofs.Lexicographic.{rising-least, mirrored-later}

-- the first place is that of the first member
first-place : (l : List ℕ) → is_member (first_or 0 l) l ≡ true → place_of l (first_or 0 l) ≡ 0
first-place [] m = absurd (true≢false (sym m))
first-place (x ∷ l) m = ap (λ (z : Bool). cond z 0 (suc (place_of l x))) (eq-eqb x x refl)

-- images that rise from the first on are written as they should be
written-map : (key : ℕ → ℕ) (l : List ℕ) → ((z : ℕ) → is_member z l ≡ true → key (first_or 0 l) ≤ key z) → from_least (map key l) ≡ map key l
written-map key [] h = refl
written-map key (x ∷ l) h = written-first (map key (x ∷ l)) (λ e m. let w = map-member key (x ∷ l) e m in subst (λ z. key x ≤ z) w.2 (h w.0 w.1))

-- what follows the first member, and what it follows
pub first-next : (x : ℕ) (xs : List ℕ) → successor (x ∷ xs) x ≡ first_or x xs
first-next x xs = successor-cut [] x xs refl

pub first-before : (x : ℕ) (xs : List ℕ) → is_distinct (x ∷ xs) ≡ true → predecessor (x ∷ xs) x ≡ first_or x (reverse xs)
first-before x xs d = ap (λ (z : List ℕ). successor z x) (reverse-append (x ∷ []) xs) ∙ successor-cut (reverse xs) x [] (member-reverse x xs ∙ distinct-head x xs d)

-- one key more
pub keys-more : (key : ℕ → ℕ) (l new rest all round : List ℕ) (x : ℕ) → new ≡ l ++ key x ∷ [] → round ≡ x ∷ rest → l ++ map key round ≡ all → new ++ map key rest ≡ all
keys-more key l new rest all round x p q h = ap (λ (u : List ℕ). u ++ map key rest) p ∙ append_assoc l (key x ∷ []) (map key rest) ∙ sym (ap (λ (u : List ℕ). l ++ map key u) q) ∙ h

module _ (g : Multigraph) (nodes : List Node) (b : IsBlockTree g nodes) (k : ℕ) (l : k < length nodes) where
  abbrev graph : Multigraph
  graph = skeleton_graph nodes k

  abbrev low : ℕ
  low = place_of (node_at nodes k).vertices (least_vertex nodes k)

  abbrev key : ℕ → ℕ
  key i = (node_item nodes k i).key

  has : has_vertex nodes k (least_vertex nodes k) ≡ true
  has = least-has g nodes b k l

  pub low-is : place_of (node_at nodes k).vertices (least_vertex nodes k) ≡ 0
  low-is = first-place (node_at nodes k).vertices has

  pub low-in : place_of (node_at nodes k).vertices (least_vertex nodes k) < length (node_at nodes k).vertices
  low-in = place-below (node_at nodes k).vertices (least_vertex nodes k) has

  -- a rotation system of the skeleton
  module _ (s : List (List ℕ)) (system : IsRotationSystem (skeleton_graph nodes k) s) where
    abbrev order : List ℕ
    order = order_at s (place_of (node_at nodes k).vertices (least_vertex nodes k))

    pub item-in : (i : ℕ) → is_member i (order_at s (place_of (node_at nodes k).vertices (least_vertex nodes k))) ≡ true → i < length (node_at nodes k).items
    item-in i m = (round-item g nodes b.tree k l s (least_vertex nodes k) i system has m).0

    up : (y z : ℕ) → is_member y order ≡ true → is_member z order ≡ true → y < z → key y < key z
    up y z m n q = keys-rise g nodes b.tree k y z l q (item-in z n)

    -- the keys are written from the least on
    pub keys-written : from_least (keys_of nodes k (order_at s (place_of (node_at nodes k).vertices (least_vertex nodes k)))) ≡ keys_of nodes k (order_at s (place_of (node_at nodes k).vertices (least_vertex nodes k)))
    keys-written = written-map key order (λ z m. elim (cases_eq (first_or 0 order) z) [
      | inl e ↦ omega (arith, ap key e)
      | inr n ↦
          let less : first_or 0 order ≤ z = order-least graph s low system low-in z m in
          let y : key (first_or 0 order) < key z = up (first_or 0 order) z (head order z m) m (omega (arith, less, n)) in
          omega (arith, y)
    ])
      where
        head : (v : List ℕ) (z : ℕ) → is_member z v ≡ true → is_member (first_or 0 v) v ≡ true
        head [] z m = absurd (true≢false (sym m))
        head (x ∷ v) z m = member-head x v

    -- the choice of a node with one
    pub choice-keys : (keys : List ℕ) → ((node_at nodes k).kind ≡ P) ⊎ ((node_at nodes k).kind ≡ R) → keys ≡ keys_of nodes k (order_at s 0) → keys ≡ choice_in nodes k s
    choice-keys keys c e = e ∙ ap (λ z. keys_of nodes k (order_at s z)) (sym low-is) ∙ sym keys-written ∙ elim c [
      | inl q ↦ ap (λ (z : Kind). choice_of_kind z (from_least (keys_of nodes k order))) (sym q)
      | inr q ↦ ap (λ (z : Kind). choice_of_kind z (from_least (keys_of nodes k order))) (sym q)
    ]

    -- a node without a choice
    pub none-before : (kind : Kind) → (node_at nodes k).kind ≡ kind → ((other : List ℕ) → IsPossibleFor kind nodes k other → is_before other (choice_of_kind kind (from_least (keys_of nodes k (order_at s (place_of (node_at nodes k).vertices (least_vertex nodes k)))))) ≡ false)
        → (other : List ℕ) → IsPossible nodes k other → is_before other (choice_in nodes k s) ≡ false
    none-before kind e h other p = ap (λ (z : Kind). is_before other (choice_of_kind z (from_least (keys_of nodes k order)))) e ∙ h other (subst (λ (z : Kind). IsPossibleFor z nodes k other) e p)

    -- of a bond the keys that rise
    pub bond-least : IsNodeOfKind nodes k P → order_at s 0 ≡ incident_edges (skeleton_graph nodes k) 0 → (other : List ℕ) → IsCyclicOrder (node_keys nodes k) other
        → is_before other (from_least (keys_of nodes k (order_at s (place_of (node_at nodes k).vertices (least_vertex nodes k))))) ≡ false
    bond-least is e other c = ap (is_before other) keys-written ∙ rising-least (keys_of nodes k order) other rise
        (permutation-from_members (keys_of nodes k order) other (keys-round_once g nodes b.tree k l s (least_vertex nodes k) system has)
        (permutation-distinct (node_keys nodes k) other c.arranged (told-distinct (node_keys nodes k) (rises-once (node_keys nodes k) (b.tree.in_order.keys_rise k l))))
        (λ z. keys-round_members g nodes b.tree k l s (least_vertex nodes k) z system has ∙ bond-keys g nodes b k is (least_vertex nodes k) z has ∙ sym (permutation-member (node_keys nodes k) other z c.arranged)))
      where
        listed : order ≡ incident_edges graph 0
        listed = ap (order_at s) low-is ∙ e

        rise : Rises (keys_of nodes k order)
        rise i j a d =
            let n : j < length order = subst (λ z. j < z) (length-map order key) d in
            let m : i < length order = omega (arith, a, n) in
            let raw : get_or (incident_edges graph 0) i 0 < get_or (incident_edges graph 0) j 0 = incident-rises graph 0 i j 0 a (subst (λ (z : List ℕ). j < length z) listed n) in
            let less : get_or order i 0 < get_or order j 0 = subst (λ (z : List ℕ). get_or z i 0 < get_or z j 0) (sym listed) raw in
            subst (λ z. z < slice_index_or (map key order) j 0) (sym (get_or-map key order i 0 0 m))
            (subst (λ z. key (get_or order i 0) < z) (sym (get_or-map key order j 0 0 n))
            (up (get_or order i 0) (get_or order j 0) (member-at order i 0 m) (member-at order j 0 n) less))

    -- of a triconnected node the one that turns right
    pub rigid-least : IsNodeOfKind nodes k R → IsPlane (skeleton_graph nodes k) s → TurnsRight s → (other : List ℕ) → IsPlaneChoice nodes k other
        → is_before other (from_least (keys_of nodes k (order_at s (place_of (node_at nodes k).vertices (least_vertex nodes k))))) ≡ false
    rigid-least is plane right other c = ap (is_before other) keys-written ∙ ap (λ (z : List ℕ). is_before z (keys_of nodes k order)) (sym c.order) ∙ elim (two-systems graph ok.0 ok.1 c.system s c.plane.system system c.plane.plane plane) [
      | inl e ↦ ap (λ (z : List (List ℕ)). is_before (keys_of nodes k (order_at z low)) (keys_of nodes k order)) e ∙ never (keys_of nodes k order)
      | inr e ↦ ap (λ (z : List (List ℕ)). is_before (keys_of nodes k (order_at z low)) (keys_of nodes k order)) e ∙ ap (λ (z : List ℕ). is_before (keys_of nodes k z) (keys_of nodes k order)) (mirror-order s low)
          ∙ later order refl (order-distinct graph s low system low-in) (λ z m. order-least graph s low system low-in z m) turned
    ]
      where
        ok : IsGraph (skeleton_graph nodes k) × IsTriconnected (skeleton_graph nodes k)
        ok = skeleton-triconnected g nodes b k is

        never : (v : List ℕ) → is_before v v ≡ false
        never v = false_from_ne_true (is_before v v) (before-irreflexive v)

        turned : successor order (first_or 0 order) ≤ predecessor order (first_or 0 order)
        turned = subst (λ z. successor (order_at s z) (first_or 0 (order_at s z)) ≤ predecessor (order_at s z) (first_or 0 (order_at s z))) (sym low-is) right

        later : (v : List ℕ) → order ≡ v → is_distinct v ≡ true → ((z : ℕ) → is_member z v ≡ true → first_or 0 v ≤ z) → successor v (first_or 0 v) ≤ predecessor v (first_or 0 v)
            → is_before (keys_of nodes k (from_least (reverse v))) (keys_of nodes k v) ≡ false
        later [] q d least r = never []
        later (x ∷ xs) q d least r = ap (λ (z : List ℕ). is_before (map key z) (map key (x ∷ xs))) (mirror-from_least x xs d (λ z m. least z (member-tail z x xs m)))
            ∙ mirrored-later key x xs (distinct-tail x xs d)
            (λ y z m n a. up y z (subst (λ (v : List ℕ). is_member y v ≡ true) (sym q) (member-tail y x xs m)) (subst (λ (v : List ℕ). is_member z v ≡ true) (sym q) (member-tail z x xs n)) a)
            (omega (arith, r, first-next x xs, first-before x xs d))

  -- a fan is the first member of a node that isn't triconnected
  pub fan-first : (s : List (List ℕ)) → (node_at nodes k).kind ≢ R → IsFan (skeleton_graph nodes k) s → IsFirstMember nodes k s
  fan-first s n f = by_kind (node_at nodes k).kind refl
    where
      by_kind : (kind : Kind) → (node_at nodes k).kind ≡ kind → IsFirstMember nodes k s
      by_kind R e = absurd (n e)
      by_kind S e = record { plane = record { system = f.system; plane = (polygon-law g nodes b k (l, e) s f.system).0 }; least = none-before s f.system S e (λ other p. ap (λ (z : List ℕ). is_before z []) p) }
      by_kind B e = record { plane = record { system = f.system; plane = (small-law g nodes b k (l, e) s f.system).0 }; least = none-before s f.system B e (λ other p. ap (λ (z : List ℕ). is_before z []) p) }
      by_kind P e = record {
        plane = record { system = f.system; plane = (bond-law g nodes b k (l, e) s f.system).1 (f.backward one-in ∙ ap (λ (z : List ℕ). from_least (reverse z)) (same-edges ∙ sym (f.forward zero-in))) };
        least = none-before s f.system P e (bond-least s f.system (l, e) (f.forward zero-in));
      }
        where
          poles : HasPoles (skeleton (components nodes) k)
          poles = (kind-of g nodes b k P (l, e)).two

          same-edges : incident_edges graph 1 ≡ incident_edges graph 0
          same-edges = ap (incident_edges graph) (sym (greater-place g nodes b k l poles)) ∙ same-incident g nodes b k l poles ∙ ap (incident_edges graph) (lesser-place g nodes b k l poles)

          zero-in : 0 < graph.vertex_count
          zero-in = subst (λ p. p < graph.vertex_count) (lesser-place g nodes b k l poles) (lesser-in g nodes b k l poles)

          one-in : 1 < graph.vertex_count
          one-in = subst (λ p. p < graph.vertex_count) (greater-place g nodes b k l poles) (greater-in g nodes b k l poles)

  -- and so is one that turns right of a triconnected node
  pub rigid-first : (s : List (List ℕ)) → (node_at nodes k).kind ≡ R → IsRotationSystem (skeleton_graph nodes k) s → IsPlane (skeleton_graph nodes k) s → TurnsRight s → IsFirstMember nodes k s
  rigid-first s e system plane right = record { plane = record { system = system; plane = plane }; least = none-before s system R e (rigid-least s system (l, e) plane right) }

module _ (g : Multigraph) (nodes : List Node) (b : IsBlockTree g nodes) (family : List (List (List ℕ))) where
  -- the choice of a node in what follows a family
  pub choice-followed : (r : List (List ℕ)) → FollowsFamily nodes family r → (k : ℕ) → k < length nodes → choice nodes r k ≡ choice_in nodes k (system_at family k)
  choice-followed r f k l = ap (choice_of_kind (node_at nodes k).kind) (met-order (group nodes k) (order_at r (least_vertex nodes k)) _ (f k (least_vertex nodes k) (least-has g nodes b k l)))

  module _ (first : AreFirstMembers nodes (length nodes) family) where
    pub first-systems : AreSkeletonSystems nodes family
    first-systems = record { each = first.each; systems = λ k l. (first.members k l).plane.system }

    -- what follows first members is first
    pub first-followed : (r : List (List ℕ)) → IsRotationSystem g r → FollowsFamily nodes family r → IsFirst g nodes r
    first-followed r s f = record {
      plane = record { system = s; plane = follows-plane g nodes b family first-systems r s f (λ k l. (first.members k l).plane.plane) };
      none_before = λ q p w. both_ways (is_before (choice nodes q w.node) (choice nodes r w.node))
          (ap (is_before (choice nodes q w.node)) (choice-followed r f w.node w.is_node) ∙ (first.members w.node w.is_node).least (choice nodes q w.node) (choice-possible g nodes q b p w.node w.is_node)) w.smaller;
    }

-- one member more
pub members-more : (nodes : List Node) (k : ℕ) (family new : List (List (List ℕ))) (s : List (List ℕ)) → new ≡ family ++ s ∷ [] → AreFirstMembers nodes k family → IsFirstMember nodes k s → AreFirstMembers nodes (k + 1) new
members-more nodes k family new s e before h = record {
  each = omega (arith, ap (length {A = List (List ℕ)}) e, length-append family (s ∷ []), before.each);
  members = λ j l. subst (λ (z : List (List (List ℕ))). IsFirstMember nodes j (system_at z j)) (sym e) (elim (cases_eq j k) [
    | inl q ↦ subst (λ i. IsFirstMember nodes i (system_at (family ++ s ∷ []) i)) (sym q) (subst (IsFirstMember nodes k) (sym (ap (system_at (family ++ s ∷ [])) (sym before.each) ∙ get_or-append_seam family s [] [])) h)
    | inr n ↦ let m : j < k = omega (arith, l, n) in subst (IsFirstMember nodes j) (sym (get_or-append family (s ∷ []) [] j (omega (arith, m, before.each)))) (before.members j m)
  ]);
}
