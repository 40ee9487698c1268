-- What moves lead to is what the functions make of a rotation system, and from a plane one each move can be made.
use Rattle.std.proofs.Common.{◌≡◌, ℕ, ◌<◌, ◌==◌, cond, inl, inr, Bool, true, List, [], ◌∷◌, length, reverse, sym, ap, ◌∙◌, subst, All}
use Rattle.std.proofs.lemmas.Bool.{cases_Bool, eq-eqb, eqb-true, true≢false}
use Rattle.std.proofs.lemmas.List.{ext_get_or, get_or-map, length-map}
use Rattle.std.proofs.lemmas.List.Elements.{All-nil, All-cons, All-head, All-tail}
use Rattle.permutations.specs.Cyclic.{from_least, IsTurn}
use Rattle.permutations.proofs.NormalForm.{from_least-same}
use Rattle.multigraph.specs.Graph.{Multigraph, numbers_below}
use Rattle.multigraph.proofs.Below.{get_or-numbers_below, length-numbers_below}
use Rattle.rotations.specs.Rotation.{order_at, IsRotationSystem}
use Rattle.faces.proofs.DartLemmas.{order-distinct}
use Rattle.pair_split.specs.Tutte.{Node, group}
use Rattle.skeletons.specs.Items.{has_vertex, least_vertex, IsBlockTree}
use Rattle.faces.specs.Euler.{IsPlaneSystem}
use Rattle.skeletons.specs.Moves.{Move, flip, permute, moved_node, AreRegrouped, OthersStay, MoveLeads, Lead, moves_between}
use Rattle.skeletons.proofs.Moved.{flip-exists, permute-exists}
use Rattle.skeletons.proofs.Systems.{order-written}
use Rattle.skeletons.proofs.Vertices.{bond-vertex}
use Rattle.skeleton_runs.proofs.Contiguous.{plane-contiguous}
use Rattle.skeleton_choices.proofs.Plane.{move-plane}
use Rattle.skeleton_choices.proofs.Reached.{lead}
use Rattle.embed_moves.specs.Made.{Fits}
use Rattle.spqr_session.specs.Moved.{in_groups, keys_moved, order_moved, moved, all_moved}
use Rattle.spqr_session.proofs.Grouped.{regrouped-is, reversed-is}

module _ (g : Multigraph) (nodes : List Node) (b : IsBlockTree g nodes) where
  -- the order at a vertex of the moved node is a turn of its groups
  turned-order : (move : Move) (r q : List (List ℕ)) (v : ℕ) → IsRotationSystem g r → MoveLeads g nodes move r q → v < g.vertex_count → has_vertex nodes (moved_node move) v ≡ true
      → IsTurn (order_at q v) (in_groups (group nodes (moved_node move)) (order_at r v) (keys_moved nodes move v (order_at r v)))
  turned-order (flip k) r q v s m l h = reversed-is (group nodes k) (order_at r v) (order_at q v) (order-distinct g r v s l) (m.1.turned v h)
  turned-order (permute k keys) r q v s m l h = elim (cases_Bool (v == least_vertex nodes k)) [
    | inl y ↦ at keys y (subst (λ (z : ℕ). AreRegrouped (group nodes k) (order_at r z) keys (order_at q z)) (sym (eqb-true v (least_vertex nodes k) y)) m.1.lesser)
    | inr n ↦ elim (bond-vertex g nodes b k m.0 v h) [
      | inl e ↦ absurd (true≢false (sym (eq-eqb v (least_vertex nodes k) e) ∙ n))
      | inr e ↦ at (reverse keys) n (subst (λ (z : ℕ). AreRegrouped (group nodes k) (order_at r z) (reverse keys) (order_at q z)) (sym e) m.1.greater)
    ]
  ]
    where
      at : {x : Bool} (c : List ℕ) → (v == least_vertex nodes k) ≡ x → AreRegrouped (group nodes k) (order_at r v) (cond x keys (reverse keys)) (order_at q v) → IsTurn (order_at q v) (in_groups (group nodes k) (order_at r v) (cond (v == least_vertex nodes k) keys (reverse keys)))
      at {x} c e a = subst (λ (z : Bool). IsTurn (order_at q v) (in_groups (group nodes k) (order_at r v) (cond z keys (reverse keys)))) (sym e) (regrouped-is (group nodes k) (order_at r v) (cond x keys (reverse keys)) (order_at q v) (order-distinct g r v s l) a)

  -- the other vertices stay
  stays : (move : Move) (r q : List (List ℕ)) → MoveLeads g nodes move r q → OthersStay nodes (moved_node move) r q
  stays (flip k) r q m = m.1.stays
  stays (permute k keys) r q m = m.1.stays

  -- a move leads to a rotation system
  pub led-system : (move : Move) (r q : List (List ℕ)) → MoveLeads g nodes move r q → IsRotationSystem g q
  led-system (flip k) r q m = m.1.system
  led-system (permute k keys) r q m = m.1.system

  order-moved : (move : Move) (r q : List (List ℕ)) (v : ℕ) → IsRotationSystem g r → MoveLeads g nodes move r q → v < g.vertex_count → order_at q v ≡ order_moved nodes move v (order_at r v)
  order-moved move r q v s m l = elim (cases_Bool (has_vertex nodes (moved_node move) v)) [
    | inl h ↦ sym (order-written g q v (led-system move r q m) l)
        ∙ from_least-same (order_at q v) (in_groups (group nodes (moved_node move)) (order_at r v) (keys_moved nodes move v (order_at r v))) (turned-order move r q v s m l h) (order-distinct g q v (led-system move r q m) l)
        ∙ sym (ap (λ (z : Bool). cond z (from_least (in_groups (group nodes (moved_node move)) (order_at r v) (keys_moved nodes move v (order_at r v)))) (order_at r v)) h)
    | inr h ↦ stays move r q m v h ∙ sym (ap (λ (z : Bool). cond z (from_least (in_groups (group nodes (moved_node move)) (order_at r v) (keys_moved nodes move v (order_at r v)))) (order_at r v)) h)
  ]

  -- a move leads to what it makes
  pub move-made : (move : Move) (r q : List (List ℕ)) → IsRotationSystem g r → MoveLeads g nodes move r q → q ≡ moved nodes move r
  unfolding moved
  move-made move r q s m = ext_get_or [] q (moved nodes move r) (sys.vertices ∙ sym s.vertices ∙ sym long) (λ v l.
      let k : v < g.vertex_count = subst (λ (n : ℕ). v < n) sys.vertices l in
      order-moved move r q v s m k ∙ sym (made v (subst (λ (n : ℕ). v < n) (sym s.vertices) k)))
    where
      sys : IsRotationSystem g q
      sys = led-system move r q m

      long : length (moved nodes move r) ≡ length r
      long = length-map (numbers_below (length r)) (λ v. order_moved nodes move v (order_at r v)) ∙ length-numbers_below (length r)

      made : (v : ℕ) → v < length r → order_at (moved nodes move r) v ≡ order_moved nodes move v (order_at r v)
      made v l =
          get_or-map (λ v. order_moved nodes move v (order_at r v)) (numbers_below (length r)) v 0 [] (subst (λ (n : ℕ). v < n) (sym (length-numbers_below (length r))) l)
          ∙ ap (λ (z : ℕ). order_moved nodes move z (order_at r z)) (get_or-numbers_below (length r) v 0 l)

  -- what leads is a move of the tree
  pub move-of : (move : Move) (r q : List (List ℕ)) → MoveLeads g nodes move r q → Fits nodes move
  move-of (flip k) r q m = m.0
  move-of (permute k keys) r q m = (m.0, m.1.arrangement)

  -- from a plane rotation system each move of the tree leads to what it makes, which is plane
  pub move-leads : (move : Move) (r : List (List ℕ)) → IsPlaneSystem g r → Fits nodes move → MoveLeads g nodes move r (moved nodes move r)
  move-leads (flip k) r p is = let w = flip-exists g nodes r b p.system (plane-contiguous g nodes r b p) k is in
      subst (MoveLeads g nodes (flip k) r) (move-made (flip k) r w.0 p.system (is, w.1)) (is, w.1)
  move-leads (permute k keys) r p is = let w = permute-exists g nodes r b p.system (plane-contiguous g nodes r b p) k is.0 keys is.1 in
      subst (MoveLeads g nodes (permute k keys) r) (move-made (permute k keys) r w.0 p.system (is.0, w.1)) (is.0, w.1)

  pub move-keeps : (move : Move) (r : List (List ℕ)) → IsPlaneSystem g r → Fits nodes move → IsPlaneSystem g (moved nodes move r)
  move-keeps move r p is = move-plane g nodes move r (moved nodes move r) b p (move-leads move r p is)

  -- so do moves one after the other
  pub moves-keep : (moves : List Move) (r : List (List ℕ)) → IsPlaneSystem g r → All (Fits nodes) moves → IsPlaneSystem g (all_moved nodes moves r)
  moves-keep [] r p a = p
  moves-keep (move ∷ moves) r p a = moves-keep moves (moved nodes move r) (move-keeps move r p (All-head (Fits nodes) move moves a)) (All-tail (Fits nodes) move moves a)

  -- moves that lead through plane rotation systems are moves of the tree, and lead to what they make
  pub lead-made : (moves : List Move) (r q : List (List ℕ)) → IsPlaneSystem g r → Lead g nodes (IsPlaneSystem g) moves r q → All (Fits nodes) moves × (all_moved nodes moves r ≡ q)
  lead-made [] r q p e = (All-nil (Fits nodes), e)
  lead-made (move ∷ moves) r q p w =
      let rest = lead-made moves w.0 q w.2 w.3 in
      (All-cons (Fits nodes) move moves (move-of move r w.0 w.1) rest.0, ap (all_moved nodes moves) (sym (move-made move r w.0 p.system w.1)) ∙ rest.1)

  -- so are the moves between two plane rotation systems
  pub between-made : (r q : List (List ℕ)) → IsPlaneSystem g r → IsPlaneSystem g q → All (Fits nodes) (moves_between nodes r q) × (all_moved nodes (moves_between nodes r q) r ≡ q)
  between-made r q p s = lead-made (moves_between nodes r q) r q p (lead g nodes r q b p s)
