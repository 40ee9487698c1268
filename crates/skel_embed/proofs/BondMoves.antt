-- Groups of a bond moved at both poles: two in each other's place, or all in the order of given keys.
use Rattle.std.proofs.Common.{◌≡◌, ◌≢◌, ℕ, ◌-◌, ◌<◌, ◌≤◌, true, List, [], ◌∷◌, ◌++◌, length, reverse, slice_index_or, refl, sym, ap, ◌∙◌, subst, arith, IsPermutation}
use Rattle.std.proofs.lemmas.Bool.{both_ways}
use Rattle.std.proofs.lemmas.List.{reverse-append, length-reverse, length-map}
use Rattle.std.proofs.lemmas.List.Sorted.{IsPermutation-trans, IsPermutation-sym, IsPermutation-map, length_permutation}
use Rattle.permutations.specs.Cyclic.{first_or, last_or, from_least, IsTurn}
use Rattle.permutations.specs.Members.{is_member, is_distinct}
use Rattle.permutations.specs.Runs.{group_keys, InRuns}
use Rattle.permutations.proofs.Arrangements.{permutation-from_members}
use Rattle.permutations.proofs.NormalForm.{from_least-turn, same-from_least}
use Rattle.permutations.proofs.Runs.{runs-turn}
use Rattle.permutations.proofs.Places.{told-distinct}
use Rattle.multigraph.specs.Graph.{Multigraph}
use Rattle.multigraph.proofs.Places.{rises-once}
use Rattle.rotations.specs.Rotation.{order_at, IsRotationSystem}
use Rattle.rotations.specs.Runs.{IsKeptElsewhere}
use Rattle.pair_split.specs.Tutte.{Node, node_at, group, components, piece_of}
use Rattle.pair_split.specs.Split.{items_of, piece_ends}
use Rattle.pair_split.specs.declared.components.Kind.TheVariants.{P}
use Rattle.pair_split.proofs.NodeParts.{node-pieces}
use Rattle.skeletons.specs.Items.{item_key, node_keys, has_vertex, least_vertex, greatest_vertex, IsBlockTree}
use Rattle.skeletons.specs.Round.{keys_round}
use Rattle.faces.specs.Euler.{IsPlaneSystem}
use Rattle.skeletons.specs.Choices.{choice}
use Rattle.skeletons.specs.Families.{system_at}
use Rattle.skeletons.specs.Moves.{AreRegrouped, IsNodeOfKind, PermuteLeads}
use Rattle.skeletons.proofs.KeyRuns.{met-runs}
use Rattle.skeletons.proofs.Vertices.{least-has, greatest-has, poles-differ, bond-keys}
use Rattle.skeletons.proofs.Moved.{runs-keys}
use Rattle.skeleton_runs.proofs.Contiguous.{plane-contiguous}
use Rattle.skeleton_choices.proofs.Rounds.{map-reverse}
use Rattle.skeleton_choices.proofs.Plane.{Parts, parts, same-round, plane-bond, choice-round}
use Rattle.skeleton_planes.proofs.OneSystem.{kind-of}
use Rattle.skel_embed.specs.Arranged.{HasGroupsOf}
use Rattle.skel_embed.specs.Exchanges.{other_of, exchanged, AreExchanged, HasKeys}

-- groups cut where their keys are
cut-keys : (gs : List (ℕ × List ℕ)) (a b : List ℕ) → group_keys gs ≡ a ++ b → (us : List (ℕ × List ℕ)) × (ws : List (ℕ × List ℕ)) × (gs ≡ us ++ ws) × (group_keys us ≡ a) × (group_keys ws ≡ b)
cut-keys gs [] b e = ([], gs, refl, refl, e)
cut-keys [] (x ∷ a) b e = absurd (none e)
  where
    none : [] ≡ x ∷ (a ++ b) → ⊥
    none q = let n : length {A = ℕ} [] ≡ length (x ∷ (a ++ b)) = ap length q in omega (arith, n)
cut-keys (g ∷ gs) (x ∷ a) b e = let w = cut-keys gs a b (ap (λ (z : List ℕ). rest z) e) in (g ∷ w.0, w.1, ap (λ (z : List (ℕ × List ℕ)). g ∷ z) w.2, ap (λ z. z ∷ group_keys w.0) (ap (first_or 0) e) ∙ ap (λ (z : List ℕ). x ∷ z) w.3, w.4)
  where
    rest : List ℕ → List ℕ
    rest [] = []
    rest (y ∷ ys) = ys

-- groups turned so that their keys are written in this way
pub groups-written : (gs : List (ℕ × List ℕ)) (keys : List ℕ) → IsTurn (group_keys gs) keys → (hs : List (ℕ × List ℕ)) × IsTurn gs hs × (group_keys hs ≡ keys)
groups-written gs keys t = at (cut-keys gs t.front t.back t.before)
  where
    joined-keys : (us ws : List (ℕ × List ℕ)) → group_keys (ws ++ us) ≡ group_keys ws ++ group_keys us
    joined-keys us [] = refl
    joined-keys us (w ∷ ws) = ap (λ (z : List ℕ). w.0 ∷ z) (joined-keys us ws)

    at : (us : List (ℕ × List ℕ)) × (ws : List (ℕ × List ℕ)) × (gs ≡ us ++ ws) × (group_keys us ≡ t.front) × (group_keys ws ≡ t.back) → (hs : List (ℕ × List ℕ)) × IsTurn gs hs × (group_keys hs ≡ keys)
    at w = (w.1 ++ w.0, record { front = w.0; back = w.1; before = w.2; after = refl }, joined-keys w.0 w.1 ∙ ap (λ (z : List ℕ). z ++ group_keys w.0) w.4 ∙ ap (λ (z : List ℕ). t.back ++ z) w.3 ∙ sym t.after)

pub last-place : (l : List ℕ) → slice_index_or l (length l - 1) 0 ≡ last_or 0 l
last-place [] = refl
last-place (x ∷ l) = let s : length (x ∷ l) - 1 ≡ length l = omega arith in ap (λ z. slice_index_or (x ∷ l) z 0) s ∙ at x l
  where
    at : (x : ℕ) (l : List ℕ) → slice_index_or (x ∷ l) (length l) 0 ≡ last_or 0 (x ∷ l)
    at x [] = refl
    at x (y ∷ l) = at y l ∙ more (reverse (y ∷ l)) (filled l) ∙ sym (ap (first_or 0) (reverse-append (x ∷ []) (y ∷ l)))
      where
        more : (k : List ℕ) → 0 < length k → first_or 0 k ≡ first_or 0 (k ++ x ∷ [])
        more [] h = absurd (omega (arith, h))
        more (z ∷ k) h = refl

        filled : (l : List ℕ) → 0 < length (reverse (y ∷ l))
        filled l = omega (arith, length-reverse (y ∷ l))

module _ (g : Multigraph) (nodes : List Node) (b : IsBlockTree g nodes) (r : List (List ℕ)) (p : IsPlaneSystem g r) (k : ℕ) (is : IsNodeOfKind nodes k P) where
  abbrev least : ℕ
  least = least_vertex nodes k

  abbrev greatest : ℕ
  greatest = greatest_vertex nodes k

  -- at each pole stand the groups of all keys
  pub has-keys : (v x y : ℕ) → has_vertex nodes k v ≡ true → is_member x (node_keys nodes k) ≡ true → is_member y (node_keys nodes k) ≡ true → HasKeys (group nodes k) (order_at r v) x y
  has-keys v x y h mx my =
      let w = plane-contiguous g nodes r b p k v h in
      record { groups = w.0; runs = w.1; first = at w.0 w.1 x mx; second = at w.0 w.1 y my }
    where
      at : (gs : List (ℕ × List ℕ)) → InRuns (group nodes k) (order_at r v) gs → (z : ℕ) → is_member z (node_keys nodes k) ≡ true → is_member z (group_keys gs) ≡ true
      at gs runs z m = runs-keys g nodes b r k v gs p.system h runs z ∙ bond-keys g nodes b k is v z h ∙ m

  keys-once : is_distinct (node_keys nodes k) ≡ true
  keys-once = told-distinct (node_keys nodes k) (rises-once (node_keys nodes k) (b.tree.in_order.keys_rise k is.0))

  pub runs-arranged : (v : ℕ) (gs : List (ℕ × List ℕ)) → has_vertex nodes k v ≡ true → InRuns (group nodes k) (order_at r v) gs → IsPermutation (node_keys nodes k) (group_keys gs)
  runs-arranged v gs h runs = IsPermutation-sym (group_keys gs) (node_keys nodes k)
      (permutation-from_members (group_keys gs) (node_keys nodes k) runs.once keys-once (λ x. runs-keys g nodes b r k v gs p.system h runs x ∙ bond-keys g nodes b k is v x h))

  -- at the greatest vertex they stand the other way round
  pub pole-reversed : keys_round nodes r k greatest ≡ from_least (reverse (keys_round nodes r k least))
  pole-reversed =
      let l : k < length nodes = is.0 in
      let x : Parts g nodes b r = parts g nodes b r p in
      same-round g nodes b r x.family k greatest l x.follows (greatest-has g nodes b k l) ∙ plane-bond g nodes b k is (system_at x.family k) (x.systems.systems k l) (x.plane k l)
      ∙ ap (λ (z : List ℕ). from_least (reverse z)) (sym (same-round g nodes b r x.family k least l x.follows (least-has g nodes b k l)))

  pub choice-is : choice nodes r k ≡ keys_round nodes r k least
  choice-is = choice-round g nodes b r k P is.1

  -- the groups at the poles, in the order of the choice and the other way round
  pub least-groups : (gs : List (ℕ × List ℕ)) × InRuns (group nodes k) (order_at r least) gs × (group_keys gs ≡ choice nodes r k)
  least-groups =
      let w = plane-contiguous g nodes r b p k least (least-has g nodes b k is.0) in
      let e : keys_round nodes r k least ≡ from_least (group_keys w.0) = met-runs (group nodes k) (order_at r least) w.0 w.1 in
      let x = groups-written w.0 (choice nodes r k) (subst (IsTurn (group_keys w.0)) (sym (choice-is ∙ e)) (from_least-turn (group_keys w.0))) in
      (x.0, runs-turn (group nodes k) (order_at r least) w.0 x.0 w.1 x.1, x.2)

  pub greatest-groups : (gs : List (ℕ × List ℕ)) × InRuns (group nodes k) (order_at r greatest) gs × (group_keys gs ≡ reverse (choice nodes r k))
  greatest-groups =
      let w = plane-contiguous g nodes r b p k greatest (greatest-has g nodes b k is.0) in
      let e : from_least (group_keys w.0) ≡ from_least (reverse (choice nodes r k)) = sym (met-runs (group nodes k) (order_at r greatest) w.0 w.1) ∙ pole-reversed ∙ ap (λ (z : List ℕ). from_least (reverse z)) (sym choice-is) in
      let x = groups-written w.0 (reverse (choice nodes r k)) (same-from_least (group_keys w.0) (reverse (choice nodes r k)) e) in
      (x.0, runs-turn (group nodes k) (order_at r greatest) w.0 x.0 w.1 x.1, x.2)

  -- so with two groups exchanged at both poles the node is permuted
  pub exchange-leads : (q : List (List ℕ)) (x y : ℕ) → IsRotationSystem g q → AreExchanged (group nodes k) x y (order_at r least) (order_at q least) → AreExchanged (group nodes k) x y (order_at r greatest) (order_at q greatest)
      → ((v : ℕ) → v ≢ least → v ≢ greatest → order_at q v ≡ order_at r v) → PermuteLeads g nodes k (exchanged x y (choice nodes r k)) r q
  exchange-leads q x y system at-least at-greatest stays = record {
    system = system;
    arrangement = subst (IsPermutation (node_keys nodes k)) lesser.order (IsPermutation-trans (node_keys nodes k) (group_keys lesser.before) (group_keys lesser.after)
        (runs-arranged least lesser.before (least-has g nodes b k is.0) lesser.runs_before) (IsPermutation-map (λ (h : ℕ × List ℕ). h.0) lesser.before lesser.after lesser.same_groups));
    lesser = lesser;
    greater = greater;
    stays = λ v h. stays v (λ e. both_ways (has_vertex nodes k v) h (subst (λ z. has_vertex nodes k z ≡ true) (sym e) (least-has g nodes b k is.0))) (λ e. both_ways (has_vertex nodes k v) h (subst (λ z. has_vertex nodes k z ≡ true) (sym e) (greatest-has g nodes b k is.0)));
  }
    where
      lesser : AreRegrouped (group nodes k) (order_at r least) (exchanged x y (choice nodes r k)) (order_at q least)
      lesser = subst (λ (z : List ℕ). AreRegrouped (group nodes k) (order_at r least) (exchanged x y z) (order_at q least)) least-groups.2 (at-least least-groups.0 least-groups.1)

      greater : AreRegrouped (group nodes k) (order_at r greatest) (reverse (exchanged x y (choice nodes r k))) (order_at q greatest)
      greater = subst (λ (z : List ℕ). AreRegrouped (group nodes k) (order_at r greatest) z (order_at q greatest)) (ap (exchanged x y) greatest-groups.2 ∙ map-reverse (other_of x y) (choice nodes r k)) (at-greatest greatest-groups.0 greatest-groups.1)

  -- the exchange at the least pole leaves the greatest as it was
  pub after-least : (m : List (List ℕ)) → IsKeptElsewhere r m least → order_at m greatest ≡ order_at r greatest
  after-least m e = e.others greatest (λ q. poles-differ g nodes b k is (sym q))

  pub both-poles : (m q : List (List ℕ)) (x y : ℕ) → IsKeptElsewhere r m least → IsKeptElsewhere m q greatest → IsRotationSystem g q → AreExchanged (group nodes k) x y (order_at r least) (order_at m least) → AreExchanged (group nodes k) x y (order_at m greatest) (order_at q greatest)
      → PermuteLeads g nodes k (exchanged x y (choice nodes r k)) r q
  both-poles m q x y e f system first second = exchange-leads q x y system
      (subst (AreExchanged (group nodes k) x y (order_at r least)) (sym (f.others least (poles-differ g nodes b k is))) first)
      (subst (λ (z : List ℕ). AreExchanged (group nodes k) x y z (order_at q greatest)) (after-least m e) second)
      (λ v n o. f.others v o ∙ e.others v n)

  -- a bond has three keys
  bond-three : 3 ≤ length (node_keys nodes k)
  bond-three = omega (arith, (kind-of g nodes b k P is).three, length-map (items_of (components nodes) k) piece_ends, ap length (node-pieces nodes k), length-map (node_at nodes k).items piece_of, length-map (node_at nodes k).items item_key)

  -- at each pole stand groups of just these keys
  pub has-groups : (v : ℕ) (keys : List ℕ) → has_vertex nodes k v ≡ true → IsPermutation (node_keys nodes k) keys → HasGroupsOf (group nodes k) (order_at r v) keys
  has-groups v keys h a =
      let w = plane-contiguous g nodes r b p k v h in
      record {
        groups = w.0;
        runs = w.1;
        arranged = IsPermutation-trans (group_keys w.0) (node_keys nodes k) keys (IsPermutation-sym (node_keys nodes k) (group_keys w.0) (runs-arranged v w.0 h w.1)) a;
        two = omega (arith, bond-three, length_permutation (node_keys nodes k) keys a);
      }

  -- with the groups in the order of keys at the least pole, and then in the reverse at the greatest, the node is permuted to them
  pub both-arranged : (m q : List (List ℕ)) (keys : List ℕ) → IsPermutation (node_keys nodes k) keys → IsKeptElsewhere r m least → IsKeptElsewhere m q greatest → IsRotationSystem g q → AreRegrouped (group nodes k) (order_at r least) keys (order_at m least)
      → AreRegrouped (group nodes k) (order_at m greatest) (reverse keys) (order_at q greatest) → PermuteLeads g nodes k keys r q
  both-arranged m q keys a e f system first second = record {
    system = system;
    arrangement = a;
    lesser = subst (AreRegrouped (group nodes k) (order_at r least) keys) (sym (f.others least (poles-differ g nodes b k is))) first;
    greater = subst (λ (z : List ℕ). AreRegrouped (group nodes k) z (reverse keys) (order_at q greatest)) (after-least m e) second;
    stays = λ v h. f.others v (λ i. both_ways (has_vertex nodes k v) h (subst (λ z. has_vertex nodes k z ≡ true) (sym i) (greatest-has g nodes b k is.0)))
        ∙ e.others v (λ i. both_ways (has_vertex nodes k v) h (subst (λ z. has_vertex nodes k z ≡ true) (sym i) (least-has g nodes b k is.0)));
  }
