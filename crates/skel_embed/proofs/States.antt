-- A block in the plane after a move: its kept choices are right again.
use Rattle.std.proofs.Common.{◌≡◌, ℕ, ◌<◌, inl, inr, true, List, [], ◌∷◌, refl, length, map, reverse, slice_index_or, slice_set, sym, ap, ◌∙◌, subst, arith, IsPermutation}
use Rattle.std.proofs.lemmas.Bool.{cases_eq}
use Rattle.std.proofs.lemmas.List.{length-set, length-map, get_or-map, get_or-set_same, get_or-set_other}
use Rattle.std.proofs.lemmas.List.Sorted.{IsPermutation-refl, IsPermutation-trans, IsPermutation-sym, length_permutation}
use Rattle.permutations.specs.Cyclic.{from_least}
use Rattle.permutations.specs.Members.{is_member, is_distinct}
use Rattle.permutations.specs.Runs.{group_keys}
use Rattle.permutations.proofs.Arrangements.{permutation-member}
use Rattle.permutations.proofs.NormalForm.{from_least-first, from_least-turn}
use Rattle.permutations.proofs.Members.{member-tail}
use Rattle.multigraph.specs.Part.{Rises}
use Rattle.pair_split.specs.Tutte.{node_at}
use Rattle.skel_embed.proofs.Lexicographic.{rises-first}
use Rattle.permutations.proofs.Turned.{IsTurn-length}
use Rattle.rotations.specs.Rotation.{order_at}
use Rattle.rotations.specs.Runs.{mirror_image}
use Rattle.faces.proofs.MapMirror.{mirror-system, mirror-image-plane}
use Rattle.pair_split.specs.Tutte.{group}
use Rattle.pair_split.specs.declared.components.Kind.TheVariants.{P, R}
use Rattle.skeletons.specs.Items.{item_key, node_keys, has_vertex, least_vertex}
use Rattle.faces.specs.Euler.{IsPlaneSystem}
use Rattle.skeletons.specs.Choices.{choice}
use Rattle.skeletons.specs.Moves.{Move, flip, permute, moved_node, IsNodeOfKind, MoveLeads, FlipLeads, PermuteLeads}
use Rattle.skeletons.proofs.KeyRuns.{met-runs}
use Rattle.skeletons.proofs.Vertices.{least-has}
use Rattle.skeletons.proofs.Moved.{move-others, flip-turns, permute-sets, mirror-turns}
use Rattle.skeleton_runs.proofs.Contiguous.{plane-contiguous}
use Rattle.skeleton_choices.proofs.Plane.{move-plane}
use Rattle.skeleton_choices.proofs.Told.{rigid-three}
use Rattle.skeleton_choices.proofs.Listed.{choice-normal}
use Rattle.skel_embed.specs.Block.{BlockState, IsBlockState}
use Rattle.skel_embed.specs.Steps.{StandInTwoRuns}
use Rattle.skel_embed.specs.Exchanges.{exchanged, turned_choice, AreWritten}
use Rattle.skel_embed.proofs.BondMoves.{least-groups, runs-arranged}

module _ (s : BlockState) (is : IsBlockState s) (k : ℕ) (l : k < length s.tree) where
  -- the kept choice of a node
  pub kept-once : is_distinct (slice_index_or s.choices k []) ≡ true
  kept-once = ap is_distinct (is.choices.is k l) ∙ (choice-normal s.graph s.tree is.block s.rotation k is.plane l).0

  pub kept-written : from_least (slice_index_or s.choices k []) ≡ slice_index_or s.choices k []
  kept-written = ap from_least (is.choices.is k l) ∙ (choice-normal s.graph s.tree is.block s.rotation k is.plane l).1 ∙ sym (is.choices.is k l)

  pub kept-within : k < length s.choices
  kept-within = subst (λ z. k < z) (sym is.choices.each) l

module _ (s : BlockState) (is : IsBlockState s) (k : ℕ) (node : IsNodeOfKind s.tree k R) where
  -- a triconnected node has three groups at each vertex
  pub rigid-runs : (v : ℕ) → has_vertex s.tree k v ≡ true → StandInTwoRuns (group s.tree k) (order_at s.rotation v)
  rigid-runs v h =
      let w = plane-contiguous s.graph s.tree s.rotation is.block is.plane k v h in
      let three = rigid-three s.graph s.tree is.block s.rotation k v is.plane node h in
      let met = met-runs (group s.tree k) (order_at s.rotation v) w.0 w.1 in
      record { groups = w.0; runs = w.1; two = omega (arith, three, ap length met, IsTurn-length (group_keys w.0) (from_least (group_keys w.0)) (from_least-turn (group_keys w.0)), length-map w.0 (λ (h : ℕ × List ℕ). h.0)) }

-- a key of a bond is one of its choice
pub bond-member : (s : BlockState) → IsBlockState s → (k a : ℕ) → IsNodeOfKind s.tree k P → is_member a (node_keys s.tree k) ≡ true → is_member a (slice_index_or s.choices k []) ≡ true
bond-member s is k a node m =
    let w = least-groups s.graph s.tree is.block s.rotation is.plane k node in
    let p = runs-arranged s.graph s.tree is.block s.rotation is.plane k node (least_vertex s.tree k) w.0 (least-has s.graph s.tree is.block k node.0) w.1 in
    ap (is_member a) (is.choices.is k node.0 ∙ sym w.2) ∙ permutation-member (node_keys s.tree k) (group_keys w.0) a p ∙ m

-- a permutation of a bond's keys is one of its kept choice
pub kept-arranged : (s : BlockState) → IsBlockState s → (k : ℕ) (keys : List ℕ) → IsNodeOfKind s.tree k P → IsPermutation (node_keys s.tree k) keys → IsPermutation (slice_index_or s.choices k []) keys
kept-arranged s is k keys node a =
    let w = least-groups s.graph s.tree is.block s.rotation is.plane k node in
    let p = runs-arranged s.graph s.tree is.block s.rotation is.plane k node (least_vertex s.tree k) w.0 (least-has s.graph s.tree is.block k node.0) w.1 in
    subst (λ (z : List ℕ). IsPermutation z keys) (w.2 ∙ sym (is.choices.is k node.0)) (IsPermutation-trans (group_keys w.0) (node_keys s.tree k) keys (IsPermutation-sym (node_keys s.tree k) (group_keys w.0) p) a)

-- a block with another rotation system, and another choice of one node
abbrev pub with_move : BlockState → List (List ℕ) → ℕ → List ℕ → BlockState
with_move s q k keys = record { graph = s.graph; tree = s.tree; rotation = q; choices = slice_set s.choices k keys; locks = s.locks }

-- what a move leaves is a block in the plane, where the choice of its node is put right
pub state-moved : (s : BlockState) → IsBlockState s → (move : Move) (q : List (List ℕ)) (keys : List ℕ) → moved_node move < length s.tree → MoveLeads s.graph s.tree move s.rotation q → choice s.tree q (moved_node move) ≡ keys → IsBlockState (with_move s q (moved_node move) keys)
state-moved s is move q keys l m c = record {
  block = is.block;
  plane = move-plane s.graph s.tree move s.rotation q is.block is.plane m;
  choices = record { each = length-set s.choices (moved_node move) keys ∙ is.choices.each; is = each };
  locks = is.locks;
}
  where
    each : (j : ℕ) → j < length s.tree → slice_index_or (slice_set s.choices (moved_node move) keys) j [] ≡ choice s.tree q j
    each j h = elim (cases_eq j (moved_node move)) [
      | inl e ↦ subst (λ z. slice_index_or (slice_set s.choices (moved_node move) keys) z [] ≡ choice s.tree q z) (sym e) (get_or-set_same s.choices (moved_node move) keys [] (subst (λ z. moved_node move < z) (sym is.choices.each) l) ∙ sym c)
      | inr n ↦ get_or-set_other s.choices (moved_node move) j keys [] n ∙ is.choices.is j h ∙ sym (move-others s.graph s.tree move s.rotation q is.block is.plane.system (plane-contiguous s.graph s.tree s.rotation is.block is.plane) m j h n)
    ]

-- after a flip
pub state-flipped : (s : BlockState) → IsBlockState s → (k : ℕ) (q : List (List ℕ)) → IsNodeOfKind s.tree k R → FlipLeads s.graph s.tree k s.rotation q → IsBlockState (with_move s q k (from_least (reverse (slice_index_or s.choices k []))))
state-flipped s is k q node f = state-moved s is (flip k) q (from_least (reverse (slice_index_or s.choices k []))) node.0 (node, f)
    (flip-turns s.graph s.tree k s.rotation q is.block is.plane.system (plane-contiguous s.graph s.tree s.rotation is.block is.plane) node f ∙ ap (λ (z : List ℕ). from_least (reverse z)) (sym (is.choices.is k node.0)))

-- after a permute
pub state-permuted : (s : BlockState) → IsBlockState s → (k a b : ℕ) (q : List (List ℕ)) → IsNodeOfKind s.tree k P → PermuteLeads s.graph s.tree k (exchanged a b (choice s.tree s.rotation k)) s.rotation q → IsBlockState (with_move s q k (from_least (exchanged a b (slice_index_or s.choices k []))))
state-permuted s is k a b q node f = state-moved s is (permute k (exchanged a b (choice s.tree s.rotation k))) q (from_least (exchanged a b (slice_index_or s.choices k []))) node.0 (node, f)
    (permute-sets s.graph s.tree k (exchanged a b (choice s.tree s.rotation k)) s.rotation q is.block is.plane.system (plane-contiguous s.graph s.tree s.rotation is.block is.plane) node f ∙ ap (λ (z : List ℕ). from_least (exchanged a b z)) (sym (is.choices.is k node.0)))

-- after a permute to these keys
pub state-arranged : (s : BlockState) → IsBlockState s → (k : ℕ) (keys : List ℕ) (q : List (List ℕ)) → IsNodeOfKind s.tree k P → PermuteLeads s.graph s.tree k keys s.rotation q → IsBlockState (with_move s q k (from_least keys))
state-arranged s is k keys q node f = state-moved s is (permute k keys) q (from_least keys) node.0 (node, f)
    (permute-sets s.graph s.tree k keys s.rotation q is.block is.plane.system (plane-contiguous s.graph s.tree s.rotation is.block is.plane) node f)

-- increasing numbers are written from the least on
pub rises-written : (l : List ℕ) → Rises l → from_least l ≡ l
rises-written [] r = refl
rises-written (x ∷ l) r = from_least-first x l (λ z m. rises-first x l r z (member-tail z x l m))

-- after a permute to increasing keys
pub state-sorted : (s : BlockState) → IsBlockState s → (k : ℕ) (q : List (List ℕ)) → IsNodeOfKind s.tree k P → PermuteLeads s.graph s.tree k (node_keys s.tree k) s.rotation q → IsBlockState (with_move s q k (node_keys s.tree k))
state-sorted s is k q node f = subst (λ (z : List ℕ). IsBlockState (with_move s q k z)) (rises-written (node_keys s.tree k) (is.block.tree.in_order.keys_rise k node.0)) (state-arranged s is k (node_keys s.tree k) q node f)

-- the choice of a bond has as many keys as the node has items
pub kept-number : (s : BlockState) → IsBlockState s → (k : ℕ) → IsNodeOfKind s.tree k P → length (slice_index_or s.choices k []) ≡ length (node_at s.tree k).items
kept-number s is k node =
    let p = kept-arranged s is k (node_keys s.tree k) node (IsPermutation-refl (node_keys s.tree k)) in
    omega (arith, length_permutation (slice_index_or s.choices k []) (node_keys s.tree k) p, length-map (node_at s.tree k).items item_key)

-- the kept choices are written from their least keys on
pub kept-all : (s : BlockState) → IsBlockState s → AreWritten s.choices
kept-all s is k l =
    let h : k < length s.tree = subst (λ z. k < z) is.choices.each l in
    let n = choice-normal s.graph s.tree is.block s.rotation k is.plane h in
    (ap is_distinct (is.choices.is k h) ∙ n.0, ap from_least (is.choices.is k h) ∙ n.1 ∙ sym (is.choices.is k h))

-- the mirror image of a block in the plane
pub state-mirrored : (s : BlockState) → IsBlockState s → (q choices : List (List ℕ)) → q ≡ mirror_image s.rotation → choices ≡ map turned_choice s.choices → IsBlockState (record { graph = s.graph; tree = s.tree; rotation = q; choices = choices; locks = s.locks })
state-mirrored s is q choices e c = record {
  block = is.block;
  plane = subst (IsPlaneSystem s.graph) (sym e) (record { system = mirror-system s.graph s.rotation is.plane.system; plane = mirror-image-plane s.graph s.rotation is.block.graph is.plane.system is.plane.plane });
  choices = record { each = ap length c ∙ length-map s.choices turned_choice ∙ is.choices.each; is = each };
  locks = is.locks;
}
  where
    each : (j : ℕ) → j < length s.tree → slice_index_or choices j [] ≡ choice s.tree q j
    each j h = ap (λ (z : List (List ℕ)). slice_index_or z j []) c ∙ get_or-map turned_choice s.choices j [] [] (subst (λ z. j < z) (sym is.choices.each) h) ∙ ap turned_choice (is.choices.is j h)
        ∙ sym (mirror-turns s.graph s.tree s.rotation is.block is.plane.system (plane-contiguous s.graph s.tree s.rotation is.block is.plane) j h) ∙ ap (λ (z : List (List ℕ)). choice s.tree z j) (sym e)
