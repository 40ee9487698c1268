-- `flip`, `permute`, `mirror`, `lock` and `unlock`: there is an answer, and one only, and they lead from a state to a state.
use Rattle.std.proofs.Common.{◌≡◌, ℕ, ◌<◌, ◌==◌, Bool, true, not, List, [], ◌∷◌, length, map, slice_index, None, Some, IsPermutation, All, inl, inr, refl, sym, ap, ◌∙◌, subst, arith}
use Rattle.std.proofs.lemmas.Bool.{eq-eqb, eqb-true, false_from_ne_true}
use Rattle.std.proofs.lemmas.List.{length-set}
use Rattle.std.proofs.lemmas.List.Elements.{All-head, All-tail, All-nil, All-cons}
use Rattle.std.proofs.lemmas.List.Sorted.{IsPermutation-map}
use Rattle.permutations.specs.Count.{least}
use Rattle.permutations.proofs.Search.{least-is}
use Rattle.multigraph.specs.Graph.{edge_count}
use Rattle.multigraph.proofs.Places.{rises-once}
use Rattle.rotations.specs.Runs.{mirror_image}
use Rattle.faces.proofs.MapMirror.{mirror-system, mirror-image-plane}
use Rattle.pair_split.specs.Tutte.{node_at}
use Rattle.pair_split.specs.declared.components.Item.{Item}
use Rattle.skeletons.specs.Items.{node_keys, item_key}
use Rattle.faces.specs.Euler.{IsPlaneSystem}
use Rattle.pair_split.specs.declared.components.Kind.TheVariants.{P, R}
use Rattle.skeletons.specs.Moves.{Move, flip, permute, IsNodeOfKind, MoveLeads}
use Rattle.skeletons.proofs.Moved.{flip-exists, permute-exists, move-unique}
use Rattle.skeleton_runs.proofs.Contiguous.{plane-contiguous}
use Rattle.skeleton_choices.proofs.Plane.{move-plane}
use Rattle.spqr_script.specs.Node.{IsItemOf}
use Rattle.spqr_script.specs.Answers.Change.{ok_text}
use Rattle.spqr_session.specs.Trees.{BlockTree, tree_at}
use Rattle.spqr_session.specs.Setting.{Setting, IsSetting}
use Rattle.spqr_session.specs.State.{Embedding, State, entry_at, IsEntry, IsState}
use Rattle.spqr_session.specs.Codes.{rises_above, first_code}
use Rattle.spqr_session.specs.declared.code.Code.TheVariants.{NoBlock, NoNode, WrongKind, BadOrder, NonPlanar}
use Rattle.spqr_session.specs.BlockCodes.{is_block, is_node, is_planar, kind_of, block_ladder, node_ladder, read_ladder, of_entry, lock_codes, ChangesBlock, with_entry, changed, Silently}
use Rattle.pair_split.specs.Kinds.{is_rigid, is_bond, has_choices}
use Rattle.spqr_session.specs.Commands.Flip.{flip_ladder, IsFlipped, FlipStep}
use Rattle.gml_graph.specs.Arranged.{is_arrangement}
use Rattle.spqr_session.specs.Commands.Permute.{outer_edges, inner_edges, permute_ladder, IsPermuted, PermuteStep}
use Rattle.spqr_session.specs.Commands.Mirror.{mirror_codes, IsMirrored, MirrorStep}
use Rattle.spqr_session.specs.Commands.Lock.{with_lock, LocksNode, LockStep}
use Rattle.gml_graph.proofs.Arranged.{passes-arranged}
use Rattle.spqr_script.proofs.PartNodes.{node-of_part}
use Rattle.spqr_session.proofs.SettingTrees.{setting-tree}
use Rattle.spqr_session.proofs.Carried.{DoesOne}
use Rattle.spqr_session.proofs.Ladders.{rung-none, ladder-answers, ladder-one}
use Rattle.spqr_session.proofs.BlockCarried.{held, in-block, planar-entry, entry-same, none-front, block-entry, entry-rises}
use Rattle.spqr_session.proofs.Changes.{node-facts, rigid-is, bond-is, change-does, put-keeps, change-keeps, entry-right, entry-block, silently-one, embedding-same}
use Rattle.std.proofs.lemmas.Bool.{ltb-true}

-- ---- moves of a node

module _ (setting : Setting) (s : State) (b : ℕ) (is : IsSetting setting) (right : IsState setting s) where
  abbrev tree : BlockTree
  tree = tree_at setting.trees b

  -- a move leads to one embedding
  move-one : (move : Move) (old new other : Embedding) → entry_at s.present b ≡ Some old → MoveLeads tree.part.graph tree.nodes move old.rotation new.rotation → MoveLeads tree.part.graph tree.nodes move old.rotation other.rotation
      → new.locks ≡ old.locks → other.locks ≡ old.locks → new ≡ other
  move-one move old new other p m n a c =
      let l = entry-block setting s b old right p in
      let e = entry-right setting s b old right l p in
      embedding-same new other (move-unique tree.part.graph tree.nodes move old.rotation new.rotation other.rotation (setting-tree setting is b l) e.0.system m n) (a ∙ sym c)

  -- and to a right one
  move-keeps : (move : Move) (old new : Embedding) → b < length setting.trees → IsEntry tree None (Some old) → MoveLeads tree.part.graph tree.nodes move old.rotation new.rotation → new.locks ≡ old.locks → IsEntry tree None (Some new)
  move-keeps move old new l e m a = (move-plane tree.part.graph tree.nodes move old.rotation new.rotation (setting-tree setting is b l) e.0 m, ap (λ (x : List Bool). length x) a ∙ e.1)

-- ---- flip

pub flip-rises : (trees : List BlockTree) (b k : ℕ) (s : State) → rises_above 0 (flip_ladder trees b k s) ≡ true
flip-rises trees b k s = entry-rises (lock_codes k) (λ e. refl) (entry_at s.present b)

module _ (setting : Setting) (b k : ℕ) (s : State) (is : IsSetting setting) (right : IsState setting s) where
  pub flip-answers : (text : List ℕ) × (after : State) × FlipStep setting b k s text after
  flip-answers = ladder-answers (flip_ladder setting.trees b k s) (flip-rises setting.trees b k s) (ChangesBlock setting b (Silently (IsFlipped k))) s (λ none.
      let tree = tree_at setting.trees b in
      let f = (node-facts is_rigid setting.trees b k s (of_entry (lock_codes k) (entry_at s.present b)) none).0 in
      let t = setting-tree setting is b f.block in
      let e = entry-right setting s b f.entry right f.block f.present in
      let kind : IsNodeOfKind tree.nodes k R = (f.node, rigid-is (kind_of tree k) f.kind) in
      let q = flip-exists tree.part.graph tree.nodes f.entry.rotation t e.0.system (plane-contiguous tree.part.graph tree.nodes f.entry.rotation t e.0) k kind in
      let new : Embedding = record { rotation = q.0; locks = f.entry.locks } in
      (ok_text, changed setting s b new, record { old = f.entry; present = f.present; new = new; change = (record { leads = (kind, q.1); locks = refl }, refl); after_is = refl }))

  pub flip-one : (t u : List ℕ) (after other : State) → FlipStep setting b k s t after → FlipStep setting b k s u other → (t ≡ u) × (after ≡ other)
  flip-one t u after other p q = ladder-one (flip_ladder setting.trees b k s) (flip-rises setting.trees b k s) (ChangesBlock setting b (Silently (IsFlipped k))) s
      (change-does (Silently (IsFlipped k)) setting b s (λ old new next x y at c d.
      silently-one (IsFlipped k) (tree_at setting.trees b) old new next x y (λ m n. move-one setting s b is right (flip k) old new next at m.leads n.leads m.locks n.locks) c d)) t u after other p q

  pub flip-keeps : (text : List ℕ) (after : State) → FlipStep setting b k s text after → IsState setting after
  flip-keeps text after (inl p) = subst (IsState setting) (sym p.stays) right
  flip-keeps text after (inr p) = change-keeps (Silently (IsFlipped k)) setting b s text after is right p.1 (λ old new t l at e c. move-keeps setting s b is right (flip k) old new l e c.0.leads c.0.locks)

-- ---- permute

pub permute-rises : (trees : List BlockTree) (b k : ℕ) (keys : List ℕ) (s : State) → rises_above 0 (permute_ladder trees b k keys s) ≡ true
permute-rises trees b k keys s = entry-rises (lock_codes k) (λ e. refl) (entry_at s.present b)

-- the number in the block of an edge of the block is its own
inner-outer : (tree : BlockTree) (x : ℕ) → ((i j : ℕ) → i < length tree.part.edges → j < length tree.part.edges → slice_index tree.part.edges i ≡ slice_index tree.part.edges j → i ≡ j) → x < length tree.part.edges
    → least (length tree.part.edges) (λ i. slice_index tree.part.edges i == slice_index tree.part.edges x) ≡ x
inner-outer tree x once l = least-is (length tree.part.edges) (λ i. slice_index tree.part.edges i == slice_index tree.part.edges x) x l (eq-eqb (slice_index tree.part.edges x) (slice_index tree.part.edges x) refl)
    (λ y m. false_from_ne_true (slice_index tree.part.edges y == slice_index tree.part.edges x) (λ t. omega (arith, m, once y x (omega (arith, l, m)) l (eqb-true (slice_index tree.part.edges y) (slice_index tree.part.edges x) t))))

pub inner-of_outer : (tree : BlockTree) (xs : List ℕ) → ((i j : ℕ) → i < length tree.part.edges → j < length tree.part.edges → slice_index tree.part.edges i ≡ slice_index tree.part.edges j → i ≡ j) → All (λ x. x < length tree.part.edges) xs
    → inner_edges tree (outer_edges tree xs) ≡ xs
inner-of_outer tree [] once h = refl
inner-of_outer tree (x ∷ xs) once h =
    ap (λ (y : ℕ). y ∷ inner_edges tree (outer_edges tree xs)) (inner-outer tree x once (All-head (λ x. x < length tree.part.edges) x xs h))
    ∙ ap (λ (ys : List ℕ). x ∷ ys) (inner-of_outer tree xs once (All-tail (λ x. x < length tree.part.edges) x xs h))

-- keys of items of the part are edges of it
pub keys-within : (tree : BlockTree) (n : ℕ) (items : List Item) → edge_count tree.part.graph ≡ n → All (IsItemOf tree.part) items → All (λ x. x < n) (map item_key items)
keys-within tree n [] e h = All-nil (λ x. x < n)
keys-within tree n (item ∷ items) e h =
    All-cons (λ x. x < n) item.key (map item_key items) (subst (λ (m : ℕ). item.key < m) e (All-head (IsItemOf tree.part) item items h).0) (keys-within tree n items e (All-tail (IsItemOf tree.part) item items h))

module _ (setting : Setting) (b k : ℕ) (s : State) (is : IsSetting setting) where
  -- edges of the block have different numbers in the whole graph, and a node's keys are among them
  pub edges-once : b < length setting.trees → (i j : ℕ) → i < length (tree_at setting.trees b).part.edges → j < length (tree_at setting.trees b).part.edges
      → slice_index (tree_at setting.trees b).part.edges i ≡ slice_index (tree_at setting.trees b).part.edges j → i ≡ j
  edges-once l i j = rises-once (tree_at setting.trees b).part.edges (is.trees.each b (subst (λ (n : ℕ). b < n) is.trees.one_each l)).part.numbered.edges_rise i j

  pub node-keys_within : b < length setting.trees → k < length (tree_at setting.trees b).nodes → All (λ x. x < length (tree_at setting.trees b).part.edges) (node_keys (tree_at setting.trees b).nodes k)
  node-keys_within l m =
      let tree = tree_at setting.trees b in
      let part = (is.trees.each b (subst (λ (n : ℕ). b < n) is.trees.one_each l)) in
      keys-within tree (length tree.part.edges) (node_at tree.nodes k).items (sym part.part.numbered.edge_each) (node-of_part tree.part tree.nodes k part.part.numbered.is_graph part.nodes m).items

-- what holds where codes 1 to 5 do not apply
pub record PermuteFacts (trees : List BlockTree) (b k : ℕ) (keys : List ℕ) (s : State) : Type 0 where
  pub block : b < length trees
  pub node : k < length (tree_at trees b).nodes
  pub kind : is_bond (kind_of (tree_at trees b) k) ≡ true
  pub arrangement : is_arrangement (outer_edges (tree_at trees b) (node_keys (tree_at trees b).nodes k)) keys ≡ true
  pub entry : Embedding
  pub present : entry_at s.present b ≡ Some entry

pub permute-facts : (trees : List BlockTree) (b k : ℕ) (keys : List ℕ) (s : State) → first_code (permute_ladder trees b k keys s) ≡ None → PermuteFacts trees b k keys s
permute-facts trees b k keys s e =
    let tree = tree_at trees b in
    let rest = of_entry (lock_codes k) (entry_at s.present b) in
    let no_node = not (is_node tree k) in
    let wrong = not (is_bond (kind_of tree k)) in
    let bad = not (is_arrangement (outer_edges tree (node_keys tree.nodes k)) keys) in
    let not_planar = not (is_planar (entry_at s.present b)) in
    let one = rung-none NoBlock (not (is_block trees b)) ((NoNode, no_node) ∷ (WrongKind, wrong) ∷ (BadOrder, bad) ∷ (NonPlanar, not_planar) ∷ rest) e in
    let two = rung-none NoNode no_node ((WrongKind, wrong) ∷ (BadOrder, bad) ∷ (NonPlanar, not_planar) ∷ rest) one.1 in
    let three = rung-none WrongKind wrong ((BadOrder, bad) ∷ (NonPlanar, not_planar) ∷ rest) two.1 in
    let four = rung-none BadOrder bad ((NonPlanar, not_planar) ∷ rest) three.1 in
    let five = rung-none NonPlanar not_planar rest four.1 in
    let p = planar-entry (entry_at s.present b) five.0 in
    record {
      block = in-block trees b one.0;
      node = ltb-true k (length tree.nodes) (held (is_node tree k) two.0);
      kind = held (is_bond (kind_of tree k)) three.0;
      arrangement = held (is_arrangement (outer_edges tree (node_keys tree.nodes k)) keys) four.0;
      entry = p.0;
      present = p.1;
    }

module _ (setting : Setting) (b k : ℕ) (keys : List ℕ) (s : State) (is : IsSetting setting) (right : IsState setting s) where
  -- an arrangement of the keys in the numbers of the graph is one in those of the block
  pub inner-arranged : b < length setting.trees → k < length (tree_at setting.trees b).nodes → is_arrangement (outer_edges (tree_at setting.trees b) (node_keys (tree_at setting.trees b).nodes k)) keys ≡ true
      → IsPermutation (node_keys (tree_at setting.trees b).nodes k) (inner_edges (tree_at setting.trees b) keys)
  inner-arranged l m a =
      let tree = tree_at setting.trees b in
      subst (λ (xs : List ℕ). IsPermutation xs (inner_edges tree keys)) (inner-of_outer tree (node_keys tree.nodes k) (edges-once setting b k s is l) (node-keys_within setting b k s is l m))
      (IsPermutation-map (λ e. least (length tree.part.edges) (λ i. slice_index tree.part.edges i == e)) (outer_edges tree (node_keys tree.nodes k)) keys (passes-arranged (outer_edges tree (node_keys tree.nodes k)) keys a))

  pub permute-answers : (text : List ℕ) × (after : State) × PermuteStep setting b k keys s text after
  permute-answers = ladder-answers (permute_ladder setting.trees b k keys s) (permute-rises setting.trees b k keys s) (ChangesBlock setting b (Silently (IsPermuted k keys))) s (λ none.
      let tree = tree_at setting.trees b in
      let f = permute-facts setting.trees b k keys s none in
      let t = setting-tree setting is b f.block in
      let e = entry-right setting s b f.entry right f.block f.present in
      let kind : IsNodeOfKind tree.nodes k P = (f.node, bond-is (kind_of tree k) f.kind) in
      let q = permute-exists tree.part.graph tree.nodes f.entry.rotation t e.0.system (plane-contiguous tree.part.graph tree.nodes f.entry.rotation t e.0) k kind (inner_edges tree keys) (inner-arranged f.block f.node f.arrangement) in
      let new : Embedding = record { rotation = q.0; locks = f.entry.locks } in
      (ok_text, changed setting s b new, record { old = f.entry; present = f.present; new = new; change = (record { leads = (kind, q.1); locks = refl }, refl); after_is = refl }))

  pub permute-one : (t u : List ℕ) (after other : State) → PermuteStep setting b k keys s t after → PermuteStep setting b k keys s u other → (t ≡ u) × (after ≡ other)
  permute-one t u after other p q = ladder-one (permute_ladder setting.trees b k keys s) (permute-rises setting.trees b k keys s) (ChangesBlock setting b (Silently (IsPermuted k keys))) s
      (change-does (Silently (IsPermuted k keys)) setting b s (λ old new next x y at c d.
      silently-one (IsPermuted k keys) (tree_at setting.trees b) old new next x y
      (λ m n. move-one setting s b is right (permute k (inner_edges (tree_at setting.trees b) keys)) old new next at m.leads n.leads m.locks n.locks) c d)) t u after other p q

  pub permute-keeps : (text : List ℕ) (after : State) → PermuteStep setting b k keys s text after → IsState setting after
  permute-keeps text after (inl p) = subst (IsState setting) (sym p.stays) right
  permute-keeps text after (inr p) = change-keeps (Silently (IsPermuted k keys)) setting b s text after is right p.1
      (λ old new t l at e c. move-keeps setting s b is right (permute k (inner_edges (tree_at setting.trees b) keys)) old new l e c.0.leads c.0.locks)

-- ---- mirror

pub mirror-rises : (trees : List BlockTree) (b : ℕ) (s : State) → rises_above 0 (read_ladder mirror_codes trees b s) ≡ true
mirror-rises trees b s = entry-rises (mirror_codes (tree_at trees b)) (λ e. refl) (entry_at s.present b)

module _ (setting : Setting) (b : ℕ) (s : State) (is : IsSetting setting) (right : IsState setting s) where
  pub mirror-answers : (text : List ℕ) × (after : State) × MirrorStep setting b s text after
  mirror-answers = ladder-answers (read_ladder mirror_codes setting.trees b s) (mirror-rises setting.trees b s) (ChangesBlock setting b (Silently IsMirrored)) s (λ none.
      let there = block-entry setting.trees b s (none-front (block_ladder setting.trees b s) (of_entry (mirror_codes (tree_at setting.trees b)) (entry_at s.present b)) none) in
      let old = there.1.0 in
      let new : Embedding = record { rotation = mirror_image old.rotation; locks = old.locks } in
      (ok_text, changed setting s b new, record { old = old; present = there.1.1; new = new; change = (record { mirror = refl; locks = refl }, refl); after_is = refl }))

  pub mirror-one : (t u : List ℕ) (after other : State) → MirrorStep setting b s t after → MirrorStep setting b s u other → (t ≡ u) × (after ≡ other)
  mirror-one t u after other p q = ladder-one (read_ladder mirror_codes setting.trees b s) (mirror-rises setting.trees b s) (ChangesBlock setting b (Silently IsMirrored)) s
      (change-does (Silently IsMirrored) setting b s (λ old new next x y at c d.
      silently-one IsMirrored (tree_at setting.trees b) old new next x y (λ m n. embedding-same new next (m.mirror ∙ sym n.mirror) (m.locks ∙ sym n.locks)) c d)) t u after other p q

  pub mirror-keeps : (text : List ℕ) (after : State) → MirrorStep setting b s text after → IsState setting after
  mirror-keeps text after (inl p) = subst (IsState setting) (sym p.stays) right
  mirror-keeps text after (inr p) = change-keeps (Silently IsMirrored) setting b s text after is right p.1 (λ old new t l at e c.
      let g = (tree_at setting.trees b).part.graph in
      let plane : IsPlaneSystem g (mirror_image old.rotation) = record { system = mirror-system g old.rotation e.0.system; plane = mirror-image-plane g old.rotation (setting-tree setting is b l).graph e.0.system e.0.plane } in
      (subst (IsPlaneSystem g) (sym c.0.mirror) plane, ap (λ (x : List Bool). length x) c.0.locks ∙ e.1))

-- ---- locks

module _ (setting : Setting) (on : Bool) (b k : ℕ) (s : State) (is : IsSetting setting) (right : IsState setting s) where
  pub lock-answers : (text : List ℕ) × (after : State) × LockStep on setting b k s text after
  lock-answers = ladder-answers (node_ladder has_choices setting.trees b k s) refl (LocksNode on b k) s (λ none.
      let f = (node-facts has_choices setting.trees b k s [] none).0 in
      (ok_text, with_entry s b (with_lock k on f.entry), record { old = f.entry; present = f.present; after_is = refl; answer = refl }))

  lock-does : DoesOne (LocksNode on b k) s
  lock-does t u after other p q =
      let same : p.old ≡ q.old = entry-same (entry_at s.present b) p.old q.old p.present q.present in
      (p.answer ∙ sym q.answer, p.after_is ∙ ap (λ (e : Embedding). with_entry s b (with_lock k on e)) same ∙ sym q.after_is)

  pub lock-one : (t u : List ℕ) (after other : State) → LockStep on setting b k s t after → LockStep on setting b k s u other → (t ≡ u) × (after ≡ other)
  lock-one t u after other p q = ladder-one (node_ladder has_choices setting.trees b k s) refl (LocksNode on b k) s lock-does t u after other p q

  pub lock-keeps : (text : List ℕ) (after : State) → LockStep on setting b k s text after → IsState setting after
  lock-keeps text after (inl p) = subst (IsState setting) (sym p.stays) right
  lock-keeps text after (inr p) =
      let old = p.1.old in
      subst (IsState setting) (sym p.1.after_is) (put-keeps setting is b old (with_lock k on old) s right p.1.present refl (length-set old.locks k on))
