-- What moves make of choices; and that moves of different nodes are taken back one by one.
use Rattle.std.proofs.Common.{◌≡◌, ◌≢◌, ℕ, zero, suc, ◌<◌, ◌==◌, inl, inr, Bool, true, false, cond, List, [], ◌∷◌, length, map, get_or, reverse, refl, sym, ap, ◌∙◌, subst, arith, All, IsPermutation}
use Rattle.std.proofs.lemmas.Bool.{cases_eq, eq-eqb, ne_eqb, or_parts}
use Rattle.std.proofs.lemmas.List.{reverse-reverse}
use Rattle.std.proofs.lemmas.List.Elements.{All-nil, All-cons, All-head, All-tail}
use Rattle.permutations.specs.Cyclic.{from_least}
use Rattle.permutations.specs.Members.{is_member, is_distinct}
use Rattle.permutations.proofs.Members.{member-head, member-tail, distinct-head, distinct-tail, distinct-reverse}
use Rattle.multigraph.specs.Graph.{Multigraph}
use Rattle.faces.specs.Euler.{IsPlaneSystem}
use Rattle.pair_split.specs.Tutte.{Node}
use Rattle.pair_split.specs.declared.components.Kind.TheVariants.{P}
use Rattle.skeletons.specs.Items.{IsBlockTree, node_keys}
use Rattle.skeletons.specs.Choices.{choice}
use Rattle.skeletons.specs.Moves.{Move, flip, permute, moved_node, IsNodeOfKind, MoveLeads, Lead}
use Rattle.skeletons.proofs.Moved.{move-others, flip-turns, permute-sets, mirror-normal}
use Rattle.skeleton_runs.proofs.Contiguous.{plane-contiguous}
use Rattle.skeleton_choices.proofs.Told.{tell}
use Rattle.skeleton_choices.proofs.Listed.{choice-normal}
use Rattle.skel_embed.specs.Values.{as_move, as_moves}
use Rattle.moves.specs.declared.values.Move as kept
use Rattle.embed_moves.specs.Made.{Fits}
use Rattle.spqr_session.specs.Moved.{moved, all_moved, way_back, AreOfNodes, LeadBack}
use Rattle.spqr_session.proofs.Moved.{move-leads, move-keeps, moves-keep}

-- what a move makes of the choice of its node
abbrev pub choice_moved : Move → List ℕ → List ℕ
choice_moved (flip k) c = from_least (reverse c)
choice_moved (permute k keys) c = from_least keys

-- what moves make of the choice of node j
abbrev pub choice_after : List Move → ℕ → List ℕ → List ℕ
choice_after [] j c = c
choice_after (move ∷ moves) j c = choice_after moves j (cond (moved_node move == j) (choice_moved move c) c)

-- the choice of its node after a move, and that of another node
own-choice : (move : Move) (j : ℕ) (c : List ℕ) → moved_node move ≡ j → cond (moved_node move == j) (choice_moved move c) c ≡ choice_moved move c
own-choice move j c e = ap (λ (t : Bool). cond t (choice_moved move c) c) (eq-eqb (moved_node move) j e)

other-choice : (move : Move) (j : ℕ) (c : List ℕ) → (moved_node move == j) ≡ false → cond (moved_node move == j) (choice_moved move c) c ≡ c
other-choice move j c e = ap (λ (t : Bool). cond t (choice_moved move c) c) e

-- moves of other nodes leave it
pub after-others : (moves : List Move) (j : ℕ) (c : List ℕ) → is_member j (map moved_node moves) ≡ false → choice_after moves j c ≡ c
after-others [] j c o = refl
after-others (move ∷ moves) j c o =
    let parts = or_parts (moved_node move == j) (is_member j (map moved_node moves)) o in
    ap (choice_after moves j) (other-choice move j c parts.0) ∙ after-others moves j c parts.1

module _ (g : Multigraph) (nodes : List Node) (b : IsBlockTree g nodes) where
  -- the choices after a move
  move-choice : (move : Move) (r : List (List ℕ)) → IsPlaneSystem g r → Fits nodes move → choice nodes (moved nodes move r) (moved_node move) ≡ choice_moved move (choice nodes r (moved_node move))
  move-choice (flip k) r p is = let m = move-leads g nodes b (flip k) r p is in flip-turns g nodes k r (moved nodes (flip k) r) b p.system (plane-contiguous g nodes r b p) m.0 m.1
  move-choice (permute k keys) r p is = let m = move-leads g nodes b (permute k keys) r p is in permute-sets g nodes k keys r (moved nodes (permute k keys) r) b p.system (plane-contiguous g nodes r b p) m.0 m.1

  pub choice-moved : (move : Move) (r : List (List ℕ)) (j : ℕ) → IsPlaneSystem g r → Fits nodes move → j < length nodes → choice nodes (moved nodes move r) j ≡ cond (moved_node move == j) (choice_moved move (choice nodes r j)) (choice nodes r j)
  choice-moved move r j p is l = elim (cases_eq (moved_node move) j) [
    | inl e ↦ subst (λ (i : ℕ). choice nodes (moved nodes move r) i ≡ choice_moved move (choice nodes r i)) e (move-choice move r p is) ∙ sym (own-choice move j (choice nodes r j) e)
    | inr n ↦ move-others g nodes move r (moved nodes move r) b p.system (plane-contiguous g nodes r b p) (move-leads g nodes b move r p is) j l (λ e. n (sym e))
        ∙ sym (other-choice move j (choice nodes r j) (ne_eqb (moved_node move) j n))
  ]

  -- after several
  pub choices-moved : (moves : List Move) (r : List (List ℕ)) (j : ℕ) → IsPlaneSystem g r → All (Fits nodes) moves → j < length nodes → choice nodes (all_moved nodes moves r) j ≡ choice_after moves j (choice nodes r j)
  choices-moved [] r j p a l = refl
  choices-moved (move ∷ moves) r j p a l =
      let one = All-head (Fits nodes) move moves a in
      choices-moved moves (moved nodes move r) j (move-keeps g nodes b move r p one) (All-tail (Fits nodes) move moves a) l ∙ ap (choice_after moves j) (choice-moved move r j p one l)

  -- the moved node is one of the tree
  pub fits-node : (move : Move) → Fits nodes move → moved_node move < length nodes
  fits-node (flip k) is = is.0
  fits-node (permute k keys) is = is.0.0

  -- ---- back

  back-node : (r : List (List ℕ)) (move : Move) → moved_node (way_back nodes r move) ≡ moved_node move
  back-node r (flip k) = refl
  back-node r (permute k keys) = refl

  pub back-fits : (r : List (List ℕ)) → ((k : ℕ) → IsNodeOfKind nodes k P → IsPermutation (node_keys nodes k) (choice nodes r k)) → (move : Move) → Fits nodes move → Fits nodes (way_back nodes r move)
  back-fits r arranged (flip k) is = is
  back-fits r arranged (permute k keys) is = (is.0, arranged k is.0)

  pub backs-fit : (r : List (List ℕ)) → ((k : ℕ) → IsNodeOfKind nodes k P → IsPermutation (node_keys nodes k) (choice nodes r k)) → (moves : List Move) → All (Fits nodes) moves → All (Fits nodes) (map (way_back nodes r) moves)
  backs-fit r arranged [] a = All-nil (Fits nodes)
  backs-fit r arranged (move ∷ moves) a = All-cons (Fits nodes) (way_back nodes r move) (map (way_back nodes r) moves) (back-fits r arranged move (All-head (Fits nodes) move moves a)) (backs-fit r arranged moves (All-tail (Fits nodes) move moves a))

  -- a choice that was reversed twice
  twice : (c : List ℕ) → is_distinct c ≡ true → from_least c ≡ c → from_least (reverse (from_least (reverse c))) ≡ c
  twice c d n = mirror-normal (reverse c) (distinct-reverse c d) ∙ ap from_least (reverse-reverse c) ∙ n

  -- a move and the move back leave the choice of the node
  back-choice : (r : List (List ℕ)) (move : Move) (c : List ℕ) → Fits nodes move → IsPlaneSystem g r → c ≡ choice nodes r (moved_node move) → choice_moved (way_back nodes r move) (choice_moved move c) ≡ c
  back-choice r (flip k) c is p e = let n = choice-normal g nodes b r k p is.0 in twice c (ap is_distinct e ∙ n.0) (ap from_least e ∙ n.1 ∙ sym e)
  back-choice r (permute k keys) c is p e = (choice-normal g nodes b r k p is.0.0).1 ∙ sym e

  -- moves of different nodes, each taken back to the choice of r: from where choices at their nodes are those of r
  returned : (r : List (List ℕ)) → IsPlaneSystem g r → ((k : ℕ) → IsNodeOfKind nodes k P → IsPermutation (node_keys nodes k) (choice nodes r k))
      → (moves : List Move) (x : List (List ℕ)) → IsPlaneSystem g x → All (Fits nodes) moves → is_distinct (map moved_node moves) ≡ true
      → ((j : ℕ) → is_member j (map moved_node moves) ≡ true → choice nodes x j ≡ choice nodes r j) → all_moved nodes (map (way_back nodes r) moves) (all_moved nodes moves x) ≡ x
  returned r p arranged [] x q a d same = refl
  returned r p arranged (move ∷ moves) x q a d same =
      ap (all_moved nodes (map (way_back nodes r) moves)) first ∙ returned r p arranged moves x q rest (distinct-tail k (map moved_node moves) d) (λ j m. same j (member-tail j k (map moved_node moves) m))
    where
      k : ℕ
      k = moved_node move

      one : Fits nodes move
      one = All-head (Fits nodes) move moves a

      rest : All (Fits nodes) moves
      rest = All-tail (Fits nodes) move moves a

      back : Move
      back = way_back nodes r move

      back_fits : Fits nodes back
      back_fits = back-fits r arranged move one

      far : List (List ℕ)
      far = all_moved nodes moves (moved nodes move x)

      far_plane : IsPlaneSystem g far
      far_plane = moves-keep g nodes b moves (moved nodes move x) (move-keeps g nodes b move x q one) rest

      near : List (List ℕ)
      near = all_moved nodes moves x

      alone : is_member k (map moved_node moves) ≡ false
      alone = distinct-head k (map moved_node moves) d

      own : choice nodes (moved nodes back far) k ≡ choice nodes near k
      own = choice-moved back far k far_plane back_fits (fits-node move one) ∙ own-choice back k (choice nodes far k) (back-node r move)
          ∙ ap (choice_moved back) (choices-moved moves (moved nodes move x) k (move-keeps g nodes b move x q one) rest (fits-node move one) ∙ after-others moves k (choice nodes (moved nodes move x) k) alone ∙ move-choice move x q one)
          ∙ back-choice r move (choice nodes x k) one p (same k (member-head k (map moved_node moves)))
          ∙ sym (choices-moved moves x k q rest (fits-node move one) ∙ after-others moves k (choice nodes x k) alone)

      others : (j : ℕ) → j < length nodes → j ≢ k → choice nodes (moved nodes back far) j ≡ choice nodes near j
      others j l n =
          choice-moved back far j far_plane back_fits l ∙ other-choice back j (choice nodes far j) (ne_eqb (moved_node back) j (λ e. n (sym e ∙ back-node r move)))
          ∙ choices-moved moves (moved nodes move x) j (move-keeps g nodes b move x q one) rest l
          ∙ ap (choice_after moves j) (choice-moved move x j q one l ∙ other-choice move j (choice nodes x j) (ne_eqb k j (λ e. n (sym e))))
          ∙ sym (choices-moved moves x j q rest l)

      first : moved nodes back far ≡ near
      first = tell g nodes b (moved nodes back far) near (move-keeps g nodes b back far far_plane back_fits) (moves-keep g nodes b moves x q rest) (λ j l. elim (cases_eq j k) [
        | inl e ↦ subst (λ (i : ℕ). choice nodes (moved nodes back far) i ≡ choice nodes near i) (sym e) own
        | inr n ↦ others j l n
      ])

  -- so the moves that lead back from each alone lead back from all
  pub lead-back : (r : List (List ℕ)) → IsPlaneSystem g r → ((k : ℕ) → IsNodeOfKind nodes k P → IsPermutation (node_keys nodes k) (choice nodes r k)) → (moves : List Move) → AreOfNodes nodes moves → LeadBack nodes r moves (map (way_back nodes r) moves)
  lead-back r p arranged moves are = record { fit = backs-fit r arranged moves are.fit; returns = returned r p arranged moves r p are.fit are.apart (λ j m. refl) }

  -- ---- through plane rotation systems

  -- moves of the tree lead to what they make of a plane rotation system, through plane ones
  pub all-lead : (moves : List Move) (r : List (List ℕ)) → IsPlaneSystem g r → All (Fits nodes) moves → Lead g nodes (IsPlaneSystem g) moves r (all_moved nodes moves r)
  all-lead [] r p a = refl
  all-lead (move ∷ moves) r p a =
      let one = All-head (Fits nodes) move moves a in
      let keeps = move-keeps g nodes b move r p one in
      (moved nodes move r, move-leads g nodes b move r p one, keeps, all-lead moves (moved nodes move r) keeps (All-tail (Fits nodes) move moves a))

-- one move leads as it says
pub one-leads : (g : Multigraph) (nodes : List Node) (move : Move) (r q : List (List ℕ)) → Lead g nodes (IsPlaneSystem g) (move ∷ []) r q → MoveLeads g nodes move r q
one-leads g nodes move r q w = subst (MoveLeads g nodes move r) w.3 w.1

-- the move at a place fits where all do
pub fit-at : (nodes : List Node) (moves : List kept.Move) (i : ℕ) (m : kept.Move) → i < length moves → m ≡ get_or moves i m → All (Fits nodes) (as_moves moves) → Fits nodes (as_move m)
fit-at nodes [] i m l e a = absurd (omega (arith, l))
fit-at nodes (x ∷ moves) zero m l e a = subst (λ (y : kept.Move). Fits nodes (as_move y)) (sym e) (All-head (Fits nodes) (as_move x) (as_moves moves) a)
fit-at nodes (x ∷ moves) (suc i) m l e a = fit-at nodes moves i m (omega (arith, l)) e (All-tail (Fits nodes) (as_move x) (as_moves moves) a)
