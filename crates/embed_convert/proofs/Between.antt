-- The move of a node, one node after the other.
use Rattle.std.proofs.Common.{◌≡◌, ◌≢◌, ℕ, ◌+◌, ◌<◌, Bool, true, false, not, cond, ◌&&◌, List, [], ◌++◌, length, refl, sym, ap, ap₂, ◌∙◌, add-one}
use Rattle.std.proofs.lemmas.Bool.{both_ways, false_from_ne_true}
use Rattle.pair_split.specs.Tutte.{Node, node_at, is_before}
use Rattle.skeletons.specs.Choices.{choice}
use Rattle.skeletons.specs.Moves.{Move, moved_node, is_same, move_of_kind, move_at, moves_below, moves_between}
use Rattle.skeletons.proofs.Before.{before-total}
use Rattle.skeletons.proofs.Leading.{moves-name, is-same}
use Rattle.std.proofs.lemmas.List.Elements.{All-weaker}
use Rattle.embed_convert.specs.Laws.{MovesKeepLocks}

pub same-no : (c d : List ℕ) → c ≢ d → is_same c d ≡ false
same-no c d n = false_from_ne_true (is_same c d) (λ y. n (told (is_before c d) (is_before d c) refl refl y))
  where
    told : (a b : Bool) → is_before c d ≡ a → is_before d c ≡ b → (not a && not b) ≡ true → c ≡ d
    told true b e f y = absurd (both_ways false refl y)
    told false true e f y = absurd (both_ways false refl y)
    told false false e f y = before-total c d e f

-- the move of a node at which the choices agree, and differ
pub no-move : (nodes : List Node) (r q : List (List ℕ)) (k : ℕ) → choice nodes r k ≡ choice nodes q k → move_at nodes r q k ≡ []
no-move nodes r q k e = ap (λ z. cond z [] (move_of_kind (node_at nodes k).kind k (choice nodes q k))) (is-same (choice nodes r k) (choice nodes q k) e)

pub some-move : (nodes : List Node) (r q : List (List ℕ)) (k : ℕ) → choice nodes r k ≢ choice nodes q k → move_at nodes r q k ≡ move_of_kind (node_at nodes k).kind k (choice nodes q k)
some-move nodes r q k n = ap (λ z. cond z [] (move_of_kind (node_at nodes k).kind k (choice nodes q k))) (same-no (choice nodes r k) (choice nodes q k) n)

-- one node more
pub moves-more : (nodes : List Node) (r q : List (List ℕ)) (k : ℕ) (list found : List Move) → list ≡ moves_below nodes r q k → found ≡ move_at nodes r q k → list ++ found ≡ moves_below nodes r q (k + 1)
moves-more nodes r q k list found e f = ap₂ (λ (a b : List Move). a ++ b) e f ∙ sym (ap (moves_below nodes r q) (add-one k))

-- no move of a locked node
pub keep-locks : MovesKeepLocks
keep-locks nodes locked r q same =
    All-weaker (λ (move : Move). (moved_node move < length nodes) × (choice nodes r (moved_node move) ≡ choice nodes q (moved_node move) → ⊥)) (λ (move : Move). locked (moved_node move) ≡ false)
    (λ move d. false_from_ne_true (locked (moved_node move)) (λ y. d.1 (sym (same (moved_node move) d.0 y)))) (moves_between nodes r q) (moves-name nodes r q)
