-- The key that follows another, and the move of a node.
use Rattle.std.proofs.Common.{◌≡◌, ◌≢◌, ℕ, ◌+◌, ◌≤◌, true, cond, List, [], ◌∷◌, ◌++◌, length, get_or, sym, ap, ◌∙◌, subst, arith}
use Rattle.std.proofs.lemmas.List.{length-append, get_or-append-add}
use Rattle.permutations.specs.Cyclic.{successor}
use Rattle.permutations.specs.Members.{is_distinct}
use Rattle.permutations.proofs.CyclicSame.{outside}
use Rattle.pair_split.specs.Tutte.{Node, node_at}
use Rattle.skeletons.specs.Choices.{choice}
use Rattle.skeletons.specs.Moves.{move_of_kind}
use Rattle.skeletons.proofs.Leading.{is-same}
use Rattle.skel_embed.specs.Exchanges.{StandsAt}
use Rattle.embed_convert.proofs.Between.{same-no}
use Rattle.long_face.specs.Moves.{move_towards}

-- the member after a list and one more
after-all : (front : List ℕ) (key z : ℕ) (back : List ℕ) (i : ℕ) → i ≡ length front + 1 → get_or (front ++ key ∷ z ∷ back) i 0 ≡ z
after-all front key z back i e = ap (λ n. get_or (front ++ key ∷ z ∷ back) n 0) e ∙ get_or-append-add front (key ∷ z ∷ back) 1 0

-- after the last key comes the first
pub follow-end : (keys : List ℕ) (place key : ℕ) → is_distinct keys ≡ true → StandsAt keys place key → place + 1 ≡ length keys → successor keys key ≡ get_or keys 0 0
follow-end keys place key once s e = subst (λ (l : List ℕ). successor l key ≡ get_or l 0 0) (sym s.is)
    (go s.front s.back (subst (λ (l : List ℕ). is_distinct l ≡ true) s.is once) (ap (λ n. n + 1) s.before ∙ e ∙ ap length s.is))
  where
    go : (front back : List ℕ) → is_distinct (front ++ key ∷ back) ≡ true → length front + 1 ≡ length (front ++ key ∷ back) → successor (front ++ key ∷ back) key ≡ get_or (front ++ key ∷ back) 0 0
    go [] [] d q = outside [] key [] d
    go (x ∷ front) [] d q = outside (x ∷ front) key [] d
    go front (z ∷ back) d q = absurd (omega (arith, q, length-append front (key ∷ z ∷ back)))

-- after another the next
pub follow-next : (keys : List ℕ) (place key : ℕ) → is_distinct keys ≡ true → StandsAt keys place key → place + 1 ≢ length keys → successor keys key ≡ get_or keys (place + 1) 0
follow-next keys place key once s n = subst (λ (l : List ℕ). successor l key ≡ get_or l (place + 1) 0) (sym s.is)
    (go s.back (subst (λ (l : List ℕ). is_distinct l ≡ true) s.is once) (λ e. n (ap (λ z. z + 1) (sym s.before) ∙ e ∙ sym (ap length s.is))))
  where
    go : (back : List ℕ) → is_distinct (s.front ++ key ∷ back) ≡ true → (length s.front + 1 ≡ length (s.front ++ key ∷ back) → ⊥) → successor (s.front ++ key ∷ back) key ≡ get_or (s.front ++ key ∷ back) (place + 1) 0
    go [] d m = absurd (m (sym (length-append s.front (key ∷ []))))
    go (z ∷ back) d m = outside s.front key (z ∷ back) d ∙ sym (after-all s.front key z back (place + 1) (ap (λ n. n + 1) (sym s.before)))

-- the move towards the present choice, and towards another
pub towards-kept : (nodes : List Node) (r : List (List ℕ)) (k : ℕ) (keys : List ℕ) → choice nodes r k ≡ keys → move_towards nodes r k keys ≡ []
towards-kept nodes r k keys e = ap (λ z. cond z [] (move_of_kind (node_at nodes k).kind k keys)) (is-same (choice nodes r k) keys e)

pub towards-moved : (nodes : List Node) (r : List (List ℕ)) (k : ℕ) (keys : List ℕ) → choice nodes r k ≢ keys → move_towards nodes r k keys ≡ move_of_kind (node_at nodes k).kind k keys
towards-moved nodes r k keys n = ap (λ z. cond z [] (move_of_kind (node_at nodes k).kind k keys)) (same-no (choice nodes r k) keys n)
