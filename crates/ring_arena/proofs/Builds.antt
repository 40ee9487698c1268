-- Nodes that are pushed into a block one after the other.
use Rattle.std.proofs.Common.{◌≡◌, ℕ, zero, suc, ◌<◌, ◌≤◌, ◌⊎◌, inl, inr, List, [], ◌∷◌, ◌++◌, length, slice_get, slice_index, Some, refl, sym, ap, ◌∙◌, subst}
use Rattle.std.proofs.lemmas.List.{ext_get_or}
use Rattle.std.proofs.lemmas.Option.{same_Some, slice_get_within}
use denote.RawPtr.{Ptr, InBlock}
use Rattle.permutations.specs.Permutation.{Permutes}
use Rattle.permutations.proofs.Permutations.{permutes-identity, permutes-ext}
use Rattle.ring_arena.specs.declared.arena.Node.{Node}
use Rattle.ring_arena.specs.Links.{Links, AreInverse, AreAlone}
use Rattle.ring_arena.specs.Nodes.{max_nodes, place_of, number_at, links_of, IsLinked, AreNodes, KeepRings}
use Rattle.ring_arena.proofs.Items.{some_item}
use Rattle.ring_arena.proofs.Nodes.{number-place, next_link, prev_link, next-long, prev-long}

-- each node has its number and the places that two functions tell
pub record AreBuilt (next prev : ℕ → ℕ) (base : Ptr) (nodes : List Node) : Type 0 where
  pub each : (k : ℕ) (node : Node) → slice_get nodes k ≡ Some node → IsLinked base k (next k) (prev k) node

-- an element of a list with one more at its end
appended_item : {X : Type 0} (xs : List X) (y : X) (k : ℕ) (x : X) → slice_get (xs ++ y ∷ []) k ≡ Some x → ((k ≡ length xs) × (x ≡ y)) ⊎ (slice_get xs k ≡ Some x)
appended_item [] y zero x e = inl (refl, sym (same_Some y x e))
appended_item [] y (suc k) x e = absurd cc
appended_item (z ∷ xs) y zero x e = inr e
appended_item (z ∷ xs) y (suc k) x e = elim (appended_item xs y k x e) [
  | inl h ↦ inl (ap suc (h.0), h.1)
  | inr h ↦ inr h
]

-- one more
pub built-more : (next prev : ℕ → ℕ) (base : Ptr) (nodes : List Node) (d : ℕ) (node : Node) → AreBuilt next prev base nodes → length nodes ≡ d → IsLinked base d (next d) (prev d) node → AreBuilt next prev base (nodes ++ node ∷ [])
built-more next prev base nodes d node are l is = record {
  each = λ k other e. elim (appended_item nodes node k other e) [
    | inl h ↦ rw (h.0, l, h.1) is
    | inr h ↦ are.each k other h
  ];
}

module _ (next prev : ℕ → ℕ) (n : ℕ) (base : Ptr) (nodes : List Node) (are : AreBuilt next prev base nodes) (l : length nodes ≡ n) (inb : InBlock base) where
  -- what is behind each node, and before it
  built-next : (k : ℕ) → k < n → slice_index (links_of base nodes).next k ≡ next k
  built-next k m =
      let held = some_item nodes k (subst (λ (z : ℕ). k < z) (sym l) m) in
      next_link base nodes k held.0 held.1 ∙ ap (number_at base) (are.each k held.0 held.1).next_place ∙ number-place base inb (next k)

  built-prev : (k : ℕ) → k < n → slice_index (links_of base nodes).prev k ≡ prev k
  built-prev k m =
      let held = some_item nodes k (subst (λ (z : ℕ). k < z) (sym l) m) in
      prev_link base nodes k held.0 held.1 ∙ ap (number_at base) (are.each k held.0 held.1).prev_place ∙ number-place base inb (prev k)

  -- they are nodes of the block
  built-nodes : n ≤ max_nodes → ((k : ℕ) → k < n → next k < n) → ((k : ℕ) → k < n → prev k < n) → AreNodes base nodes
  built-nodes few in_next in_prev = record {
    few = subst (λ (z : ℕ). z ≤ max_nodes) (sym l) few;
    in_block = inb;
    each = λ k node e.
        let within : k < n = subst (λ (z : ℕ). k < z) l (slice_get_within nodes k node e) in
        let is = are.each k node e in
        let number_next : number_at base node.next ≡ next k = ap (number_at base) is.next_place ∙ number-place base inb (next k) in
        let number_prev : number_at base node.prev ≡ prev k = ap (number_at base) is.prev_place ∙ number-place base inb (prev k) in
        record {
          numbered = is.numbered;
          followed = is.followed ∙ sym number_next;
          next_in = rw (number_next, l) (in_next k within);
          next_place = is.next_place ∙ ap (place_of base) (sym number_next);
          prev_in = rw (number_prev, l) (in_prev k within);
          prev_place = is.prev_place ∙ ap (place_of base) (sym number_prev);
        };
  }

-- nodes that are built alone
pub built-alone : (n : ℕ) (base : Ptr) (nodes : List Node) → AreBuilt (λ k. k) (λ k. k) base nodes → length nodes ≡ n → InBlock base → AreAlone n (links_of base nodes)
built-alone n base nodes are l inb =
    let long : length (links_of base nodes).next ≡ n = next-long base nodes ∙ l in
    record {
      count = long;
      alone = built-next (λ k. k) (λ k. k) n base nodes are l inb;
      inverse = record {
        long = prev-long base nodes ∙ sym (next-long base nodes);
        permutes = subst (λ (z : ℕ). Permutes z (slice_index (links_of base nodes).next) (slice_index (links_of base nodes).prev)) (sym long)
            (permutes-ext n (λ k. k) (λ k. k) (slice_index (links_of base nodes).next) (slice_index (links_of base nodes).prev) (permutes-identity n)
            (built-next (λ k. k) (λ k. k) n base nodes are l inb) (built-prev (λ k. k) (λ k. k) n base nodes are l inb));
      };
    }

pub alone-kept : (n : ℕ) (base : Ptr) (nodes : List Node) → n ≤ max_nodes → AreBuilt (λ k. k) (λ k. k) base nodes → length nodes ≡ n → InBlock base → KeepRings base nodes
alone-kept n base nodes few are l inb = (built-nodes (λ k. k) (λ k. k) n base nodes are l inb few (λ k m. m) (λ k m. m), (built-alone n base nodes are l inb).inverse)

-- nodes that are built as they stand elsewhere
pub built-copy : (links : Links) (base : Ptr) (nodes : List Node) → AreInverse links → AreBuilt (slice_index links.next) (slice_index links.prev) base nodes → length nodes ≡ length links.next → InBlock base → links_of base nodes ≡ links
built-copy links base nodes inv are l inb =
    let next : (links_of base nodes).next ≡ links.next = ext_get_or 0 (links_of base nodes).next links.next (next-long base nodes ∙ l)
    (λ k m. built-next (slice_index links.next) (slice_index links.prev) (length links.next) base nodes are l inb k (subst (λ (z : ℕ). k < z) (next-long base nodes ∙ l) m)) in
    let prev : (links_of base nodes).prev ≡ links.prev = ext_get_or 0 (links_of base nodes).prev links.prev (prev-long base nodes ∙ l ∙ sym inv.long)
    (λ k m. built-prev (slice_index links.next) (slice_index links.prev) (length links.next) base nodes are l inb k (subst (λ (z : ℕ). k < z) (prev-long base nodes ∙ l) m)) in
    λ i. record { next = next i; prev = prev i }

pub copy-kept : (links : Links) (base : Ptr) (nodes : List Node) → length links.next ≤ max_nodes → AreInverse links → AreBuilt (slice_index links.next) (slice_index links.prev) base nodes → length nodes ≡ length links.next → InBlock base → KeepRings base nodes
copy-kept links base nodes few inv are l inb = (
  built-nodes (slice_index links.next) (slice_index links.prev) (length links.next) base nodes are l inb few inv.permutes.forth inv.permutes.back,
  subst AreInverse (sym (built-copy links base nodes inv are l inb)) inv,
)
