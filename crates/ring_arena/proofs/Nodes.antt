-- Nodes in a block: what their places say, and what one write changes.
use Rattle.std.proofs.Common.{◌≡◌, ◌≢◌, ℕ, ◌+◌, ◌-◌, ◌*◌, ◌/◌, ◌<◌, ◌≤◌, ◌⊎◌, inl, inr, List, map, length, get_or, slice_get, slice_index, slice_set, Some, refl, sym, ap, ◌∙◌, subst, arith}
use Rattle.std.proofs.lemmas.Bool.{cases_eq}
use Rattle.std.proofs.lemmas.List.{length-map, map-set, length-set, get_or-map, get_or-set_same, get_or-set_other}
use Rattle.std.proofs.lemmas.Option.{slice_get-get_or, slice_get_within, get_or_from_slice_get}
use Rattle.std.proofs.Math.Nat.{mul-div_cancel}
use Rattle.std.proofs.Math.Seq.{map-set_same}
use denote.RawPtr.{Ptr, InBlock, block_ptr, null_ptr}
use Rattle.ring_arena.specs.declared.arena.Node.{Node}
use Rattle.ring_arena.specs.Nodes.{max_nodes, node_size, place_of, number_at, links_of, IsNode, AreNodes, AreRelinked, AreTurned}

-- an element that is read is the one at its index
pub read_item : {X : Type 0} (xs : List X) (k : ℕ) (x : X) → k < length xs → x ≡ get_or xs k x → slice_get xs k ≡ Some x
read_item xs k x l e = slice_get-get_or xs k x l ∙ ap Some (sym e)

-- an element after a write: the one written, or the one from before
pub set_item : {X : Type 0} (xs : List X) (i k : ℕ) (y x : X) → slice_get (slice_set xs i y) k ≡ Some x → ((k ≡ i) × (x ≡ y)) ⊎ ((k ≢ i) × (slice_get xs k ≡ Some x))
set_item xs i k y x e =
    let within : k < length (slice_set xs i y) = slice_get_within (slice_set xs i y) k x e in
    let within_old : k < length xs = subst (λ (n : ℕ). k < n) (length-set xs i y) within in
    let is : get_or (slice_set xs i y) k y ≡ x = get_or_from_slice_get (slice_set xs i y) k x y e in
    elim (cases_eq k i) [
      | inl h ↦ inl (h, sym is ∙ ap (λ (n : ℕ). get_or (slice_set xs i y) n y) h ∙ get_or-set_same xs i y y (subst (λ (n : ℕ). n < length xs) h within_old))
      | inr h ↦ inr (h, slice_get-get_or xs k y within_old ∙ ap Some (sym (get_or-set_other xs i k y y h) ∙ is))
    ]

-- the number of the node at a place is told by the place
pub number-place : (base : Ptr) → InBlock base → (k : ℕ) → number_at base (place_of base k) ≡ k
number-place null_ptr inb k = absurd inb
number-place (block_ptr b o) inb k =
    let far : (o + k * node_size) - o ≡ k * node_size = omega arith in
    ap (λ (n : ℕ). n / node_size) far ∙ mul-div_cancel k (omega arith)

-- what the lists of links say of a node
pub next_link : (base : Ptr) (nodes : List Node) (k : ℕ) (node : Node) → slice_get nodes k ≡ Some node → slice_index (links_of base nodes).next k ≡ number_at base node.next
next_link base nodes k node e =
    get_or-map (λ (n : Node). number_at base n.next) nodes k node 0 (slice_get_within nodes k node e) ∙ ap (λ (n : Node). number_at base n.next) (get_or_from_slice_get nodes k node node e)

pub prev_link : (base : Ptr) (nodes : List Node) (k : ℕ) (node : Node) → slice_get nodes k ≡ Some node → slice_index (links_of base nodes).prev k ≡ number_at base node.prev
prev_link base nodes k node e =
    get_or-map (λ (n : Node). number_at base n.prev) nodes k node 0 (slice_get_within nodes k node e) ∙ ap (λ (n : Node). number_at base n.prev) (get_or_from_slice_get nodes k node node e)

-- as many links as nodes
pub next-long : (base : Ptr) (nodes : List Node) → length (links_of base nodes).next ≡ length nodes
next-long base nodes = length-map nodes (λ (n : Node). number_at base n.next)

pub prev-long : (base : Ptr) (nodes : List Node) → length (links_of base nodes).prev ≡ length nodes
prev-long base nodes = length-map nodes (λ (n : Node). number_at base n.prev)

-- the number of the node behind a node stands in it
pub after_number : (base : Ptr) (nodes : List Node) (k : ℕ) (node : Node) → AreNodes base nodes → slice_get nodes k ≡ Some node → node.after ≡ slice_index (links_of base nodes).next k
after_number base nodes k node are e = (are.each k node e).followed ∙ sym (next_link base nodes k node e)

-- the node before a node is the one at its place
pub before_number : (base : Ptr) (nodes : List Node) (k : ℕ) (node other : Node) → AreNodes base nodes → slice_get nodes k ≡ Some node
    → slice_get nodes (number_at base node.prev) ≡ Some other → other.number ≡ slice_index (links_of base nodes).prev k
before_number base nodes k node other are e f = (are.each (number_at base node.prev) other f).numbered ∙ sym (prev_link base nodes k node e)

-- a node is written over by another node
pub nodes-set : (base : Ptr) (nodes : List Node) (i : ℕ) (y : Node) → AreNodes base nodes → IsNode base (length nodes) i y → AreNodes base (slice_set nodes i y)
nodes-set base nodes i y are is = record {
  few = subst (λ (n : ℕ). n ≤ max_nodes) (sym (length-set nodes i y)) are.few;
  in_block = are.in_block;
  each = λ k node e. subst (λ (n : ℕ). IsNode base n k node) (sym (length-set nodes i y)) (elim (set_item nodes i k y node e) [
    | inl h ↦ rw (h.0, h.1) is
    | inr h ↦ are.each k node (h.1)
  ]);
}

-- a node with other places
pub node-placed : (base : Ptr) (count k : ℕ) (node : Node) (after i j : ℕ) (next prev : Ptr) → InBlock base → node.number ≡ k → after ≡ i → i < count → next ≡ place_of base i → j < count → prev ≡ place_of base j
    → IsNode base count k (record { number = node.number; after = after; next = next; prev = prev })
node-placed base count k node after i j next prev inb e a l u m v =
    let number_next : number_at base next ≡ i = ap (number_at base) u ∙ number-place base inb i in
    let number_prev : number_at base prev ≡ j = ap (number_at base) v ∙ number-place base inb j in
    record {
      numbered = e;
      followed = a ∙ sym number_next;
      next_in = subst (λ (n : ℕ). n < count) (sym number_next) l;
      next_place = u ∙ ap (place_of base) (sym number_next);
      prev_in = subst (λ (n : ℕ). n < count) (sym number_prev) m;
      prev_place = v ∙ ap (place_of base) (sym number_prev);
    }

-- a's place behind it is written, then b's place before it
pub relinked : (base : Ptr) (nodes : List Node) (a b : ℕ) (at_a at_b : Node) (to from : Ptr) → AreNodes base nodes → a < length nodes → b < length nodes
    → at_a ≡ get_or nodes a at_a → to ≡ place_of base b → from ≡ place_of base a
    → at_b ≡ get_or (slice_set nodes a (record { number = at_a.number; after = b; next = to; prev = at_a.prev })) b at_b
    → AreRelinked base nodes base (slice_set (slice_set nodes a (record { number = at_a.number; after = b; next = to; prev = at_a.prev })) b (record { number = at_b.number; after = at_b.after; next = at_b.next; prev = from })) a b
relinked base nodes a b at_a at_b to from are la lb ea et ef eb =
    let new_a : Node = record { number = at_a.number; after = b; next = to; prev = at_a.prev } in
    let mid : List Node = slice_set nodes a new_a in
    let new_b : Node = record { number = at_b.number; after = at_b.after; next = at_b.next; prev = from } in
    let lm : length mid ≡ length nodes = length-set nodes a new_a in
    let is_a = are.each a at_a (read_item nodes a at_a la ea) in
    let are_mid : AreNodes base mid = nodes-set base nodes a new_a are (node-placed base (length nodes) a at_a b b (number_at base at_a.prev) to at_a.prev are.in_block is_a.numbered refl lb et is_a.prev_in is_a.prev_place) in
    let lb' : b < length mid = subst (λ (n : ℕ). b < n) (sym lm) lb in
    let la' : a < length mid = subst (λ (n : ℕ). a < n) (sym lm) la in
    let is_b = are_mid.each b at_b (read_item mid b at_b lb' eb) in
    let f : Node → ℕ = λ n. number_at base n.next in let g : Node → ℕ = λ n. number_at base n.prev in
    record {
      in_place = refl;
      count = length-set mid b new_b ∙ lm;
      nodes = nodes-set base mid b new_b are_mid (node-placed base (length mid) b at_b at_b.after (number_at base at_b.next) a at_b.next from are.in_block is_b.numbered is_b.followed is_b.next_in is_b.next_place la' ef);
      next = map-set_same f mid b new_b at_b (ap f eb) ∙ map-set f nodes a new_a ∙ ap (slice_set (map f nodes) a) (ap (number_at base) et ∙ number-place base are.in_block b);
      prev = map-set g mid b new_b ∙ ap (λ (l : List ℕ). slice_set l b (g new_b)) (map-set_same g nodes a new_a at_a (ap g ea)) ∙ ap (slice_set (map g nodes) b) (ap (number_at base) ef ∙ number-place base are.in_block a);
    }

-- the two places of a node are exchanged
pub places-exchanged : (base : Ptr) (nodes : List Node) (k before : ℕ) (node : Node) → AreNodes base nodes → k < length nodes → node ≡ get_or nodes k node → before ≡ number_at base node.prev
    → AreTurned base nodes base (slice_set nodes k (record { number = node.number; after = before; next = node.prev; prev = node.next })) k
places-exchanged base nodes k before node are l e b =
    let new : Node = record { number = node.number; after = before; next = node.prev; prev = node.next } in
    let held = read_item nodes k node l e in let is = are.each k node held in
    let f : Node → ℕ = λ n. number_at base n.next in let g : Node → ℕ = λ n. number_at base n.prev in
    record {
      in_place = refl;
      count = length-set nodes k new;
      nodes = nodes-set base nodes k new are (record { numbered = is.numbered; followed = b; next_in = is.prev_in; next_place = is.prev_place; prev_in = is.next_in; prev_place = is.next_place });
      next = map-set f nodes k new ∙ ap (slice_set (map f nodes) k) (sym (prev_link base nodes k node held));
      prev = map-set g nodes k new ∙ ap (slice_set (map g nodes) k) (sym (next_link base nodes k node held));
    }
