-- A ring that is turned round, node by node.
use Rattle.std.proofs.Common.{◌≡◌, ◌≢◌, ℕ, suc, ◌+◌, ◌-◌, ◌<◌, ◌≤◌, inl, inr, Bool, true, false, cond, List, length, slice_index, slice_set, sym, ap, ◌∙◌, subst, add-one, arith}
use Rattle.std.proofs.lemmas.Bool.{cases_eq, cases_Bool}
use Rattle.std.proofs.lemmas.List.{length-set, get_or-set_same, get_or-set_other}
use Rattle.permutations.specs.Permutation.{Permutes, iterate, reaches, same_orbit}
use Rattle.permutations.proofs.Relation.{same-tests}
use Rattle.permutations.proofs.Permutations.{permutes-ext}
use Rattle.permutations.proofs.Orbits.{orbit-equivalence, orbit-step, orbit-kept}
use Rattle.permutations.proofs.Iterates.{iterate-below, iterate-more, iterate-between, iterate-orbit, reaches-from, reaches-steps, orbit-reaches}
use denote.RawPtr.{Ptr}
use Rattle.ring_arena.specs.declared.arena.Node.{Node}
use Rattle.ring_arena.specs.Links.{Links, AreInverse, AreNow, reversed_at}
use Rattle.ring_arena.specs.Nodes.{links_of, AreNodes, AreTurned}

-- f where the test fails, g where it holds
abbrev pub turned : (ℕ → Bool) → (ℕ → ℕ) → (ℕ → ℕ) → ℕ → ℕ
turned t f g x = cond (t x) (g x) (f x)

module _ (n : ℕ) (f g : ℕ → ℕ) (perm : Permutes n f g) (d : ℕ) (ld : d < n) where
  abbrev around : ℕ → Bool
  around = same_orbit n f d

  -- the ring of d is closed under the steps
  around-next : (x : ℕ) → x < n → around (f x) ≡ around x
  around-next x l = let e = orbit-equivalence n f in
      same-tests (around (f x)) (around x)
      (λ h. e.transitive d (f x) x h (e.symmetric x (f x) (orbit-step n f x l)))
      (λ h. e.transitive d x (f x) h (orbit-step n f x l))

  around-prev : (x : ℕ) → x < n → around (g x) ≡ around x
  around-prev x l = sym (around-next (g x) (perm.back x l)) ∙ ap around (perm.forth_back x l)

  -- the links of the ring exchanged are permutations again
  turned-below : (x : ℕ) → x < n → turned around f g x < n
  turned-below x l = elim (cases_Bool (around x)) [
    | inl h ↦ rw h (perm.back x l)
    | inr h ↦ rw h (perm.forth x l)
  ]

  turned-below_back : (x : ℕ) → x < n → turned around g f x < n
  turned-below_back x l = elim (cases_Bool (around x)) [
    | inl h ↦ rw h (perm.forth x l)
    | inr h ↦ rw h (perm.back x l)
  ]

  turned-there : (x : ℕ) → x < n → turned around g f (turned around f g x) ≡ x
  turned-there x l = elim (cases_Bool (around x)) [
    | inl h ↦ rw (h, around-prev x l, h) (perm.forth_back x l)
    | inr h ↦ rw (h, around-next x l, h) (perm.back_forth x l)
  ]

  turned-and_back : (x : ℕ) → x < n → turned around f g (turned around g f x) ≡ x
  turned-and_back x l = elim (cases_Bool (around x)) [
    | inl h ↦ rw (h, around-next x l, h) (perm.back_forth x l)
    | inr h ↦ rw (h, around-prev x l, h) (perm.forth_back x l)
  ]

  pub turned-permutes : Permutes n (turned around f g) (turned around g f)
  turned-permutes = record { forth = turned-below; back = turned-below_back; back_forth = turned-there; forth_back = turned-and_back }

  -- so many steps from d on lead round the whole ring, once they lead back
  round-closed : (i : ℕ) → iterate f (suc i) d ≡ d → (z : ℕ) → z < n → reaches (suc i) f d z ≡ true → reaches (suc i) f d (f z) ≡ true
  round-closed i back z l h =
      let step = reaches-steps (suc i) f d z h in
      let is : iterate f (suc (step.0)) d ≡ f z = ap f step.2 in
      elim (cases_eq (step.0) i) [
        | inl e ↦ subst (λ (y : ℕ). reaches (suc i) f d y ≡ true) (sym back ∙ ap (λ (k : ℕ). iterate f (suc k) d) (sym e) ∙ is) (reaches-from (suc i) f 0 d (omega arith))
        | inr e ↦ subst (λ (y : ℕ). reaches (suc i) f d y ≡ true) is (reaches-from (suc i) f (suc (step.0)) d (let less : step.0 < suc i = step.1 in omega arith))
      ]

  round-whole : (i : ℕ) → iterate f (suc i) d ≡ d → (x : ℕ) → reaches (suc i) f d x ≡ around x
  round-whole i back x = same-tests (reaches (suc i) f d x) (around x)
      (λ h. let step = reaches-steps (suc i) f d x h in subst (λ (y : ℕ). around y ≡ true) step.2 (iterate-orbit n f g perm step.0 d ld))
      (λ h. sym (orbit-kept n f g perm (reaches (suc i) f d) (round-closed i back) d x h) ∙ reaches-from (suc i) f 0 d (omega arith))

  -- one step more reaches one number more
  reaches-more : (i x : ℕ) → x ≢ iterate f i d → reaches (suc i) f d x ≡ reaches i f d x
  reaches-more i x h = same-tests (reaches (suc i) f d x) (reaches i f d x)
      (λ t. let step = reaches-steps (suc i) f d x t in elim (cases_eq (step.0) i) [
        | inl e ↦ absurd (h (sym step.2 ∙ ap (λ (k : ℕ). iterate f k d) e))
        | inr e ↦ subst (λ (y : ℕ). reaches i f d y ≡ true) step.2 (reaches-from i f step.0 d (let less : step.0 < suc i = step.1 in omega arith))
      ])
      (λ t. let step = reaches-steps i f d x t in subst (λ (y : ℕ). reaches (suc i) f d y ≡ true) step.2 (reaches-from (suc i) f step.0 d (let less : step.0 < i = step.1 in omega arith)))

  -- what is not met again before the ring is closed
  not-met : (i : ℕ) → ((k : ℕ) → 0 < k → k ≤ i → iterate f k d ≢ d) → reaches i f d (iterate f i d) ≡ false
  not-met i fresh = elim (cases_Bool (reaches i f d (iterate f i d))) [
    | inl h ↦ absurd (let step = reaches-steps i f d (iterate f i d) h in
        let less : step.0 < i = step.1 in let gap : ℕ = i - step.0 in
        fresh gap (omega arith) (omega arith) (iterate-between n f g perm d ld step.0 gap (step.2 ∙ ap (λ (k : ℕ). iterate f k d) (let whole : i ≡ step.0 + gap = omega arith in whole))))
    | inr h ↦ h
  ]

-- the links after so many nodes of the ring of d are turned
pub record AreTurnedSoFar (f g : ℕ → ℕ) (n d i : ℕ) (links : Links) : Type 0 where
  pub long_next : length links.next ≡ n
  pub long_prev : length links.prev ≡ n
  pub next : (x : ℕ) → x < n → slice_index links.next x ≡ cond (reaches i f d x) (g x) (f x)
  pub prev : (x : ℕ) → x < n → slice_index links.prev x ≡ cond (reaches i f d x) (f x) (g x)

-- and the node that comes next, where the ring is not closed yet
pub record IsTurning (f g : ℕ → ℕ) (n d i at : ℕ) (links : Links) : Type 0 where
  pub so_far : AreTurnedSoFar f g n d i links
  pub at_step : at ≡ iterate f i d
  pub not_back : (k : ℕ) → 0 < k → k ≤ i → iterate f k d ≢ d

module _ (n : ℕ) (f g : ℕ → ℕ) (perm : Permutes n f g) (d : ℕ) (ld : d < n) where
  -- one node more is turned, and the next one is at hand
  pub turned-more : (i at : ℕ) (links new : Links) → IsTurning f g n d i at links → new.next ≡ slice_set links.next at (slice_index links.prev at) → new.prev ≡ slice_set links.prev at (slice_index links.next at)
      → AreTurnedSoFar f g n d (i + 1) new
  turned-more i at links new is en ep = record {
    long_next = ap length en ∙ length-set links.next at (slice_index links.prev at) ∙ is.so_far.long_next;
    long_prev = ap length ep ∙ length-set links.prev at (slice_index links.next at) ∙ is.so_far.long_prev;
    next = λ x l. ap (λ (k : List ℕ). slice_index k x) en ∙ elim (cases_eq x at) [
      | inl e ↦ ap (slice_index (slice_set links.next at (slice_index links.prev at))) e ∙ get_or-set_same links.next at (slice_index links.prev at) 0 (subst (λ (z : ℕ). at < z) (sym is.so_far.long_next) in_range) ∙ before ∙ ap g (sym e)
          ∙ sym (ap (λ (b : Bool). cond b (g x) (f x)) (met_now x e))
      | inr h ↦ get_or-set_other links.next at x (slice_index links.prev at) 0 h ∙ is.so_far.next x l ∙ sym (ap (λ (b : Bool). cond b (g x) (f x)) (met_else x h))
    ];
    prev = λ x l. ap (λ (k : List ℕ). slice_index k x) ep ∙ elim (cases_eq x at) [
      | inl e ↦ ap (slice_index (slice_set links.prev at (slice_index links.next at))) e ∙ get_or-set_same links.prev at (slice_index links.next at) 0 (subst (λ (z : ℕ). at < z) (sym is.so_far.long_prev) in_range) ∙ behind ∙ ap f (sym e)
          ∙ sym (ap (λ (b : Bool). cond b (f x) (g x)) (met_now x e))
      | inr h ↦ get_or-set_other links.prev at x (slice_index links.next at) 0 h ∙ is.so_far.prev x l ∙ sym (ap (λ (b : Bool). cond b (f x) (g x)) (met_else x h))
    ];
  }
    where
      in_range : at < n
      in_range = subst (λ (z : ℕ). z < n) (sym is.at_step) (iterate-below n f g perm i d ld)

      fresh : reaches i f d at ≡ false
      fresh = ap (reaches i f d) is.at_step ∙ not-met n f g perm d ld i is.not_back

      before : slice_index links.prev at ≡ g at
      before = is.so_far.prev at in_range ∙ ap (λ (b : Bool). cond b (f at) (g at)) fresh

      behind : slice_index links.next at ≡ f at
      behind = is.so_far.next at in_range ∙ ap (λ (b : Bool). cond b (g at) (f at)) fresh

      met_now : (x : ℕ) → x ≡ at → reaches (i + 1) f d x ≡ true
      met_now x e = subst (λ (y : ℕ). reaches (i + 1) f d y ≡ true) (sym (e ∙ is.at_step)) (reaches-from (i + 1) f i d (omega arith))

      met_else : (x : ℕ) → x ≢ at → reaches (i + 1) f d x ≡ reaches i f d x
      met_else x h = ap (λ (k : ℕ). reaches k f d x) (add-one i) ∙ reaches-more n f g perm d ld i x (λ e. h (e ∙ sym is.at_step))

  -- the node that comes next
  pub next-step : (i at after : ℕ) (links : Links) → IsTurning f g n d i at links → after ≡ slice_index links.next at → after ≡ iterate f (i + 1) d
  next-step i at after links is e =
      let in_range : at < n = subst (λ (z : ℕ). z < n) (sym is.at_step) (iterate-below n f g perm i d ld) in
      let fresh : reaches i f d at ≡ false = ap (reaches i f d) is.at_step ∙ not-met n f g perm d ld i is.not_back in
      e ∙ is.so_far.next at in_range ∙ ap (λ (b : Bool). cond b (g at) (f at)) fresh ∙ ap f is.at_step ∙ sym (iterate-more f i d)

  -- the ring is not closed yet
  pub turning-more : (i at after : ℕ) (links new : Links) → IsTurning f g n d i at links → AreTurnedSoFar f g n d (i + 1) new → after ≡ slice_index links.next at → after ≢ d → IsTurning f g n d (i + 1) after new
  turning-more i at after links new is so_far e open_still = record {
    so_far = so_far;
    at_step = next-step i at after links is e;
    not_back = λ k p l. elim (cases_eq k (i + 1)) [
      | inl h ↦ λ back. open_still (next-step i at after links is e ∙ ap (λ (j : ℕ). iterate f j d) (sym h) ∙ back)
      | inr h ↦ is.not_back k p (omega arith)
    ];
  }

-- the links where all nodes of the ring are turned
turned-all : (old links : Links) (d i : ℕ) → AreInverse old → d < length old.next → AreTurnedSoFar (slice_index old.next) (slice_index old.prev) (length old.next) d i links
    → ((x : ℕ) → reaches i (slice_index old.next) d x ≡ same_orbit (length old.next) (slice_index old.next) d x) → AreNow old links (reversed_at old d)
turned-all old links d i inv ld so_far whole =
    let n : ℕ = length old.next in let f : ℕ → ℕ = slice_index old.next in let g : ℕ → ℕ = slice_index old.prev in
    let next : (x : ℕ) → x < n → slice_index links.next x ≡ turned (same_orbit n f d) f g x = λ x l. so_far.next x l ∙ ap (λ (b : Bool). cond b (g x) (f x)) (whole x) in
    let prev : (x : ℕ) → x < n → slice_index links.prev x ≡ turned (same_orbit n f d) g f x = λ x l. so_far.prev x l ∙ ap (λ (b : Bool). cond b (f x) (g x)) (whole x) in
    record {
      count = so_far.long_next;
      behind = next;
      inverse = record {
        long = so_far.long_prev ∙ sym so_far.long_next;
        permutes = subst (λ (m : ℕ). Permutes m (slice_index links.next) (slice_index links.prev)) (sym so_far.long_next)
            (permutes-ext n (turned (same_orbit n f d) f g) (turned (same_orbit n f d) g f) (slice_index links.next) (slice_index links.prev) (turned-permutes n f g inv.permutes d ld) next prev);
      };
    }

-- the walk has come back
pub turned_back : (old links : Links) (d i : ℕ) → AreInverse old → d < length old.next → AreTurnedSoFar (slice_index old.next) (slice_index old.prev) (length old.next) d (i + 1) links → iterate (slice_index old.next) (i + 1) d ≡ d → AreNow old links (reversed_at old d)
turned_back old links d i inv ld so_far back = turned-all old links d (i + 1) inv ld so_far
    (λ x. ap (λ (k : ℕ). reaches k (slice_index old.next) d x) (add-one i) ∙ round-whole (length old.next) (slice_index old.next) (slice_index old.prev) inv.permutes d ld i (ap (λ (k : ℕ). iterate (slice_index old.next) k d) (sym (add-one i)) ∙ back) x)

-- as many nodes as there are were turned
pub turned_through : (old links : Links) (d : ℕ) → AreInverse old → d < length old.next → AreTurnedSoFar (slice_index old.next) (slice_index old.prev) (length old.next) d (length old.next) links → AreNow old links (reversed_at old d)
turned_through old links d inv ld so_far = turned-all old links d (length old.next) inv ld so_far (λ x. sym (orbit-reaches (length old.next) (slice_index old.next) (slice_index old.prev) inv.permutes d x ld))

-- the links after one node of a block is turned
pub turn-next : (base new_base : Ptr) (nodes new : List Node) (k : ℕ) → AreTurned base nodes new_base new k → (links_of new_base new).next ≡ slice_set (links_of base nodes).next k (slice_index (links_of base nodes).prev k)
turn-next base new_base nodes new k is = ap (λ (p : Ptr). (links_of p new).next) is.in_place ∙ is.next

pub turn-prev : (base new_base : Ptr) (nodes new : List Node) (k : ℕ) → AreTurned base nodes new_base new k → (links_of new_base new).prev ≡ slice_set (links_of base nodes).prev k (slice_index (links_of base nodes).next k)
turn-prev base new_base nodes new k is = ap (λ (p : Ptr). (links_of p new).prev) is.in_place ∙ is.prev

pub turn-nodes : (base new_base : Ptr) (nodes new : List Node) (k : ℕ) → AreTurned base nodes new_base new k → AreNodes new_base new
turn-nodes base new_base nodes new k is = subst (λ (p : Ptr). AreNodes p new) (sym is.in_place) is.nodes
