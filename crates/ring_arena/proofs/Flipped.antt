-- Rings read the other way around: what a change of the nodes does to them.
use Rattle.std.proofs.Common.{◌≡◌, ℕ, ◌<◌, inl, inr, Bool, true, false, cond, length, slice_index, refl, sym, ap, ◌∙◌, subst}
use Rattle.permutations.specs.Permutation.{Permutes, same_orbit}
use Rattle.permutations.specs.Exchange.{swapped, exchange}
use Rattle.permutations.proofs.Permutations.{permutes-inverse, exchange-permutes, exchange-cases, swapped-left, swapped-right, swapped-other}
use Rattle.permutations.proofs.Orbits.{orbit-inverse}
use Rattle.ring_arena.specs.Links.{Links, AreInverse, AreNow, reversed_at, flipped, seen}
use Rattle.ring_arena.proofs.Reversal.{turned, turned-permutes}

-- the two lists are still inverse to each other
pub flip-inverse : (links : Links) → AreInverse links → AreInverse (flipped links)
flip-inverse links inv = record {
  long = sym inv.long;
  permutes = subst (λ (m : ℕ). Permutes m (slice_index links.prev) (slice_index links.next)) (sym inv.long)
      (permutes-inverse (length links.next) (slice_index links.next) (slice_index links.prev) inv.permutes);
}

-- as many nodes
pub seen-count : (turned : Bool) (links : Links) → AreInverse links → length (seen turned links).next ≡ length links.next
seen-count true links inv = inv.long
seen-count false links inv = refl

-- where the nodes after each are given by f, the nodes before each are given by its inverse
pub flip-now : (old new : Links) (f h : ℕ → ℕ) → AreInverse old → AreNow old new f → ((d : ℕ) → d < length old.next → (h d < length old.next) × (f (h d) ≡ d)) → AreNow (flipped old) (flipped new) h
flip-now old new f h inv now inverse = record {
  count = now.inverse.long ∙ now.count ∙ sym inv.long;
  behind = λ d l.
      let is = inverse d (subst (λ (m : ℕ). d < m) inv.long l) in
      ap (slice_index new.prev) (sym (now.behind (h d) is.0 ∙ is.1)) ∙ now.inverse.permutes.back_forth (h d) (subst (λ (m : ℕ). h d < m) (sym now.count) is.0);
  inverse = flip-inverse new now.inverse;
}

-- the nodes after the nodes before a and b exchanged
flipped-step : (n a b : ℕ) (f g : ℕ → ℕ) → Permutes n f g → a < n → b < n → (x : ℕ) → x < n → exchange a b g x ≡ swapped (g a) (g b) (g x)
flipped-step n a b f g perm la lb x l = elim (exchange-cases a b g x) [
  | inl h ↦ h.1 ∙ sym (ap (λ (y : ℕ). swapped (g a) (g b) (g y)) h.0 ∙ swapped-left (g a) (g b))
  | inr r ↦ elim r [
    | inl h ↦ h.1 ∙ sym (ap (λ (y : ℕ). swapped (g a) (g b) (g y)) h.0 ∙ swapped-right (g a) (g b))
    | inr h ↦ h.2 ∙ sym (swapped-other (g a) (g b) (g x)
        (λ e. h.0 (sym (perm.forth_back x l) ∙ ap f e ∙ perm.forth_back a la))
        (λ e. h.1 (sym (perm.forth_back x l) ∙ ap f e ∙ perm.forth_back b lb)))
  ]
]

pub flip-exchanged : (old new : Links) (a b : ℕ) → AreInverse old → a < length old.next → b < length old.next
    → AreNow old new (exchange (slice_index old.prev a) (slice_index old.prev b) (slice_index old.next)) → AreNow (flipped old) (flipped new) (exchange a b (slice_index old.prev))
flip-exchanged old new a b inv la lb now =
    let n : ℕ = length old.next in let f : ℕ → ℕ = slice_index old.next in let g : ℕ → ℕ = slice_index old.prev in
    let perm : Permutes n (exchange (g a) (g b) f) (λ x. swapped (g a) (g b) (g x)) = exchange-permutes n (g a) (g b) f g (inv.permutes.back a la) (inv.permutes.back b lb) inv.permutes in
    flip-now old new (exchange (g a) (g b) f) (exchange a b g) inv now
    (λ d l.
    let e : exchange a b g d ≡ swapped (g a) (g b) (g d) = flipped-step n a b f g inv.permutes la lb d l in
    (subst (λ (y : ℕ). y < n) (sym e) (perm.back d l), ap (exchange (g a) (g b) f) e ∙ perm.forth_back d l))

-- a ring reversed is reversed from either side
pub flip-reversed : (old new : Links) (d : ℕ) → AreInverse old → d < length old.next → AreNow old new (reversed_at old d) → AreNow (flipped old) (flipped new) (reversed_at (flipped old) d)
flip-reversed old new d inv ld now =
    let n : ℕ = length old.next in let f : ℕ → ℕ = slice_index old.next in let g : ℕ → ℕ = slice_index old.prev in
    let around : ℕ → Bool = same_orbit n f d in
    let perm : Permutes n (turned around f g) (turned around g f) = turned-permutes n f g inv.permutes d ld in
    flip-now old new (reversed_at old d) (reversed_at (flipped old) d) inv now
    (λ x l.
    let same : same_orbit (length old.prev) g d x ≡ around x = ap (λ (m : ℕ). same_orbit m g d x) inv.long ∙ orbit-inverse n f g inv.permutes d x in
    let e : reversed_at (flipped old) d x ≡ turned around g f x = ap (λ (b : Bool). cond b (f x) (g x)) same in
    (subst (λ (y : ℕ). y < n) (sym e) (perm.back x l), ap (turned around f g) e ∙ perm.forth_back x l))

pub seen-reversed : (turned : Bool) (old new : Links) (d : ℕ) → AreInverse old → d < length old.next → AreNow old new (reversed_at old d) → AreNow (seen turned old) (seen turned new) (reversed_at (seen turned old) d)
seen-reversed true old new d inv ld now = flip-reversed old new d inv ld now
seen-reversed false old new d inv ld now = now
