-- Walks along a permutation when fewer numbers pass, one lemma for each way in which a walk changes; and the members of a ring that pass.
use Rattle.std.proofs.Common.{◌≡◌, ℕ, suc, ◌+◌, ◌-◌, ◌<◌, inl, inr, Bool, true, false, List, [], ◌∷◌, ◌++◌, filter, sym, ap, ◌∙◌, subst, arith, le_refl}
use Rattle.std.proofs.lemmas.Bool.{false_from_ne_true, both_ways, cases_order}
use Rattle.permutations.specs.Members.{is_member, is_distinct}
use Rattle.permutations.specs.Cyclic.{first_or, last_or, successor}
use Rattle.permutations.specs.Permutation.{Permutes, iterate, same_orbit}
use Rattle.permutations.specs.Exchange.{taken_out, restricted}
use Rattle.permutations.specs.Ring.{ring}
use Rattle.permutations.proofs.Iterates.{iterate-sum}
use Rattle.permutations.proofs.Orbits.{orbit-equivalence, orbit-step}
use Rattle.permutations.proofs.Members.{member-head, member-append_right, CutAt, cut_at, distinct-append_apart}
use Rattle.permutations.proofs.Filter.{filter-yes}
use Rattle.permutations.proofs.Successor.{first_or-append, successor-cut}
use Rattle.permutations.proofs.Turned.{turned-first}
use Rattle.permutations.proofs.TakenOut.{taken-out-permutes}
use Rattle.permutations.proofs.Restriction.{GoesOn, restricted-goes, goes-restricted, restricted-taken-out}
use Rattle.permutations.proofs.Rings.{ring-first, ring-distinct, ring-member, ring-successor, ring-from_list}
use Rattle.permutations.proofs.Removal.{ring-taken_out}
use Rattle.canonical_orders.specs.Contours.{Successive}
use Rattle.canonical_orders.specs.Laws.{GoesFromTo}
use Rattle.canonical_orders.proofs.ChordLists.{successive-at}
use Rattle.canonical_orders.proofs.Lists.{last-append, last-cons, last-cut, first-member, cut-between}

-- one step, to a number that passes
pub goes-step : (keep : ℕ → Bool) (f : ℕ → ℕ) (x y : ℕ) → f x ≡ y → keep y ≡ true → GoesOn keep f x y
goes-step keep f x y e k = (0, sym e, k, λ i l. absurd (omega arith))

-- fewer pass, and the number at the end still does
pub goes-fewer : (more keep : ℕ → Bool) → ((z : ℕ) → keep z ≡ true → more z ≡ true) → (f : ℕ → ℕ) (x y : ℕ) → keep y ≡ true → GoesOn more f x y → GoesOn keep f x y
goes-fewer more keep sub f x y k w = (w.0, w.1, k, λ i l. false_from_ne_true (keep (iterate f (suc i) x)) (λ t. both_ways (more (iterate f (suc i) x)) (w.3 i l) (sub (iterate f (suc i) x) t)))

-- a walk to z, which no longer passes, and a walk on from z
pub goes-over : (more keep : ℕ → Bool) → ((z : ℕ) → keep z ≡ true → more z ≡ true) → (f : ℕ → ℕ) (x z y : ℕ) → keep z ≡ false → GoesOn more f x z → GoesOn keep f z y → GoesOn keep f x y
goes-over more keep sub f x z y gone v w = (suc (w.0) + v.0, w.1 ∙ ap (iterate f (suc (w.0))) v.1 ∙ sym (iterate-sum f (suc (w.0)) (suc (v.0)) x) ∙ ap (λ (j : ℕ). iterate f j x) e, w.2, between)
  where
    e : suc (w.0) + suc (v.0) ≡ suc (suc (w.0) + v.0)
    e = omega arith

    later : (i : ℕ) → i < w.0 → keep (iterate f (suc i + suc (v.0)) x) ≡ false
    later i l = subst (λ (u : ℕ). keep u ≡ false) (ap (iterate f (suc i)) v.1 ∙ sym (iterate-sum f (suc i) (suc (v.0)) x)) (w.3 i l)

    between : (i : ℕ) → i < suc (w.0) + v.0 → keep (iterate f (suc i) x) ≡ false
    between i l = elim (cases_order i (v.0)) [
      | inl q ↦ subst (λ (u : ℕ). keep u ≡ false) (v.1 ∙ ap (λ (j : ℕ). iterate f (suc j) x) (sym q)) gone
      | inr r ↦ elim r [
        | inl q ↦ false_from_ne_true (keep (iterate f (suc i) x)) (λ t. both_ways (more (iterate f (suc i) x)) (v.3 i q) (sub (iterate f (suc i) x) t))
        | inr q ↦ let s : suc (i - suc (v.0)) + suc (v.0) ≡ suc i = omega arith in
            subst (λ (j : ℕ). keep (iterate f j x) ≡ false) s (later (i - suc (v.0)) (omega arith))
      ]
    ]

-- a number is followed by one that passes
pub restricted-step : (n : ℕ) (keep : ℕ → Bool) (f g : ℕ → ℕ) → Permutes n f g → (x y : ℕ) → x < n → keep x ≡ true → keep y ≡ true → f x ≡ y → restricted n keep f x ≡ y
restricted-step n keep f g b x y l k j e = goes-restricted n keep f g b x l k y (goes-step keep f x y e j)

module _ (n : ℕ) (f g : ℕ → ℕ) (b : Permutes n f g) (more keep : ℕ → Bool) (sub : (z : ℕ) → keep z ≡ true → more z ≡ true) where
  -- the next that passed still passes
  pub restricted-fewer : (x y : ℕ) → x < n → keep x ≡ true → keep y ≡ true → restricted n more f x ≡ y → restricted n keep f x ≡ y
  restricted-fewer x y l k j e = goes-restricted n keep f g b x l k y (goes-fewer more keep sub f x y j (subst (GoesOn more f x) e (restricted-goes n more f g b x l (sub x k))))

  -- the next that passed no longer passes, and is followed by one that does
  pub restricted-over : (x z y : ℕ) → x < n → keep x ≡ true → keep z ≡ false → keep y ≡ true → restricted n more f x ≡ z → f z ≡ y → restricted n keep f x ≡ y
  restricted-over x z y l k gone j e s = goes-restricted n keep f g b x l k y
      (goes-over more keep sub f x z y gone (subst (GoesOn more f x) e (restricted-goes n more f g b x l (sub x k))) (goes-step keep f z y s j))

  -- the number is followed by one that no longer passes, and the next that passed after that still passes
  pub restricted-after : (x z y : ℕ) → x < n → z < n → keep x ≡ true → more z ≡ true → keep z ≡ false → keep y ≡ true → f x ≡ z → restricted n more f z ≡ y → restricted n keep f x ≡ y
  restricted-after x z y l i k s gone j e r = goes-restricted n keep f g b x l k y
      (goes-over more keep sub f x z y gone (goes-step more f x z e s) (goes-fewer more keep sub f z y j (subst (GoesOn more f z) r (restricted-goes n more f g b z i s))))

  -- the number is followed by one that no longer passes, and this by one that does
  pub restricted-two : (x z y : ℕ) → x < n → keep x ≡ true → more z ≡ true → keep z ≡ false → keep y ≡ true → f x ≡ z → f z ≡ y → restricted n keep f x ≡ y
  restricted-two x z y l k s gone j e r = goes-restricted n keep f g b x l k y (goes-over more keep sub f x z y gone (goes-step more f x z e s) (goes-step keep f z y r j))

module _ (n : ℕ) (keep : ℕ → Bool) (f g : ℕ → ℕ) (b : Permutes n f g) (x : ℕ) (l : x < n) (kx : keep x ≡ true) where
  -- the permutation without those that fail
  left : ℕ → ℕ
  left = taken_out keep n f

  left-permutes : Permutes n left (taken_out keep n g)
  unfolding left
  left-permutes = taken-out-permutes n keep f g b n (le_refl n)

  left-is : (z : ℕ) → z < n → left z ≡ restricted n keep f z
  unfolding left
  left-is z k = sym (restricted-taken-out n keep f g b z k)

  ring-is : ring n left x ≡ filter keep (ring n f x)
  unfolding left
  ring-is = ring-taken_out n keep f g b x l kx

  -- those of the ring of x that pass begin with x
  pub passing-first : (r : List ℕ) × (filter keep (ring n f x) ≡ x ∷ r)
  passing-first = let w = ring-first n f g b x l in (filter keep w.0, ap (filter keep) w.1 ∙ filter-yes keep x w.0 kx)

  -- they end with z where z goes on to x
  pub passing-last : (z : ℕ) → z < n → restricted n keep f z ≡ x → (k : List ℕ) × (filter keep (ring n f x) ≡ k ++ z ∷ [])
  passing-last z lz e = let w = at c.back c.is in (w.0, sym ring-is ∙ w.1)
    where
      R : List ℕ
      R = ring n left x

      to : left z ≡ x
      to = left-is z lz ∙ e

      inside : is_member z R ≡ true
      inside = ring-member n left (taken_out keep n g) left-permutes x l z ∙ (orbit-equivalence n left).symmetric z x (subst (λ (u : ℕ). same_orbit n left z u ≡ true) to (orbit-step n left z lz))

      c : CutAt z R
      c = cut_at z R inside

      w : (r : List ℕ) × (R ≡ x ∷ r)
      w = ring-first n left (taken_out keep n g) left-permutes x l

      at : (s : List ℕ) → R ≡ c.front ++ z ∷ s → (k : List ℕ) × (R ≡ k ++ z ∷ [])
      at [] i = (c.front, i)
      at (y ∷ s) i = absurd (both_ways (is_member y (y ∷ s)) (distinct-append_apart (c.front ++ z ∷ []) (y ∷ s) apart y among) (member-head y s))
        where
          apart : is_distinct ((c.front ++ z ∷ []) ++ y ∷ s) ≡ true
          apart = subst (λ (r : List ℕ). is_distinct r ≡ true) (i ∙ sym (cut-between c.front z (y ∷ s))) (ring-distinct n left (taken_out keep n g) left-permutes x l)

          same : y ≡ x
          same = sym (successor-cut c.front z (y ∷ s) c.first) ∙ ap (λ (r : List ℕ). successor r z) (sym i) ∙ ring-successor n left (taken_out keep n g) left-permutes x l z inside ∙ to

          begin : first_or z c.front ≡ x
          begin = sym (first_or-append 0 c.front (z ∷ y ∷ s)) ∙ ap (first_or 0) (sym i ∙ w.1)

          among : is_member y (c.front ++ z ∷ []) ≡ true
          among = subst (λ (u : ℕ). is_member u (c.front ++ z ∷ []) ≡ true) (begin ∙ sym same) (first-member z c.front)

  -- so they go from x to z
  pub passing-goes : (z : ℕ) → z < n → restricted n keep f z ≡ x → GoesFromTo x z (filter keep (ring n f x))
  passing-goes z lz e = let v = passing-first in let w = passing-last z lz e in
      record { rest = v.0; begins = v.1; ends = sym (last-cons x x v.0) ∙ ap (last_or x) (sym v.1 ∙ w.1) ∙ last-append x w.0 z }

  -- a list in turn from x to z, all of which pass, is just those of the ring that pass, where z goes on to x
  pub passing-is : (s : List ℕ) → is_distinct (x ∷ s) ≡ true → Successive (λ c d. f c ≡ d) (x ∷ s) → ((c : ℕ) → is_member c (x ∷ s) ≡ true → (c < n) × (keep c ≡ true)) → restricted n keep f (last_or x s) ≡ x → filter keep (ring n f x) ≡ x ∷ s
  passing-is s d turn stay e = sym ring-is ∙ ring-from_list n left (taken_out keep n g) left-permutes (x ∷ s) d follows x l (member-head x s) ∙ turned-first x s
    where
      follows : (c : ℕ) → is_member c (x ∷ s) ≡ true → successor (x ∷ s) c ≡ left c
      follows c m = at (cut_at c (x ∷ s) m)
        where
          at : CutAt c (x ∷ s) → successor (x ∷ s) c ≡ left c
          at k = here k.back k.is
            where
              here : (r : List ℕ) → x ∷ s ≡ k.front ++ c ∷ r → successor (x ∷ s) c ≡ left c
              here [] i = ap (λ (v : List ℕ). successor v c) i ∙ successor-cut k.front c [] k.first ∙ begin ∙ sym (left-is c (stay c m).0 ∙ ap (restricted n keep f) end ∙ e)
                where
                  begin : first_or c k.front ≡ x
                  begin = sym (first_or-append 0 k.front (c ∷ [])) ∙ ap (first_or 0) (sym i)

                  end : c ≡ last_or x s
                  end = sym (last-cut x k.front c []) ∙ ap (last_or x) (sym i) ∙ last-cons x x s
              here (y ∷ r) i = ap (λ (v : List ℕ). successor v c) i ∙ successor-cut k.front c (y ∷ r) k.first
                  ∙ sym (left-is c (stay c m).0 ∙ restricted-step n keep f g b c y (stay c m).0 (stay c m).1 (stay y inside).1 (successive-at (λ u v. f u ≡ v) k.front c y r (subst (Successive (λ u v. f u ≡ v)) i turn)))
                where
                  inside : is_member y (x ∷ s) ≡ true
                  inside = ap (is_member y) (i ∙ sym (cut-between k.front c (y ∷ r))) ∙ member-append_right y (k.front ++ c ∷ []) (y ∷ r) (member-head y r)
