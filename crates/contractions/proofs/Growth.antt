-- From an edge x y, a third vertex z and a component left by the three to a neighbour of z and a third vertex that leave a
-- greater component.
use Rattle.std.proofs.Common.{◌≡◌, ◌≢◌, ℕ, ◌+◌, ◌<◌, ◌≤◌, inl, inr, Bool, true, false, ◌&&◌, [], ◌∷◌, refl, sym, ◌∙◌, subst}
use Rattle.std.proofs.lemmas.Bool.{cases_eq, both_ways, and_parts, and_from, false_from_ne_true, true_from_ne_false}
use Rattle.permutations.specs.Count.{count}
use Rattle.permutations.specs.Members.{is_member}
use Rattle.permutations.specs.Relation.{connected}
use Rattle.permutations.proofs.Relation.{connected-reflexive, connected-symmetric, connected-transitive}
use Rattle.multigraph.specs.Graph.{Multigraph, edge_count, is_end, other_end, IsGraph}
use Rattle.multigraph.proofs.OtherEnd.{other_end-differs}
use Rattle.graph_theory.specs.Triconnected.{ends_without, IsTriconnected}
use Rattle.graph_theory.proofs.Removed.{step-without, closed-without, kept-without}
use Rattle.contractions.proofs.Counting.{count-gained}
use Rattle.contractions.proofs.Outside.{out-two, out-three, two-out, three-out}

-- an edge joins x and y. Without x, y and z, u is left, in a component that w, another vertex left, is not in. The vertex v
-- is neither z nor w
pub record Growing (g : Multigraph) (x y z u w v : ℕ) : Type 0 where
  pub edge : ℕ
  pub edge_in : edge < edge_count g
  pub first_end : is_end g x edge ≡ true
  pub second_end : other_end g edge x ≡ y
  pub first_in : x < g.vertex_count
  pub second_in : y < g.vertex_count
  pub third_first : z ≢ x
  pub third_second : z ≢ y
  pub left : is_member u (x ∷ y ∷ z ∷ []) ≡ false
  pub other_left : is_member w (x ∷ y ∷ z ∷ []) ≡ false
  pub apart : connected (ends_without g (x ∷ y ∷ z ∷ [])) u w ≡ false
  pub off_third : v ≢ z
  pub off_other : v ≢ w

module _ (g : Multigraph) (i : IsGraph g) (t : IsTriconnected g) (x y z u w v : ℕ) (s : Growing g x y z u w v) where
  -- the component of u when x, y and z are removed
  abbrev inside : ℕ → Bool
  inside = connected (ends_without g (x ∷ y ∷ z ∷ [])) u

  -- connection when z, w and v are removed
  abbrev around : ℕ → ℕ → Bool
  around = connected (ends_without g (z ∷ w ∷ v ∷ []))

  -- the two ends are different
  ends-apart : x ≢ y
  ends-apart = λ e. other_end-differs g s.edge x i s.edge_in s.first_end (s.second_end ∙ sym e)

  -- who is in the component is left
  inside-out : (h : ℕ) → inside h ≡ true → (x ≢ h) × (y ≢ h) × (z ≢ h)
  inside-out h c = three-out x y z h (kept-without g (x ∷ y ∷ z ∷ []) u h s.left c)

  -- and is not w
  inside-other : (h : ℕ) → inside h ≡ true → w ≢ h
  inside-other h c e = both_ways (inside w) s.apart (subst (λ (q : ℕ). inside q ≡ true) (sym e) c)

  -- who is in the component and not v is left when z, w and v are removed
  inside-left : (h : ℕ) → inside h ≡ true → h ≢ v → is_member h (z ∷ w ∷ v ∷ []) ≡ false
  inside-left h c n = out-three z w v h (inside-out h c).2 (inside-other h c) (λ e. n (sym e))

  -- the first end is left where it is not v
  first-left : x ≢ v → is_member x (z ∷ w ∷ v ∷ []) ≡ false
  first-left n = let o = three-out x y z w s.other_left in out-three z w v x s.third_first (λ e. o.0 (sym e)) (λ e. n (sym e))

  -- so is the second
  second-left : y ≢ v → is_member y (z ∷ w ∷ v ∷ []) ≡ false
  second-left n = let o = three-out x y z w s.other_left in out-three z w v y s.third_second (λ e. o.1 (sym e)) (λ e. n (sym e))

  -- they are connected where neither is v
  ends-around : x ≢ v → y ≢ v → around x y ≡ true
  ends-around m n = subst (λ (q : ℕ). around x q ≡ true) s.second_end
      (step-without g (z ∷ w ∷ v ∷ []) s.edge x s.edge_in s.first_end (first-left m) (subst (λ (q : ℕ). is_member q (z ∷ w ∷ v ∷ []) ≡ false) (sym s.second_end) (second-left n)))

  -- what is connected around with a member of the component, and not with x nor with y, stays in the component
  stays-inside : (h : ℕ) → is_member h (z ∷ w ∷ v ∷ []) ≡ false → inside h ≡ true → around h x ≡ false → around h y ≡ false → (q : ℕ) → around h q ≡ true → inside q ≡ true
  stays-inside h o c fx fy q r = (and_parts (around h q) (inside q) (sym (closed-without g (z ∷ w ∷ v ∷ []) (λ p. around h p && inside p) step h q r)
      ∙ and_from (around h h) (inside h) (connected-reflexive (ends_without g (z ∷ w ∷ v ∷ [])) h) c)).1
    where
      step : (e p : ℕ) → e < edge_count g → is_end g p e ≡ true → is_member p (z ∷ w ∷ v ∷ []) ≡ false → is_member (other_end g e p) (z ∷ w ∷ v ∷ []) ≡ false
          → (around h p && inside p) ≡ true → (around h (other_end g e p) && inside (other_end g e p)) ≡ true
      step e p l k a b d =
          let m = and_parts (around h p) (inside p) d in
          let n : around h (other_end g e p) ≡ true = connected-transitive (ends_without g (z ∷ w ∷ v ∷ [])) h p (other_end g e p) m.0 (step-without g (z ∷ w ∷ v ∷ []) e p l k a b) in
          let j = three-out z w v (other_end g e p) b in
          let oq : is_member (other_end g e p) (x ∷ y ∷ z ∷ []) ≡ false = out-three x y z (other_end g e p)
          (λ f. both_ways (around h x) fx (subst (λ (r : ℕ). around h r ≡ true) (sym f) n))
          (λ f. both_ways (around h y) fy (subst (λ (r : ℕ). around h r ≡ true) (sym f) n)) j.0 in
          and_from (around h (other_end g e p)) (inside (other_end g e p)) n
          (connected-transitive (ends_without g (x ∷ y ∷ z ∷ [])) u p (other_end g e p) m.1
          (step-without g (x ∷ y ∷ z ∷ []) e p l k (kept-without g (x ∷ y ∷ z ∷ []) u p s.left m.1) oq))

  -- so without z and v alone it would be a component too, which a triconnected graph does not have
  escapes : (h a : ℕ) → h < g.vertex_count → a < g.vertex_count → is_member h (z ∷ w ∷ v ∷ []) ≡ false → inside h ≡ true → around h x ≡ false → around h y ≡ false
      → around h a ≡ false → z ≢ a → v ≢ a → ⊥
  escapes h a lh la o c fx fy fa za va =
      let k = three-out z w v h o in
      both_ways (around h a) fa (sym (closed-without g (z ∷ v ∷ []) (around h) step h a (t.stays_connected z v h a lh la (out-two z v h k.0 k.2) (out-two z v a za va)))
      ∙ connected-reflexive (ends_without g (z ∷ w ∷ v ∷ [])) h)
    where
      step : (e p : ℕ) → e < edge_count g → is_end g p e ≡ true → is_member p (z ∷ v ∷ []) ≡ false → is_member (other_end g e p) (z ∷ v ∷ []) ≡ false → around h p ≡ true → around h (other_end g e p) ≡ true
      step e p l k a b d =
          let m : is_member p (z ∷ w ∷ v ∷ []) ≡ false = kept-without g (z ∷ w ∷ v ∷ []) h p o d in
          let j = two-out z v (other_end g e p) b in
          let c2 : inside p ≡ true = stays-inside h o c fx fy p d in
          connected-transitive (ends_without g (z ∷ w ∷ v ∷ [])) h p (other_end g e p) d
          (step-without g (z ∷ w ∷ v ∷ []) e p l k m (out-three z w v (other_end g e p) j.0
          (λ f. both_ways (inside w) s.apart (connected-transitive (ends_without g (x ∷ y ∷ z ∷ [])) u p w c2
          (subst (λ (q : ℕ). connected (ends_without g (x ∷ y ∷ z ∷ [])) p q ≡ true) (sym f)
          (step-without g (x ∷ y ∷ z ∷ []) e p l k (kept-without g (x ∷ y ∷ z ∷ []) u p s.left c2) (subst (λ (q : ℕ). is_member q (x ∷ y ∷ z ∷ []) ≡ false) f s.other_left)))))
          j.1))

  -- a removed vertex is not connected around with one that is left
  around-left : (h q : ℕ) → is_member h (z ∷ w ∷ v ∷ []) ≡ false → around h q ≡ true → v ≢ q
  around-left h q o c = (three-out z w v q (kept-without g (z ∷ w ∷ v ∷ []) h q o c)).2

  -- each member of the component but v is connected around with the first end, where that is not v
  toward_first : (h : ℕ) → h < g.vertex_count → inside h ≡ true → h ≢ v → x ≢ v → around h x ≡ true
  toward_first h l c n m = true_from_ne_false (around h x) (λ fx.
      escapes h x l s.first_in (inside-left h c n) c fx
      (false_from_ne_true (around h y) (λ ty. both_ways (around h x) fx
      (connected-transitive (ends_without g (z ∷ w ∷ v ∷ [])) h y x ty
      (connected-symmetric (ends_without g (z ∷ w ∷ v ∷ [])) x y (ends-around m (λ e. around-left h y (inside-left h c n) ty (sym e)))))))
      fx s.third_first (λ e. m (sym e)))

  -- and with the second, where that is not v
  toward_second : (h : ℕ) → h < g.vertex_count → inside h ≡ true → h ≢ v → y ≢ v → around h y ≡ true
  toward_second h l c n m = true_from_ne_false (around h y) (λ fy.
      escapes h y l s.second_in (inside-left h c n) c
      (false_from_ne_true (around h x) (λ tx. both_ways (around h y) fy
      (connected-transitive (ends_without g (z ∷ w ∷ v ∷ [])) h x y tx (ends-around (λ e. around-left h x (inside-left h c n) tx (sym e)) m))))
      fy fy s.third_second (λ e. m (sym e)))

  -- so the end that is not v has a greater component around than u had
  pub grown : (a : ℕ) × (a < g.vertex_count) × (is_member a (z ∷ w ∷ v ∷ []) ≡ false)
      × (count g.vertex_count (connected (ends_without g (x ∷ y ∷ z ∷ [])) u) + 1 ≤ count g.vertex_count (connected (ends_without g (z ∷ w ∷ v ∷ [])) a))
  grown = elim (cases_eq x v) [
    | inl e ↦ let n : y ≢ v = λ f. ends-apart (e ∙ sym f) in (
      y,
      s.second_in,
      second-left n,
      count-gained g.vertex_count inside (around y) y x v s.second_in s.first_in (false_from_ne_true (inside y) (λ c. (inside-out y c).1 refl)) (false_from_ne_true (inside x) (λ c. (inside-out x c).0 refl))
          (λ f. ends-apart (sym f)) n (connected-reflexive (ends_without g (z ∷ w ∷ v ∷ [])) y) (λ f. absurd (f e))
          (λ h l c m. connected-symmetric (ends_without g (z ∷ w ∷ v ∷ [])) h y (toward_second h l c m n)),
    )
    | inr n ↦ (
      x,
      s.first_in,
      first-left n,
      count-gained g.vertex_count inside (around x) x y v s.first_in s.second_in (false_from_ne_true (inside x) (λ c. (inside-out x c).0 refl)) (false_from_ne_true (inside y) (λ c. (inside-out y c).1 refl))
          ends-apart n (connected-reflexive (ends_without g (z ∷ w ∷ v ∷ [])) x) (ends-around n)
          (λ h l c m. connected-symmetric (ends_without g (z ∷ w ∷ v ∷ [])) h x (toward_first h l c m n)),
    )
  ]
