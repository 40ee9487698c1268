-- Lists that follow a function: each member is followed by its image.
use Rattle.std.proofs.Common.{◌≡◌, ℕ, ◌<◌, inl, inr, true, false, List, [], ◌∷◌, ◌++◌, map, refl, sym, ap, ◌∙◌, subst, append_assoc}
use Rattle.std.proofs.lemmas.Bool.{both_ways}
use Rattle.permutations.specs.Members.{is_member, is_distinct}
use Rattle.permutations.specs.Cyclic.{first_or, successor}
use Rattle.permutations.specs.Permutation.{Permutes, same_orbit}
use Rattle.permutations.proofs.Members.{member-head, member-tail, member-cases}
use Rattle.permutations.proofs.Successor.{successor-cut}
use Rattle.permutations.proofs.Chains.{apart-front}
use Rattle.permutations.proofs.Orbits.{orbit-equivalence, orbit-step}

-- the list is x and its images, one after the other, and y is the image of the last one
abbrev pub Runs : (ℕ → ℕ) → ℕ → List ℕ → ℕ → Type 0
Runs f x [] y = x ≡ y
Runs f x (z ∷ l) y = (x ≡ z) × Runs f (f x) l y

-- two such lists, one after the other
pub runs-append : (f : ℕ → ℕ) (x : ℕ) (l : List ℕ) (y : ℕ) (k : List ℕ) (z : ℕ) → Runs f x l y → Runs f y k z → Runs f x (l ++ k) z
runs-append f x [] y k z r q = subst (λ v. Runs f v k z) (sym r) q
runs-append f x (a ∷ l) y k z r q = (r.0, runs-append f (f x) l y k z r.1 q)

-- and one cut in two
pub runs-cut : (f : ℕ → ℕ) (x : ℕ) (l : List ℕ) (k : List ℕ) (z : ℕ) → Runs f x (l ++ k) z → (y : ℕ) × Runs f x l y × Runs f y k z
runs-cut f x [] k z r = (x, refl, r)
runs-cut f x (a ∷ l) k z r = let w = runs-cut f (f x) l k z r.1 in (w.0, (r.0, w.1), w.2)

-- the members are in the orbit of the first
pub runs-orbit : (n : ℕ) (f g : ℕ → ℕ) → Permutes n f g → (x : ℕ) (l : List ℕ) (y : ℕ) → x < n → Runs f x l y → (z : ℕ) → is_member z l ≡ true → same_orbit n f x z ≡ true
runs-orbit n f g b x [] y k r z m = absurd (both_ways false refl m)
runs-orbit n f g b x (a ∷ l) y k r z m = elim (member-cases z a l m) [
  | inl q ↦ subst (λ v. same_orbit n f x v ≡ true) (r.0 ∙ q) ((orbit-equivalence n f).reflexive x)
  | inr t ↦ (orbit-equivalence n f).transitive x (f x) z (orbit-step n f x k) (runs-orbit n f g b (f x) l y (b.forth x k) r.1 z t)
]

-- the members of a cyclic order behind y, and y, follow its successor
pub runs-successor : (a : List ℕ) (y : ℕ) (b : List ℕ) → is_distinct (a ++ y ∷ b) ≡ true → Runs (successor (a ++ y ∷ b)) y (y ∷ b) (first_or y a)
runs-successor a y [] d = (refl, successor-cut a y [] (apart-front a y [] d))
runs-successor a y (z ∷ b) d = (
  refl,
  subst (λ v. Runs (successor (a ++ y ∷ (z ∷ b))) v (z ∷ b) (first_or y a)) (sym (successor-cut a y (z ∷ b) (apart-front a y (z ∷ b) d)))
      (subst (λ (l : List ℕ). Runs (successor l) z (z ∷ b) (first_or y a)) cut
      (subst (λ v. Runs (successor ((a ++ y ∷ []) ++ z ∷ b)) z (z ∷ b) v) (same a) (runs-successor (a ++ y ∷ []) z b (subst (λ (l : List ℕ). is_distinct l ≡ true) (sym cut) d)))),
)
  where
    cut : (a ++ y ∷ []) ++ z ∷ b ≡ a ++ y ∷ (z ∷ b)
    cut = append_assoc a (y ∷ []) (z ∷ b)

    same : (a : List ℕ) → first_or z (a ++ y ∷ []) ≡ first_or y a
    same [] = refl
    same (c ∷ a) = refl

-- so a whole cyclic order comes back to its first member
pub runs-around : (y : ℕ) (b : List ℕ) → is_distinct (y ∷ b) ≡ true → Runs (successor (y ∷ b)) y (y ∷ b) y
runs-around y b d = runs-successor [] y b d

-- a function that carries the one over into the other
pub runs-map : (f h u : ℕ → ℕ) (x : ℕ) (l : List ℕ) (y : ℕ) → ((z : ℕ) → is_member z l ≡ true → h (u z) ≡ u (f z)) → Runs f x l y → Runs h (u x) (map u l) (u y)
runs-map f h u x [] y s r = ap u r
runs-map f h u x (a ∷ l) y s r = (
  ap u r.0,
  subst (λ v. Runs h v (map u l) (u y)) (sym (ap (λ v. h (u v)) r.0 ∙ s a (member-head a l) ∙ ap (λ v. u (f v)) (sym r.0)))
      (runs-map f h u (f x) l y (λ z m. s z (member-tail z a l m)) r.1),
)
