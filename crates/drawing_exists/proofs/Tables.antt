-- Functions as lists of their values below a bound.
use Rattle.std.proofs.Common.{◌≡◌, ℕ, ◌<◌, List, length, map, get_or, ap, ◌∙◌, subst, sym}
use Rattle.std.proofs.lemmas.List.{length-map, get_or-map}
use Rattle.multigraph.specs.Graph.{numbers_below}
use Rattle.multigraph.proofs.Below.{length-numbers_below, get_or-numbers_below}

-- the values below n
abbrev pub table : {A : Type 0} → (ℕ → A) → ℕ → List A
table f n = map f (numbers_below n)

pub table-length : {A : Type 0} (f : ℕ → A) (n : ℕ) → length (table f n) ≡ n
table-length f n = length-map (numbers_below n) f ∙ length-numbers_below n

pub table-at : {A : Type 0} (f : ℕ → A) (n k : ℕ) (d : A) → k < n → get_or (table f n) k d ≡ f k
table-at f n k d l = get_or-map f (numbers_below n) k 0 d (subst (λ (i : ℕ). k < i) (sym (length-numbers_below n)) l) ∙ ap f (get_or-numbers_below n k 0 l)
