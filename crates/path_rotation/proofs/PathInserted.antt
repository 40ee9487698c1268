-- What a map with a path inserted has in common with the map before: its values, its fixed numbers, labels of its faces.
use Rattle.std.proofs.Common.{◌≡◌, ◌≢◌, ℕ, ◌<◌, inl, inr, List, [], ◌∷◌, sym, ap, ◌∙◌, subst}
use Rattle.permutations.specs.Exchange.{exchange}
use Rattle.permutations.proofs.Permutations.{exchange-cases, exchange-other, exchange-left, exchange-right}
use Rattle.dart_maps.specs.Map.{twin}
use Rattle.dart_maps.specs.Path.{path_inserted}

-- each of these darts is in P, and so is its twin
abbrev pub AllDarts : (ℕ → Type 0) → List ℕ → Type 0
AllDarts P [] = Unit {0}
AllDarts P (d ∷ path) = P d × P (twin d) × AllDarts P path

-- an exchange of two numbers in P takes P where the function took it
exchange-takes : (P : ℕ → Type 0) (R : ℕ → ℕ → Type 0) (f : ℕ → ℕ) (p q : ℕ) → ((x : ℕ) → P x → R x (f x)) → R p (f q) → R q (f p) → (x : ℕ) → P x → R x (exchange p q f x)
exchange-takes P R f p q h a b x k = elim (exchange-cases p q f x) [
  | inl e ↦ subst (R x) (sym e.1) (subst (λ (z : ℕ). R z (f q)) (sym e.0) a)
  | inr r ↦ elim r [
    | inl e ↦ subst (R x) (sym e.1) (subst (λ (z : ℕ). R z (f p)) (sym e.0) b)
    | inr e ↦ subst (R x) (sym e.2) (h x k)
  ]
]

-- maps that agree in P agree in P when two numbers in P are exchanged
exchange-ext : (P : ℕ → Type 0) (f h : ℕ → ℕ) (p q : ℕ) → ((x : ℕ) → P x → f x ≡ h x) → P p → P q → (x : ℕ) → P x → exchange p q f x ≡ exchange p q h x
exchange-ext P f h p q s i k x l = elim (exchange-cases p q f x) [
  | inl e ↦ e.1 ∙ s q k ∙ sym (ap (exchange p q h) e.0 ∙ exchange-left p q h)
  | inr r ↦ elim r [
    | inl e ↦ e.1 ∙ s p i ∙ sym (ap (exchange p q h) e.0 ∙ exchange-right p q h)
    | inr e ↦ e.2 ∙ s x l ∙ sym (exchange-other p q h x e.0 e.1)
  ]
]

-- labels that a step takes from the twin, when two numbers are exchanged whose twins have one label
exchange-labels : (n : ℕ) (label : ℕ → ℕ) (f : ℕ → ℕ) (p q : ℕ) → ((y : ℕ) → y < n → label (f y) ≡ label (twin y)) → p < n → q < n → label (twin p) ≡ label (twin q) → (y : ℕ) → y < n → label (exchange p q f y) ≡ label (twin y)
exchange-labels n label f p q h l k e = exchange-takes (λ y. y < n) (λ x y. label y ≡ label (twin x)) f p q h (h q k ∙ sym e) (h p l ∙ e)

-- a map that takes P to Q still does when a path of darts in P is inserted between corners in P
pub inserted-takes : (P Q : ℕ → Type 0) (path : List ℕ) (f : ℕ → ℕ) (p d q : ℕ) → ((x : ℕ) → P x → Q (f x)) → P p → P q → AllDarts P (d ∷ path) → (x : ℕ) → P x → Q (path_inserted p d path q f x)
inserted-takes P Q [] f p d q h i k a = exchange-takes P (λ x y. Q y) (exchange p d f) q (twin d) one (one (twin d) a.1) (one q k)
  where
    one : (x : ℕ) → P x → Q (exchange p d f x)
    one = exchange-takes P (λ x y. Q y) f p d h (h d a.0) (h p i)
inserted-takes P Q (c ∷ path) f p d q h i k a = inserted-takes P Q path (exchange p d f) (twin d) c q (exchange-takes P (λ x y. Q y) f p d h (h d a.0) (h p i)) a.1 k a.2

-- a number that is neither a corner nor a dart of the path keeps its value
pub inserted-elsewhere : (x : ℕ) (path : List ℕ) (f : ℕ → ℕ) (p d q : ℕ) → x ≢ p → x ≢ q → AllDarts (λ y. x ≢ y) (d ∷ path) → path_inserted p d path q f x ≡ f x
inserted-elsewhere x [] f p d q i k a = exchange-other q (twin d) (exchange p d f) x k a.1 ∙ exchange-other p d f x i a.0
inserted-elsewhere x (c ∷ path) f p d q i k a = inserted-elsewhere x path (exchange p d f) (twin d) c q a.1 k a.2 ∙ exchange-other p d f x i a.0

-- and still do when a path is inserted
pub inserted-ext : (P : ℕ → Type 0) (path : List ℕ) (f h : ℕ → ℕ) (p d q : ℕ) → ((x : ℕ) → P x → f x ≡ h x) → P p → P q → AllDarts P (d ∷ path) → (x : ℕ) → P x → path_inserted p d path q f x ≡ path_inserted p d path q h x
inserted-ext P [] f h p d q s i k a = exchange-ext P (exchange p d f) (exchange p d h) q (twin d) (exchange-ext P f h p d s i a.0) k a.1
inserted-ext P (c ∷ path) f h p d q s i k a = inserted-ext P path (exchange p d f) (exchange p d h) (twin d) c q (exchange-ext P f h p d s i a.0) a.1 k a.2

-- labels: where those of darts of one face are one, and the darts of the path and the twins of the corners have one label, those
-- of darts of one face of the new map are one
pub inserted-labels : (n : ℕ) (label : ℕ → ℕ) (one : ℕ) (path : List ℕ) (f : ℕ → ℕ) (p d q : ℕ) → ((y : ℕ) → y < n → label (f y) ≡ label (twin y)) → p < n → q < n → label (twin p) ≡ one → label (twin q) ≡ one
    → AllDarts (λ y. (y < n) × (label (twin y) ≡ one)) (d ∷ path) → (y : ℕ) → y < n → label (path_inserted p d path q f y) ≡ label (twin y)
inserted-labels n label one [] f p d q h l k i j a = exchange-labels n label (exchange p d f) q (twin d) (exchange-labels n label f p d h l a.0.0 (i ∙ sym a.0.1)) k a.1.0 (j ∙ sym a.1.1)
inserted-labels n label one (c ∷ path) f p d q h l k i j a = inserted-labels n label one path (exchange p d f) (twin d) c q (exchange-labels n label f p d h l a.0.0 (i ∙ sym a.0.1)) a.1.0 k a.1.1 j a.2
