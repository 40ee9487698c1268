-- Sums of the weights of the darts that have one number.
use Rattle.std.proofs.Common.{◌≡◌, ℕ, zero, suc, add-one, ◌+◌, ◌*◌, ◌/◌, ◌<◌, ◌≤◌, ◌==◌, Bool, cond, inl, inr, List, length, refl, sym, ap, ◌∙◌, subst, arith}
use Rattle.std.proofs.lemmas.Bool.{cases_Bool, cases_eq}
use Rattle.permutations.specs.Count.{sum_below}
use Rattle.permutations.proofs.Sums.{sum_below-ext, sum_below-le}
use Rattle.multigraph.specs.Graph.{Multigraph}
use Rattle.faces.specs.Euler.{dart_count}
use Rattle.skeleton_faces.specs.Faces.{on_one_face, face_weight}
use Rattle.face_weights.specs.Numbers.{number_at, NumberFaces}
use Rattle.face_weights.specs.Sums.{weight_in}
use Rattle.face_weights.proofs.Terms.{sum-pairs, sum-twice}

-- one term more
sum-more : (n : ℕ) (f : ℕ → ℕ) → sum_below (n + 1) f ≡ sum_below n f + f n
sum-more n f = rw add-one refl

-- no more terms, no greater sum
sum-below : (i n : ℕ) (f : ℕ → ℕ) → i ≤ n → sum_below i f ≤ sum_below n f
sum-below i zero f k = let e : i ≡ 0 = omega (arith, k) in subst (λ z. sum_below z f ≤ 0) (sym e) (omega arith)
sum-below i (suc n) f k = elim (cases_eq i (suc n)) [
  | inl e ↦ subst (λ z. sum_below z f ≤ sum_below (suc n) f) (sym e) (omega arith)
  | inr e ↦ let before : sum_below i f ≤ sum_below n f = sum-below i n f (omega (arith, k, e)) in omega (arith, before)
]

-- what dart d adds to the sum of the number t
abbrev pub share : List ℕ → List ℕ → ℕ → ℕ → ℕ
share numbers weights t d = cond (t == number_at numbers d) (weight_in weights (d / 2)) 0

-- the sum over the first darts and one more is small
pub share-few : (numbers weights : List ℕ) (t d m most : ℕ) → d < 2 * m → sum_below m (weight_in weights) ≤ most → sum_below d (share numbers weights t) + weight_in weights (d / 2) ≤ 2 * most
share-few numbers weights t d m most l few = omega (arith, less, rest, pairs, few)
  where
    each : (y : ℕ) → y < d → share numbers weights t y ≤ weight_in weights (y / 2)
    each y k = elim (cases_Bool (t == number_at numbers y)) [ inl e ↦ rw e (omega arith) | inr e ↦ rw e (omega arith) ]

    less : sum_below d (share numbers weights t) ≤ sum_below d (λ y. weight_in weights (y / 2))
    less = sum_below-le d (share numbers weights t) (λ y. weight_in weights (y / 2)) each

    rest : sum_below d (λ y. weight_in weights (y / 2)) + weight_in weights (d / 2) ≤ sum_below (2 * m) (λ y. weight_in weights (y / 2))
    rest = let more : sum_below (d + 1) (λ y. weight_in weights (y / 2)) ≤ sum_below (2 * m) (λ y. weight_in weights (y / 2)) = sum-below (d + 1) (2 * m) (λ y. weight_in weights (y / 2)) (omega (arith, l)) in
        omega (arith, more, sum-more d (λ y. weight_in weights (y / 2)))

    pairs : sum_below (2 * m) (λ y. weight_in weights (y / 2)) ≡ 2 * sum_below m (weight_in weights)
    pairs = sum-pairs (λ y. weight_in weights (y / 2)) m (2 * m) refl
        ∙ sum_below-ext m (λ i. weight_in weights ((2 * i) / 2) + weight_in weights ((2 * i + 1) / 2)) (λ i. weight_in weights i + weight_in weights i) (λ i k. halves i)
        ∙ sum-twice m (weight_in weights)
      where
        halves : (i : ℕ) → weight_in weights ((2 * i) / 2) + weight_in weights ((2 * i + 1) / 2) ≡ weight_in weights i + weight_in weights i
        halves i = let a : (2 * i) / 2 ≡ i = omega arith in let b : (2 * i + 1) / 2 ≡ i = omega arith in omega (arith, ap (weight_in weights) a, ap (weight_in weights) b)

-- the sum of the number of a dart is the weight of its face
pub share-face : (g : Multigraph) (r : List (List ℕ)) (numbers weights : List ℕ) → NumberFaces g r numbers → (d : ℕ) → d < dart_count g → sum_below (length numbers) (share numbers weights (number_at numbers d)) ≡ face_weight g r (weight_in weights) d
share-face g r numbers weights n d l = ap (λ z. sum_below z (share numbers weights (number_at numbers d))) n.darts
    ∙ sum_below-ext (dart_count g) (share numbers weights (number_at numbers d)) (λ y. cond (on_one_face g r d y) (weight_in weights (y / 2)) 0) (λ y m. ap (λ (b : Bool). cond b (weight_in weights (y / 2)) 0) (n.same d y l m))

pub total-face : (g : Multigraph) (r : List (List ℕ)) (numbers weights totals : List ℕ) → NumberFaces g r numbers → ((t : ℕ) → t < length numbers → weight_in totals t ≡ sum_below (length numbers) (share numbers weights t))
    → (d : ℕ) → d < dart_count g → weight_in totals (number_at numbers d) ≡ face_weight g r (weight_in weights) d
total-face g r numbers weights totals n h d l = h (number_at numbers d) (subst (λ z. number_at numbers d < z) (sym n.darts) (n.within d l)) ∙ share-face g r numbers weights n d l
