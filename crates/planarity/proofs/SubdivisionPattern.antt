-- The two ways along each edge of K5 and of K3,3, computed. Way 2k goes along edge k of the pattern, and way 2k + 1 back.
use Rattle.std.proofs.Common.{◌≡◌, ◌≢◌, ℕ, ◌+◌, ◌*◌, ◌/◌, ◌%◌, ◌<◌, inl, inr, Bool, true, false, not, ◌&&◌, ◌||◌, ◌==◌, if◌then◌else◌, ltb, length, refl, sym, ap, ◌∙◌, arith, eqb-true, eq-eqb, ltb-true}
use Rattle.std.proofs.lemmas.Bool.{both_ways, and_parts, and_from, not-true, not-false, ne_eqb, eqb-false, cases_eq, cases_Bool}
use Rattle.permutations.specs.Count.{some}
use Rattle.permutations.proofs.Search.{some-none, some-witness}
use Rattle.dart_maps.specs.Map.{twin}
use Rattle.dart_maps.proofs.Darts.{twin-cases, twin-edge, twin-twin}
use Rattle.kuratowski.specs.Subdivision.{branch_count, pattern_edges, pair_at}
use Rattle.kuratowski.specs.declared.subdivision.Pattern.{Pattern}
use Rattle.kuratowski.specs.declared.subdivision.Pattern.TheVariants.{K5, K33}

-- how many edges the pattern has
abbrev pub pair_count : Pattern → ℕ
pair_count kind = length (pattern_edges kind)

-- the vertex of the pattern where way q begins
abbrev pub way_start : Pattern → ℕ → ℕ
way_start kind q = (if q % 2 == 0 then (pair_at kind (q / 2)).0 else (pair_at kind (q / 2)).1)

-- the vertex where it ends
abbrev pub way_finish : Pattern → ℕ → ℕ
way_finish kind q = (if q % 2 == 0 then (pair_at kind (q / 2)).1 else (pair_at kind (q / 2)).0)

-- way q goes on as way p: it begins where q ends, and does not go back
abbrev pub goes_on : Pattern → ℕ → ℕ → Bool
goes_on kind q p = (way_start kind p == way_finish kind q) && not (way_finish kind p == way_start kind q)

-- each way begins at a vertex of the pattern, ends at another one, and goes on
pub way-sound : (kind : Pattern) → some (2 * pair_count kind) (λ q. not (ltb (way_start kind q) (branch_count kind) && not (way_start kind q == way_finish kind q) && some (2 * pair_count kind) (goes_on kind q))) ≡ false
way-sound K5 = refl
way-sound K33 = refl

-- no two ways have the same ends
pub way-single : (kind : Pattern) → some (2 * pair_count kind) (λ q. some (2 * pair_count kind) (λ p. ((way_start kind p == way_start kind q) && (way_finish kind p == way_finish kind q)) && not (p == q))) ≡ false
way-single K5 = refl
way-single K33 = refl

-- each way of K3,3 leads from the one side to the other
way-across : some 18 (λ q. (ltb (way_start K33 q) 3 && ltb (way_finish K33 q) 3) || not (ltb (way_start K33 q) 3 || ltb (way_finish K33 q) 3)) ≡ false
way-across = refl

-- the parts of the first test
sound_parts : (kind : Pattern) (q : ℕ) → q < 2 * pair_count kind
    → (ltb (way_start kind q) (branch_count kind) ≡ true) × (not (way_start kind q == way_finish kind q) ≡ true) × (some (2 * pair_count kind) (goes_on kind q) ≡ true)
sound_parts kind q l =
    let all = not-false (ltb (way_start kind q) (branch_count kind) && not (way_start kind q == way_finish kind q) && some (2 * pair_count kind) (goes_on kind q))
    (some-none (2 * pair_count kind) (λ p. not (ltb (way_start kind p) (branch_count kind) && not (way_start kind p == way_finish kind p) && some (2 * pair_count kind) (goes_on kind p))) (way-sound kind) q l) in
    let last = and_parts (ltb (way_start kind q) (branch_count kind) && not (way_start kind q == way_finish kind q)) (some (2 * pair_count kind) (goes_on kind q)) all in
    let first = and_parts (ltb (way_start kind q) (branch_count kind)) (not (way_start kind q == way_finish kind q)) last.0 in
    (first.0, first.1, last.1)

-- a way begins at a vertex of the pattern
pub way-begins : (kind : Pattern) (q : ℕ) → q < 2 * pair_count kind → way_start kind q < branch_count kind
way-begins kind q l = ltb-true (way_start kind q) (branch_count kind) (sound_parts kind q l).0

-- and ends at another one
pub way-moves : (kind : Pattern) (q : ℕ) → q < 2 * pair_count kind → way_start kind q ≢ way_finish kind q
way-moves kind q l = eqb-false (way_start kind q) (way_finish kind q) (not-true (way_start kind q == way_finish kind q) (sound_parts kind q l).1)

-- from where it goes on
pub way-onward : (kind : Pattern) (q : ℕ) → q < 2 * pair_count kind → (p : ℕ) × (p < 2 * pair_count kind) × (goes_on kind q p ≡ true)
way-onward kind q l = some-witness (2 * pair_count kind) (goes_on kind q) (sound_parts kind q l).2

-- a way that goes on begins where the other ends
pub onward-start : (kind : Pattern) (q p : ℕ) → goes_on kind q p ≡ true → way_start kind p ≡ way_finish kind q
onward-start kind q p h = eqb-true (way_start kind p) (way_finish kind q) (and_parts (way_start kind p == way_finish kind q) (not (way_finish kind p == way_start kind q)) h).0

-- and does not go back
pub onward-finish : (kind : Pattern) (q p : ℕ) → goes_on kind q p ≡ true → way_finish kind p ≢ way_start kind q
onward-finish kind q p h = eqb-false (way_finish kind p) (way_start kind q) (not-true (way_finish kind p == way_start kind q) (and_parts (way_start kind p == way_finish kind q) (not (way_finish kind p == way_start kind q)) h).1)

-- a way that begins where another ends, and ends elsewhere than where that begins, goes on
pub onward-from : (kind : Pattern) (q p : ℕ) → way_start kind p ≡ way_finish kind q → way_finish kind p ≢ way_start kind q → goes_on kind q p ≡ true
onward-from kind q p e n = and_from (way_start kind p == way_finish kind q) (not (way_finish kind p == way_start kind q)) (eq-eqb (way_start kind p) (way_finish kind q) e) (ap not (ne_eqb (way_finish kind p) (way_start kind q) n))

-- ways with the same ends are one
pub way-same : (kind : Pattern) (p q : ℕ) → p < 2 * pair_count kind → q < 2 * pair_count kind → way_start kind p ≡ way_start kind q → way_finish kind p ≡ way_finish kind q → p ≡ q
way-same kind p q k l a b = elim (cases_eq p q) [
  | inl e ↦ e
  | inr n ↦ absurd (both_ways (((way_start kind p == way_start kind q) && (way_finish kind p == way_finish kind q)) && not (p == q))
      (some-none (2 * pair_count kind) (λ o. ((way_start kind o == way_start kind q) && (way_finish kind o == way_finish kind q)) && not (o == q))
      (some-none (2 * pair_count kind) (λ z. some (2 * pair_count kind) (λ o. ((way_start kind o == way_start kind z) && (way_finish kind o == way_finish kind z)) && not (o == z))) (way-single kind) q l) p k)
      (and_from ((way_start kind p == way_start kind q) && (way_finish kind p == way_finish kind q)) (not (p == q))
      (and_from (way_start kind p == way_start kind q) (way_finish kind p == way_finish kind q) (eq-eqb (way_start kind p) (way_start kind q) a) (eq-eqb (way_finish kind p) (way_finish kind q) b))
      (ap not (ne_eqb p q n))))
]

-- way 2k begins at the first vertex of edge k, way 2k + 1 at the second
pub way-start_first : (kind : Pattern) (k : ℕ) → way_start kind (2 * k) ≡ (pair_at kind k).0
way-start_first kind k = let even : ((2 * k) % 2 == 0) ≡ true = eq-eqb ((2 * k) % 2) 0 (omega arith) in let half : (2 * k) / 2 ≡ k = omega arith in rw (even, half) refl

pub way-start_second : (kind : Pattern) (k : ℕ) → way_start kind (2 * k + 1) ≡ (pair_at kind k).1
way-start_second kind k = let odd : ((2 * k + 1) % 2 == 0) ≡ false = ne_eqb ((2 * k + 1) % 2) 0 (λ z. omega arith) in let half : (2 * k + 1) / 2 ≡ k = omega arith in rw (odd, half) refl

-- the twin of a way goes back along the same edge
pub way-start_twin : (kind : Pattern) (q : ℕ) → way_start kind (twin q) ≡ way_finish kind q
way-start_twin kind q = elim (twin-cases q) [
  | inl a ↦ let odd : (twin q % 2 == 0) ≡ false = ne_eqb (twin q % 2) 0 (λ z. omega (arith, a.0, a.1, z)) in let even : (q % 2 == 0) ≡ true = eq-eqb (q % 2) 0 a.0 in rw (odd, even, twin-edge q) refl
  | inr a ↦ let even : (twin q % 2 == 0) ≡ true = eq-eqb (twin q % 2) 0 (omega (arith, a.0, a.1)) in let odd : (q % 2 == 0) ≡ false = ne_eqb (q % 2) 0 (λ z. omega (arith, a.0, z)) in rw (odd, even, twin-edge q) refl
]

pub way-finish_twin : (kind : Pattern) (q : ℕ) → way_finish kind (twin q) ≡ way_start kind q
way-finish_twin kind q = sym (way-start_twin kind (twin q)) ∙ ap (way_start kind) (twin-twin q)

-- three ways, each going on as the next, begin at three vertices
pub three-starts : (kind : Pattern) (a b c : ℕ) → a < 2 * pair_count kind → b < 2 * pair_count kind → goes_on kind a b ≡ true → goes_on kind b c ≡ true
    → (way_start kind a ≢ way_start kind b) × (way_start kind a ≢ way_start kind c) × (way_start kind b ≢ way_start kind c)
three-starts kind a b c l k h i = (
  λ e. way-moves kind a l (e ∙ onward-start kind a b h),
  λ e. onward-finish kind a b h (sym (onward-start kind b c i) ∙ sym e),
  λ e. way-moves kind b k (e ∙ onward-start kind b c i),
)

-- the sides of a way of K3,3
across : (q : ℕ) → q < 18 → ltb (way_finish K33 q) 3 ≡ not (ltb (way_start K33 q) 3)
across q l = sides (ltb (way_start K33 q) 3) (ltb (way_finish K33 q) 3)
    (some-none 18 (λ p. (ltb (way_start K33 p) 3 && ltb (way_finish K33 p) 3) || not (ltb (way_start K33 p) 3 || ltb (way_finish K33 p) 3)) way-across q l)
  where
    sides : (x y : Bool) → ((x && y) || not (x || y)) ≡ false → y ≡ not x
    sides x y h = grind (arith, h, cases_Bool x, cases_Bool y)

-- four ways of K3,3, each going on as the next: the first and the last begin at different vertices
pub four-starts : (a b c d : ℕ) → a < 18 → b < 18 → c < 18 → goes_on K33 a b ≡ true → goes_on K33 b c ≡ true → goes_on K33 c d ≡ true → way_start K33 a ≢ way_start K33 d
four-starts a b c d l k j h i o e = flips (ltb (way_start K33 a) 3) (ltb (way_start K33 b) 3) (ltb (way_start K33 c) 3) (ltb (way_start K33 d) 3)
    (side b (way_finish K33 a) (onward-start K33 a b h) ∙ across a l)
    (side c (way_finish K33 b) (onward-start K33 b c i) ∙ across b k)
    (side d (way_finish K33 c) (onward-start K33 c d o) ∙ across c j)
    (ap (λ z. ltb z 3) e)
  where
    side : (q z : ℕ) → way_start K33 q ≡ z → ltb (way_start K33 q) 3 ≡ ltb z 3
    side q z e = ap (λ y. ltb y 3) e

    flips : (x y z w : Bool) → y ≡ not x → z ≡ not y → w ≡ not z → x ≡ w → ⊥
    flips x y z w p q r s = grind (arith, p, q, r, s, cases_Bool x)
