-- Darts: their edges and the vertices that they leave.
use Rattle.std.proofs.Common.{◌≡◌, ℕ, ◌+◌, ◌*◌, ◌/◌, ◌%◌, ◌<◌, ◌≢◌, true, false, ◌==◌, inl, inr, refl, sym, ap, ◌∙◌, arith}
use Rattle.std.proofs.lemmas.Bool.{eq-eqb, ne_eqb, cases_eq}
use Rattle.multigraph.specs.Darts.{tail, dart_from, dart_count}
use Rattle.multigraph.specs.Graph.{Multigraph, IsGraph, edge_count, ends_of, is_end}
use Rattle.multigraph.proofs.OtherEnd.{is_end-first, is_end-second, is_end-cases}

pub dart-edge : (g : Multigraph) (d : ℕ) → d < dart_count g → d / 2 < edge_count g
dart-edge g d l = omega arith

-- a dart leaves an end of its edge
pub tail-end : (g : Multigraph) (d : ℕ) → is_end g (tail g d) (d / 2) ≡ true
tail-end g d = elim (cases_eq (d % 2) 0) [
  | inl e ↦ let t : (d % 2 == 0) ≡ true = eq-eqb (d % 2) 0 e in rw t (is_end-first g (d / 2))
  | inr n ↦ let t : (d % 2 == 0) ≡ false = ne_eqb (d % 2) 0 n in rw t (is_end-second g (d / 2))
]

-- the dart of an edge from a vertex is a dart of this edge
pub dart_from-edge : (g : Multigraph) (v e : ℕ) → dart_from g v e / 2 ≡ e
dart_from-edge g v e = elim (cases_eq (ends_of g e).0 v) [
  | inl s ↦ let t : ((ends_of g e).0 == v) ≡ true = eq-eqb (ends_of g e).0 v s in rw t (omega arith)
  | inr n ↦ let t : ((ends_of g e).0 == v) ≡ false = ne_eqb (ends_of g e).0 v n in rw t (omega arith)
]

-- it is among the darts
pub dart_from-below : (g : Multigraph) (v e : ℕ) → e < edge_count g → dart_from g v e < dart_count g
dart_from-below g v e l = let h : dart_from g v e / 2 ≡ e = dart_from-edge g v e in omega arith

-- it is the first of the edge's darts where the vertex is the first end, and the second else
pub dart_from-first : (g : Multigraph) (v e : ℕ) → (ends_of g e).0 ≡ v → dart_from g v e ≡ 2 * e
dart_from-first g v e s = let t : ((ends_of g e).0 == v) ≡ true = eq-eqb (ends_of g e).0 v s in rw t refl

pub dart_from-second : (g : Multigraph) (v e : ℕ) → (ends_of g e).0 ≢ v → dart_from g v e ≡ 2 * e + 1
dart_from-second g v e n = let t : ((ends_of g e).0 == v) ≡ false = ne_eqb (ends_of g e).0 v n in rw t refl

-- the first of an edge's darts leaves its first end, the second its second end
pub tail-even : (g : Multigraph) (d : ℕ) → d % 2 ≡ 0 → tail g d ≡ (ends_of g (d / 2)).0
tail-even g d e = let t : (d % 2 == 0) ≡ true = eq-eqb (d % 2) 0 e in rw t refl

pub tail-odd : (g : Multigraph) (d : ℕ) → d % 2 ≢ 0 → tail g d ≡ (ends_of g (d / 2)).1
tail-odd g d n = let t : (d % 2 == 0) ≡ false = ne_eqb (d % 2) 0 n in rw t refl

pub tail-first : (g : Multigraph) (e : ℕ) → tail g (2 * e) ≡ (ends_of g e).0
tail-first g e = let h : (2 * e) / 2 ≡ e = omega arith in tail-even g (2 * e) (omega arith) ∙ ap (λ k. (ends_of g k).0) h

pub tail-second : (g : Multigraph) (e : ℕ) → tail g (2 * e + 1) ≡ (ends_of g e).1
tail-second g e = let h : (2 * e + 1) / 2 ≡ e = omega arith in tail-odd g (2 * e + 1) (λ z. omega arith) ∙ ap (λ k. (ends_of g k).1) h

-- the dart of an edge from one of its ends leaves this end
pub dart_from-tail : (g : Multigraph) (v e : ℕ) → is_end g v e ≡ true → tail g (dart_from g v e) ≡ v
dart_from-tail g v e h = elim (cases_eq (ends_of g e).0 v) [
  | inl s ↦ ap (tail g) (dart_from-first g v e s) ∙ tail-first g e ∙ s
  | inr n ↦ ap (tail g) (dart_from-second g v e n) ∙ tail-second g e ∙ second n
]
  where
    second : ((ends_of g e).0 ≡ v → ⊥) → (ends_of g e).1 ≡ v
    second n = elim (is_end-cases g v e h) [
      | inl a ↦ absurd (n a)
      | inr b ↦ b
    ]

-- a dart is that of its edge from the vertex that it leaves
pub dart_from-of_dart : (g : Multigraph) (d : ℕ) → IsGraph g → d < dart_count g → dart_from g (tail g d) (d / 2) ≡ d
dart_from-of_dart g d ok l = elim (cases_eq (d % 2) 0) [
  | inl e ↦ dart_from-first g (tail g d) (d / 2) (sym (tail-even g d e)) ∙ omega arith
  | inr n ↦ dart_from-second g (tail g d) (d / 2) (λ s. ok.no_loop (d / 2) (dart-edge g d l) (s ∙ tail-odd g d n)) ∙ omega arith
]
