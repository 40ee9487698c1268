-- The contraction of a level, as the lemmas on lifting want it.
use Rattle.std.proofs.Common.{◌≡◌, ℕ, ◌+◌, ◌-◌, ◌<◌, ◌≤◌, ◌==◌, inl, inr, Bool, false, nat_lt, if◌then◌else◌, ap, ◌∙◌, arith}
use Rattle.std.proofs.lemmas.Bool.{cases_lt, lt-ltb, eqb-true, false_from_ne_true, ltb-true}
use Rattle.contractions.specs.Contracted.{contracted_vertex, without_number}
use Rattle.contractions.specs.Level.{IsLevel, contraction}
use Rattle.contract_obstruct.specs.Lifting.{with_number}
use Rattle.contractions.specs.declared.level.Level.{Level}

test_false : (a b : ℕ) → b ≤ a → nat_lt a b ≡ false
test_false a b l = false_from_ne_true (nat_lt a b) (λ t. let w : a < b = ltb-true a b t in omega arith)

-- a number, with y left out
with-less : (y v : ℕ) → v < y → with_number y v ≡ v
with-less y v l = ap (λ (b : Bool). if b then v else v + 1) (lt-ltb v y l)

with-more : (y v : ℕ) → y ≤ v → with_number y v ≡ v + 1
with-more y v l = ap (λ (b : Bool). if b then v else v + 1) (test_false v y l)

-- the vertex with number v is a vertex
pub with-in : (level : Level) → IsLevel level → (v : ℕ) → v < (contraction level).vertex_count → with_number level.y v < level.graph.vertex_count
with-in level k v l = elim (cases_lt v level.y) [
  | inl a ↦ omega (arith, with-less level.y v a, l, k.five)
  | inr a ↦ omega (arith, with-more level.y v a, l, k.five)
]

-- that becomes v
pub with-is : (x y v : ℕ) → contracted_vertex x y (with_number y v) ≡ v
with-is x y v = elim (cases_lt v y) [
  | inl a ↦ ap (contracted_vertex x y) (with-less y v a) ∙ (kept v (λ e. omega arith) ∙ ap (λ (b : Bool). if b then v - 1 else v) (test_false y v (omega arith)))
  | inr a ↦
      let q : v + 1 - 1 ≡ v = omega arith in
      ap (contracted_vertex x y) (with-more y v a) ∙ (kept (v + 1) (λ e. omega arith) ∙ (ap (λ (b : Bool). if b then v + 1 - 1 else v + 1) (lt-ltb y (v + 1) (omega arith)) ∙ q))
]
  where
    kept : (u : ℕ) → (u ≡ y → ⊥) → contracted_vertex x y u ≡ without_number y u
    kept u n = ap (λ (b : Bool). without_number y (if b then x else u)) (false_from_ne_true (u == y) (λ t. n (eqb-true u y t)))
