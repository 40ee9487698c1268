-- The two ends of an edge, and the one that is not a given end.
use Rattle.std.proofs.Common.{◌≡◌, ℕ, ◌<◌, true, false, ◌⊎◌, ◌≢◌, ◌∙◌, eqb, ltb, refl, sym, subst, inl, inr, arith}
use Rattle.std.proofs.lemmas.Bool.{eqb-true, eq-eqb, ne_eqb, or_from, cases_eq, or_cases, or_left, or_right, and_parts, and_from, ltb-true, lt-ltb}
use Rattle.multigraph.specs.Graph.{Multigraph, edge_count, ends_of, is_end, is_edge_at, other_end, IsGraph}

-- the first end is an end
pub is_end-first : (g : Multigraph) (e : ℕ) → is_end g (ends_of g e).0 e ≡ true
is_end-first g e = or_left (eqb (ends_of g e).0 (ends_of g e).0) (eqb (ends_of g e).1 (ends_of g e).0) (eq-eqb (ends_of g e).0 (ends_of g e).0 refl)

-- the second end is an end
pub is_end-second : (g : Multigraph) (e : ℕ) → is_end g (ends_of g e).1 e ≡ true
is_end-second g e = or_right (eqb (ends_of g e).0 (ends_of g e).1) (eqb (ends_of g e).1 (ends_of g e).1) (eq-eqb (ends_of g e).1 (ends_of g e).1 refl)

-- an end is the first or the second
pub is_end-cases : (g : Multigraph) (v e : ℕ) → is_end g v e ≡ true → ((ends_of g e).0 ≡ v) ⊎ ((ends_of g e).1 ≡ v)
is_end-cases g v e h = elim (or_cases (eqb (ends_of g e).0 v) (eqb (ends_of g e).1 v) h) [
  | inl a ↦ inl (eqb-true (ends_of g e).0 v a)
  | inr b ↦ inr (eqb-true (ends_of g e).1 v b)
]

-- the other end of the first is the second
pub other_end-of_first : (g : Multigraph) (e v : ℕ) → (ends_of g e).0 ≡ v → other_end g e v ≡ (ends_of g e).1
other_end-of_first g e v h = grind (arith, eq-eqb (ends_of g e).0 v h)

-- the other end of the second is the first, where the two differ
pub other_end-of_second : (g : Multigraph) (e v : ℕ) → (ends_of g e).1 ≡ v → (ends_of g e).0 ≢ (ends_of g e).1 → other_end g e v ≡ (ends_of g e).0
other_end-of_second g e v h apart =
    let differ : (ends_of g e).0 ≢ v = λ same. apart (cc) in
    grind (arith, ne_eqb (ends_of g e).0 v differ)

-- what is neither end is no end
pub is_end-no : (g : Multigraph) (v e : ℕ) → (ends_of g e).0 ≢ v → (ends_of g e).1 ≢ v → is_end g v e ≡ false
is_end-no g v e a b = or_from (eqb (ends_of g e).0 v) (eqb (ends_of g e).1 v) (ne_eqb (ends_of g e).0 v a) (ne_eqb (ends_of g e).1 v b)

-- the other end is the second where v is the first, and else the first
pub other_end-cases : (g : Multigraph) (e v : ℕ) → (((ends_of g e).0 ≡ v) × (other_end g e v ≡ (ends_of g e).1)) ⊎ (((ends_of g e).0 ≢ v) × (other_end g e v ≡ (ends_of g e).0))
other_end-cases g e v = elim (cases_eq (ends_of g e).0 v) [
  | inl same ↦ inl (same, other_end-of_first g e v same)
  | inr apart ↦ inr (apart, grind (arith, ne_eqb (ends_of g e).0 v apart))
]

-- the other end is an end
pub other_end-is_end : (g : Multigraph) (e v : ℕ) → is_end g (other_end g e v) e ≡ true
other_end-is_end g e v = elim (other_end-cases g e v) [
  | inl c ↦ subst (λ (w : ℕ). is_end g w e ≡ true) (sym c.1) (is_end-second g e)
  | inr c ↦ subst (λ (w : ℕ). is_end g w e ≡ true) (sym c.1) (is_end-first g e)
]

-- the other end is a vertex
pub other_end-in : (g : Multigraph) (e v : ℕ) → IsGraph g → e < edge_count g → other_end g e v < g.vertex_count
other_end-in g e v ok l = grind (arith, ok.first_in e l, ok.second_in e l)

-- an end of an edge is a vertex
pub end-in : (g : Multigraph) (v e : ℕ) → IsGraph g → e < edge_count g → is_end g v e ≡ true → v < g.vertex_count
end-in g v e ok l h = elim (is_end-cases g v e h) [
  | inl a ↦ omega (arith, ok.first_in e l)
  | inr b ↦ omega (arith, ok.second_in e l)
]

-- the other end differs from v
pub other_end-differs : (g : Multigraph) (e v : ℕ) → IsGraph g → e < edge_count g → is_end g v e ≡ true → other_end g e v ≢ v
other_end-differs g e v ok l h same = elim (is_end-cases g v e h) [
  | inl a ↦ ok.no_loop e l (a ∙ (sym same ∙ other_end-of_first g e v a))
  | inr b ↦ ok.no_loop e l (sym (other_end-of_second g e v b (ok.no_loop e l)) ∙ (same ∙ sym b))
]

-- the other end of the other end is v
pub other_end-twice : (g : Multigraph) (e v : ℕ) → IsGraph g → e < edge_count g → is_end g v e ≡ true → other_end g e (other_end g e v) ≡ v
other_end-twice g e v ok l h = elim (is_end-cases g v e h) [
  | inl a ↦ other_end-of_second g e (other_end g e v) (sym (other_end-of_first g e v a)) (ok.no_loop e l) ∙ a
  | inr b ↦ other_end-of_first g e (other_end g e v) (sym (other_end-of_second g e v b (ok.no_loop e l))) ∙ b
]

-- a vertex that is the first end is an end
pub is_end-from_first : (g : Multigraph) (v e : ℕ) → (ends_of g e).0 ≡ v → is_end g v e ≡ true
is_end-from_first g v e h = subst (λ (w : ℕ). is_end g w e ≡ true) h (is_end-first g e)

-- a vertex that is the second end is an end
pub is_end-from_second : (g : Multigraph) (v e : ℕ) → (ends_of g e).1 ≡ v → is_end g v e ≡ true
is_end-from_second g v e h = subst (λ (w : ℕ). is_end g w e ≡ true) h (is_end-second g e)

-- what an edge at a vertex is
pub edge_at-parts : (g : Multigraph) (v e : ℕ) → is_edge_at g v e ≡ true → (e < edge_count g) × (is_end g v e ≡ true)
edge_at-parts g v e h = let p = and_parts (ltb e (edge_count g)) (is_end g v e) h in (ltb-true e (edge_count g) p.0, p.1)

-- an edge with this end is one at it
pub edge_at-from : (g : Multigraph) (v e : ℕ) → e < edge_count g → is_end g v e ≡ true → is_edge_at g v e ≡ true
edge_at-from g v e l i = and_from (ltb e (edge_count g)) (is_end g v e) (lt-ltb e (edge_count g) l) i
