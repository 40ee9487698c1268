-- A multigraph has at most one first fault.
use Rattle.std.proofs.Common.{◌≡◌, ◌≢◌, ℕ, ◌<◌, refl, sym, ap, ◌∙◌, subst, inl, inr, arith}
use Rattle.std.proofs.lemmas.Bool.{cases_order}
use Rattle.multigraph.specs.Graph.{Multigraph, edge_count, IsGraph, IsWithinLimits}
use Rattle.multigraph.specs.Build.{IsSound, IsReached, HasEndOut, IsLoop, IsFirstFault}
use Rattle.multigraph.specs.declared.faults.BuildFault.{BuildFault}
use Rattle.multigraph.specs.declared.faults.BuildFault.TheVariants.{TooManyVertices, TooManyEdges, EndOut, Loop, Memory}

-- a sound edge has no end out
sound-in : (g : Multigraph) (e : ℕ) → IsSound g e → HasEndOut g e → ⊥
sound-in g e s out = elim out [ inl a ↦ omega (arith, s.first_in) | inr b ↦ omega (arith, s.second_in) ]

-- it is no loop
sound-apart : (g : Multigraph) (e : ℕ) → IsSound g e → IsLoop g e → ⊥
sound-apart g e s loop = s.no_loop loop.1

-- a loop has no end out
loop-in : (g : Multigraph) (e : ℕ) → IsLoop g e → HasEndOut g e → ⊥
loop-in g e loop out = elim out [ inl a ↦ omega (arith, loop.0) | inr b ↦ omega (arith, loop.0, loop.1) ]

-- two edges that are reached, each with something that no sound edge has, are one
same_edge : (g : Multigraph) (P Q : ℕ → Type 0) (d e : ℕ) → ((k : ℕ) → IsSound g k → P k → ⊥) → ((k : ℕ) → IsSound g k → Q k → ⊥) → IsReached g d → P d → IsReached g e → Q e → d ≡ e
same_edge g P Q d e no_p no_q rd p re q = elim (cases_order d e) [
  | inl same ↦ same
  | inr apart ↦ elim apart [
    | inl less ↦ absurd (no_p d (re.sound_before d less) p)
    | inr more ↦ absurd (no_q e (rd.sound_before e more) q)
  ]
]

-- an end out and a loop are not both the first
not_both : (g : Multigraph) (d e : ℕ) → IsReached g d → HasEndOut g d → IsReached g e → IsLoop g e → ⊥
not_both g d e rd out re loop =
    loop-in g e loop (subst (HasEndOut g) (same_edge g (HasEndOut g) (IsLoop g) d e (sound-in g) (sound-apart g) rd out re loop) out)

pub first-one : (g : Multigraph) (a b : BuildFault) → IsFirstFault g a → IsFirstFault g b → a ≢ Memory → b ≢ Memory → a ≡ b
first-one g (TooManyVertices n) (TooManyVertices m) p q x y = ap TooManyVertices (p.0 ∙ sym q.0)
first-one g (TooManyVertices n) (TooManyEdges m) p q x y = absurd (omega (arith, p.0, p.1, q.2))
first-one g (TooManyVertices n) (EndOut e) p q x y = absurd (omega (arith, p.0, p.1, q.0.limits.few_vertices))
first-one g (TooManyVertices n) (Loop e) p q x y = absurd (omega (arith, p.0, p.1, q.0.limits.few_vertices))
first-one g (TooManyEdges n) (TooManyVertices m) p q x y = absurd (omega (arith, q.0, q.1, p.2))
first-one g (TooManyEdges n) (TooManyEdges m) p q x y = ap TooManyEdges (p.0 ∙ sym q.0)
first-one g (TooManyEdges n) (EndOut e) p q x y = absurd (omega (arith, p.0, p.1, q.0.limits.few_edges))
first-one g (TooManyEdges n) (Loop e) p q x y = absurd (omega (arith, p.0, p.1, q.0.limits.few_edges))
first-one g (EndOut d) (TooManyVertices m) p q x y = absurd (omega (arith, q.0, q.1, p.0.limits.few_vertices))
first-one g (EndOut d) (TooManyEdges m) p q x y = absurd (omega (arith, q.0, q.1, p.0.limits.few_edges))
first-one g (EndOut d) (EndOut e) p q x y = ap EndOut (same_edge g (HasEndOut g) (HasEndOut g) d e (sound-in g) (sound-in g) p.0 p.1 q.0 q.1)
first-one g (EndOut d) (Loop e) p q x y = absurd (not_both g d e p.0 p.1 q.0 q.1)
first-one g (Loop d) (TooManyVertices m) p q x y = absurd (omega (arith, q.0, q.1, p.0.limits.few_vertices))
first-one g (Loop d) (TooManyEdges m) p q x y = absurd (omega (arith, q.0, q.1, p.0.limits.few_edges))
first-one g (Loop d) (EndOut e) p q x y = absurd (not_both g e d q.0 q.1 p.0 p.1)
first-one g (Loop d) (Loop e) p q x y = ap Loop (same_edge g (IsLoop g) (IsLoop g) d e (sound-apart g) (sound-apart g) p.0 p.1 q.0 q.1)
first-one g Memory b p q x y = absurd (x refl)
first-one g a Memory p q x y = absurd (y refl)

-- every edge of a graph is sound
graph-sound : (g : Multigraph) (e : ℕ) → IsGraph g → e < edge_count g → IsSound g e
graph-sound g e ok l = record { first_in = ok.first_in e l; second_in = ok.second_in e l; no_loop = ok.no_loop e l }

-- a graph within the limits has none
pub first-none : (g : Multigraph) (a : BuildFault) → IsGraph g → IsWithinLimits g → IsFirstFault g a → a ≡ Memory
first-none g (TooManyVertices n) ok limits p = absurd (omega (arith, p.0, p.1, limits.few_vertices))
first-none g (TooManyEdges n) ok limits p = absurd (omega (arith, p.0, p.1, limits.few_edges))
first-none g (EndOut e) ok limits p = absurd (sound-in g e (graph-sound g e ok p.0.is_edge) p.1)
first-none g (Loop e) ok limits p = absurd (sound-apart g e (graph-sound g e ok p.0.is_edge) p.1)
first-none g Memory ok limits p = refl
