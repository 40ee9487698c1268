use Rattle.std.proofs.Common.{◌≡◌, ℕ, ◌+◌, ◌*◌, ◌/◌, ◌%◌, ◌<◌, ◌≤◌, length, slice_index_or, sym, ◌∙◌, subst, arith, Fits-lit}
use Rattle.std.proofs.Math.Facts.{Fits-le}
use Rattle.std.proofs.lemmas.Grind.{get_or_default_zero}
use Rattle.multigraph.specs.Graph.{edge_count}
use Rattle.contractions.specs.Level.{IsLevel, contraction}
use Rattle.contractions.specs.declared.level.Level.{Level}
use Rattle.faces.specs.Euler.{dart_count}
use Rattle.contractions.proofs.LevelFacts.{level-edges, level-kept}
use Rattle.contract_embed.proofs.runs.origin.Goals as goal

-- the edge that is read
edge-in : (level : Level) → IsLevel level → (d e : ℕ) → d < dart_count (contraction level) → e ≡ slice_index_or level.kept.items (d / 2) e → e < edge_count level.graph
edge-in level k d e l q =
    let m : d / 2 < length level.kept.items = omega (arith, level-edges level k) in
    subst (λ z. z < edge_count level.graph) (sym (q ∙ get_or_default_zero level.kept.items (d / 2) e m)) (level-kept level k (d / 2) m)

pub overflow_mul-result : goal.overflow_mul-result
overflow_mul-result c =
    let h : 2 * c.index.result.now ≤ 100000 = omega (arith, edge-in c.args.level.now c.requires.level c.args.dart c.index.result.now c.requires.dart c.index.ensures, c.requires.level.limits.few_edges) in
    Fits-le h (Fits-lit tt)

pub overflow_add-result : goal.overflow_add-result
overflow_add-result c =
    let h : 2 * c.index.result.now + c.args.dart % 2 ≤ 100001 = omega (arith, edge-in c.args.level.now c.requires.level c.args.dart c.index.result.now c.requires.dart c.index.ensures, c.requires.level.limits.few_edges) in
    Fits-le h (Fits-lit tt)

pub returns-clause-within : goal.returns-clause-within
returns-clause-within c = omega (arith, edge-in c.args.level.now c.requires.level c.args.dart c.index.result.now c.requires.dart c.index.ensures)
