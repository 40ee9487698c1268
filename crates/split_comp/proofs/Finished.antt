-- The pass is over: what is left, and what was split off.
use Rattle.std.proofs.Common.{◌≡◌, ℕ, ◌+◌, ◌-◌, ◌<◌, zero, suc, List, [], ◌∷◌, length, filter, refl, ap, ◌∙◌, subst, arith, None}
use Rattle.multigraph.specs.Graph.{Multigraph}
use Rattle.split_comp.specs.declared.items.StackEntry.{StackEntry}
use Rattle.pair_split.specs.Family.{Entry}
use Rattle.pair_split.proofs.Elements.{contains-here}
use Rattle.split_comp.specs.declared.items.Dart.{Dart}
use Rattle.split_comp.specs.Palm.{tree_dart, tree_degree}
use Rattle.split_comp.specs.Walk.{AreLeft}
use Rattle.split_comp.specs.Stack.{item, entry}
use Rattle.split_comp.specs.Pass.{NumberedTree, IsNumbered, PassState, at_place, IsPass, IsPassed, HasTurns, IsTurned, goes}
use Rattle.split_comp.proofs.Entries.{stack-contains}
use Rattle.split_comp.proofs.Depth.{no-turns}
use Rattle.permutations.proofs.Filter.{filter-yes}

-- the ends of the entries are numbers of vertices
pub passed-ends : (g : Multigraph) (t : NumberedTree) → IsNumbered g t → (s : PassState) → IsPassed g t s → (items : List StackEntry) → items ≡ s.items → (i : ℕ) → i < length items → ((item items i).up < length t.vertex) × ((item items i).low < length t.vertex)
passed-ends g t numbered s p items e i l =
    let q = p.held.ends (entry (item s.items i)) (stack-contains s.items [] i (omega (arith, l, ap length e))) in
    let same = ap (λ (y : List StackEntry). item y i) e in
    (omega (arith, q.0, numbered.vertices.places, ap (λ (y : StackEntry). y.up) same), omega (arith, q.1, numbered.vertices.places, ap (λ (y : StackEntry). y.low) same))

-- no entry stays apart
pub none-apart : (items : List StackEntry) → filter (goes None) items ≡ items
none-apart [] = refl
none-apart (x ∷ items) = filter-yes (goes None) x items refl ∙ ap (λ (l : List StackEntry). x ∷ l) (none-apart items)

-- a turn was taken: there was one to take
pub turns-fewer : (g : Multigraph) (t : NumberedTree) (old new : PassState) → IsPass g t old → (k : ℕ) → HasTurns g t old k → IsTurned g t old new → (j : ℕ) × (k ≡ j + 1) × HasTurns g t new j
turns-fewer g t old new p zero h turned = absurd (no-turns g t old p h)
turns-fewer g t old new p (suc j) h turned = (j, omega arith, turned j (subst (HasTurns g t old) (omega arith) h))

-- no dart is left where none is
none-left : (n : ℕ) (degree : ℕ → ℕ) (dart : ℕ → ℕ → Dart) (gone : ℕ → ℕ) (rest : List Entry) → AreLeft n degree dart gone rest → AreLeft n degree dart gone [] → length rest ≡ 0
none-left n degree dart gone [] some none = refl
none-left n degree dart gone (x ∷ rest) some none =
    let w = some.only x (contains-here x rest) in
    absurd (omega (arith, (none.left w.0 w.1 w.2 w.3 w.4).1))

-- where the pass is over no turn is left
pub over-turns : (g : Multigraph) (t : NumberedTree) (s : PassState) → IsPassed g t s → (k : ℕ) → HasTurns g t s k → k ≡ 0
over-turns g t s over k h = omega (
  arith,
  h.exact,
  none-left g.vertex_count (tree_degree t.palm t.vertex) (tree_dart g t.palm t.vertex) (at_place s.gone) h.rest h.left over.none_left,
  over.last,
  ap h.depth over.at_root,
  h.top,
)
