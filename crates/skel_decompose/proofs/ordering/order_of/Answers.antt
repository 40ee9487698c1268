use Rattle.std.proofs.Common.{◌<◌, ℕ, List, length, sym, subst, arith}
use Rattle.pair_split.specs.Tutte.{components}
use Rattle.spqr_tree.specs.Absent.{absent}
use Rattle.skel_decompose.specs.Ways.{IsFalling, AreDown}
use Rattle.skel_decompose.proofs.Hanging.{falling}
use Rattle.skel_decompose.proofs.FirstParents.{from, root, root-inside, few, number, are-parents, in-order}
use Rattle.skel_decompose.proofs.ordering.order_of.Goals as goal

pub order_by-requires-clause-falling : goal.order_by-requires-clause-falling
order_by-requires-clause-falling c =
    let b = c.requires.block in
    subst (λ (z : List ℕ). (rank : ℕ → ℕ) × IsFalling z rank) (sym c.deref.ensures.value) (
      _,
      falling (components c.args.tree.now) (from b.0 c.args.tree.now b.1 b.2 (root b.0 c.args.tree.now b.1 b.2) (root-inside b.0 c.args.tree.now b.1 b.2)) (few b.0 c.args.tree.now b.1 b.2) c.in_ok-parents.parents.items
          (are-parents b.0 c.args.tree.now b.1 b.2 c.in_ok-parents.parents.items c.in_ok-parents.ensures),
    )

pub order_by-requires-clause-few : goal.order_by-requires-clause-few
order_by-requires-clause-few c =
    let b = c.requires.block in
    subst (λ (z : List ℕ). length z < absent) (sym c.deref.ensures.value) (omega (arith, c.in_ok-parents.ensures.number, number b.0 c.args.tree.now b.1 b.2, few b.0 c.args.tree.now b.1 b.2))

pub returns-clause-order : goal.returns-clause-order
returns-clause-order c =
    let b = c.requires.block in
    in-order b.0 c.args.tree.now b.1 b.2 c.in_ok-parents.parents.items c.in_ok-parents.ensures c.in_ok-nodes.nodes.items
    (subst (λ (z : List ℕ). AreDown z c.in_ok-nodes.nodes.items) c.deref.ensures.value c.in_ok-nodes.ensures.down)
    (λ k l. c.in_ok-nodes.ensures.all k (subst (λ (z : List ℕ). k < length z) (sym c.deref.ensures.value) l))
