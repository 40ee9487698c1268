use Rattle.std.proofs.Common.{◌≡◌, ◌∙◌, ◌<◌, ◌≤◌, ℕ, List, true, length, sym, ap, subst, arith, Fits-lit}
use Rattle.std.proofs.Math.Facts.{Fits-le}
use Rattle.permutations.specs.Members.{is_member, is_distinct}
use Rattle.permutations.proofs.Arrangements.{contains-from_member}
use Rattle.multigraph.specs.Graph.{numbers_below, max_edges}
use Rattle.multigraph.proofs.Below.{length-numbers_below}
use Rattle.pair_split.specs.declared.components.Item.{Item}
use Rattle.pair_split.proofs.GraphFamily.{numbers-distinct, contains-below}
use Rattle.skel_compose.proofs.Found.{items-few}
use Rattle.skeletons.specs.Families.{skeleton_graph}
use Rattle.skel_compose.specs.Followers.{IsRow, HasTurns}
use Rattle.skel_embed.specs.Fan.{fan_system}
use Rattle.skel_embed.proofs.FirstRows.{if-ok, poles-of, fan-row}
use Rattle.skel_embed.proofs.members.bond_first.Goals as goal

pub overflow_cast-count : goal.overflow_cast-count
overflow_cast-count c =
    let y = c.requires.block in
    let h : length c.items.result.now ≤ 50000 = omega (arith, ap length c.items.ensures, items-few y.0 c.args.tree.now y.1 c.args.k c.requires.node y.2) in
    Fits-le h (Fits-lit tt)

pub bond_row-requires-clause-once : goal.bond_row-requires-clause-once
bond_row-requires-clause-once c = subst (λ (z : List ℕ). is_distinct z ≡ true) (sym (c.deref.ensures.value ∙ c.in_ok-count_up.ensures {u = tt})) (numbers-distinct (length c.items.result.now))

pub bond_row-requires-clause-below : goal.bond_row-requires-clause-below
bond_row-requires-clause-below c = λ x m.
    let e = c.deref.ensures.value ∙ c.in_ok-count_up.ensures {u = tt} in
    let n = length c.items.result.now in
    subst (λ z. x < z) (sym (ap length e ∙ length-numbers_below n)) (contains-below n x (contains-from_member (numbers_below n) x (subst (λ (z : List ℕ). is_member x z ≡ true) e m)))

pub bond_row-requires-clause-few : goal.bond_row-requires-clause-few
bond_row-requires-clause-few c =
    let y = c.requires.block in
    let e = c.deref.ensures.value ∙ c.in_ok-count_up.ensures {u = tt} in
    subst (λ z. z ≤ max_edges) (sym (ap length e ∙ length-numbers_below (length c.items.result.now) ∙ ap length c.items.ensures)) (items-few y.0 c.args.tree.now y.1 c.args.k c.requires.node y.2)

pub returns : goal.returns
returns c =
    let y = c.requires.block in
    let row = c.bond_row.new.row.items in
    let e = c.deref.ensures.value ∙ c.in_ok-count_up.ensures {u = tt} ∙ ap (λ (z : List Item). numbers_below (length z)) c.items.ensures in
    if-ok c.bond_row.result (HasTurns c.deref.result.now row) (IsRow c.args.tree.now c.args.k (fan_system (skeleton_graph c.args.tree.now c.args.k)) row)
    (fan-row y.0 c.args.tree.now y.1 c.args.k c.requires.node (poles-of y.0 c.args.tree.now y.1 c.args.k c.requires.node c.requires.kind) c.deref.result.now row e) c.bond_row.ensures
