use Rattle.std.proofs.Common.{◌≡◌, ◌∙◌, ℕ, List, length, map, sym, ap, subst, arith, IsPermutation}
use Rattle.std.proofs.lemmas.Result.{IfOk-weaker}
use Rattle.faces.specs.Steps.{AreFaceSteps}
use Rattle.pair_split.specs.Tutte.{Node, node_at}
use Rattle.pair_split.specs.declared.components.Item.{Item}
use Rattle.pair_split.specs.declared.components.Kind.TheVariants.{P}
use Rattle.skeletons.specs.Choices.{choice}
use Rattle.skeletons.specs.Items.{item_key, node_keys, IsBlockTree}
use Rattle.multigraph.specs.Graph.{IsWithinLimits}
use Rattle.skeletons.specs.Families.{skeleton_graph, system_at, AreSkeletonSystems}
use Rattle.skeletons.specs.Moves.{IsNodeOfKind}
use Rattle.skeletons.proofs.Leading.{bond-choice}
use Rattle.skeleton_runs.proofs.Contiguous.{plane-contiguous}
use Rattle.skeleton_runs.proofs.SkeletonGraph.{skeleton-graph, skeleton-limits}
use Rattle.skel_compose.specs.Followers.{HasFollowers, IsTable}
use Rattle.long_face.specs.Bonds.{AreBondNumbers}
use Rattle.long_face.proofs.BondNumbers.{bond-known}
use Rattle.long_face.proofs.Greatest.{present-family}
use Rattle.skel_compose.proofs.Found.{items-few}
use Rattle.long_face.proofs.RowLemmas.{items-some, other-kind}
use Rattle.long_face.proofs.numbers.numbers_at.Goals as goal

pub bond_numbers-requires-clause-few : goal.bond_numbers-requires-clause-few
bond_numbers-requires-clause-few c =
    let s = c.args.p.now in
    let items : c.items.result.now ≡ (node_at s.tree c.args.k).items = c.items.ensures ∙ ap (λ (z : List Node). (node_at z c.args.k).items) c.tree-tree.ensures.value in
    omega (arith, ap length items, items-few c.graph.result.now s.tree (subst (λ z. IsBlockTree z s.tree) (sym c.graph.ensures.value) c.belongs.ensures.block) c.args.k c.requires.node c.keeps_limits.ensures.limits)

pub bond_numbers-requires-clause-some : goal.bond_numbers-requires-clause-some
bond_numbers-requires-clause-some c =
    let s = c.args.p.now in
    let items : c.items.result.now ≡ (node_at s.tree c.args.k).items = c.items.ensures ∙ ap (λ (z : List Node). (node_at z c.args.k).items) c.tree-tree.ensures.value in
    omega (arith, ap length items, items-some s.graph s.tree c.belongs.ensures.block c.args.k c.requires.node)

pub bond_numbers-requires-clause-all : goal.bond_numbers-requires-clause-all
bond_numbers-requires-clause-all c =
    let s = c.args.p.now in
    let items : c.items.result.now ≡ (node_at s.tree c.args.k).items = c.items.ensures ∙ ap (λ (z : List Node). (node_at z c.args.k).items) c.tree-tree.ensures.value in
    let is : IsNodeOfKind s.tree c.args.k P = (c.requires.node, sym (c.in-P.ensures {u = tt} ∙ ap (λ (z : List Node). (node_at z c.args.k).kind) c.tree-tree.ensures.value)) in
    subst (λ (z : List Item). IsPermutation (map item_key z) c.keys.result.now) (sym items)
    (subst (IsPermutation (node_keys s.tree c.args.k)) (sym c.keys.ensures) ((bond-choice s.graph s.tree c.belongs.ensures.block s.rotation c.args.k c.belongs.ensures.plane.system (plane-contiguous s.graph s.tree s.rotation c.belongs.ensures.block c.belongs.ensures.plane) is).0))

pub polygon_steps-requires-clause-family : goal.polygon_steps-requires-clause-family
polygon_steps-requires-clause-family c =
    let s = c.args.p.now in
    let w = present-family s.graph s.tree s.rotation c.belongs.ensures.block c.belongs.ensures.plane in
    subst (λ (z : List Node). (family : List (List (List ℕ))) × AreSkeletonSystems z family) (sym c.tree-tree.ensures.value) (w.0, w.1)

pub number_faces-requires : goal.number_faces-requires
number_faces-requires c =
    let s = c.args.p.now in
    let w = present-family s.graph s.tree s.rotation c.belongs.ensures.block c.belongs.ensures.plane in
    let steps = subst (λ (z : List Node). (family : List (List (List ℕ))) → AreSkeletonSystems z family → AreFaceSteps (skeleton_graph z c.args.k) (system_at family c.args.k) c.polygon_steps.new.steps.items) c.tree-tree.ensures.value c.in_ok-polygon_steps-in-S.ensures.steps in (
      skeleton_graph s.tree c.args.k,
      system_at w.0 c.args.k,
      skeleton-graph s.graph s.tree c.belongs.ensures.block c.args.k c.requires.node,
      skeleton-limits s.graph s.tree c.belongs.ensures.block c.args.k c.requires.node (subst IsWithinLimits c.graph.ensures.value c.keeps_limits.ensures.limits),
      w.1.systems c.args.k c.requires.node,
      subst (AreFaceSteps (skeleton_graph s.tree c.args.k) (system_at w.0 c.args.k)) (sym c.deref.ensures.value) (steps w.0 w.1),
    )

pub face_steps-requires-clause-table : goal.face_steps-requires-clause-table
face_steps-requires-clause-table c =
    let s = c.args.p.now in
    let w = present-family s.graph s.tree s.rotation c.belongs.ensures.block c.belongs.ensures.plane in
    let kind = c.kind.ensures ∙ ap (λ (z : List Node). (node_at z c.args.k).kind) c.tree-tree.ensures.value in
    let other = other-kind c.kind.result c.in-R.is in
    let told = c.requires.others c.args.k c.requires.node (λ e. other.0 (kind ∙ e)) (λ e. other.1 (kind ∙ e)) in
    subst (λ (z : List Node). IsTable z c.args.others.now) (sym c.tree-tree.ensures.value) told.0

pub face_steps-requires-clause-family : goal.face_steps-requires-clause-family
face_steps-requires-clause-family c =
    let s = c.args.p.now in
    let w = present-family s.graph s.tree s.rotation c.belongs.ensures.block c.belongs.ensures.plane in
    let kind = c.kind.ensures ∙ ap (λ (z : List Node). (node_at z c.args.k).kind) c.tree-tree.ensures.value in
    let other = other-kind c.kind.result c.in-R.is in
    let told = c.requires.others c.args.k c.requires.node (λ e. other.0 (kind ∙ e)) (λ e. other.1 (kind ∙ e)) in
    subst (λ (z : List Node). (family : List (List (List ℕ))) × AreSkeletonSystems z family × HasFollowers z family c.args.others.now) (sym c.tree-tree.ensures.value) (w.0, w.1, told.1 w.0 (record { systems = w.1; follows = w.2 }))

pub number_faces-requires-in-R : goal.number_faces-requires-in-R
number_faces-requires-in-R c =
    let s = c.args.p.now in
    let w = present-family s.graph s.tree s.rotation c.belongs.ensures.block c.belongs.ensures.plane in
    let kind = c.kind.ensures ∙ ap (λ (z : List Node). (node_at z c.args.k).kind) c.tree-tree.ensures.value in
    let other = other-kind c.kind.result c.in-R.is in
    let told = c.requires.others c.args.k c.requires.node (λ e. other.0 (kind ∙ e)) (λ e. other.1 (kind ∙ e)) in
    let steps = subst (λ (z : List Node). (family : List (List (List ℕ))) → AreSkeletonSystems z family → HasFollowers z family c.args.others.now → AreFaceSteps (skeleton_graph z c.args.k) (system_at family c.args.k) c.face_steps.new.steps.items) c.tree-tree.ensures.value c.in_ok-face_steps-in-R.ensures in (
      skeleton_graph s.tree c.args.k,
      system_at w.0 c.args.k,
      skeleton-graph s.graph s.tree c.belongs.ensures.block c.args.k c.requires.node,
      skeleton-limits s.graph s.tree c.belongs.ensures.block c.args.k c.requires.node (subst IsWithinLimits c.graph.ensures.value c.keeps_limits.ensures.limits),
      w.1.systems c.args.k c.requires.node,
      subst (AreFaceSteps (skeleton_graph s.tree c.args.k) (system_at w.0 c.args.k)) (sym c.deref-in-R.ensures.value) (steps w.0 w.1 (told.1 w.0 (record { systems = w.1; follows = w.2 }))),
    )

pub returns-in-P-clause-numbers : goal.returns-in-P-clause-numbers
returns-in-P-clause-numbers c =
    let s = c.args.p.now in
    let items : c.items.result.now ≡ (node_at s.tree c.args.k).items = c.items.ensures ∙ ap (λ (z : List Node). (node_at z c.args.k).items) c.tree-tree.ensures.value in
    let is : IsNodeOfKind s.tree c.args.k P = (c.requires.node, sym (c.in-P.ensures {u = tt} ∙ ap (λ (z : List Node). (node_at z c.args.k).kind) c.tree-tree.ensures.value)) in
    IfOk-weaker c.bond_numbers.result _ _ (λ _ w family f h.
    bond-known s.graph s.tree c.belongs.ensures.block s.rotation c.belongs.ensures.plane c.args.k is family f h c.bond_numbers.new.numbers.items
    (subst (λ (z : List Item). AreBondNumbers z (choice s.tree s.rotation c.args.k) c.bond_numbers.new.numbers.items) items (subst (λ (z : List ℕ). AreBondNumbers c.items.result.now z c.bond_numbers.new.numbers.items) c.keys.ensures w))) c.bond_numbers.ensures

pub returns-in_ok-polygon_steps-in-S-clause-numbers : goal.returns-in_ok-polygon_steps-in-S-clause-numbers
returns-in_ok-polygon_steps-in-S-clause-numbers c =
    let s = c.args.p.now in
    let steps = subst (λ (z : List Node). (family : List (List (List ℕ))) → AreSkeletonSystems z family → AreFaceSteps (skeleton_graph z c.args.k) (system_at family c.args.k) c.polygon_steps.new.steps.items) c.tree-tree.ensures.value c.in_ok-polygon_steps-in-S.ensures.steps in
    IfOk-weaker c.number_faces.result _ _ (λ _ n family f h. n (skeleton_graph s.tree c.args.k) (system_at family c.args.k) (skeleton-graph s.graph s.tree c.belongs.ensures.block c.args.k c.requires.node) (f.systems c.args.k c.requires.node)
    (subst (AreFaceSteps (skeleton_graph s.tree c.args.k) (system_at family c.args.k)) (sym c.deref.ensures.value) (steps family f))) c.number_faces.ensures

pub returns-in_ok-face_steps-in-R-clause-numbers : goal.returns-in_ok-face_steps-in-R-clause-numbers
returns-in_ok-face_steps-in-R-clause-numbers c =
    let s = c.args.p.now in
    let w = present-family s.graph s.tree s.rotation c.belongs.ensures.block c.belongs.ensures.plane in
    let kind = c.kind.ensures ∙ ap (λ (z : List Node). (node_at z c.args.k).kind) c.tree-tree.ensures.value in
    let other = other-kind c.kind.result c.in-R.is in
    let told = c.requires.others c.args.k c.requires.node (λ e. other.0 (kind ∙ e)) (λ e. other.1 (kind ∙ e)) in
    let steps = subst (λ (z : List Node). (family : List (List (List ℕ))) → AreSkeletonSystems z family → HasFollowers z family c.args.others.now → AreFaceSteps (skeleton_graph z c.args.k) (system_at family c.args.k) c.face_steps.new.steps.items) c.tree-tree.ensures.value c.in_ok-face_steps-in-R.ensures in
    IfOk-weaker c.number_faces-in-R.result _ _ (λ _ n family f h. n (skeleton_graph s.tree c.args.k) (system_at family c.args.k) (skeleton-graph s.graph s.tree c.belongs.ensures.block c.args.k c.requires.node) (f.systems c.args.k c.requires.node)
    (subst (AreFaceSteps (skeleton_graph s.tree c.args.k) (system_at family c.args.k)) (sym c.deref-in-R.ensures.value)
    (steps family f (told.1 family (record { systems = f; follows = h }))))) c.number_faces-in-R.ensures
