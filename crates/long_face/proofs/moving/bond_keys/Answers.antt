use Rattle.std.proofs.Common.{ℕ, List, sym, ap, ap₂, ◌∙◌}
use Rattle.permutations.specs.Cyclic.{from_least, successor}
use Rattle.permutations.specs.Members.{is_member, is_distinct}
use Rattle.pair_split.specs.Tutte.{Node, node_at}
use Rattle.pair_split.specs.declared.components.Item.{Item}
use Rattle.skeletons.specs.Items.{nth_item}
use Rattle.skeletons.proofs.Leading.{bond-choice}
use Rattle.skeleton_runs.proofs.Contiguous.{plane-contiguous}
use Rattle.long_face.proofs.Possible.{once, key-in, after-in}
use Rattle.long_face.proofs.moving.bond_keys.Goals as goal

pub following-requires-clause-once : goal.following-requires-clause-once
following-requires-clause-once c =
    let s = c.args.p.now in
    ap is_distinct c.keys-keys.ensures
    ∙ once s.graph s.tree c.belongs.ensures.block s.rotation c.belongs.ensures.plane c.args.k c.requires.node c.args.want.first c.args.want.second c.requires.pair.first_in c.requires.pair.second_in c.requires.pair.two

pub following-requires-clause-held : goal.following-requires-clause-held
following-requires-clause-held c =
    let s = c.args.p.now in
    let items = c.items-items.ensures ∙ ap (λ (z : List Node). (node_at z c.args.k).items) c.tree.ensures.value in
    ap₂ (λ (z : List Item) (l : List ℕ). is_member (nth_item z c.args.want.first).key l) items c.keys-keys.ensures
    ∙ key-in s.graph s.tree c.belongs.ensures.block s.rotation c.belongs.ensures.plane c.args.k c.requires.node c.args.want.first c.args.want.second c.requires.pair.first_in c.requires.pair.second_in c.requires.pair.two c.args.want.first c.requires.pair.first_in

pub exchanged-requires-clause-written : goal.exchanged-requires-clause-written
exchanged-requires-clause-written c =
    let s = c.args.p.now in
    ap from_least c.keys-keys.ensures
    ∙ (bond-choice s.graph s.tree c.belongs.ensures.block s.rotation c.args.k c.belongs.ensures.plane.system (plane-contiguous s.graph s.tree s.rotation c.belongs.ensures.block c.belongs.ensures.plane) c.requires.node).1
    ∙ sym c.keys-keys.ensures

pub exchanged-requires-clause-first : goal.exchanged-requires-clause-first
exchanged-requires-clause-first c =
    let s = c.args.p.now in
    let items = c.items-items.ensures ∙ ap (λ (z : List Node). (node_at z c.args.k).items) c.tree.ensures.value in
    let next = c.following.ensures ∙ ap₂ (λ (z : List Item) (l : List ℕ). successor l (nth_item z c.args.want.first).key) items c.keys-keys.ensures in
    ap₂ (λ (x : ℕ) (l : List ℕ). is_member x l) next c.keys-keys.ensures
    ∙ after-in s.graph s.tree c.belongs.ensures.block s.rotation c.belongs.ensures.plane c.args.k c.requires.node c.args.want.first c.args.want.second c.requires.pair.first_in c.requires.pair.second_in c.requires.pair.two

pub exchanged-requires-clause-second : goal.exchanged-requires-clause-second
exchanged-requires-clause-second c =
    let s = c.args.p.now in
    let items = c.items-items.ensures ∙ ap (λ (z : List Node). (node_at z c.args.k).items) c.tree.ensures.value in
    ap₂ (λ (z : List Item) (l : List ℕ). is_member (nth_item z c.args.want.second).key l) items c.keys-keys.ensures
    ∙ key-in s.graph s.tree c.belongs.ensures.block s.rotation c.belongs.ensures.plane c.args.k c.requires.node c.args.want.first c.args.want.second c.requires.pair.first_in c.requires.pair.second_in c.requires.pair.two c.args.want.second c.requires.pair.second_in
