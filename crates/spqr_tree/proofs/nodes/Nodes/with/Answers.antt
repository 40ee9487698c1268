use Rattle.std.proofs.Common.{◌∷◌, ◌++◌, [], ℕ, List, ap, ap₂, ◌∙◌}
use Rattle.pair_split.specs.Tutte.{Node}
use Rattle.pair_split.specs.declared.components.Kind.{Kind}
use Rattle.pair_split.specs.declared.components.Item.{Item}
use Rattle.spqr_tree.specs.NodeLists.{nodes_from}
use Rattle.spqr_tree.proofs.NodeLists.{nodes-more}
use Rattle.spqr_tree.proofs.nodes.Nodes.with.Goals as goal

pub returns : goal.returns
returns c =
    let kinds = c.self.inside.kinds.items in
    let vertices = c.self.inside.vertices in
    let items = c.self.inside.items in
    ap (λ (ks : List Kind). nodes_from ks c.push-2.new.self c.push-3.new.self) c.in_ok-push.ensures.items
    ∙ ap₂ (λ (v : List (List ℕ)) (i : List (List Item)). nodes_from (kinds ++ c.args.kind ∷ []) v i) c.in_ok-push-2.ensures c.in_ok-push-3.ensures
    ∙ nodes-more kinds vertices items c.args.kind c.args.vertices.now c.args.items.now c.self.invariant.0 c.self.invariant.1
    ∙ ap (λ (nodes : List Node). nodes ++ record { kind = c.args.kind; vertices = c.args.vertices.now; items = c.args.items.now } ∷ []) c.self.view_is
