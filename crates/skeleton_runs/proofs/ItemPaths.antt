-- Through the group of each item of a node there is a path that meets the node in the item's ends alone.
use Rattle.std.proofs.Common.{◌≡◌, ℕ, ◌<◌, ◌==◌, true, length, refl, sym, subst, arith}
use Rattle.std.proofs.lemmas.Bool.{or_left, or_right, eq-eqb}
use Rattle.graph_theory.proofs.Walks.{walk-edge}
use Rattle.pair_split.specs.Skeleton.{is_end_of}
use Rattle.pair_split.specs.Split.{items_of, item_at, piece_ends}
use Rattle.pair_split.specs.Tutte.{components, node_item}
use Rattle.pair_split.specs.declared.components.Piece.{Piece}
use Rattle.pair_split.proofs.NodeParts.{node-piece}
use Rattle.graph_theory.specs.Joined.{PathWhere}
use Rattle.skeleton_runs.specs.Laws.{ItemIsPath}
use Rattle.skeleton_runs.proofs.Items.{in_item, item-path, item-path_vertex}
use Rattle.skeletons.proofs.NodeItems.{comp-in, piece-in}
use Rattle.skeleton_runs.proofs.NodeFits.{group-key, vertex-skeleton}

-- the path by which the group joins the ends of its item
pub path-through : ItemIsPath
path-through g nodes b k i k_in i_in = record {
  along = p.along;
  path = p.path;
  in_group = λ e m. group-key g nodes b.tree k i e i_in (walk-edge g a p.along p.path.walk e m) (p.passes e m);
  ends_only = λ v m h. subst (λ (z : Piece). is_end_of v (piece_ends z) ≡ true) is (item-path_vertex g (components nodes) b.tree.split k i a c long first p v m (vertex-skeleton g nodes b.tree k v h));
}
  where
    a : ℕ
    a = (node_item nodes k i).a

    c : ℕ
    c = (node_item nodes k i).b

    long : i < length (items_of (components nodes) k)
    long = piece-in g nodes b.tree k i i_in

    is : item_at (components nodes) k i ≡ record { a = (node_item nodes k i).a; b = (node_item nodes k i).b; what = (node_item nodes k i).what }
    is = node-piece nodes k i i_in

    first : is_end_of (node_item nodes k i).a (piece_ends (item_at (components nodes) k i)) ≡ true
    first = subst (λ (z : Piece). is_end_of a (piece_ends z) ≡ true) (sym is) (or_left (a == a) (c == a) (eq-eqb a a refl))

    second : is_end_of (node_item nodes k i).b (piece_ends (item_at (components nodes) k i)) ≡ true
    second = subst (λ (z : Piece). is_end_of c (piece_ends z) ≡ true) (sym is) (or_right (a == c) (c == c) (eq-eqb c c refl))

    p : PathWhere g (in_item g (components nodes) b.tree.split k i) (node_item nodes k i).a (node_item nodes k i).b
    p = item-path g (components nodes) b.tree.split b.graph b.block k i a c (comp-in g nodes b.tree k k_in) long
        (λ q. omega (arith, b.tree.in_order.ends_rise k i i_in, q)) first second
