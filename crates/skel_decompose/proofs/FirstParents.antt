-- The parents of the nodes of a tree that hangs from the node with edge 0 are at the other ends of the first items.
use Rattle.std.proofs.Common.{◌≡◌, ◌≢◌, ℕ, ◌+◌, ◌<◌, ◌≤◌, inl, inr, Bool, true, List, length, map, sym, ap, ◌∙◌, subst, arith}
use Rattle.std.proofs.lemmas.Bool.{cases_Bool}
use Rattle.std.proofs.lemmas.List.{length-map}
use Rattle.permutations.specs.Count.{some, least}
use Rattle.permutations.specs.Members.{is_member}
use Rattle.permutations.proofs.Search.{least-passes, least-none}
use Rattle.multigraph.specs.Graph.{Multigraph, edge_count, IsWithinLimits}
use Rattle.pair_split.specs.Split.{side, is_beyond, LinksTo, IsTree, AreLinked}
use Rattle.pair_split.specs.Tutte.{Node, components, node_at, node_item, key_of, piece_of, IsTutte}
use Rattle.pair_split.specs.declared.components.Comp.{Comp}
use Rattle.pair_split.specs.declared.components.What.TheVariants.{Real, Link}
use Rattle.pair_split.proofs.GraphFamily.{one_block-tight}
use Rattle.pair_split.proofs.Groups.{what-cases}
use Rattle.pair_split.proofs.Links.{side-home}
use Rattle.pair_split.proofs.Rerooted.{rerooted, rerooted-root, rerooted-parent}
use Rattle.skeletons.specs.Items.{IsBlockTree}
use Rattle.spqr_tree.specs.Absent.{absent}
use Rattle.spqr_tree.specs.Keys.{parent_at, AreOrdered}
use Rattle.spqr_tree.proofs.FewComponents.{few-components}
use Rattle.spqr_tree.proofs.UpLinks.{node-in, comp-in, first-in, first-key, first-edge, edge-once, link-to, stands-of, root-stands}
use Rattle.skel_decompose.specs.Orders.{far_end, HangFromFirst, IsOrderOf}
use Rattle.skel_decompose.specs.Ways.{AreDown}
use Rattle.skel_decompose.proofs.Hanging.{AreParents, ordered}

-- the least number is 0 only where 0 passes
least-zero : (n : ℕ) (p : ℕ → Bool) → 0 < n → least n p ≡ 0 → p 0 ≡ true
least-zero n p l e = elim (cases_Bool (some n p)) [
  | inl h ↦ subst (λ z. p z ≡ true) e (least-passes n p h)
  | inr h ↦ absurd (omega (arith, l, e, least-none n p h))
]

-- the components and the nodes are as many
module _ (g : Multigraph) (nodes : List Node) (b : IsBlockTree g nodes) (small : IsWithinLimits g) where
  abbrev comps : List Comp
  comps = components nodes

  abbrev tree : IsTutte g nodes
  tree = b.tree

  abbrev linked : AreLinked comps
  linked = b.tree.split.linked

  pub number : length comps ≡ length nodes
  number = length-map nodes (λ node. record { kind = node.kind; items = map piece_of node.items })

  pub few : length comps < absent
  few = let c : length comps ≤ edge_count g + 1 = few-components g comps b.tree.split (one_block-tight g b.block) in omega (arith, c, small.few_edges)

  -- the same tree of the links from another root
  abbrev pub from : (r : ℕ) → r < length comps → AreLinked comps
  from r l = record { once = linked.once; back = linked.back; tree = rerooted comps linked r l }

  -- the node with edge 0
  abbrev pub root : ℕ
  root = (root-stands g nodes tree b.block.has_edge).0

  pub root-in : root < length nodes
  root-in = (root-stands g nodes tree b.block.has_edge).1

  pub root-inside : root < length comps
  root-inside = comp-in g nodes tree b.block.has_edge root root-in

  pub root-first : (node_item nodes root 0).what ≡ Real 0
  root-first = (root-stands g nodes tree b.block.has_edge).2

  module _ (k : ℕ) (l : k < length nodes) where
    first : 0 < length (node_at nodes k).items
    first = first-in g nodes tree b.block.has_edge k l

    -- only that node has an edge as its first item
    first-link : k ≢ root → (p : ℕ) × ((node_item nodes k 0).what ≡ Link p)
    first-link n = elim (what-cases (node_item nodes k 0).what) [
      | inl w ↦
          let zero : (node_item nodes k 0).what ≡ Real 0 = w.1 ∙ ap Real (first-edge g nodes tree b.block.has_edge k w.0 l w.1) in
          absurd (n (edge-once g nodes tree b.block.has_edge k 0 root 0 0 first (first-in g nodes tree b.block.has_edge root root-in) zero root-first).0)
      | inr w ↦ w
    ]

    -- the node with edge 0 is beyond this link
    pub towards : (p : ℕ) → (node_item nodes k 0).what ≡ Link p → LinksTo comps k p × (is_beyond comps k p root ≡ true)
    towards p e = (link-to g nodes tree b.block.has_edge k 0 p first e, sym home ∙ holds)
      where
        holds : side comps k p 0 ≡ true
        holds = least-zero (edge_count g) (side comps k p) b.block.has_edge (sym (tree.in_order.keys k 0 first ∙ ap (key_of g nodes k) e) ∙ first-key g nodes tree b.block.has_edge k l)

        home : side comps k p 0 ≡ is_beyond comps k p root
        home = side-home comps k p root 0 0 (stands-of g nodes tree b.block.has_edge root 0 (Real 0) (first-in g nodes tree b.block.has_edge root root-in) root-first)
            (λ d f s. (tree.split.covers.once 0 d f root 0 s (stands-of g nodes tree b.block.has_edge root 0 (Real 0) (first-in g nodes tree b.block.has_edge root root-in) root-first)).0)

  -- so the parents are those of the tree from there
  module _ (parents : List ℕ) (h : HangFromFirst nodes parents) where
    abbrev t : IsTree comps
    t = rerooted comps linked root root-inside

    parent-is : (k : ℕ) → k < length comps → k ≢ root → parent_at parents k ≡ t.parent k
    parent-is k l n =
        let m : k < length nodes = node-in g nodes tree b.block.has_edge k l in
        let w = first-link k m n in
        let s = towards k m w.0 w.1 in
        h.each k m ∙ ap far_end w.1 ∙ sym (rerooted-parent comps linked root root-inside k w.0 s.0 s.1).1

    end : parent_at parents root ≡ absent
    end = h.each root root-in ∙ ap far_end root-first

    pub are-parents : AreParents comps t parents
    are-parents = record {
      number = h.number ∙ sym number;
      each = λ k l n. parent-is k l (λ q. n (q ∙ sym (rerooted-root comps linked root root-inside)));
      end = ap (parent_at parents) (rerooted-root comps linked root root-inside) ∙ end;
    }

    -- and a list of all nodes in which each is after its parent is an order
    pub in-order : (order : List ℕ) → AreDown parents order → ((k : ℕ) → k < length parents → is_member k order ≡ true) → IsOrderOf nodes parents order
    in-order order d all = record {
      root = root;
      root_in = root-inside;
      ordered = subst (λ z. AreOrdered comps z parents order) (rerooted-root comps linked root root-inside)
          (ordered comps (from root root-inside) few parents are-parents order d (λ k l. all k (subst (λ z. k < z) (sym are-parents.number) l)));
      distinct = d.distinct;
      end = end;
    }
