-- The numbers and the parents of the tree that was found.
use Rattle.std.proofs.Common.{◌≡◌, ℕ, ◌<◌, inl, inr, List, length, get_or, sym, ap, ◌∙◌, subst, arith}
use Rattle.std.proofs.lemmas.Bool.{cases_lt}
use Rattle.multigraph.specs.Graph.{Multigraph, IsGraph}
use Rattle.palm_tree.specs.PalmTree.{PalmTreeLists, IsParentEdge, AreNumbers, AreParents}
use Rattle.search_forest.specs.Forest.{ForestState}
use Rattle.search_forest.specs.Searching.{IsOver, IsOneTree}
use Rattle.palm_tree.specs.Growing.{LowVertices, AreSizes, AreChildren, AreOffsets, AreNumbersSoFar, AreFound}
use Rattle.search_forest.proofs.Grown.{lower-in, parent-in, parent_edge-in, parent_edge-lower, parent_edge-tree, tree-is}
use Rattle.palm_tree.proofs.Intervals.{root-number, child-number, size-some, number-below, below-number, each-number, differ, within-below}
use Rattle.palm_tree.proofs.Palm.{descendant-below, below-descendant, parent-root, parent-none, parent-some, mark-tree, mark-frond, to-parent_edge, from-parent_edge, to-frond}

module _ (g : Multigraph) (gg : IsGraph g) (s : ForestState) (o : IsOver g s) (one : IsOneTree g s) (low : LowVertices) (size offset children number : List ℕ) (z : AreSizes g s size) (k : AreChildren g s children) (a : AreOffsets g s size children offset) (n : AreNumbersSoFar g s size offset s.order number) (edges : List ℕ) (t : PalmTreeLists) (f : AreFound g s low edges number t) where
  numbered : (y : ℕ) → get_or t.number y 0 ≡ get_or number y 0
  numbered y = ap (λ (l : List ℕ). get_or l y 0) f.number

  pub are-numbers : AreNumbers g t
  are-numbers = record {
    places = ap (length {A = ℕ}) f.number ∙ n.places;
    below = λ v l. omega (arith, numbered v, number-below g gg s o size offset children number z k a n v l, size-some g gg s o size offset children number z k a n v l);
    each = λ x l. let w = each-number g gg s o size offset children number z k a n one x l in (w.0, w.1, numbered w.0 ∙ w.2);
    differ = λ u v ul vl e. differ g gg s o size offset children number z k a n one u v ul vl (sym (numbered u) ∙ (e ∙ numbered v));
    consecutive = λ v l. record {
      size = get_or size v 0;
      last = omega (arith, numbered v, number-below g gg s o size offset children number z k a n v l);
      numbers = λ y m. (
        λ d.
            let b = descendant-below g gg s o low edges number t f v y m d in
            let r = below-number g gg s o size offset children number z k a n v y m b in
            (omega (arith, numbered v, numbered y, r.0), omega (arith, numbered v, numbered y, r.1, size-some g gg s o size offset children number z k a n y m)),
        λ r. below-descendant g gg s o low edges number t f v y m (within-below g gg s o size offset children number z k a n one v y l m (omega (arith, numbered v, numbered y, r.0)) (omega (arith, numbered v, numbered y, r.1))),
      );
    };
  }

  pub are-parents : AreParents g t
  are-parents = record {
    places = f.parent.places;
    marks = f.frond.places;
    root = λ v l. (
      λ e. numbered v ∙ root-number g gg s o size offset children number z k a n v l (parent-none g gg s o low edges number t f v l e),
      λ e. elim (cases_lt 0 (get_or s.depth v 0)) [
        | inl d ↦ absurd (omega (arith, e, numbered v, child-number g gg s o size offset children number z k a n v l d))
        | inr m ↦ parent-root g gg s o low edges number t f v l (omega arith)
      ],
    );
    within = λ v p l e. let w = parent-some g gg s o low edges number t f v p l e in subst (λ (x : ℕ). x < g.vertex_count) w.1 (parent-in g gg s o v l w.0);
    parent_edge = λ v p l e.
        let w = parent-some g gg s o low edges number t f v p l e in
        let q = get_or s.parent_edge v 0 in
        (q, subst (λ (x : ℕ). IsParentEdge g t x q) (parent_edge-lower g gg s o v l w.0) (to-parent_edge g gg s o low edges number t f q (parent_edge-in g gg s o v l w.0) (parent_edge-tree g gg s o v l w.0)));
    only_one = λ v e h p q.
        let b = from-parent_edge g gg s o low edges number t f v e p in
        let c = from-parent_edge g gg s o low edges number t f v h q in
        sym (tree-is g gg s o e b.1) ∙ (ap (λ (x : ℕ). get_or s.parent_edge x 0) (sym b.2 ∙ c.2) ∙ tree-is g gg s o h c.1);
    tree = λ e l h. (get_or s.lower e 0, lower-in g gg s o e l, to-parent_edge g gg s o low edges number t f e l (mark-tree g gg s o low edges number t f e l h));
    fronds = λ e l h. (get_or s.lower e 0, lower-in g gg s o e l, to-frond g gg s o low edges number t f e l (mark-frond g gg s o low edges number t f e l h));
  }
