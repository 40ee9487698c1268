-- How many edges the groups of items have, and that no rest is more than twice as much.
use Rattle.std.proofs.Common.{◌≡◌, ◌≢◌, ℕ, ◌+◌, ◌*◌, ◌<◌, ◌≤◌, Bool, not, ◌==◌, cond, List, length, inl, inr, refl, sym, ap, ◌∙◌, arith, eq-eqb}
use Rattle.std.proofs.lemmas.Bool.{cases_eq, ne_eqb}
use Rattle.permutations.specs.Count.{sum_below}
use Rattle.permutations.proofs.Count.{count-positive}
use Rattle.multigraph.specs.Graph.{Multigraph, edge_count}
use Rattle.faces.specs.Euler.{IsPlane}
use Rattle.pair_split.specs.Tutte.{Node, components, node_at, node_item, has_in_group, IsTutte}
use Rattle.pair_split.specs.declared.components.Comp.{Comp}
use Rattle.pair_split.specs.declared.components.What.TheVariants.{Real, Link}
use Rattle.pair_split.proofs.Groups.{side-other, group-once}
use Rattle.skeletons.specs.Items.{IsBlockTree}
use Rattle.skeletons.specs.Families.{skeleton_graph, system_at, AreSkeletonSystems}
use Rattle.skeletons.proofs.NodeItems.{piece-in}
use Rattle.spqr_tree.proofs.UpLinks.{what-at, link-to, edge-within, not-both}
use Rattle.face_weights.specs.Rests.{IsRest}
use Rattle.face_weights.specs.Passes.{group_size}
use Rattle.face_weights.proofs.Terms.{count-apart, count-opposite, sum-but_one, sum-twice}
use Rattle.face_weights.proofs.RestLemmas.{rest-light}

-- a block with its tree
module _ (g : Multigraph) (nodes : List Node) (b : IsBlockTree g nodes) where
  abbrev comps : List Comp
  comps = components nodes

  tree : IsTutte g nodes
  tree = b.tree

  -- the groups of a node have all edges together, at most
  pub groups-sum : (k : ℕ) → sum_below (length (node_at nodes k).items) (group_size g nodes k) ≤ edge_count g
  groups-sum k = count-apart (edge_count g) (length (node_at nodes k).items) (λ i e. has_in_group comps k e (node_item nodes k i).what)
      (λ e i h l m a x y. group-once g comps tree.split k e i h (piece-in g nodes tree k i m) (piece-in g nodes tree k h a) l
      (ap (has_in_group comps k e) (what-at g nodes tree b.block.has_edge k i m) ∙ x) (ap (has_in_group comps k e) (what-at g nodes tree b.block.has_edge k h a) ∙ y))

  -- an edge has itself in its group
  pub edge-group : (k i e : ℕ) → i < length (node_at nodes k).items → (node_item nodes k i).what ≡ Real e → 1 ≤ group_size g nodes k i
  edge-group k i e l h = let c = count-positive (edge_count g) (λ x. has_in_group comps k x (node_item nodes k i).what) e (edge-within g nodes tree b.block.has_edge k i e l h) (ap (has_in_group comps k e) h ∙ eq-eqb e e refl) in omega (arith, c)

  -- a link and the link back have all edges together
  pub groups-opposite : (k i j h : ℕ) → i < length (node_at nodes k).items → (node_item nodes k i).what ≡ Link j → h < length (node_at nodes j).items → (node_item nodes j h).what ≡ Link k → group_size g nodes k i + group_size g nodes j h ≡ edge_count g
  groups-opposite k i j h l to m from = count-opposite (edge_count g) (λ e. has_in_group comps k e (node_item nodes k i).what) (λ e. has_in_group comps j e (node_item nodes j h).what)
      (λ e a. ap (has_in_group comps k e) to ∙ side-other g comps tree.split k j e (link-to g nodes tree b.block.has_edge k i j l to) a ∙ ap not (sym (ap (has_in_group comps j e) from)))

  -- a plane family
  module _ (family : List (List (List ℕ))) (systems : AreSkeletonSystems nodes family) (plane : (k : ℕ) → k < length nodes → IsPlane (skeleton_graph nodes k) (system_at family k)) where
    -- the rest at a link is at most twice the size of the group of the link back
    pub rest-group : (k i j h : ℕ) → k < length nodes → i < length (node_at nodes k).items → (node_item nodes k i).what ≡ Link j → h < length (node_at nodes j).items → (node_item nodes j h).what ≡ Link k
        → (w : ℕ → ℕ) (rest : ℕ) → ((n e : ℕ) → n < length (node_at nodes k).items → (node_item nodes k n).what ≡ Real e → w n ≡ 1) → ((n : ℕ) → n < length (node_at nodes k).items → w n ≤ 2 * group_size g nodes k n)
        → IsRest nodes family k w i rest → rest ≤ 2 * group_size g nodes j h
    rest-group k i j h lk l to m from w rest ones light x =
        let whole : w i + rest ≤ sum_below number bound = rest-light g nodes b family systems plane k lk w bound i rest l x edges links in
        let but : sum_below number bound + (group_size g nodes k i + group_size g nodes k i) ≤ sum_below number twice + bound i = sum-but_one number bound twice i l (λ n a d. at-other n d) in
        omega (arith, whole, but, at-link, sum-twice number (group_size g nodes k), groups-sum k, groups-opposite k i j h l to m from)
      where
        number : ℕ
        number = length (node_at nodes k).items

        twice : ℕ → ℕ
        twice n = group_size g nodes k n + group_size g nodes k n

        bound : ℕ → ℕ
        bound n = cond (n == i) (w i) (twice n)

        at-link : bound i ≡ w i
        at-link = ap (λ (t : Bool). cond t (w i) (twice i)) (eq-eqb i i refl)

        is-other : (n : ℕ) → n ≢ i → bound n ≡ twice n
        is-other n d = ap (λ (t : Bool). cond t (w i) (twice n)) (ne_eqb n i d)

        at-other : (n : ℕ) → n ≢ i → bound n ≤ twice n
        at-other n d = let e = is-other n d in omega (arith, e)

        edges : (n e : ℕ) → n < number → (node_item nodes k n).what ≡ Real e → 2 * w n ≤ bound n
        edges n e a q = let d : bound n ≡ twice n = is-other n (λ z. not-both (node_item nodes k i).what e j (ap (λ u. (node_item nodes k u).what) (sym z) ∙ q) to) in
            omega (arith, d, ones n e a q, edge-group k n e a q)

        links : (n t : ℕ) → n < number → (node_item nodes k n).what ≡ Link t → w n ≤ bound n
        links n t a q = elim (cases_eq n i) [
          | inl z ↦ let e : bound n ≡ w i = ap bound z ∙ at-link in omega (arith, e, ap w z)
          | inr d ↦ let e : bound n ≡ twice n = is-other n d in omega (arith, e, light n a)
        ]
