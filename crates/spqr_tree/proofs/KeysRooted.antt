-- The least edges beyond the links, from the last component of an order to the first; and the keys of items by them.
use Rattle.std.proofs.Common.{◌≡◌, ◌≢◌, ℕ, ◌+◌, ◌-◌, ◌<◌, ◌≤◌, inl, inr, true, List, length, slice_index_or, slice_set, sym, ap, ◌∙◌, subst, arith}
use Rattle.std.proofs.lemmas.Bool.{cases_eq}
use Rattle.std.proofs.lemmas.List.{get_or-set_same, get_or-set_other}
use Rattle.permutations.specs.Count.{least}
use Rattle.permutations.proofs.Search.{least-first}
use Rattle.multigraph.specs.Graph.{Multigraph, edge_count}
use Rattle.pair_split.specs.Edges.{graph_family}
use Rattle.pair_split.specs.Family.{IsTight}
use Rattle.pair_split.specs.Split.{items_of, item_at, has_edge, side, LinksTo, IsSplit}
use Rattle.pair_split.specs.declared.components.What.{What}
use Rattle.pair_split.specs.declared.components.What.TheVariants.{Link}
use Rattle.pair_split.specs.declared.components.Piece.{Piece}
use Rattle.pair_split.specs.declared.components.Comp.{Comp}
use Rattle.pair_split.proofs.Groups.{what-cases, side-at}
use Rattle.pair_split.proofs.Subtrees.{link-in}
use Rattle.spqr_tree.specs.Keys.{parent_at, least_at, link_key, AreWithin, AreApart, AreOrdered, IsLeastKey, IsNoted, IsRooted}
use Rattle.spqr_tree.proofs.KeySteps.{edge-place}
use Rattle.spqr_tree.proofs.OrderCode.{items-same}
use Rattle.spqr_tree.proofs.KeysDiffer.{key_in, keys-differ}
use Rattle.spqr_tree.proofs.LeastKeys.{key-up, key-down, key-edge, least-key}

module _ (g : Multigraph) (comps : List Comp) (s : IsSplit g comps) (tight : IsTight (graph_family g)) where
  module _ (root : ℕ) (parents order : List ℕ) (o : AreOrdered comps root parents order) where
    -- the least edge of one component more is noted
    pub noted-more : (i : ℕ) (noted : List ℕ) (key : ℕ) → i < length order → length noted ≡ length comps → IsNoted g comps parents order noted (i + 1)
        → IsLeastKey (items_of comps (slice_index_or order i 0)) (length (items_of comps (slice_index_or order i 0))) (parent_at parents (slice_index_or order i 0)) noted (edge_count g) key
        → IsNoted g comps parents order (slice_set noted (slice_index_or order i 0) key) i
    noted-more i noted key l p inv is k j q link n low b e = elim (cases_eq j d) [
      | inl y ↦
          let up : parent_at parents d ≡ k = subst (λ z. parent_at parents z ≡ k) y (o.down k j link n) in
          let here : LinksTo comps (parent_at parents d) d = subst (λ z. LinksTo comps z d) (sym up) (subst (λ z. LinksTo comps k z) y link) in
          ap (least_at (slice_set noted d key)) y ∙ get_or-set_same noted d key 0 (omega (arith, p, o.within i l))
          ∙ least-key g comps s tight d (parent_at parents d) noted here right key is
          ∙ ap (λ z. least (edge_count g) (side comps z d)) up ∙ ap (λ z. least (edge_count g) (side comps k z)) (sym y)
      | inr y ↦
          let other : i ≢ q = λ z. y (sym e ∙ ap (λ u. slice_index_or order u 0) (sym z)) in
          get_or-set_other noted d j key 0 y ∙ inv k j q link n (omega (arith, low, other)) b e
    ]
      where
        d : ℕ
        d = slice_index_or order i 0

        right : (h : ℕ) → LinksTo comps (slice_index_or order i 0) h → h ≢ parent_at parents (slice_index_or order i 0) → least_at noted h ≡ least (edge_count g) (side comps (slice_index_or order i 0) h)
        right h u m = let w = o.after i h l u (λ z. m (sym z)) in inv (slice_index_or order i 0) h w.0 u (λ z. m (sym z)) (omega (arith, w.1)) w.2 w.3

    -- the same as the code has it: the order is read from behind
    pub noted-code : (i : ℕ) (noted other : List ℕ) (bound key : ℕ) (comp : Comp) (pieces : List Piece) → 0 < i → i ≤ length order → length noted ≡ length comps → IsNoted g comps parents order noted i
        → other ≡ noted → bound ≡ edge_count g → pieces ≡ (slice_index_or comps (slice_index_or order (i - 1) 0) comp).items
        → IsLeastKey pieces (length pieces) (parent_at parents (slice_index_or order (i - 1) 0)) other bound key → IsNoted g comps parents order (slice_set noted (slice_index_or order (i - 1) 0) key) (i - 1)
    noted-code i noted other bound key comp pieces low high p inv same limit e is =
        let d : ℕ = slice_index_or order (i - 1) 0 in
        let l : i - 1 < length order = omega (arith, low, high) in
        noted-more (i - 1) noted key l p (subst (λ z. IsNoted g comps parents order noted z) (omega (arith, low)) inv)
        (subst (λ (z : List Piece). IsLeastKey z (length z) (parent_at parents d) noted (edge_count g) key) (items-same comps d comp pieces (o.within (i - 1) l) e)
        (subst (λ z. IsLeastKey pieces (length pieces) (parent_at parents d) noted z key) limit (subst (λ (z : List ℕ). IsLeastKey pieces (length pieces) (parent_at parents d) z bound key) same is)))

    -- when all are noted, the components are rooted
    pub noted-all : (noted : List ℕ) → length noted ≡ length comps → IsNoted g comps parents order noted 0 → has_edge (items_of comps root) 0 ≡ true → IsRooted g comps parents noted
    noted-all noted p inv h = record {
      parent_places = o.places;
      least_places = p;
      up = λ k j l e. let w = edge-place (items_of comps root) 0 h in side-at g comps s k j root w.0 0 (w.1, w.2) ∙ o.up k j l e;
      down = λ k j l n. let w = o.all j (link-in comps s.linked k j l) in inv k j w.0 l n (omega arith) w.1 w.2;
    }

  module _ (parents noted : List ℕ) (r : IsRooted g comps parents noted) where
    -- the links of a component lead to components whose least edges are noted
    pub rooted-within : (k : ℕ) → AreWithin (items_of comps k) (length noted)
    rooted-within k i j l e = omega (arith, r.least_places, link-in comps s.linked k j (i, (l, e)))

    -- the keys of its items by what is noted are their keys
    pub rooted-key : (k i : ℕ) → i < length (items_of comps k) → link_key (parent_at parents k) noted (item_at comps k i).what ≡ key_in g comps k (item_at comps k i).what
    rooted-key k i l = elim (what-cases (item_at comps k i).what) [
      | inl w ↦ key-edge (parent_at parents k) noted (item_at comps k i).what w.0 w.1 ∙ sym (ap (key_in g comps k) w.1)
      | inr w ↦ elim (cases_eq w.0 (parent_at parents k)) [
        | inl e ↦
            let zero_first : least (edge_count g) (side comps k w.0) ≡ 0 = omega (arith, least-first (edge_count g) (side comps k w.0) 0 (r.up k w.0 (i, (l, w.1)) (sym e))) in
            key-up (parent_at parents k) noted (item_at comps k i).what (w.1 ∙ ap link_to e) ∙ sym (ap (key_in g comps k) w.1 ∙ zero_first)
        | inr n ↦ key-down (parent_at parents k) noted (item_at comps k i).what w.0 w.1 n ∙ r.down k w.0 (i, (l, w.1)) (λ q. n (sym q)) ∙ sym (ap (key_in g comps k) w.1)
      ]
    ]
      where
        link_to : ℕ → What
        link_to j = Link j

    -- no two of its items have the same key
    pub rooted-apart : (k : ℕ) → AreApart (parent_at parents k) noted (items_of comps k)
    rooted-apart k i h l b e = keys-differ g comps s tight k i h l b (sym (rooted-key k i l) ∙ e ∙ rooted-key k h b)
