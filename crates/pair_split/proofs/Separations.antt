-- 2-separations of a graph: by two edges on each side, by its family, and by the links of its split components.
use Rattle.std.proofs.Common.{◌≡◌, ℕ, zero, suc, ◌<◌, ◌⊎◌, inl, inr, Bool, true, not, cond, List, [], ◌∷◌, ◌++◌, append-nil, length, map, filter, refl, sym, ap, ◌∙◌, arith}
use Rattle.std.proofs.lemmas.Bool.{cases_Bool, not-true}
use Rattle.std.proofs.lemmas.List.{length_push}
use Rattle.permutations.specs.Count.{count}
use Rattle.multigraph.specs.Graph.{Multigraph, edge_count, numbers_below}
use Rattle.multigraph.proofs.Below.{filter_below-suc}
use Rattle.graph_theory.specs.Block.{IsOneBlock}
use Rattle.graph_theory.specs.Side.{IsCommon}
use Rattle.graph_theory.specs.Separation.{other_side, IsSeparation, AreSameSide}
use Rattle.graph_theory.proofs.Counting.{Two, two-count}
use Rattle.graph_theory.proofs.Crossings.{TwoCommon}
use Rattle.pair_split.specs.Family.{on_side, IsSeparation as IsFamilySeparation}
use Rattle.pair_split.specs.Edges.{graph_entry, graph_family}
use Rattle.pair_split.specs.Split.{item_at, piece_ends, side, LinksTo, IsSplit}
use Rattle.pair_split.specs.declared.components.Comp.{Comp}
use Rattle.pair_split.proofs.Degrees.{one-of_two}
use Rattle.pair_split.proofs.GraphFamily.{common-in_family, one_block-tight}
use Rattle.pair_split.proofs.GraphSides.{family-common, block-two_common}
use Rattle.pair_split.proofs.Groups.{side-other}
use Rattle.pair_split.proofs.LargeSides.{side-two}
use Rattle.pair_split.proofs.Replaced.{end-cases}
use Rattle.pair_split.proofs.TreeSides.{link-back}

-- a side with two edges, of which the other side has two, and which have no common vertices but two, is one of a 2-separation
pub separation-from : (g : Multigraph) → IsOneBlock g → (s : ℕ → Bool) → Two (edge_count g) s → Two (edge_count g) (other_side s)
    → (p q : ℕ) → ((v : ℕ) → IsCommon g s v → (v ≡ p) ⊎ (v ≡ q)) → IsSeparation g s
separation-from g block s i o p q only =
    let w : TwoCommon g s = block-two_common g block s i.first o.first i.first_in o.first_in i.first_on (not-true (s o.first) o.first_on) in
    record {
      first = w.first;
      second = w.second;
      differ = w.differ;
      first_common = w.first_common;
      second_common = w.second_common;
      no_other = λ v c. one-of_two p q w.first w.second v w.differ (only w.first w.first_common) (only w.second w.second_common) (only v c);
      two_inside = two-count (edge_count g) s i;
      two_outside = two-count (edge_count g) (other_side s) o;
    }

-- how many numbers below n pass, as a list
numbers-count : (n : ℕ) (s : ℕ → Bool) → length (filter s (numbers_below n)) ≡ count n s
numbers-count zero s = refl
numbers-count (suc n) s = elim (cases_Bool (s n)) [
  | inl t ↦ rw t (omega (arith, numbers-count n s, length_push (filter s (numbers_below n)) n, ap length (filter_below-suc s n ∙ ap (λ (b : Bool). filter s (numbers_below n) ++ cond b (n ∷ []) []) t)))
  | inr f ↦ rw f (ap length (filter_below-suc s n ∙ ap (λ (b : Bool). filter s (numbers_below n) ++ cond b (n ∷ []) []) f) ∙ ap length (append-nil (filter s (numbers_below n))) ∙ numbers-count n s)
]

-- how many of the edges are on a side, as entries
entries-count : (g : Multigraph) (s : ℕ → Bool) (edges : List ℕ) → length (on_side s (map (graph_entry g) edges)) ≡ length (filter s edges)
entries-count g s [] = refl
entries-count g s (e ∷ edges) = elim (cases_Bool (s e)) [
  | inl t ↦ rw t (omega (arith, entries-count g s edges))
  | inr f ↦ rw f (entries-count g s edges)
]

-- as many entries of the family are on a side as edges of the graph
family-count : (g : Multigraph) (s : ℕ → Bool) → length (on_side s (graph_family g)) ≡ count (edge_count g) s
family-count g s = entries-count g s (numbers_below (edge_count g)) ∙ numbers-count (edge_count g) s

-- a 2-separation of a graph is one of its family
pub separation-family : (g : Multigraph) (s : ℕ → Bool) → IsSeparation g s → (p q : ℕ) × IsFamilySeparation (graph_family g) s p q
separation-family g s i = (
  i.first,
  i.second,
  record {
    differ = i.differ;
    first_common = common-in_family g s i.first i.first_common;
    second_common = common-in_family g s i.second i.second_common;
    no_other = λ x h. i.no_other x (family-common g s x h);
    two_inside = omega (arith, i.two_inside, family-count g s);
    two_outside = omega (arith, i.two_outside, family-count g (other_side s));
  },
)

-- and the other way round
pub family-separation : (g : Multigraph) (s : ℕ → Bool) (p q : ℕ) → IsFamilySeparation (graph_family g) s p q → IsSeparation g s
family-separation g s p q i = record {
  first = p;
  second = q;
  differ = i.differ;
  first_common = family-common g s p i.first_common;
  second_common = family-common g s q i.second_common;
  no_other = λ v c. i.no_other v (common-in_family g s v c);
  two_inside = omega (arith, i.two_inside, family-count g s);
  two_outside = omega (arith, i.two_outside, family-count g (other_side s));
}

-- the side of a link, seen from the other component, is the other side
pub link-other : (g : Multigraph) (comps : List Comp) → IsSplit g comps → (k j : ℕ) → LinksTo comps k j → AreSameSide g (side comps j k) (other_side (side comps k j))
link-other g comps s k j l e b = side-other g comps s j k e (link-back comps s.linked k j l) b

-- the two sides of a link are a 2-separation
pub link-separation : (g : Multigraph) → IsOneBlock g → (comps : List Comp) → IsSplit g comps → (k j : ℕ) → LinksTo comps k j → IsSeparation g (side comps k j)
link-separation g block comps s k j l = separation-from g block (side comps k j)
    i
    (record { first = o.first; second = o.second; differ = o.differ; first_in = o.first_in; second_in = o.second_in; first_on = back o.first o.first_in o.first_on; second_on = back o.second o.second_in o.second_on })
    (piece_ends (item_at comps k l.0)).0 (piece_ends (item_at comps k l.0)).1
    (λ v c. end-cases v (record { name = 0; first = (piece_ends (item_at comps k l.0)).0; second = (piece_ends (item_at comps k l.0)).1 }) ((s.sides_meet k j l.0 l.1 v).0 c))
  where
    i : Two (edge_count g) (side comps k j)
    i = side-two g comps s (one_block-tight g block) k j l

    o : Two (edge_count g) (side comps j k)
    o = side-two g comps s (one_block-tight g block) j k (link-back comps s.linked k j l)

    back : (e : ℕ) → e < edge_count g → side comps j k e ≡ true → not (side comps k j e) ≡ true
    back e b h = sym (side-other g comps s j k e (link-back comps s.linked k j l) b) ∙ h
