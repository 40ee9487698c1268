-- Sides, keys and groups of small trees, computed; three parallel edges have the tree of one bond.
use Rattle.std.proofs.Common.{◌≡◌, ◌≢◌, ℕ, zero, suc, ◌<◌, ◌≤◌, ◌==◌, true, false, inl, List, [], ◌∷◌, length, map, slice_index_or, refl, arith, All}
use Rattle.std.proofs.lemmas.List.Elements.{All-nil, All-cons}
use Rattle.permutations.specs.Members.{is_member}
use Rattle.std.proofs.lemmas.Bool.{cases_Bool}
use Rattle.multigraph.specs.Graph.{Multigraph, ends_of, is_end, numbers_below, IsGraph}
use Rattle.multigraph.specs.Part.{Rises}
use Rattle.pair_split.specs.Edges.{graph_family, family_skeleton}
use Rattle.pair_split.specs.Skeleton.{SameEnds, is_vertex, degree, IsSkeleton}
use Rattle.pair_split.specs.Split.{items_of, side, skeleton, LinksTo, IsSplit}
use Rattle.pair_split.specs.State.{family_at, start_state, AreWritten}
use Rattle.pair_split.specs.Tutte.{Node, components, node_at, node_item, key_of, group, is_before, IsTutte}
use Rattle.pair_split.specs.declared.components.Kind.{Kind}
use Rattle.pair_split.specs.declared.components.Kind.TheVariants.{S, P}
use Rattle.pair_split.specs.declared.components.What.{What}
use Rattle.pair_split.specs.declared.components.What.TheVariants.{Real, Link}
use Rattle.pair_split.specs.declared.components.Item.{Item}
use Rattle.pair_split.proofs.Start.{state-start}
use Rattle.pair_split.proofs.Finish.{state-end}

abbrev item : ℕ → ℕ → ℕ → What → Item
item key a b what = record { key = key; a = a; b = b; what = what }

abbrev node : Kind → List ℕ → List Item → Node
node kind vertices items = record { kind = kind; vertices = vertices; items = items }

-- a square with a chord: edges 0 to 3 round the square, and edge 4 between vertices 0 and 2
abbrev square : Multigraph
square = record { vertex_count = 4; ends = (0, 1) ∷ (1, 2) ∷ (2, 3) ∷ (3, 0) ∷ (0, 2) ∷ [] }

-- its tree: two triangles and a bond between them
abbrev square_tree : List Node
square_tree = node S (0 ∷ 1 ∷ 2 ∷ []) (item 0 0 1 (Real 0) ∷ item 1 1 2 (Real 1) ∷ item 2 0 2 (Link 1) ∷ [])
    ∷ node P (0 ∷ 2 ∷ []) (item 0 0 2 (Link 0) ∷ item 2 0 2 (Link 2) ∷ item 4 0 2 (Real 4) ∷ [])
    ∷ node S (0 ∷ 2 ∷ 3 ∷ []) (item 0 0 2 (Link 1) ∷ item 2 2 3 (Real 2) ∷ item 3 0 3 (Real 3) ∷ []) ∷ []

-- beyond the link from the first triangle are the other triangle's edges and the chord
far-side : map (side (components square_tree) 0 1) (numbers_below 5) ≡ false ∷ false ∷ true ∷ true ∷ true ∷ []
far-side = refl

-- beyond the link from the bond to the first triangle are that triangle's edges
near-side : map (side (components square_tree) 1 0) (numbers_below 5) ≡ true ∷ true ∷ false ∷ false ∷ false ∷ []
near-side = refl

-- the keys of the bond's items
bond-keys : map (key_of square square_tree 1) (Link 0 ∷ Link 2 ∷ Real 4 ∷ []) ≡ 0 ∷ 2 ∷ 4 ∷ []
bond-keys = refl

-- the groups of the edges at the bond, and at the second triangle
bond-groups : map (group square_tree 1) (numbers_below 5) ≡ 0 ∷ 0 ∷ 2 ∷ 2 ∷ 4 ∷ []
bond-groups = refl

triangle-groups : map (group square_tree 2) (numbers_below 5) ≡ 0 ∷ 0 ∷ 2 ∷ 3 ∷ 0 ∷ []
triangle-groups = refl

-- each vertex of the second triangle has two items, vertex 1 is none of it
triangle-degrees : map (degree (skeleton (components square_tree) 2)) (numbers_below 4) ≡ 2 ∷ 0 ∷ 2 ∷ 2 ∷ []
triangle-degrees = refl

-- the order of lists of vertices: a list before the lists that it begins
order : is_before (0 ∷ 1 ∷ []) (0 ∷ 1 ∷ 2 ∷ []) ≡ true
order = refl

order-smaller : is_before (0 ∷ 1 ∷ 2 ∷ []) (0 ∷ 2 ∷ []) ≡ true
order-smaller = refl

order-same : is_before (0 ∷ 2 ∷ []) (0 ∷ 2 ∷ []) ≡ false
order-same = refl

-- three parallel edges
abbrev three : Multigraph
three = record { vertex_count = 2; ends = (0, 1) ∷ (0, 1) ∷ (0, 1) ∷ [] }

-- their tree: one bond
abbrev three_tree : List Node
three_tree = node P (0 ∷ 1 ∷ []) (item 0 0 1 (Real 0) ∷ item 1 0 1 (Real 1) ∷ item 2 0 1 (Real 2) ∷ []) ∷ []

-- zero is not one
zero-one : (λ (x y : ℕ). x ≢ y) 0 1
zero-one q = omega (arith, q)

-- what holds of the numbers below three
below-three : (Q : ℕ → Type 0) → Q 0 → Q 1 → Q 2 → (e : ℕ) → e < 3 → Q e
below-three Q a b c zero l = a
below-three Q a b c (suc zero) l = b
below-three Q a b c (suc (suc zero)) l = c
below-three Q a b c (suc (suc (suc e))) l = absurd (omega (arith, l))

three-graph : IsGraph three
three-graph = record {
  first_in = below-three (λ e. (ends_of three e).0 < 2) (omega arith) (omega arith) (omega arith);
  second_in = below-three (λ e. (ends_of three e).1 < 2) (omega arith) (omega arith) (omega arith);
  no_loop = below-three (λ e. (ends_of three e).0 ≢ (ends_of three e).1) zero-one zero-one zero-one;
}

three-written : (k : ℕ) → k ≤ 0 → AreWritten 3 (start_state three) k (family_at (start_state three) k) (items_of (components three_tree) k)
three-written zero l = ((refl, (omega arith, refl)), ((refl, (omega arith, refl)), ((refl, (omega arith, refl)), tt)))
three-written (suc k) l = absurd (omega (arith, l))

three-vertices : (v : ℕ) → v < 2 → (e : ℕ) × (e < 3) × (is_end three v e ≡ true)
three-vertices zero l = (0, omega arith, refl)
three-vertices (suc zero) l = (0, omega arith, refl)
three-vertices (suc (suc v)) l = absurd (omega (arith, l))

three-bond : IsSkeleton P (family_skeleton (graph_family three))
three-bond = record { of_kind = record { two = record { poles = (0, 1); differ = zero-one; joined = below-three-all (SameEnds (0, 1)) (inl (refl, refl)) }; three = omega arith }; no_loops = below-three-all (λ ends. ends.0 ≢ ends.1) zero-one }
  where
    below-three-all : (Q : ℕ × ℕ → Type 0) → Q (0, 1) → All Q ((0, 1) ∷ (0, 1) ∷ (0, 1) ∷ [])
    below-three-all Q q = All-cons Q (0, 1) ((0, 1) ∷ (0, 1) ∷ []) q (All-cons Q (0, 1) ((0, 1) ∷ []) q (All-cons Q (0, 1) [] q (All-nil Q)))

three-split : IsSplit three (components three_tree)
three-split = state-end three (start_state three) (state-start three three-graph) P (components three_tree)
    (record { number = refl; last_kind = refl; kinds = λ k l. absurd (omega (arith, l)); written = three-written }) three-vertices three-bond (λ q. refl)

-- there are no links
three-unlinked : (k j : ℕ) → LinksTo (components three_tree) k j → ⊥
three-unlinked zero j (zero, (l, q)) = cc
three-unlinked zero j (suc zero, (l, q)) = cc
three-unlinked zero j (suc (suc zero), (l, q)) = cc
three-unlinked zero j (suc (suc (suc i)), (l, q)) = omega (arith, l)
three-unlinked (suc k) j (i, (l, q)) = omega (arith, l)

three-tutte : IsTutte three three_tree
three-tutte = record {
  split = three-split;
  no_polygons_joined = λ k j l. absurd (three-unlinked k j l);
  no_bonds_joined = λ k j l. absurd (three-unlinked k j l);
  in_order = record {
    vertices = vertices;
    vertices_rise = rise;
    nodes_rise = λ k j l b. absurd (omega (arith, l, b));
    ends_rise = ends;
    keys = keys;
    keys_rise = keys-rise;
  };
}
  where
    vertices : (k v : ℕ) → k < 1 → is_member v (node_at three_tree k).vertices ≡ is_vertex (skeleton (components three_tree) k) v
    vertices zero v l = grind (arith, cases_Bool (0 == v), cases_Bool (1 == v))
    vertices (suc k) v l = absurd (omega (arith, l))

    rise : (k : ℕ) → k < 1 → Rises (node_at three_tree k).vertices
    rise zero l zero zero a b = absurd (omega (arith, a))
    rise zero l zero (suc zero) a b = omega arith
    rise zero l (suc i) (suc zero) a b = absurd (omega (arith, a))
    rise zero l i (suc (suc j)) a b = absurd (omega (arith, b))
    rise zero l (suc i) zero a b = absurd (omega (arith, a))
    rise (suc k) l i j a b = absurd (omega (arith, l))

    ends : (k i : ℕ) → i < length (node_at three_tree k).items → (node_item three_tree k i).a < (node_item three_tree k i).b
    ends zero i l = below-three (λ e. (node_item three_tree 0 e).a < (node_item three_tree 0 e).b) (omega arith) (omega arith) (omega arith) i l
    ends (suc k) i l = absurd (omega (arith, l))

    keys : (k i : ℕ) → i < length (node_at three_tree k).items → (node_item three_tree k i).key ≡ key_of three three_tree k (node_item three_tree k i).what
    keys zero i l = below-three (λ e. (node_item three_tree 0 e).key ≡ key_of three three_tree 0 (node_item three_tree 0 e).what) refl refl refl i l
    keys (suc k) i l = absurd (omega (arith, l))

    keys-rise : (k : ℕ) → k < 1 → Rises (map (λ item. item.key) (node_at three_tree k).items)
    keys-rise zero l i j a b = at i j a b
      where
        key : (e : ℕ) → e < 3 → slice_index_or (0 ∷ 1 ∷ 2 ∷ []) e 0 ≡ e
        key = below-three (λ e. slice_index_or (0 ∷ 1 ∷ 2 ∷ []) e 0 ≡ e) refl refl refl

        at : (i j : ℕ) → i < j → j < 3 → slice_index_or (0 ∷ 1 ∷ 2 ∷ []) i 0 < slice_index_or (0 ∷ 1 ∷ 2 ∷ []) j 0
        at i j a b = omega (arith, a, b, key i (omega (arith, a, b)), key j b)
    keys-rise (suc k) l i j a b = absurd (omega (arith, l))
