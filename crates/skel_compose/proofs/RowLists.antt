-- The list of one node of a table.
use Rattle.std.proofs.Common.{◌≡◌, ℕ, ◌+◌, ◌*◌, ◌<◌, ◌==◌, if◌then◌else◌, inl, inr, Bool, true, false, List, [], ◌∷◌, ◌++◌, length, slice_index_or, refl, sym, ap, ◌∙◌, subst, arith, eqb-true, eq-eqb}
use Rattle.std.proofs.lemmas.Bool.{cases_Bool, cases_lt, or_cases, or_left, or_right, both_ways}
use Rattle.std.proofs.lemmas.List.{length-append}
use Rattle.std.proofs.Math.ListN.{get_or-append}
use Rattle.std.proofs.Math.Seq.{get_or-append_seam}
use Rattle.permutations.specs.Cyclic.{successor}
use Rattle.permutations.specs.Members.{is_member, place_of}
use Rattle.multigraph.specs.Graph.{Multigraph, edge_count, ends_of, IsGraph}
use Rattle.rotations.specs.Rotation.{order_at, IsRotationSystem}
use Rattle.faces.proofs.DartLemmas.{order-member}
use Rattle.pair_split.specs.Tutte.{Node, node_at, node_item}
use Rattle.skeletons.specs.Items.{IsBlockTree}
use Rattle.skeletons.specs.Families.{skeleton_graph}
use Rattle.skeleton_runs.proofs.SkeletonGraph.{graph-ends}
use Rattle.skel_compose.specs.Followers.{item_place, IsRow, HasNext}

-- an edge is in the order around its first end, and around its second
module _ (g : Multigraph) (r : List (List ℕ)) (s : IsRotationSystem g r) (ok : IsGraph g) (i : ℕ) (l : i < edge_count g) where
  pub first-around : is_member i (order_at r (ends_of g i).0) ≡ true
  first-around = order-member g r (ends_of g i).0 i s (ok.first_in i l) l (or_left ((ends_of g i).0 == (ends_of g i).0) ((ends_of g i).1 == (ends_of g i).0) (eq-eqb (ends_of g i).0 (ends_of g i).0 refl))

  pub second-around : is_member i (order_at r (ends_of g i).1) ≡ true
  second-around = order-member g r (ends_of g i).1 i s (ok.second_in i l) l (or_right ((ends_of g i).0 == (ends_of g i).1) ((ends_of g i).1 == (ends_of g i).1) (eq-eqb (ends_of g i).1 (ends_of g i).1 refl))

-- one edge more
module _ (g : Multigraph) (s : List (List ℕ)) (n x y : ℕ) (row : List ℕ) (h : HasNext g s n row) where
  abbrev longer : List ℕ
  longer = (row ++ x ∷ []) ++ y ∷ []

  half : length (row ++ x ∷ []) ≡ 2 * n + 1
  half = length-append row (x ∷ []) ∙ ap (λ m. m + 1) h.places

  old : (j : ℕ) → j < 2 * n → slice_index_or ((row ++ x ∷ []) ++ y ∷ []) j 0 ≡ slice_index_or row j 0
  old j l = get_or-append (row ++ x ∷ []) (y ∷ []) 0 j (omega (arith, half, l)) ∙ get_or-append row (x ∷ []) 0 j (omega (arith, h.places, l))

  new-first : slice_index_or ((row ++ x ∷ []) ++ y ∷ []) (2 * n) 0 ≡ x
  new-first = get_or-append (row ++ x ∷ []) (y ∷ []) 0 (2 * n) (omega (arith, half)) ∙ ap (λ j. slice_index_or (row ++ x ∷ []) j 0) (sym h.places) ∙ get_or-append_seam row x [] 0

  new-second : slice_index_or ((row ++ x ∷ []) ++ y ∷ []) (2 * n + 1) 0 ≡ y
  new-second = ap (λ j. slice_index_or ((row ++ x ∷ []) ++ y ∷ []) j 0) (sym half) ∙ get_or-append_seam (row ++ x ∷ []) y [] 0

  pub next-more : x ≡ successor (order_at s (ends_of g n).0) n → y ≡ successor (order_at s (ends_of g n).1) n → (new : List ℕ) → new ≡ (row ++ x ∷ []) ++ y ∷ [] → HasNext g s (n + 1) new
  next-more p q new e = subst (HasNext g s (n + 1)) (sym e) (record {
    places = length-append (row ++ x ∷ []) (y ∷ []) ∙ ap (λ m. m + 1) half ∙ twice;
    first = λ i l. elim (cases_lt i n) [
      | inl m ↦ old (2 * i) (omega (arith, m)) ∙ h.first i m
      | inr m ↦ let same : i ≡ n = omega (arith, l, m) in ap (λ j. slice_index_or longer (2 * j) 0) same ∙ new-first ∙ p ∙ ap (λ j. successor (order_at s (ends_of g j).0) j) (sym same)
    ];
    second = λ i l. elim (cases_lt i n) [
      | inl m ↦ old (2 * i + 1) (omega (arith, m)) ∙ h.second i m
      | inr m ↦ let same : i ≡ n = omega (arith, l, m) in ap (λ j. slice_index_or longer (2 * j + 1) 0) same ∙ new-second ∙ q ∙ ap (λ j. successor (order_at s (ends_of g j).1) j) (sym same)
    ];
  })
    where
      twice : 2 * n + 1 + 1 ≡ 2 * (n + 1)
      twice = omega arith

-- of the skeleton of a node it is the list of the node
module _ (g : Multigraph) (nodes : List Node) (b : IsBlockTree g nodes) (k : ℕ) (d : k < length nodes) (s : List (List ℕ)) (row : List ℕ) (h : HasNext (skeleton_graph nodes k) s (length (node_at nodes k).items) row) where
  at-first : (i v : ℕ) → i < length (node_at nodes k).items → ((node_item nodes k i).a == v) ≡ true → slice_index_or row (item_place nodes k i v) 0 ≡ successor (order_at s (place_of (node_at nodes k).vertices v)) i
  at-first i v l t =
      ap (λ (z : Bool). slice_index_or row (if z then 2 * i else 2 * i + 1) 0) t ∙ h.first i l
      ∙ ap (λ (z : ℕ × ℕ). successor (order_at s z.0) i) (graph-ends g nodes b k d i l) ∙ ap (λ z. successor (order_at s (place_of (node_at nodes k).vertices z)) i) (eqb-true (node_item nodes k i).a v t)

  at-second : (i v : ℕ) → i < length (node_at nodes k).items → ((node_item nodes k i).a == v) ≡ false → ((node_item nodes k i).b == v) ≡ true
      → slice_index_or row (item_place nodes k i v) 0 ≡ successor (order_at s (place_of (node_at nodes k).vertices v)) i
  at-second i v l f t =
      ap (λ (z : Bool). slice_index_or row (if z then 2 * i else 2 * i + 1) 0) f ∙ h.second i l
      ∙ ap (λ (z : ℕ × ℕ). successor (order_at s z.1) i) (graph-ends g nodes b k d i l) ∙ ap (λ z. successor (order_at s (place_of (node_at nodes k).vertices z)) i) (eqb-true (node_item nodes k i).b v t)

  pub row-made : IsRow nodes k s row
  row-made = record {
    places = h.places;
    follows = λ i v l end. elim (cases_Bool ((node_item nodes k i).a == v)) [
      | inl t ↦ at-first i v l t
      | inr f ↦ at-second i v l f (elim (or_cases ((node_item nodes k i).a == v) ((node_item nodes k i).b == v) end) [ inl t ↦ absurd (both_ways ((node_item nodes k i).a == v) f t) | inr t ↦ t ])
    ];
  }
