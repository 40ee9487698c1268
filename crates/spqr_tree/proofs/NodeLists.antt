-- The nodes of a tree, by lists of their kinds, their vertices and their items.
use Rattle.std.proofs.Common.{◌≡◌, ℕ, zero, suc, ◌<◌, List, [], ◌∷◌, ◌++◌, length, drop, slice_index_or, refl, ap, ap₂, ◌∙◌, arith}
use Rattle.pair_split.specs.Tutte.{Node, node_at}
use Rattle.pair_split.specs.declared.components.Kind.{Kind}
use Rattle.pair_split.specs.declared.components.Item.{Item}
use Rattle.spqr_tree.specs.NodeLists.{nodes_from}

pub length-nodes : (kinds : List Kind) (vertices : List (List ℕ)) (items : List (List Item)) → length (nodes_from kinds vertices items) ≡ length kinds
length-nodes [] vertices items = refl
length-nodes (kind ∷ kinds) vertices items = let e = length-nodes kinds (drop 1 vertices) (drop 1 items) in omega (arith, e)

-- what is past the first
later : {X : Type 0} (lists : List (List X)) (k : ℕ) → slice_index_or (drop 1 lists) k [] ≡ slice_index_or lists (suc k) []
later [] k = refl
later (x ∷ xs) k = refl

-- each node by its place
pub nodes-at : (kinds : List Kind) (vertices : List (List ℕ)) (items : List (List Item)) (k : ℕ) (kind : Kind) → k < length kinds
    → node_at (nodes_from kinds vertices items) k ≡ record { kind = slice_index_or kinds k kind; vertices = slice_index_or vertices k []; items = slice_index_or items k [] }
nodes-at [] vertices items k kind l = absurd (omega (arith, l))
nodes-at (first ∷ kinds) vertices items zero kind l = refl
nodes-at (first ∷ kinds) vertices items (suc k) kind l =
    nodes-at kinds (drop 1 vertices) (drop 1 items) k kind (omega (arith, l))
    ∙ ap₂ (λ (v : List ℕ) (i : List Item). record { kind = slice_index_or kinds k kind; vertices = v; items = i }) (later vertices k) (later items k)

-- one node more
pub nodes-more : (kinds : List Kind) (vertices : List (List ℕ)) (items : List (List Item)) (kind : Kind) (v : List ℕ) (i : List Item) → length vertices ≡ length kinds → length items ≡ length kinds
    → nodes_from (kinds ++ kind ∷ []) (vertices ++ v ∷ []) (items ++ i ∷ []) ≡ nodes_from kinds vertices items ++ record { kind = kind; vertices = v; items = i } ∷ []
nodes-more [] [] [] kind v i a b = refl
nodes-more [] (x ∷ vertices) items kind v i a b = absurd (omega (arith, a))
nodes-more [] [] (x ∷ items) kind v i a b = absurd (omega (arith, b))
nodes-more (k ∷ kinds) [] items kind v i a b = absurd (omega (arith, a))
nodes-more (k ∷ kinds) (x ∷ vertices) [] kind v i a b = absurd (omega (arith, b))
nodes-more (k ∷ kinds) (x ∷ vertices) (y ∷ items) kind v i a b =
    ap (λ (nodes : List Node). record { kind = k; vertices = x; items = y } ∷ nodes) (nodes-more kinds vertices items kind v i (omega (arith, a)) (omega (arith, b)))
