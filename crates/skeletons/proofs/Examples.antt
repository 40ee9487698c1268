-- Items, keys, choices, moves and the order of rotation systems, computed on small blocks.
use Rattle.std.proofs.Common.{◌≡◌, ◌==◌, true, false, [], ◌∷◌, map, refl}
use Rattle.multigraph.specs.Graph.{numbers_below}
use Rattle.faces.specs.Euler.{IsPlane}
use Rattle.rotations.specs.Runs.{mirror_image}
use Rattle.skeletons.specs.Items.{keys_at, has_vertex, least_vertex, greatest_vertex}
use Rattle.skeletons.specs.Round.{each_once, keys_met, keys_round}
use Rattle.skeletons.specs.Choices.{choice, precedes}
use Rattle.skeletons.specs.Moves.{flip, permute, moves_between}
use Rattle.skeletons.specs.Lists.{cyclic_orders, list_count}
use Rattle.skeletons.specs.Families.{skeleton_graph, keys_in}
use Rattle.skeletons.proofs.Rows.{complete, complete_tree, complete_first, complete_last, square, square_tree, square_first, square_last, three_between, three_between_tree, three_between_first, three_between_last, sharing, sharing_tree, sharing_first, sharing_flipped, sharing_permuted, sharing_last, joined_pair, joined_pair_tree, joined_pair_first, joined_pair_second, joined_pair_third, joined_pair_last}

-- the keys at the vertices of the second triangle of the square; vertex 1 is none of them
square-keys : map (keys_at square_tree 2) (numbers_below 4) ≡ (0 ∷ 3 ∷ []) ∷ [] ∷ (0 ∷ 2 ∷ []) ∷ (2 ∷ 3 ∷ []) ∷ []
square-keys = refl

sharing-keys : map (keys_at sharing_tree 1) (numbers_below 4) ≡ (0 ∷ 1 ∷ 2 ∷ []) ∷ (0 ∷ 3 ∷ 4 ∷ []) ∷ (1 ∷ 3 ∷ 5 ∷ []) ∷ (2 ∷ 4 ∷ 5 ∷ []) ∷ []
sharing-keys = refl

square-vertices : map (has_vertex square_tree 2) (numbers_below 4) ≡ true ∷ false ∷ true ∷ true ∷ []
square-vertices = refl

sharing-poles : (least_vertex sharing_tree 0 ∷ greatest_vertex sharing_tree 0 ∷ []) ≡ 0 ∷ 1 ∷ []
sharing-poles = refl

-- each key once, from the least on
once-last : each_once (0 ∷ 0 ∷ 2 ∷ 2 ∷ 0 ∷ []) ≡ 2 ∷ 0 ∷ []
once-last = refl

met : keys_met (λ x. x) (3 ∷ 3 ∷ 1 ∷ 4 ∷ 3 ∷ []) ≡ 1 ∷ 4 ∷ 3 ∷ []
met = refl

-- at vertex 1 the flipped node sees the group of the others between its own edges
sharing-round : map (keys_round sharing_tree sharing_first 1) (numbers_below 4) ≡ (0 ∷ 1 ∷ 2 ∷ []) ∷ (0 ∷ 4 ∷ 3 ∷ []) ∷ (1 ∷ 3 ∷ 5 ∷ []) ∷ (2 ∷ 5 ∷ 4 ∷ []) ∷ []
sharing-round = refl

-- the choices of all nodes
complete-choice : choice complete_tree complete_last 0 ≡ 0 ∷ 2 ∷ 1 ∷ []
complete-choice = refl

square-choices : map (choice square_tree square_last) (numbers_below 3) ≡ [] ∷ (0 ∷ 4 ∷ 2 ∷ []) ∷ [] ∷ []
square-choices = refl

three-choices : map (choice three_between_tree three_between_last) (numbers_below 4) ≡ (0 ∷ 4 ∷ 2 ∷ []) ∷ [] ∷ [] ∷ [] ∷ []
three-choices = refl

sharing-choices : map (choice sharing_tree sharing_first) (numbers_below 3) ≡ (0 ∷ 1 ∷ 6 ∷ []) ∷ (0 ∷ 1 ∷ 2 ∷ []) ∷ (0 ∷ 6 ∷ 7 ∷ []) ∷ []
sharing-choices = refl

joined-choices : map (choice joined_pair_tree joined_pair_second) (numbers_below 2) ≡ (0 ∷ 1 ∷ 5 ∷ []) ∷ (0 ∷ 6 ∷ 5 ∷ []) ∷ []
joined-choices = refl

-- all of these rotation systems are plane
complete-plane : IsPlane complete complete_first
complete-plane = refl

square-plane : IsPlane square square_first
square-plane = refl

square-last-plane : IsPlane square square_last
square-last-plane = refl

three-plane : IsPlane three_between three_between_first
three-plane = refl

sharing-plane : IsPlane sharing sharing_first
sharing-plane = refl

sharing-flipped-plane : IsPlane sharing sharing_flipped
sharing-flipped-plane = refl

sharing-permuted-plane : IsPlane sharing sharing_permuted
sharing-permuted-plane = refl

joined-plane : IsPlane joined_pair joined_pair_second
joined-plane = refl

joined-third-plane : IsPlane joined_pair joined_pair_third
joined-third-plane = refl

-- the last is the mirror image of the first
complete-mirror : mirror_image complete_first ≡ complete_last
complete-mirror = refl

square-mirror : mirror_image square_first ≡ square_last
square-mirror = refl

three-mirror : mirror_image three_between_first ≡ three_between_last
three-mirror = refl

sharing-mirror : mirror_image sharing_first ≡ sharing_last
sharing-mirror = refl

joined-mirror : mirror_image joined_pair_first ≡ joined_pair_last
joined-mirror = refl

-- moves from one to the other
sharing-moves : moves_between sharing_tree sharing_first sharing_last ≡ permute 0 (0 ∷ 6 ∷ 1 ∷ []) ∷ flip 1 ∷ flip 2 ∷ []
sharing-moves = refl

sharing-flip : moves_between sharing_tree sharing_first sharing_flipped ≡ flip 1 ∷ []
sharing-flip = refl

sharing-permute : moves_between sharing_tree sharing_permuted sharing_first ≡ permute 0 (0 ∷ 1 ∷ 6 ∷ []) ∷ []
sharing-permute = refl

square-moves : moves_between square_tree square_first square_last ≡ permute 1 (0 ∷ 4 ∷ 2 ∷ []) ∷ []
square-moves = refl

no-moves : moves_between joined_pair_tree joined_pair_first joined_pair_first ≡ []
no-moves = refl

-- the order goes by the first node that differs
joined-rises : (precedes joined_pair_tree joined_pair_first joined_pair_second ∷ precedes joined_pair_tree joined_pair_second joined_pair_third ∷ precedes joined_pair_tree joined_pair_third joined_pair_last ∷ []) ≡ true ∷ true ∷ true ∷ []
joined-rises = refl

joined-falls : (precedes joined_pair_tree joined_pair_third joined_pair_second ∷ precedes joined_pair_tree joined_pair_first joined_pair_first ∷ []) ≡ false ∷ false ∷ []
joined-falls = refl

sharing-rises : (precedes sharing_tree sharing_first sharing_flipped ∷ precedes sharing_tree sharing_flipped sharing_permuted ∷ precedes sharing_tree sharing_permuted sharing_last ∷ []) ≡ true ∷ true ∷ true ∷ []
sharing-rises = refl

-- how many there are
four-items : map cyclic_orders (1 ∷ 2 ∷ 3 ∷ 4 ∷ 5 ∷ []) ≡ 1 ∷ 1 ∷ 2 ∷ 6 ∷ 24 ∷ []
four-items = refl

counts : (list_count complete_tree (λ k. false) ∷ list_count square_tree (λ k. false) ∷ list_count three_between_tree (λ k. false) ∷ list_count sharing_tree (λ k. false) ∷ list_count joined_pair_tree (λ k. false) ∷ []) ≡ 2 ∷ 2 ∷ 2 ∷ 8 ∷ 4 ∷ []
counts = refl

counts-bond-locked : list_count sharing_tree (λ k. 0 == k) ≡ 4
counts-bond-locked = refl

-- the skeleton of the second node of two complete graphs that share an edge is a complete graph on four vertices
sharing-skeleton : skeleton_graph sharing_tree 2 ≡ complete
sharing-skeleton = refl

square-skeleton : skeleton_graph square_tree 2 ≡ record { vertex_count = 3; ends = (0, 1) ∷ (1, 2) ∷ (0, 2) ∷ [] }
square-skeleton = refl

-- the keys that a family has round vertex 4 of it, which is its vertex 2
sharing-keys-in : keys_in sharing_tree ([] ∷ [] ∷ complete_first ∷ []) 2 4 ≡ 6 ∷ 8 ∷ 10 ∷ []
sharing-keys-in = refl
