-- Printed texts, worked out on small numbers.
use Rattle.std.proofs.Common.{◌≡◌, [], ◌∷◌, pos, negsuc, true, false, codes, refl}
use Rattle.std.specs.Fmt.{digits}
use Rattle.spqr_script.specs.Head.{graph_text, vertex_text, cut_text, block_text, planar_text}
use Rattle.multigraph.specs.Part.{GraphPart}
use Rattle.spqr_script.specs.Nonplanar.{path_text}
use Rattle.spqr_script.specs.Answers.Rotation.{rotation_text}
use Rattle.spqr_script.specs.Answers.Faces.{faces_text}
use Rattle.spqr_script.specs.Answers.Euler.{euler_text}
use Rattle.spqr_script.specs.Answers.Gml.{document_text}
use Rattle.spqr_script.specs.Answers.Error.{error_text}
use Rattle.spqr_script.specs.Answers.Whole.{whole_text, list_whole_text, block_move_text, regroup_text}
use Rattle.moves.specs.declared.values.Move.TheVariants.{Flip, Permute}
use Rattle.spqr_script.specs.Refusal.{read_text, long_text, script_text}
use Rattle.spqr_script.specs.declared.refusals.Which.TheVariants.{GraphFile, ScriptFile}

k4 : graph_text 4 6 ≡ codes "graph 4 6\n"
unfolding digits
k4 = refl

first_vertex : vertex_text 0 (pos 7) ≡ codes "vertex 0 7\n"
unfolding digits
first_vertex = refl

negative_id : vertex_text 1 (negsuc 1) ≡ codes "vertex 1 -2\n"
unfolding digits
negative_id = refl

triangle : block_text 1 (3 ∷ 4 ∷ 10 ∷ []) ≡ codes "block 1: 3 4 10\n"
unfolding digits
triangle = refl

-- no space at the end of the line
no_edge : block_text 1 [] ≡ codes "block 1:\n"
unfolding digits
no_edge = refl

cut_vertex : cut_text 12 ≡ codes "cut 12\n"
unfolding digits
cut_vertex = refl

plane_triangles : euler_text (record { v = 7; e = 7; f = 4; c = 2; plane = true }) ≡ codes "euler 7 7 4 2 plane\n"
unfolding digits
plane_triangles = refl

crossed_triangles : euler_text (record { v = 7; e = 7; f = 2; c = 2; plane = false }) ≡ codes "euler 7 7 2 2 not-plane\n"
unfolding digits
crossed_triangles = refl

wrong_genus : error_text 7 (4 ∷ 6 ∷ 2 ∷ []) ≡ codes "error 7 4 6 2\n"
unfolding digits
wrong_genus = refl

nothing_to_undo : error_text 8 [] ≡ codes "error 8\n"
unfolding digits
nothing_to_undo = refl

small_document : document_text (codes "a 1\n") ≡ codes "gml 4\na 1\n"
unfolding digits
small_document = refl

empty_document : document_text [] ≡ codes "gml 0\n"
unfolding digits
empty_document = refl

plane_block : planar_text 2 ≡ codes "planar 2\n"
unfolding digits
plane_block = refl

-- an edge between vertices 4 and 7 of a graph, its edge 9
abbrev edge_part : GraphPart
edge_part = record { graph = record { vertex_count = 2; ends = (0, 1) ∷ [] }; vertices = 4 ∷ 7 ∷ []; edges = 9 ∷ [] }

edge_entries : rotation_text edge_part 3 ((0 ∷ []) ∷ (0 ∷ []) ∷ []) ≡ codes "rotation 3 | 4: 9; 7: 9\n"
unfolding digits
edge_entries = refl

-- no space at the end of an entry or of the line
no_edges : rotation_text edge_part 3 ([] ∷ [] ∷ []) ≡ codes "rotation 3 | 4:; 7:\n"
unfolding digits
no_edges = refl

edge_faces : faces_text edge_part 3 (((0, 0) ∷ (1, 0) ∷ []) ∷ []) ≡ codes "faces 3 1\nface 4-9 7-9\n"
unfolding digits
edge_faces = refl

edge_path : path_text edge_part 1 0 (0 ∷ []) ≡ codes "path 7 4: 9\n"
unfolding digits
edge_path = refl

lone_component : whole_text 1 ((6, []) ∷ []) ≡ codes "whole 1 | 6:\n"
unfolding digits
lone_component = refl

edge_component : whole_text 0 ((4, 9 ∷ []) ∷ (7, 9 ∷ []) ∷ []) ≡ codes "whole 0 | 4: 9; 7: 9\n"
unfolding digits
edge_component = refl

no_member_follows : list_whole_text 1 0 ≡ codes "listwhole 1 0\n"
unfolding digits
no_member_follows = refl

-- the number of the block comes first
flip_in_block : block_move_text edge_part 3 (Flip 2) ≡ codes "flip 3 2\n"
unfolding digits
flip_in_block = refl

permute_in_block : block_move_text edge_part 3 (Permute 2 (0 ∷ [])) ≡ codes "permute 3 2 9\n"
unfolding digits
permute_in_block = refl

edges_around : regroup_text 4 (4 ∷ 6 ∷ 5 ∷ []) ≡ codes "regroup 4 4 6 5\n"
unfolding digits
edges_around = refl

unread_graph : read_text GraphFile ≡ codes "refused read graph\n"
unread_graph = refl

long_script : long_text ScriptFile ≡ codes "refused long script\n"
long_script = refl

second_line : script_text 2 ≡ codes "refused script line 2\n"
unfolding digits
second_line = refl
