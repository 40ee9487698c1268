-- The lines of refusals, and the usage line.
use Rattle.std.specs.Prelude.{ℕ, List, [], ◌∷◌, ◌++◌, codes, decimal}
use Rattle.spqr_script.specs.Text.{line_end, spaced_numbers}
use Rattle.gml_text.specs.declared.document.GmlFault.{GmlFault}
use Rattle.gml_text.specs.declared.document.GmlFault.TheVariants as gml
use Rattle.gml_text.specs.declared.document.GmlFault.TheVariants.{Bad, End}
use Rattle.gml_graph.specs.declared.fault.GraphFault.{GraphFault}
use Rattle.gml_graph.specs.declared.fault.GraphFault.TheVariants as graph
use Rattle.gml_graph.specs.declared.fault.GraphFault.TheVariants.{NoGraph, MoreGraphs, TooManyVertices, TooManyEdges, NodeNoId, NodeBadId, SameId, EdgeNoEnd, EdgeBadEnd, UnknownEnd, Loop, StartVertex}
use Rattle.spqr_script.specs.declared.refusals.Which.{Which}
use Rattle.spqr_script.specs.declared.refusals.Which.TheVariants.{GraphFile, ScriptFile}

-- the word for a file
abbrev pub file_word : Which → List ℕ
file_word GraphFile = codes "graph"
file_word ScriptFile = codes "script"

-- `refused read graph` or `refused read script`: the file could not be read
abbrev pub read_text : Which → List ℕ
read_text w = codes "refused read " ++ file_word w ++ line_end

-- `refused long graph` or `refused long script`: the file is past its limit
abbrev pub long_text : Which → List ℕ
long_text w = codes "refused long " ++ file_word w ++ line_end

-- `refused gml bad AT` or `refused gml end AT`: the bytes are no document. Want of memory has no line
abbrev pub gml_text : GmlFault → List ℕ
gml_text (Bad at) = codes "refused gml bad " ++ decimal at ++ line_end
gml_text (End at) = codes "refused gml end " ++ decimal at ++ line_end
gml_text gml.Memory = []

-- the line of a rule of graphs that speaks of a number
abbrev pub rule_about : List ℕ → ℕ → List ℕ
rule_about rule n = codes "refused graph " ++ rule ++ codes " " ++ decimal n ++ line_end

-- `refused graph ..`: the document has no graph, by the first rule that refuses it. Out of memory has no line
abbrev pub rule_text : GraphFault → List ℕ
rule_text NoGraph = codes "refused graph none\n"
rule_text MoreGraphs = codes "refused graph more\n"
rule_text (TooManyVertices n) = rule_about (codes "vertices") n
rule_text (TooManyEdges m) = rule_about (codes "edges") m
rule_text (NodeNoId k) = rule_about (codes "node-no-id") k
rule_text (NodeBadId k) = rule_about (codes "node-bad-id") k
rule_text (SameId k) = rule_about (codes "same-id") k
rule_text (EdgeNoEnd k) = rule_about (codes "edge-no-end") k
rule_text (EdgeBadEnd k) = rule_about (codes "edge-bad-end") k
rule_text (UnknownEnd k) = rule_about (codes "unknown-end") k
rule_text (Loop k) = rule_about (codes "loop") k
rule_text (StartVertex v) = rule_about (codes "start-vertex") v
rule_text graph.Memory = []

-- `refused graph start-genus B V E F`: a planar block, and the numbers of vertices, edges and faces of the rotation system at which it
-- would start, which is not plane
abbrev pub start_genus_text : ℕ → ℕ → ℕ → ℕ → List ℕ
start_genus_text b v e f = codes "refused graph start-genus" ++ spaced_numbers (b ∷ v ∷ e ∷ f ∷ []) ++ line_end

-- `refused script line L`: the line is no command
abbrev pub script_text : ℕ → List ℕ
script_text line = codes "refused script line " ++ decimal line ++ line_end

-- how the program is called
abbrev pub usage_text : List ℕ
usage_text = codes "usage: spqr run GRAPH SCRIPT | spqr make N SEED\n"
