-- The texts so far, with those of the nodes to come, are those of all nodes.
use Rattle.std.proofs.Common.{◌≡◌, drop, map}
use Rattle.gml_graph.specs.Start.{texts_of}
use Rattle.gml_graph.proofs.Spelling.{put_behind}
use Rattle.gml_graph.proofs.start.start_texts.Given as goal

abbrev pub invariant-loop-node : goal.invariant-loop-node
invariant-loop-node l = put_behind (map (λ text. text.now) l.texts.items) (texts_of (map (λ node. node.now) (drop l.node-index l.nodes))) ≡ texts_of (map (λ node. node.now) l.nodes)
