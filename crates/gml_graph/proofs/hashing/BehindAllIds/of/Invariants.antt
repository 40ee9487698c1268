-- The hasher has been given the ids of the nodes so far: with those to come it has all.
use Rattle.std.proofs.Common.{◌≡◌, map, drop}
use Rattle.std.specs.List.{fold}
use Rattle.std.specs.Hash.DefaultHasher as sip
use Rattle.gml_graph.specs.Hashing.{id_writes}
use Rattle.gml_graph.proofs.hashing.BehindAllIds.of.Given as goal

abbrev pub invariant-loop-node : goal.invariant-loop-node
invariant-loop-node l =
    fold sip.write l.start (id_writes (map (λ node. node.now) (drop l.node-index l.nodes))) ≡ fold sip.write sip.initial (id_writes (map (λ node. node.now) l.nodes))
