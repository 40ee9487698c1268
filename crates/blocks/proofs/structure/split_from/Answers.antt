use Rattle.std.proofs.Common.{◌<◌, ℕ, List, length, filter, sym, subst, get_or}
use Rattle.multigraph.specs.Graph.{incident_edges, numbers_below}
use Rattle.blocks.specs.Cuts.{meets_two}
use Rattle.blocks.specs.Blocks.{AreCutVertices}
use Rattle.multigraph.specs.Buckets.{ArePlaces}
use Rattle.blocks.proofs.Collected.{number-in, numbers-few, collected}
use Rattle.blocks.proofs.Meeting.{cuts-right}
use Rattle.blocks.proofs.structure.split_from.Goals as goal

pub places_of-requires-clause-few : goal.places_of-requires-clause-few
places_of-requires-clause-few g c =
    subst (λ (z : List ℕ). length z < 4294967296) (sym c.deref.ensures.value)
    (numbers-few c.args.graph.now c.in_ok-search.ensures.limits c.in_ok-numbers.numbers.items c.in_ok-numbers.blocks (c.in_ok-numbers.ensures {u = tt}))

pub places_of-requires-clause-within : goal.places_of-requires-clause-within
places_of-requires-clause-within g c =
    subst (λ (z : List ℕ). (k : ℕ) → k < length z → get_or z k 0 < c.in_ok-numbers.blocks) (sym c.deref.ensures.value)
    (number-in c.args.graph.now c.in_ok-numbers.numbers.items c.in_ok-numbers.blocks (c.in_ok-numbers.ensures {u = tt}))

pub returns : goal.returns
returns g c =
    let n = c.in_ok-numbers.ensures {u = tt} in
    record {
      blocks = collected c.args.graph.now c.in_ok-numbers.numbers.items c.in_ok-numbers.blocks c.in_ok-lists.lists.items n (subst (λ (z : List ℕ). ArePlaces z (length z) c.in_ok-numbers.blocks c.in_ok-lists.lists.items) c.deref.ensures.value (c.in_ok-lists.ensures {u = tt}));
      cut_vertices = subst (AreCutVertices c.args.graph.now) (sym (c.in_ok-cut.ensures {u = tt}))
          (subst (λ (z : List ℕ). AreCutVertices c.args.graph.now (filter (λ v. meets_two z (incident_edges c.args.graph.now v)) (numbers_below c.args.graph.now.vertex_count))) (sym c.deref-2.ensures.value)
          (cuts-right c.args.graph.now c.in_ok-numbers.numbers.items c.in_ok-numbers.blocks n));
      components = c.in_ok-components.ensures {u = tt};
    }
