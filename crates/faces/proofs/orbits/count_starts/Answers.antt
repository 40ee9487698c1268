-- Each number begins an orbit or is marked.
use Rattle.std.proofs.Common.{length, slice_index, arith, ◌≡◌, ap, ◌∙◌}
use Rattle.permutations.specs.Count.{count}
use Rattle.permutations.specs.Relation.{leads}
use Rattle.permutations.specs.Permutation.{reaches}
use Rattle.faces.proofs.Found.{found-few, found-more, found-skip}
use Rattle.faces.proofs.Starts.{starts-whole, starts-through, starts-lead}
use Rattle.faces.proofs.orbits.count_starts.Goals as goal
use Rattle.faces.proofs.orbits.count_starts.Goals.{then-not-marks-start, else-not-marks-start}

pub overflow_add-orbits : goal.overflow_add-orbits
overflow_add-orbits c =
    let few = found-few (reaches (length c.args.images.now) (slice_index c.args.images.now)) c.loop-start.start c.loop-start.marks c.loop-start.orbits c.loop-start.invariant in
    omega arith

pub mark_orbit-requires-clause-whole_orbits : goal.mark_orbit-requires-clause-whole_orbits
mark_orbit-requires-clause-whole_orbits c =
    starts-whole (length c.args.images.now) (slice_index c.args.images.now) c.requires.permutation c.loop-start.start c.loop-start.marks c.loop-start.orbits c.loop-start.invariant (omega arith)

pub loop-start-preserved : goal.loop-start-preserved
loop-start-preserved c =
    let n = length c.args.images.now in
    let f = slice_index c.args.images.now in
    elim c.if-not-marks-start.branch [
      | then-not-marks-start w ↦
          rw (w.marks-is, w.orbits-is) (found-more (reaches n f) c.loop-start.start c.loop-start.marks w.mark_orbit.new.marks c.loop-start.orbits c.loop-start.invariant w.if-not-marks-start.true w.mark_orbit.ensures)
      | else-not-marks-start w ↦
          rw (w.marks-is, w.orbits-is) (found-skip (reaches n f) c.loop-start.start c.loop-start.marks c.loop-start.orbits (starts-through n f c.requires.permutation c.loop-start.start (omega arith)) c.loop-start.invariant w.if-not-marks-start.false)
    ]

pub returns : goal.returns
returns c =
    let n = length c.args.images.now in
    let f = slice_index c.args.images.now in
    let last : c.loop-start.start ≡ n = omega arith in
    c.loop-start.invariant.counted ∙ ap (λ d. count d (leads (reaches n f))) last ∙ starts-lead n f c.requires.permutation
