use Rattle.std.proofs.Common.{◌≡◌, ◌<◌, Bool, length, arith, ap, ◌∙◌, sym, subst, true, false, [], ◌∷◌, ◌++◌, slice_index, slice_index_or, slice_set}
use Rattle.permutations.specs.Members.{place_of}
use Rattle.arrangements.specs.Tables.{follow_in}
use Rattle.std.proofs.Math.ListN.{length-set}
use Rattle.arrangements.proofs.Noted.{same-default}
use Rattle.arrangements.proofs.Notes.{noted-kept, noted-pushed}
use Rattle.arrangements.proofs.prefixes.Prefix.lay.Goals as goal

-- the follower has not come
pub returns-then-not-index-clause-noted : goal.returns-then-not-index-clause-noted
returns-then-not-index-clause-noted c =
    let next : c.follower-next.result ≡ follow_in c.args.tables.now (slice_index c.args.list.now c.args.i) = c.follower-next.ensures.is ∙ ap (slice_index c.args.tables.now.followers) c.place-place.ensures.is in
    let place : c.place.result ≡ place_of c.args.tables.now.edges (follow_in c.args.tables.now (slice_index c.args.list.now c.args.i)) = c.place.ensures.is ∙ ap (place_of c.args.tables.now.edges) next in
    noted-pushed c.args.tables.now c.args.self.now _ c.args.list.now c.args.i c.keeps.ensures c.requires.place.0 c.requires.edge c.requires.noted
    (λ j. slice_set (c.pop.ensures.used j).items (c.place-place.ensures.is j) true)
    (λ j. slice_set (c.pop.ensures.opened j).items ((c.rank.ensures.is ∙ ap (slice_index c.args.tables.now.ranks) c.place-place.ensures.is) j) true)
    (c.push_reserved.ensures.capacity ∙ c.pop.ensures.room)
    (sym (λ j. slice_index_or (slice_set (c.pop.ensures.used j).items (c.place-place.ensures.is j) true) (place j) false)
    ∙ sym (subst (λ (d : Bool). d ≡ slice_index_or (slice_set c.pop.new.self.used.items c.place-place.result true) c.place.result d) c.if-not-index.true c.index.ensures))
    (c.push_reserved.ensures.items ∙ (λ j. c.pop.ensures.stack j ++ next j ∷ []))

-- it has
pub returns-else-not-index-clause-noted : goal.returns-else-not-index-clause-noted
returns-else-not-index-clause-noted c =
    let next : c.follower-next.result ≡ follow_in c.args.tables.now (slice_index c.args.list.now c.args.i) = c.follower-next.ensures.is ∙ ap (slice_index c.args.tables.now.followers) c.place-place.ensures.is in
    let place : c.place.result ≡ place_of c.args.tables.now.edges (follow_in c.args.tables.now (slice_index c.args.list.now c.args.i)) = c.place.ensures.is ∙ ap (place_of c.args.tables.now.edges) next in
    let below : place_of c.args.tables.now.edges (follow_in c.args.tables.now (slice_index c.args.list.now c.args.i)) < length (slice_set c.args.self.now.used.items (place_of c.args.tables.now.edges (slice_index c.args.list.now c.args.i)) true) =
    omega (arith, place, c.place.ensures.below, c.requires.noted.room.used_each, length-set c.args.self.now.used.items (place_of c.args.tables.now.edges (slice_index c.args.list.now c.args.i)) true) in
    noted-kept c.args.tables.now c.args.self.now _ c.args.list.now c.args.i c.keeps.ensures c.requires.place.0 c.requires.edge c.requires.noted
    (λ j. slice_set (c.pop.ensures.used j).items (c.place-place.ensures.is j) true)
    (λ j. slice_set (c.pop.ensures.opened j).items ((c.rank.ensures.is ∙ ap (slice_index c.args.tables.now.ranks) c.place-place.ensures.is) j) true)
    c.pop.ensures.room
    (same-default (slice_set c.args.self.now.used.items (place_of c.args.tables.now.edges (slice_index c.args.list.now c.args.i)) true) (place_of c.args.tables.now.edges (follow_in c.args.tables.now (slice_index c.args.list.now c.args.i))) false true below
    ∙ sym (λ j. slice_index_or (slice_set (c.pop.ensures.used j).items (c.place-place.ensures.is j) true) (place j) true)
    ∙ sym (subst (λ (d : Bool). d ≡ slice_index_or (slice_set c.pop.new.self.used.items c.place-place.result true) c.place.result d) c.if-not-index.false c.index.ensures))
    c.pop.ensures.stack
