-- The followers are noted dart by dart.
use Rattle.std.proofs.Common.{◌≡◌, ℕ, ◌/◌, ◌<◌, false, true, length, set, slice_index, inl, inr, sym, ap, ◌∙◌, subst, arith, length-set}
use Rattle.std.proofs.lemmas.Bool.{cases_lt}
use Rattle.permutations.specs.Cyclic.{successor}
use Rattle.permutations.proofs.Arrangements.{contains-from_member}
use Rattle.multigraph.specs.Graph.{is_end}
use Rattle.multigraph.specs.Darts.{dart_count, tail}
use Rattle.multigraph.specs.Marks.{is_marked}
use Rattle.multigraph.proofs.DartEnds.{dart-edge, tail-end}
use Rattle.rotations.specs.Rotation.{order_at}
use Rattle.faces.proofs.DartLemmas.{order-member}
use Rattle.spqr_session.specs.KeptLine.{follower}
use Rattle.spqr_session.proofs.KeptLines.{order-same, noted-more, noted-due}
use Rattle.spqr_session.proofs.commands.kept_line.note_followers.Goals as goal

pub succ-requires : goal.succ-requires
succ-requires c =
    let g = c.args.g.now in
    let v : ℕ = c.tail-v.result in
    let e : ℕ = c.loop-d.d / 2 in
    let in_darts : c.loop-d.d < dart_count g = omega (arith, c.loop-d-test.true, c.dart_count-d-end.ensures.value) in
    let end : is_end g v e ≡ true = subst (λ (x : ℕ). is_end g x e ≡ true) (sym c.tail-v.ensures.is) (tail-end g c.loop-d.d) in
    contains-from_member (order_at c.args.r.now v) e (order-member g c.args.r.now v e c.requires.system c.tail-v.ensures.within (dart-edge g c.loop-d.d in_darts) end)

pub loop-d-preserved : goal.loop-d-preserved
loop-d-preserved c =
    let g = c.args.g.now in
    let r = c.args.r.now in
    let d : ℕ = c.loop-d.d in
    let held = c.loop-d.invariant in
    let note = c.note_follower.ensures in
    let in_list : d < length c.loop-d.followers = omega (arith, c.loop-d-test.true, c.dart_count-d-end.ensures.value, held.darts) in
    let is : c.succ.result ≡ follower g r d = c.succ.ensures ∙ ap (λ (v : ℕ). successor (order_at r v) (d / 2)) c.tail-v.ensures.is in
    let first : is_marked c.note_follower.new.changed (tail g d) ≡ false → slice_index c.args.followers.now d ≡ follower g r d =
    λ none. sym (held.due d (omega arith)) ∙ note.same (subst (λ (v : ℕ). is_marked c.note_follower.new.changed v ≡ false) (sym c.tail-v.ensures.is) none) ∙ is in
    record {
      darts = ap length note.noted ∙ length-set c.loop-d.followers d c.succ.result ∙ held.darts;
      vertices = note.number ∙ held.vertices;
      done = noted-more d c.loop-d.followers c.note_follower.new.followers (follower g r) in_list (note.noted ∙ ap (set c.loop-d.followers d) is) held.done;
      due = noted-due d c.args.followers.now c.loop-d.followers c.note_follower.new.followers c.succ.result note.noted held.due;
      same = λ x l none. elim (cases_lt x d) [
        | inl less ↦ held.same x less (note.marks (tail g x) none)
        | inr more ↦
            let is_d : x ≡ d = omega (arith, l, more) in
            subst (λ (y : ℕ). slice_index c.args.followers.now y ≡ follower g r y) (sym is_d) (first (subst (λ (y : ℕ). is_marked c.note_follower.new.changed (tail g y) ≡ false) is_d none))
      ];
    }

pub returns-clause-kept : goal.returns-clause-kept
returns-clause-kept c = λ q system noted v in_graph none.
    let g = c.args.g.now in
    let r = c.args.r.now in
    order-same g r q v c.requires.system system in_graph (λ d in_darts tail_is.
    let below : d < c.loop-d.d = omega (arith, in_darts, c.loop-d-test.false, c.dart_count-d-end.ensures.value) in
    sym (c.loop-d.invariant.same d below (subst (λ (x : ℕ). is_marked c.loop-d.changed x ≡ false) (sym tail_is) none)) ∙ noted.each d in_darts)
