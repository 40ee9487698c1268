-- Where the map is that of a plane rotation system, the lists are this rotation system.
use Rattle.std.proofs.Common.{sym, subst}
use Rattle.std.proofs.lemmas.Bool.{both_ways}
use Rattle.rotations.specs.Given.{IsFirstBad, IsRefusal}
use Rattle.faces.specs.Euler.{IsPlane}
use Rattle.path_rotation.proofs.Finished.{none-bad, same-system}
use Rattle.path_rotation.proofs.finishing.finish.Goals as goal

pub returns-in-Ok : goal.returns-in-Ok
returns-in-Ok c = λ tri.
    let w = c.requires.whole tri in
    let g = c.args.g.now in
    let same = same-system g c.keeps_limits.ensures.graph w.0 w.1.system c.args.next.now w.2 c.in_ok-lists.lists c.in_ok-lists.ensures c.in-Ok.r c.in-Ok.ensures.system c.in-Ok.ensures.orders in
    both_ways c.in_ok-euler-in-Ok.field-0.plane c.if-branch.false (c.in_ok-euler-in-Ok.ensures.plane.1 (subst (IsPlane g) (sym same) w.1.plane))

pub returns-in-Err-BadRotation : goal.returns-in-Err-BadRotation
returns-in-Err-BadRotation c = λ tri.
    let w = c.requires.whole tri in
    let g = c.args.g.now in
    let lists = c.in_ok-lists.lists in
    let first : IsFirstBad g lists c.in-Err-BadRotation._vertex = subst (IsRefusal g lists) c.in-Err-BadRotation.field-0-is c.in-Err-BadRotation.ensures.refused in
    none-bad g c.keeps_limits.ensures.graph w.0 w.1.system c.args.next.now w.2 lists c.in_ok-lists.ensures c.in-Err-BadRotation._vertex first.bad
