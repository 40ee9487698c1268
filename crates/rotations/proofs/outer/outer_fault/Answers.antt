use Rattle.std.proofs.Common.{ℕ, Option, sym, subst, arith}
use Rattle.std.specs.List.{Contains}
use Rattle.std.specs.Option.{MatchOption}
use Rattle.rotations.specs.Entries.{IsNamed}
use Rattle.rotations.specs.Given.{IsRefusal}
use Rattle.rotations.specs.PartLists.{IsFirstBadInPart, IsFirstStranger}
use Rattle.rotations.specs.declared.faults.RotFault.{RotFault}
use Rattle.rotations.proofs.PartEdges.{part-bad, lesser-stranger, lesser-vertex}
use Rattle.rotations.proofs.outer.outer_fault.Goals as goal

-- the stranger is smaller
pub returns-then-w-v : goal.returns-then-w-v
returns-then-w-v c = lesser-stranger c.args.p.now c.keeps_numbers.ensures c.args.lists.now c.args.inner.now c.requires.inner c.in-BadRotation.i c.in-Some.w (subst (λ (f : RotFault). IsRefusal c.args.p.now.graph c.args.inner.now f) c.in-BadRotation.is c.requires.due)
    (subst (λ (o : Option ℕ). MatchOption o ((v : ℕ) → IsNamed c.args.lists.now v → Contains c.args.p.now.vertices v) (λ v. IsFirstStranger c.args.p.now c.args.lists.now v)) c.in-Some.is c.requires.stranger)
    (omega (arith, c.if-w-v.true, c.vertex-v.ensures))

-- it is not
pub returns-else-w-v : goal.returns-else-w-v
returns-else-w-v c = subst (λ (v : ℕ). IsFirstBadInPart c.args.p.now c.args.lists.now v) (sym c.vertex-v.ensures)
    (lesser-vertex c.args.p.now c.keeps_numbers.ensures c.args.lists.now c.args.inner.now c.requires.inner c.in-BadRotation.i c.in-Some.w (subst (λ (f : RotFault). IsRefusal c.args.p.now.graph c.args.inner.now f) c.in-BadRotation.is c.requires.due)
    (subst (λ (o : Option ℕ). MatchOption o ((v : ℕ) → IsNamed c.args.lists.now v → Contains c.args.p.now.vertices v) (λ v. IsFirstStranger c.args.p.now c.args.lists.now v)) c.in-Some.is c.requires.stranger)
    (omega (arith, c.if-w-v.false, c.vertex-v.ensures)))

-- there is none
pub returns-in-None : goal.returns-in-None
returns-in-None c = subst (λ (v : ℕ). IsFirstBadInPart c.args.p.now c.args.lists.now v) (sym c.vertex-v.ensures)
    (part-bad c.args.p.now c.keeps_numbers.ensures c.args.lists.now c.args.inner.now c.requires.inner c.in-BadRotation.i (subst (λ (f : RotFault). IsRefusal c.args.p.now.graph c.args.inner.now f) c.in-BadRotation.is c.requires.due)
    (λ u less. (subst (λ (o : Option ℕ). MatchOption o ((v : ℕ) → IsNamed c.args.lists.now v → Contains c.args.p.now.vertices v) (λ v. IsFirstStranger c.args.p.now c.args.lists.now v)) c.in-None.is c.requires.stranger) u))
