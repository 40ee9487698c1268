use Rattle.spqr_script.specs.Line.{tokens_of}
use Rattle.spqr_script.proofs.Steps.{at_none, at_some, rotation_empty}
use Rattle.spqr_script.proofs.Rotations.{rotation_stops, rotation_goes_on, rotation_ends}
use Rattle.spqr_script.proofs.rotation.read_rotation.Goals as goal

pub returns-then-is_none : goal.returns-then-is_none
returns-then-is_none c =
    rotation_empty (tokens_of c.args.text.now) c.new-entries.result (at_none c.next_token.result _ _ c.if-is_none.ensures c.next_token.ensures) c.new-entries.ensures

pub returns-then-not-branch : goal.returns-then-not-branch
returns-then-not-branch c =
    let first = at_some c.next_token.result _ _ c.if-is_none.ensures c.next_token.ensures in
    rotation_stops c.args.text.now c.parts.rest.now c.first_part.result.0.now first.0.0.now first.0.1.now c.first_part.result.1 c.parts.entries c.push_entry.new.entries c.in_ok-push_entry.field-0 first.1.0 c.parts.invariant c.first_part.ensures c.in_ok-push_entry.ensures c.if-not-branch.true

pub parts-preserved : goal.parts-preserved
parts-preserved c =
    rotation_goes_on c.args.text.now c.parts.rest.now c.first_part.result.0.now c.first_part.result.1 c.in-Some.text c.parts.entries c.push_entry.new.entries c.in_ok-push_entry.field-0 c.parts.invariant c.first_part.ensures c.in_ok-push_entry.ensures c.if-not-branch.false c.in-Some.is

pub returns-in-None : goal.returns-in-None
returns-in-None c =
    let first = at_some c.next_token.result _ _ c.if-is_none.ensures c.next_token.ensures in
    rotation_ends c.args.text.now c.parts.rest.now c.first_part.result.0.now first.0.0.now first.0.1.now c.first_part.result.1 c.parts.entries c.push_entry.new.entries c.in_ok-push_entry.field-0 first.1.0 c.parts.invariant c.first_part.ensures c.in_ok-push_entry.ensures c.if-not-branch.false c.in-None.is
