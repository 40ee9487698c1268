use Rattle.std.proofs.Common.{map, string_bytes, refl}
use Rattle.command_words.proofs.Ranges.{make-range}
use Rattle.spqr_run.specs.Seen.{ShelfSeen}
use Rattle.spqr_run.proofs.Forms.{found-none, found-some, run-named}
use Rattle.spqr_run.proofs.Decided.{decided-usage, decided-summary, decided-graph, decided-work, decided-script}
use Rattle.spqr_run.proofs.decision.decide.Goals as goal

pub returns-in_default-clause-decided : goal.returns-in_default-clause-decided
returns-in_default-clause-decided g c = decided-usage _ _ _ (found-none (map string_bytes c.args.words.now) c.in_ok-form.field-0 c.in_ok-form.ensures c.in_default.is) refl refl

pub returns-clause-decided : goal.returns-clause-decided
returns-clause-decided g c =
    decided-summary _ _ _ c.in-Make.edges c.in-Make.seed (found-some (map string_bytes c.args.words.now) c.in_ok-form.field-0 c.in-Some.form _ c.in_ok-form.ensures c.in-Some.is c.in-Make.is) refl refl

pub returns-clause-ready : goal.returns-clause-ready
returns-clause-ready g c =
    let words = map string_bytes c.args.words.now in
    make-range words c.in-Make.edges c.in-Make.seed (found-some words c.in_ok-form.field-0 c.in-Some.form _ c.in_ok-form.ensures c.in-Some.is c.in-Make.is)

pub returns-in-Err-Refused-clause-decided : goal.returns-in-Err-Refused-clause-decided
returns-in-Err-Refused-clause-decided g c =
    let is = c.in-Err-Refused.field-0-is in
    let words = map string_bytes c.args.words.now in
    let graph = c.in-Run.graph.now in
    let script = c.in-Run.script.now in
    let named = run-named words graph script (found-some words c.in_ok-form.field-0 c.in-Some.form _ c.in_ok-form.ensures c.in-Some.is c.in-Run.is) in
    rw is (decided-graph _ _ _ (record { graph = graph; script = script }) c.in-Err-Refused.refusal named (rw is at c.in-Err-Refused.ensures.said) (rw is at c.in-Err-Refused.ensures.line)
    c.in-Err-Refused.ensures.opens (rw is at c.in-Err-Refused.ensures.faults))

pub returns-in-Ok-accept_script-clause-decided : goal.returns-in-Ok-accept_script-clause-decided
returns-in-Ok-accept_script-clause-decided g c =
    let words = map string_bytes c.args.words.now in
    let graph = c.in-Run.graph.now in
    let script = c.in-Run.script.now in
    let named = run-named words graph script (found-some words c.in_ok-form.field-0 c.in-Some.form _ c.in_ok-form.ensures c.in-Some.is c.in-Run.is) in
    let first = c.in-Ok.ensures in
    let second = c.in-Ok-accept_script.ensures in
    let mid : ShelfSeen = record { files = g.S.Shelf.files c.accept_graph.new.shelf; opens = g.S.Shelf.opens c.accept_graph.new.shelf; faults = g.S.Shelf.faults c.accept_graph.new.shelf } in
    decided-work _ _ _ mid (record { graph = graph; script = script }) c.in-Ok.session named first.said first.started first.files first.opens second.opens first.faults c.in-Ok-accept_script.commands.items second.said second.faults

pub returns-in-Err-Refused-accept_script-clause-decided : goal.returns-in-Err-Refused-accept_script-clause-decided
returns-in-Err-Refused-accept_script-clause-decided g c =
    let is = c.in-Err-Refused-accept_script.field-0-is in
    let words = map string_bytes c.args.words.now in
    let graph = c.in-Run.graph.now in
    let script = c.in-Run.script.now in
    let named = run-named words graph script (found-some words c.in_ok-form.field-0 c.in-Some.form _ c.in_ok-form.ensures c.in-Some.is c.in-Run.is) in
    let first = c.in-Ok.ensures in
    let second = c.in-Err-Refused-accept_script.ensures in
    let mid : ShelfSeen = record { files = g.S.Shelf.files c.accept_graph.new.shelf; opens = g.S.Shelf.opens c.accept_graph.new.shelf; faults = g.S.Shelf.faults c.accept_graph.new.shelf } in
    rw is (decided-script _ _ _ mid (record { graph = graph; script = script }) c.in-Ok.session named first.said first.started first.files first.opens second.opens first.faults
    c.in-Err-Refused-accept_script.refusal (rw is at second.said) (rw is at second.faults))
