use Rattle.spqr_script.specs.Line.{tokens_of}
use Rattle.spqr_script.proofs.Steps.{entry_empty, entry_short, entry_unmarked, entry_no_edges, entry_whole}
use Rattle.spqr_script.proofs.rotation.read_entry.Goals as goal

pub returns-in_default : goal.returns-in_default
returns-in_default c = entry_empty (tokens_of c.args.part.now) c.in_default.ensures

pub returns-in_default-next_token : goal.returns-in_default-next_token
returns-in_default-next_token c =
    entry_short (tokens_of c.args.part.now) c.in-Some.vertex.now (tokens_of c.in-Some.behind.now) c.in-Some.ensures.0 c.in_default-next_token.ensures

pub returns-then-ne : goal.returns-then-ne
returns-then-ne c =
    let after = c.in-Some-next_token in
    entry_unmarked (tokens_of c.args.part.now) c.in-Some.vertex.now (tokens_of c.in-Some.behind.now) after.mark.now (tokens_of after.rest.now) c.as_slice.result.now c.in-Some.ensures.0 after.ensures.0 c.as_slice.ensures c.if-ne.ensures

pub returns-then-not-branch : goal.returns-then-not-branch
returns-then-not-branch c =
    let after = c.in-Some-next_token in
    entry_no_edges (tokens_of c.args.part.now) c.in-Some.vertex.now (tokens_of c.in-Some.behind.now) after.mark.now (tokens_of after.rest.now) c.as_slice.result.now c.clear.new.self.items c.read_indices.new.numbers.items c.in_ok-read_indices.field-0
    c.in-Some.ensures.0 after.ensures.0 c.as_slice.ensures c.if-ne.ensures c.clear.ensures.items c.in_ok-read_indices.ensures c.if-not-branch.true

pub returns : goal.returns
returns c =
    let after = c.in-Some-next_token in
    entry_whole (tokens_of c.args.part.now) c.in-Some.vertex.now (tokens_of c.in-Some.behind.now) after.mark.now (tokens_of after.rest.now) c.as_slice.result.now c.clear.new.self.items c.read_indices.new.numbers.items c.in_ok-read_indices.field-0 c.index.result
    c.in-Some.ensures.0 after.ensures.0 c.as_slice.ensures c.if-ne.ensures c.clear.ensures.items c.in_ok-read_indices.ensures c.if-not-branch.false c.index.ensures
