-- What the search has noted.
use Rattle.std.proofs.Common.{◌≢◌, ◌∙◌, ℕ, ◌<◌, List, length, drop, sym, subst}
use Rattle.std.proofs.lemmas.List.{take_at}
use Rattle.graph_paths.specs.Listing.{note_of}
use Rattle.block_obstruct.specs.Towards.{IsTowards}
use Rattle.block_obstruct.proofs.towards.towards.Goals as goal

pub returns-clause-towards : goal.returns-clause-towards
returns-clause-towards c = subst (λ (z : List ℕ). (x : ℕ) → x < length c.args.tree.now → x ≢ c.args.k → IsTowards c.args.tree.now c.args.k (note_of z x) x)
    (sym (take_at c.reach.new.notes (drop (length c.reach.new.notes) c.in_ok-notes.notes.items) c.in_ok-notes.notes.len (c.reach.auto.notes ∙ c.deref_mut-2.ensures.len))) c.in_ok-reach.ensures
