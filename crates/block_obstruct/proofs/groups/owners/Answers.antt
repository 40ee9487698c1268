-- All edges were noted.
use Rattle.std.proofs.Common.{◌≢◌, ◌∙◌, ℕ, ◌<◌, List, length, drop, refl, sym, subst, arith}
use Rattle.std.proofs.lemmas.List.{take_at}
use Rattle.graph_paths.specs.Listing.{note_of}
use Rattle.block_obstruct.specs.Towards.{IsTowards}
use Rattle.block_obstruct.specs.Groups.{AreOwners}
use Rattle.block_obstruct.proofs.GroupsOfEdges.{noted-all}
use Rattle.block_obstruct.proofs.groups.owners.Goals as goal

pub note_all-requires-clause-tree : goal.note_all-requires-clause-tree
note_all-requires-clause-tree c = (c.args.g.now, c.requires.tree, omega (arith, c.deref_mut.ensures.len, c.in_ok-notes.ensures.len, c.edge_count.ensures.value))

pub note_all-requires-clause-towards : goal.note_all-requires-clause-towards
note_all-requires-clause-towards c = subst (λ (z : List ℕ). (x : ℕ) → x < length c.args.tree.now → x ≢ c.args.k → IsTowards c.args.tree.now c.args.k (note_of z x) x) (sym c.deref.ensures.value) c.in_ok-leading.ensures.towards

pub returns-clause-owners : goal.returns-clause-owners
returns-clause-owners c = subst (λ (z : List ℕ). AreOwners c.args.g.now c.args.tree.now c.args.k z)
    (sym (take_at c.note_all.new.notes (drop (length c.note_all.new.notes) c.in_ok-notes.notes.items) c.in_ok-notes.notes.len (c.note_all.auto.notes ∙ c.deref_mut.ensures.len)))
    (noted-all c.args.g.now c.args.tree.now c.requires.tree c.args.k (length c.args.tree.now) c.note_all.new.notes refl c.note_all.ensures.noted)
