-- A number without a mark is appended to the list.
use Rattle.std.proofs.Common.{◌≡◌, List, ℕ, true, slice_set, sym, subst}
use Rattle.permutations.specs.Members.{is_member}
use Rattle.graph_paths.specs.Listing.{AreListed, Grows}
use Rattle.graph_paths.proofs.Listed.{listed-more, grows-more, push-same}
use Rattle.graph_paths.proofs.listing.add_once.Goals as goal

pub returns-clause-listed : goal.returns-clause-listed
returns-clause-listed c = subst (λ (z : List ℕ). AreListed (slice_set c.args.marks.now c.args.x true) (slice_set c.args.notes.now c.args.x c.args.note) z) (sym c.in_ok-push.ensures.items)
    (listed-more c.args.marks.now c.args.notes.now c.args.list.now.items c.args.x c.args.note c.requires.listed c.requires.within c.if-marks-x.false)

pub returns-clause-grows : goal.returns-clause-grows
returns-clause-grows c = subst (λ (z : List ℕ). Grows (λ y m. (y ≡ c.args.x) × (m ≡ c.args.note)) c.args.list.now.items c.args.notes.now z (slice_set c.args.notes.now c.args.x c.args.note)) (sym c.in_ok-push.ensures.items)
    (grows-more c.args.marks.now c.args.notes.now c.args.list.now.items c.args.x c.args.note c.requires.listed c.requires.within c.if-marks-x.false)

pub returns-clause-held : goal.returns-clause-held
returns-clause-held c = subst (λ (z : List ℕ). is_member c.args.x z ≡ true) (sym c.in_ok-push.ensures.items) (push-same c.args.list.now.items c.args.x)
