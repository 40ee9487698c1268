use Rattle.std.proofs.Common.{map}
use Rattle.spqr_session.specs.Embedded.{view_tree}
use Rattle.spqr_session.specs.Texts.{bytes_of}
use Rattle.spqr_session.proofs.NumberTexts.{AreTexts}
use Rattle.spqr_session.proofs.Views.{seen_family}
use Rattle.spqr_session.proofs.texts.present_texts.Given as goal

-- the edges of the blocks so far are appended
abbrev pub invariant-loop-block : goal.invariant-loop-block
invariant-loop-block l = AreTexts l.n (map view_tree l.blocks) (seen_family l.blocks) l.block-index (bytes_of l.texts.items)
