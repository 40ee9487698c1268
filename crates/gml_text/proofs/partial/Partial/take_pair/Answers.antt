-- A list is opened where fewer than the limit are open.
use Rattle.std.proofs.Common.{ℕ, List, [], ◌∷◌, sym, ap, ◌∙◌, subst, arith}
use Rattle.gml_text.specs.Partial.{frames_of, pairs_of, IsTaken, IsTooDeep}
use Rattle.gml_text.specs.declared.item.Found.{Found}
use Rattle.gml_text.proofs.Frames.{length-frames_onto}
use Rattle.gml_text.proofs.partial.Partial.take_pair.Goals as goal

pub returns-in_ok-open-in-Open : goal.returns-in_ok-open-in-Open
returns-in_ok-open-in-Open c =
    let h = c.in_ok-open-in-Open.ensures in
    let k = c.in_ok-from_slice-in-Open.ensures in
    let l = c.len.ensures in
    let m = c.if-len-lt-DEPTH.true in
    subst (λ (f : Found). IsTaken c.args.key.now f c.args.self.now c.open.new.self) (sym c.in-Open.is)
    (h.frames ∙ ap (λ (key : List ℕ). record { before = pairs_of c.args.self.now; key = key } ∷ frames_of c.args.self.now) k, h.pairs, omega (arith, length-frames_onto c.args.self.now.open_lists.items [], c.args.self.now.open_lists.ok.0))

pub returns-else-len-lt-DEPTH : goal.returns-else-len-lt-DEPTH
returns-else-len-lt-DEPTH c =
    subst (λ (f : Found). IsTooDeep f c.args.self.now) (sym c.in-Open.is)
    (omega (arith, length-frames_onto c.args.self.now.open_lists.items [], c.args.self.now.open_lists.ok.0))
