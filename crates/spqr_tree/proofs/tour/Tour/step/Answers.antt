use Rattle.std.proofs.Common.{refl, ap, ◌∙◌}
use Rattle.pair_split.specs.Tutte.{node_at}
use Rattle.spqr_tree.specs.Tour.{TourState}
use Rattle.spqr_tree.proofs.Touring.{moved, code-falls, code-meets, code-meet, code-down, code-up, code-done}
use Rattle.spqr_tree.proofs.tour.Tour.step.Goals as goal

-- an edge is met
pub meet-requires-clause-few : goal.meet-requires-clause-few
meet-requires-clause-few c = let t = c.requires.tree in (code-meets t.0 c.args.nodes.now t.1 t.2 c.args.self.now c.note.new.self c.requires.touring c.in_ok-note.ensures c.items-items.result.now (c.items-items.ensures ∙ ap (λ z. (node_at c.args.nodes.now z).items) (ap (λ (s : TourState). s.at) c.self.view_is)) c.next-next.result c.next-next.ensures c.if-next-items.true c.in-Real.e c.in-Real.is).0

pub meet-requires-clause-place : goal.meet-requires-clause-place
meet-requires-clause-place c = let t = c.requires.tree in (code-meets t.0 c.args.nodes.now t.1 t.2 c.args.self.now c.note.new.self c.requires.touring c.in_ok-note.ensures c.items-items.result.now (c.items-items.ensures ∙ ap (λ z. (node_at c.args.nodes.now z).items) (ap (λ (s : TourState). s.at) c.self.view_is)) c.next-next.result c.next-next.ensures c.if-next-items.true c.in-Real.e c.in-Real.is).1

pub returns-in-Real-clause-touring : goal.returns-in-Real-clause-touring
returns-in-Real-clause-touring c = λ _. let t = c.requires.tree in code-meet t.0 c.args.nodes.now t.1 t.2 c.args.self.now c.note.new.self c.requires.touring c.in_ok-note.ensures c.items-items.result.now (c.items-items.ensures ∙ ap (λ z. (node_at c.args.nodes.now z).items) (ap (λ (s : TourState). s.at) c.self.view_is)) c.next-next.result c.next-next.ensures c.if-next-items.true c.in-Real.e c.in-Real.is c.meet.new.self c.meet.ensures

pub returns-in-Real-clause-falls : goal.returns-in-Real-clause-falls
returns-in-Real-clause-falls c = let t = c.requires.tree in code-falls t.0 c.args.nodes.now t.1 t.2 c.args.self.now c.note.new.self c.requires.touring c.in_ok-note.ensures c.items-items.result.now (c.items-items.ensures ∙ ap (λ z. (node_at c.args.nodes.now z).items) (ap (λ (s : TourState). s.at) c.self.view_is)) c.meet.new.self.bounds (ap (λ (s : TourState). s.bounds) c.meet.ensures)

-- a link is gone down
pub returns-in-Link-clause-touring : goal.returns-in-Link-clause-touring
returns-in-Link-clause-touring c = λ _. let t = c.requires.tree in code-down t.0 c.args.nodes.now t.1 t.2 c.args.self.now c.note.new.self c.requires.touring c.in_ok-note.ensures c.items-items.result.now (c.items-items.ensures ∙ ap (λ z. (node_at c.args.nodes.now z).items) (ap (λ (s : TourState). s.at) c.self.view_is)) c.next-next.result c.next-next.ensures c.if-next-items.true c.in-Link.j c.in-Link.is _ (ap (moved c.in-Link.j) c.self.view_is)

pub returns-in-Link-clause-falls : goal.returns-in-Link-clause-falls
returns-in-Link-clause-falls c = let t = c.requires.tree in code-falls t.0 c.args.nodes.now t.1 t.2 c.args.self.now c.note.new.self c.requires.touring c.in_ok-note.ensures c.items-items.result.now (c.items-items.ensures ∙ ap (λ z. (node_at c.args.nodes.now z).items) (ap (λ (s : TourState). s.at) c.self.view_is)) _ (ap (λ (s : TourState). s.bounds) c.self.view_is)

-- the walk is at its end
pub returns-in-Real-what-clause-falls : goal.returns-in-Real-what-clause-falls
returns-in-Real-what-clause-falls c = let t = c.requires.tree in code-falls t.0 c.args.nodes.now t.1 t.2 c.args.self.now c.note.new.self c.requires.touring c.in_ok-note.ensures c.items-items.result.now (c.items-items.ensures ∙ ap (λ z. (node_at c.args.nodes.now z).items) (ap (λ (s : TourState). s.at) c.self.view_is)) c.note.new.self.bounds refl

pub returns-in-Real-what-clause-toured : goal.returns-in-Real-what-clause-toured
returns-in-Real-what-clause-toured c = λ _. let t = c.requires.tree in code-done t.0 c.args.nodes.now t.1 t.2 c.args.self.now c.note.new.self c.requires.touring c.in_ok-note.ensures c.items-items.result.now (c.items-items.ensures ∙ ap (λ z. (node_at c.args.nodes.now z).items) (ap (λ (s : TourState). s.at) c.self.view_is)) c.next-next.result c.next-next.ensures c.if-next-items.false c.in-Real-what.field-0 c.in-Real-what.is

-- the node is left
pub returns-in-Link-what-clause-touring : goal.returns-in-Link-what-clause-touring
returns-in-Link-what-clause-touring c = λ _. let t = c.requires.tree in code-up t.0 c.args.nodes.now t.1 t.2 c.args.self.now c.note.new.self c.requires.touring c.in_ok-note.ensures c.items-items.result.now (c.items-items.ensures ∙ ap (λ z. (node_at c.args.nodes.now z).items) (ap (λ (s : TourState). s.at) c.self.view_is)) c.next-next.result c.next-next.ensures c.if-next-items.false c.in-Link-what.p c.in-Link-what.is _ (ap (moved c.in-Link-what.p) c.self.view_is)

pub returns-in-Link-what-clause-falls : goal.returns-in-Link-what-clause-falls
returns-in-Link-what-clause-falls c = let t = c.requires.tree in code-falls t.0 c.args.nodes.now t.1 t.2 c.args.self.now c.note.new.self c.requires.touring c.in_ok-note.ensures c.items-items.result.now (c.items-items.ensures ∙ ap (λ z. (node_at c.args.nodes.now z).items) (ap (λ (s : TourState). s.at) c.self.view_is)) _ (ap (λ (s : TourState). s.bounds) c.self.view_is)
