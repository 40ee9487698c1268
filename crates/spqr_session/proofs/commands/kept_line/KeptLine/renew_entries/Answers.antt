-- The entries of marked vertices are written anew, vertex by vertex; the others stay.
use Rattle.std.proofs.Common.{◌≡◌, ◌<◌, ◌≤◌, ◌+◌, ℕ, List, Bool, false, length, slice_index, sym, ap, ◌∙◌, subst, arith, refl, length-set}
use Rattle.std.proofs.lemmas.List.{get_or-set_other, get_or_default}
use Rattle.multigraph.specs.Graph.{Multigraph}
use Rattle.multigraph.specs.Marks.{is_marked}
use Rattle.spqr_session.specs.KeptLine.{text_at, edges_around, line_begin, ArePlaces}
use Rattle.spqr_session.specs.declared.commands.kept_line.KeptLine.{KeptLine}
use Rattle.spqr_session.proofs.KeptLines.{IsPartly, partly-begin, partly-end, partly-same, partly-room, partly-written, places-same}
use Rattle.spqr_session.proofs.commands.kept_line.KeptLine.renew_entries.Goals.{then-index+in_ok-renew_entry, else-index}
use Rattle.spqr_session.proofs.commands.kept_line.KeptLine.renew_entries.Goals as goal

-- nothing is written yet
pub loop-v-init : goal.loop-v-init
loop-v-init c = record {
  partly = λ b q written agree. partly-begin c.args.part.now b c.args.r.now q c.args.self.now.line.items c.graph.ensures.numbered.vertex_each written.system.vertices written.text;
  places = refl;
  followers = refl;
  markable = c.requires.markable;
  due = λ x l. refl;
}

-- there is room for an entry in its place
pub renew_entry-requires-clause-room : goal.renew_entry-requires-clause-room
renew_entry-requires-clause-room c =
    let part = c.args.part.now in
    let v : ℕ = c.loop-v.v in
    let before = c.requires.written in
    let count : c.vertex_count-v-end.result ≡ part.graph.vertex_count = c.vertex_count-v-end.ensures.value ∙ ap (λ (h : Multigraph). h.vertex_count) c.graph.ensures.value in
    subst (λ (places : List ℕ). slice_index places v + length (text_at part v (edges_around part c.args.r.now v)) ≤ length c.loop-v.self.line.items) (sym c.loop-v.invariant.places)
    (partly-room part before.0 c.args.r.now before.1 v c.loop-v.self.line.items c.args.self.now.places.items (omega (arith, c.loop-v-test.true, count)) c.requires.system before.2.system before.2.begins
    (c.loop-v.invariant.partly before.0 before.1 before.2 before.3))

-- one vertex more
pub loop-v-preserved : goal.loop-v-preserved
loop-v-preserved c =
    let part = c.args.part.now in
    let r = c.args.r.now in
    let v : ℕ = c.loop-v.v in
    let held = c.loop-v.invariant in
    let count : c.vertex_count-v-end.result ≡ part.graph.vertex_count = c.vertex_count-v-end.ensures.value ∙ ap (λ (h : Multigraph). h.vertex_count) c.graph.ensures.value in
    let in_graph : v < part.graph.vertex_count = omega (arith, c.loop-v-test.true, count) in
    elim c.if-index.branch [
      | then-index+in_ok-renew_entry w ↦
          let entry = w.in_ok-renew_entry.ensures in
          record {
            partly = λ b q written agree. subst (IsPartly part b r q (v + 1)) (sym (ap (λ (s : KeptLine). s.line.items) w.self-is))
                (partly-written part b r q v c.loop-v.self.line.items w.renew_entry.new.self.line.items c.loop-v.self.places.items in_graph c.requires.system written.system
                (subst (ArePlaces part q (length (line_begin b))) (sym held.places) written.begins) (held.partly b q written agree) entry.line);
            places = ap (λ (s : KeptLine). s.places.items) w.self-is ∙ entry.places ∙ held.places;
            followers = ap (λ (s : KeptLine). s.followers.items) w.self-is ∙ entry.followers ∙ held.followers;
            markable = ap (λ (s : KeptLine). length s.changed.items) w.self-is ∙ ap length entry.changed ∙ length-set c.loop-v.self.changed.items v false ∙ held.markable;
            due = λ x l. ap (λ (s : KeptLine). is_marked s.changed.items x) w.self-is ∙ ap (λ (marks : List Bool). is_marked marks x) entry.changed
                ∙ get_or-set_other c.loop-v.self.changed.items v x false false (λ e. absurd (omega (arith, l, e))) ∙ held.due x (omega (arith, l));
          }
      | else-index w ↦
          let unmarked : is_marked c.args.self.now.changed.items v ≡ false =
          sym (held.due v (omega arith)) ∙ get_or_default c.loop-v.self.changed.items v false c.index.result.now (omega (arith, in_graph, held.markable)) ∙ sym c.index.ensures ∙ w.if-index.false in
          record {
            partly = λ b q written agree. subst (IsPartly part b r q (v + 1)) (sym (ap (λ (s : KeptLine). s.line.items) w.self-is))
                (partly-same part b r q v c.loop-v.self.line.items in_graph (agree v in_graph unmarked) (held.partly b q written agree));
            places = ap (λ (s : KeptLine). s.places.items) w.self-is ∙ held.places;
            followers = ap (λ (s : KeptLine). s.followers.items) w.self-is ∙ held.followers;
            markable = ap (λ (s : KeptLine). length s.changed.items) w.self-is ∙ held.markable;
            due = λ x l. ap (λ (s : KeptLine). is_marked s.changed.items x) w.self-is ∙ held.due x (omega (arith, l));
          }
    ]

-- all is written
pub returns-clause-written : goal.returns-clause-written
returns-clause-written c = λ b q written agree.
    let part = c.args.part.now in
    let held = c.loop-v.invariant in
    let count : c.vertex_count-v-end.result ≡ part.graph.vertex_count = c.vertex_count-v-end.ensures.value ∙ ap (λ (h : Multigraph). h.vertex_count) c.graph.ensures.value in
    record {
      system = c.requires.system;
      text = partly-end part b c.args.r.now q c.loop-v.v c.loop-v.self.line.items c.graph.ensures.numbered.vertex_each c.requires.system.vertices (omega (arith, c.loop-v-test.false, count)) (held.partly b q written agree);
      begins = subst (ArePlaces part c.args.r.now (length (line_begin b))) (sym held.places) (places-same part c.args.r.now q (length (line_begin b)) c.args.self.now.places.items c.requires.system written.system written.begins);
    }
