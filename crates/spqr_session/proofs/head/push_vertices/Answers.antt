use Rattle.std.proofs.Common.{◌≡◌, ◌++◌, ℤ, take, get_or, pos, sym, ap, ◌∙◌, append_assoc, rules}
use Rattle.std.proofs.lemmas.List.{get_or_default}
use Rattle.std.proofs.lemmas.Int.{to_z-of_z}
use Rattle.std.specs.Int.{w64}
use Rattle.spqr_script.specs.Head.{vertex_text}
use Rattle.spqr_session.specs.Head.{numbered}
use Rattle.spqr_session.proofs.Numbered.{numbered-take}
use Rattle.spqr_session.proofs.head.push_vertices.Goals as goal

pub loop-v-preserved : goal.loop-v-preserved
loop-v-preserved c =
    let v = c.loop-v.v in
    let ids = c.args.ids.now in
    let out = c.args.out.now.items in
    let id = get_or ids v (pos 0) in
    let line : c.push_vertex_line.new.out.items ≡ c.loop-v.out.items ++ vertex_text v id =
    c.in_ok-push_vertex_line.ensures ∙ ap (λ (z : ℤ). c.loop-v.out.items ++ vertex_text v z) (to_z-of_z w64 id (search rules)) in
    line ∙ ap (λ l. l ++ vertex_text v id) c.loop-v.invariant ∙ append_assoc out (numbered vertex_text 0 (take v ids)) (vertex_text v id)
    ∙ ap (λ l. out ++ l) (sym (numbered-take vertex_text ids v id c.loop-v-test.true (get_or_default ids v id (pos 0) c.loop-v-test.true)))
