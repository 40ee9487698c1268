use Rattle.std.proofs.Common.{◌≡◌, ◌<◌, ◌++◌, length, take, get_or, map, sym, ap, ◌∙◌, append_assoc}
use Rattle.std.specs.List.{concat}
use Rattle.std.proofs.lemmas.List.{get_or_default, length-map}
use Rattle.spqr_script.specs.Head.{cut_text}
use Rattle.spqr_session.proofs.Numbered.{concat-take_more, text_at}
use Rattle.spqr_session.proofs.head.push_cuts.Goals as goal

pub loop-v-preserved : goal.loop-v-preserved
loop-v-preserved c =
    let i = c.loop-v.v-index in
    let cuts = c.args.cut_vertices.now in
    let out = c.args.out.now.items in
    let v = get_or cuts i 0 in
    let within : i < length cuts = c.loop-v-test.true in
    let line : c.push_cut_line.new.out.items ≡ c.loop-v.out.items ++ cut_text v = c.in_ok-push_cut_line.ensures in
    line ∙ ap (λ l. l ++ cut_text v) c.loop-v.invariant ∙ append_assoc out (concat (take i (map cut_text cuts))) (cut_text v)
    ∙ ap (λ l. out ++ l) (sym (concat-take_more (map cut_text cuts) i (cut_text v) (rw (length-map cuts cut_text) within) (text_at cut_text cuts i v within (get_or_default cuts i v 0 within))))
