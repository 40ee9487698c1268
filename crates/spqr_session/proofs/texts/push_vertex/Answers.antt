use Rattle.std.proofs.Common.{◌≡◌, ◌<◌, ℕ, [], length, slice_index, slice_index_or, set, sym, ap, ◌∙◌, subst}
use Rattle.multigraph.specs.Part.{GraphPart}
use Rattle.spqr_session.specs.Texts.{bytes_of, own_numbers, with_numbers}
use Rattle.spqr_session.proofs.NumberTexts.{ok-further, put-text}
use Rattle.spqr_session.proofs.texts.push_vertex.Goals as goal

-- the text at the vertex of the graph has these edges more
pub returns : goal.returns
returns c =
    let texts = c.args.texts.now.items in
    let block = c.args.block.now in
    let more = own_numbers block.tree block.entry c.args.i in
    let is : c.vertex-v.result ≡ slice_index block.tree.part.vertices c.args.i = c.vertex-v.ensures ∙ ap (λ (p : GraphPart). slice_index p.vertices c.args.i) c.part.ensures in
    let within : c.vertex-v.result < length texts = subst (λ (w : ℕ). w < length texts) (sym is) c.requires.within in
    ok-further c.push_own.result _ _
    (λ e. put-text texts c.vertex-v.result c.index_mut-text.result.now c.push_own.new.text more within c.index_mut-text.ensures.value e
    ∙ ap (λ (w : ℕ). set (bytes_of texts) w (with_numbers (slice_index_or (bytes_of texts) w []) more)) is)
    c.push_own.ensures
