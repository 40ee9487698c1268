use Rattle.std.proofs.Common.{◌≡◌, ◌++◌, ℕ, List, length, sym, ap, ◌∙◌, subst, arith}
use Rattle.std.proofs.lemmas.List.{take_at}
use Rattle.multigraph.specs.Darts.{dart_count}
use Rattle.multigraph.specs.Graph.{Multigraph}
use Rattle.spqr_script.specs.Text.{line_end}
use Rattle.spqr_session.specs.KeptLine.{entries_of, ArePlaces, AreFollowers}
use Rattle.spqr_session.proofs.KeptLines.{line-is}
use Rattle.spqr_session.proofs.commands.kept_line.KeptLine.new.Goals as goal

-- the entries are between what comes before them and the end of the line
pub returns : goal.returns
returns c =
    let part = c.args.part.now in
    let r = c.args.r.now in
    let entries : List ℕ = entries_of part r 0 part.graph.vertex_count in
    let pushed = c.in_ok-push_entries.ensures in
    let long : length c.note_followers.new.followers ≡ length c.in_ok-kept.kept.followers.items = c.note_followers.ensures.noted.number ∙ ap dart_count c.graph.ensures.value ∙ sym c.in_ok-kept.ensures.darts in
    let noted : c.push_entries.new.self.followers.items ≡ c.note_followers.new.followers = pushed.followers ∙ take_at c.note_followers.new.followers _ _ (omega (arith, long, ap length c.deref_mut.ensures.value, c.deref_mut.ensures.len)) in
    record {
      written = record {
        system = c.requires;
        text = c.in_ok-push_word.ensures ∙ ap (λ (t : List ℕ). t ++ line_end) (pushed.line ∙ ap (λ (t : List ℕ). t ++ entries) c.in_ok-kept.ensures.line)
            ∙ sym (line-is part c.args.b r (sym c.graph.ensures.numbered.vertex_each) (sym c.requires.vertices));
        begins = subst (λ (t : List ℕ). ArePlaces part r (length t) c.push_entries.new.self.places.items) c.in_ok-kept.ensures.line pushed.places;
      };
      follow = subst (AreFollowers part.graph r) (sym noted) (subst (λ (g : Multigraph). AreFollowers g r c.note_followers.new.followers) c.graph.ensures.value c.note_followers.ensures.noted);
      markable = pushed.markable;
    }
