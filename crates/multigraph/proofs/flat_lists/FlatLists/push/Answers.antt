use Rattle.std.proofs.Common.{◌≡◌, ℕ, List, [], ◌∷◌, ◌++◌, length, sym, ap, ◌∙◌, subst}
use Rattle.multigraph.specs.Flat.{cut_from, AreFlat}
use Rattle.multigraph.proofs.Flat.{flat-push, flat-view, flat-again}
use Rattle.multigraph.proofs.flat_lists.FlatLists.push.Goals as goal

pub invariant_of-self-2 : goal.invariant_of-self-2
invariant_of-self-2 g c =
    let values = c.self.inside.values.items in
    let ends = c.self.inside.ends.items in
    let lists = cut_from 0 ends values in
    let x = c.args.list.now in
    let n = c.extend_from_slice.new.self.items in
    let e = c.push_reserved.new.self.items in
    let is : n ≡ values ++ x = c.in_ok-extend_from_slice.ensures.items in
    let count : c.len.result ≡ length (values ++ x) = c.len.ensures ∙ c.extend_from_slice.new.self.ok.0 ∙ ap length is in
    let end : e ≡ ends ++ length (values ++ x) ∷ [] = c.push_reserved.ensures.items ∙ ap (λ (z : List ℕ). z ++ c.len.result ∷ []) c.reserve.ensures.items ∙ ap (λ z. ends ++ z ∷ []) count in
    let more : AreFlat (lists ++ x ∷ []) n e = subst (λ (z : List g.row.T.Denot). AreFlat (lists ++ x ∷ []) z e) (sym is) (subst (λ (z : List ℕ). AreFlat (lists ++ x ∷ []) (values ++ x) z) (sym end) (flat-push lists values ends x c.self.invariant)) in
    flat-again (lists ++ x ∷ []) n e more

pub returns : goal.returns
returns g c =
    let values = c.self.inside.values.items in
    let ends = c.self.inside.ends.items in
    let lists = cut_from 0 ends values in
    let x = c.args.list.now in
    let n = c.extend_from_slice.new.self.items in
    let e = c.push_reserved.new.self.items in
    let is : n ≡ values ++ x = c.in_ok-extend_from_slice.ensures.items in
    let count : c.len.result ≡ length (values ++ x) = c.len.ensures ∙ c.extend_from_slice.new.self.ok.0 ∙ ap length is in
    let end : e ≡ ends ++ length (values ++ x) ∷ [] = c.push_reserved.ensures.items ∙ ap (λ (z : List ℕ). z ++ c.len.result ∷ []) c.reserve.ensures.items ∙ ap (λ z. ends ++ z ∷ []) count in
    let more : AreFlat (lists ++ x ∷ []) n e = subst (λ (z : List g.row.T.Denot). AreFlat (lists ++ x ∷ []) z e) (sym is) (subst (λ (z : List ℕ). AreFlat (lists ++ x ∷ []) (values ++ x) z) (sym end) (flat-push lists values ends x c.self.invariant)) in
    flat-view (lists ++ x ∷ []) n e more ∙ ap (λ (z : List (List g.row.T.Denot)). z ++ x ∷ []) c.self.view_is
