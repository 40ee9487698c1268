use Rattle.std.proofs.Common.{◌≡◌, ◌<◌, ◌+◌, ◌++◌, ◌∷◌, ◌∙◌, ℕ, List, [], length, take, slice_index_or, sym, ap, subst, arith}
use Rattle.std.proofs.lemmas.List.{get_or_default, take_all}
use Rattle.skeletons.specs.Families.{system_at}
use Rattle.skel_embed.specs.First.{choice_in}
use Rattle.skel_embed.specs.Flat.{AreFlat}
use Rattle.skel_embed.specs.Outcomes.{choices_in}
use Rattle.skel_embed.proofs.Flat.{flat-more}
use Rattle.skel_embed.proofs.KeptKeys.{choices-in_at, choices-in_many}
use Rattle.skel_embed.proofs.choosing.choices_in.Goals as goal

pub loop-k-preserved : goal.loop-k-preserved
loop-k-preserved c =
    let nodes = c.args.tree.now in
    let lists = choices_in nodes c.args.members.now in
    let k = c.loop-k.k in
    let h : k < length nodes = omega (arith, c.loop-k-test.true, c.node_count-k-end.ensures) in
    let l : k < length lists = omega (arith, h, choices-in_many nodes c.args.members.now) in
    let member : c.index-members-k.result ≡ system_at c.args.members.now k = c.index-members-k.is ∙ get_or_default c.args.members.now k c.index-members-k.result [] (omega (arith, h, c.requires.systems.each)) in
    let x = choice_in nodes k (system_at c.args.members.now k) in
    let item : x ≡ slice_index_or lists k [] = sym (choices-in_at nodes c.args.members.now k h) in
    let keys : c.append_choice.new.keys.items ≡ c.loop-k.keys.items ++ x = c.in_ok-append_choice.ensures {u = tt} ∙ ap (λ (z : List (List ℕ)). c.loop-k.keys.items ++ choice_in nodes k z) member in
    let count : c.len.result ≡ length (c.loop-k.keys.items ++ x) = c.len.ensures ∙ c.append_choice.new.keys.ok.0 ∙ ap length keys in
    let ends : c.push.new.self.items ≡ c.loop-k.ends.items ++ length (c.loop-k.keys.items ++ x) ∷ [] = c.in_ok-push.ensures.items ∙ ap (λ z. c.loop-k.ends.items ++ z ∷ []) count in
    subst (λ (z : List ℕ). AreFlat (take (k + 1) lists) z c.push.new.self.items) (sym keys)
    (subst (λ (z : List ℕ). AreFlat (take (k + 1) lists) (c.loop-k.keys.items ++ x) z) (sym ends) (flat-more lists k c.loop-k.keys.items c.loop-k.ends.items x l item c.loop-k.invariant))

pub returns : goal.returns
returns c =
    let lists = choices_in c.args.tree.now c.args.members.now in
    subst (λ (z : List (List ℕ)). AreFlat z c.loop-k.keys.items c.loop-k.ends.items) (take_all c.loop-k.k lists (omega (arith, c.loop-k-test.false, c.node_count-k-end.ensures, choices-in_many c.args.tree.now c.args.members.now))) c.loop-k.invariant
