use Rattle.std.proofs.Common.{◌≡◌, ◌+◌, ◌*◌, ◌<◌, ◌≤◌, true, false, List, length, sym, ap, ◌∙◌, subst, arith, Fits-lit}
use Rattle.std.proofs.Math.Facts.{Fits-le}
use Rattle.pair_split.specs.Tutte.{node_at}
use Rattle.pair_split.specs.declared.components.Item.{Item}
use Rattle.pair_split.specs.declared.components.Kind.{Kind}
use Rattle.pair_split.specs.declared.components.What.TheVariants.{Link}
use Rattle.skeletons.specs.Items.{nth_item}
use Rattle.skeletons.specs.Families.{skeleton_graph, system_at}
use Rattle.long_face.specs.Numbers.{AreFaceNumbers}
use Rattle.long_face.specs.Wanted.{on_wanted}
use Rattle.face_weights.proofs.NodeCode.{row-numbers}
use Rattle.skel_compose.proofs.Found.{items-few}
use Rattle.long_face.proofs.RowLemmas.{numbers-places}
use Rattle.long_face.proofs.RowsMade.{numbers-tell}
use Rattle.long_face.proofs.Walked.{asked-first, asked-second, asked-none}
use Rattle.long_face.proofs.walking.asked.Goals as goal

pub link_to-here-requires-clause-few : goal.link_to-here-requires-clause-few
link_to-here-requires-clause-few c =
    let y = c.requires.known in
    let a = c.requires.askable in
    omega (arith, ap length c.items.ensures, items-few y.0 c.args.tree.now y.2 c.args.k a.far y.3)

pub link_back-there-requires-clause-block : goal.link_back-there-requires-clause-block
link_back-there-requires-clause-block c =
    let y = c.requires.known in
    (y.0, y.2, y.3)

pub link_back-there-requires-clause-item : goal.link_back-there-requires-clause-item
link_back-there-requires-clause-item c =
    subst (λ (z : List Item). c.link_to-here.result < length z) c.items.ensures c.link_to-here.ensures.within

pub link_back-there-requires-clause-link : goal.link_back-there-requires-clause-link
link_back-there-requires-clause-link c =
    subst (λ (z : List Item). (nth_item z c.link_to-here.result).what ≡ Link c.args.p) c.items.ensures c.link_to-here.ensures.is

pub overflow_mul-there : goal.overflow_mul-there
overflow_mul-there c =
    let y = c.requires.known in
    let a = c.requires.askable in
    let h : 2 * c.link_back-there.result ≤ 100001 = omega (arith, c.link_back-there.ensures.item, items-few y.0 c.args.tree.now y.2 c.args.p a.near y.3) in
    Fits-le h (Fits-lit tt)

pub overflow_mul-there-2 : goal.overflow_mul-there-2
overflow_mul-there-2 c =
    let y = c.requires.known in
    let a = c.requires.askable in
    let h : 2 * c.link_back-there.result ≤ 100001 = omega (arith, c.link_back-there.ensures.item, items-few y.0 c.args.tree.now y.2 c.args.p a.near y.3) in
    Fits-le h (Fits-lit tt)

pub overflow_add-there : goal.overflow_add-there
overflow_add-there c =
    let y = c.requires.known in
    let a = c.requires.askable in
    let h : 2 * c.link_back-there.result + 1 ≤ 100001 = omega (arith, c.link_back-there.ensures.item, items-few y.0 c.args.tree.now y.2 c.args.p a.near y.3) in
    Fits-le h (Fits-lit tt)

pub overflow_mul-result : goal.overflow_mul-result
overflow_mul-result c =
    let y = c.requires.known in
    let a = c.requires.askable in
    let h : 2 * c.link_to-here.result ≤ 100001 = omega (arith, c.link_to-here.ensures.within, ap length c.items.ensures, items-few y.0 c.args.tree.now y.2 c.args.k a.far y.3) in
    Fits-le h (Fits-lit tt)

pub overflow_add-result : goal.overflow_add-result
overflow_add-result c =
    let y = c.requires.known in
    let a = c.requires.askable in
    let h : 2 * c.link_to-here.result + 1 ≤ 100001 = omega (arith, c.link_to-here.ensures.within, ap length c.items.ensures, items-few y.0 c.args.tree.now y.2 c.args.k a.far y.3) in
    Fits-le h (Fits-lit tt)

pub overflow_mul-result-then-is_wanted-2 : goal.overflow_mul-result-then-is_wanted-2
overflow_mul-result-then-is_wanted-2 c =
    let y = c.requires.known in
    let a = c.requires.askable in
    let h : 2 * c.link_to-here.result ≤ 100001 = omega (arith, c.link_to-here.ensures.within, ap length c.items.ensures, items-few y.0 c.args.tree.now y.2 c.args.k a.far y.3) in
    Fits-le h (Fits-lit tt)

pub at-numbers-requires : goal.at-numbers-requires
at-numbers-requires c =
    let y = c.requires.known in
    let a = c.requires.askable in
    omega (arith, y.4.each, a.near)

pub is_wanted-requires-clause-faces : goal.is_wanted-requires-clause-faces
is_wanted-requires-clause-faces c =
    let y = c.requires.known in
    let a = c.requires.askable in
    (skeleton_graph c.args.tree.now c.args.p, system_at y.1 c.args.p, numbers-tell (skeleton_graph c.args.tree.now c.args.p) (system_at y.1 c.args.p) c.at-numbers.result.now (row-numbers c.args.tree.now y.1 c.args.faces.now y.4 c.args.p a.near c.at-numbers.result.now c.at-numbers.ensures))

pub is_wanted-requires-clause-few : goal.is_wanted-requires-clause-few
is_wanted-requires-clause-few c =
    let y = c.requires.known in
    let a = c.requires.askable in
    let places : length c.at-numbers.result.now ≡ 2 * length (node_at c.args.tree.now c.args.p).items =
    ap length c.at-numbers.ensures ∙ numbers-places y.0 c.args.tree.now y.2 c.args.p a.near y.1 c.args.faces.now y.4 in
    omega (arith, places, items-few y.0 c.args.tree.now y.2 c.args.p a.near y.3)

pub is_wanted-requires-clause-pair : goal.is_wanted-requires-clause-pair
is_wanted-requires-clause-pair c = λ e.
    let y = c.requires.known in
    let a = c.requires.askable in
    let pair = a.pair (sym c.kind-kind.ensures ∙ e) in
    let few = items-few y.0 c.args.tree.now y.2 c.args.p a.near y.3 in
    (omega (arith, pair.first_in, few), omega (arith, pair.second_in, few))

pub is_wanted-requires-clause-dart : goal.is_wanted-requires-clause-dart
is_wanted-requires-clause-dart c =
    let y = c.requires.known in
    let a = c.requires.askable in
    let places : length c.at-numbers.result.now ≡ 2 * length (node_at c.args.tree.now c.args.p).items =
    ap length c.at-numbers.ensures ∙ numbers-places y.0 c.args.tree.now y.2 c.args.p a.near y.1 c.args.faces.now y.4 in
    omega (arith, places, c.link_back-there.ensures.item)

pub is_wanted-requires-2-clause-faces : goal.is_wanted-requires-2-clause-faces
is_wanted-requires-2-clause-faces c =
    let y = c.requires.known in
    let a = c.requires.askable in
    (skeleton_graph c.args.tree.now c.args.p, system_at y.1 c.args.p, numbers-tell (skeleton_graph c.args.tree.now c.args.p) (system_at y.1 c.args.p) c.at-numbers.result.now (row-numbers c.args.tree.now y.1 c.args.faces.now y.4 c.args.p a.near c.at-numbers.result.now c.at-numbers.ensures))

pub is_wanted-requires-2-clause-few : goal.is_wanted-requires-2-clause-few
is_wanted-requires-2-clause-few c =
    let y = c.requires.known in
    let a = c.requires.askable in
    let places : length c.at-numbers.result.now ≡ 2 * length (node_at c.args.tree.now c.args.p).items =
    ap length c.at-numbers.ensures ∙ numbers-places y.0 c.args.tree.now y.2 c.args.p a.near y.1 c.args.faces.now y.4 in
    omega (arith, places, items-few y.0 c.args.tree.now y.2 c.args.p a.near y.3)

pub is_wanted-requires-2-clause-pair : goal.is_wanted-requires-2-clause-pair
is_wanted-requires-2-clause-pair c = λ e.
    let y = c.requires.known in
    let a = c.requires.askable in
    let pair = a.pair (sym c.kind-kind.ensures ∙ e) in
    let few = items-few y.0 c.args.tree.now y.2 c.args.p a.near y.3 in
    (omega (arith, pair.first_in, few), omega (arith, pair.second_in, few))

pub is_wanted-requires-2-clause-dart : goal.is_wanted-requires-2-clause-dart
is_wanted-requires-2-clause-dart c =
    let y = c.requires.known in
    let a = c.requires.askable in
    let places : length c.at-numbers.result.now ≡ 2 * length (node_at c.args.tree.now c.args.p).items =
    ap length c.at-numbers.ensures ∙ numbers-places y.0 c.args.tree.now y.2 c.args.p a.near y.1 c.args.faces.now y.4 in
    omega (arith, places, c.link_back-there.ensures.item)

pub returns-then-is_wanted : goal.returns-then-is_wanted
returns-then-is_wanted c = λ g family block know.
    let a = c.requires.askable in
    let there = c.link_back-there.result in
    let here = c.link_to-here.result in
    let within = c.link_back-there.ensures.item in
    let within_too : here < length (node_at c.args.tree.now c.args.k).items = subst (λ (z : List Item). here < length z) c.items.ensures c.link_to-here.ensures.within in
    let to = c.link_back-there.ensures.link in
    let from = subst (λ (z : List Item). (nth_item z here).what ≡ Link c.args.p) c.items.ensures c.link_to-here.ensures.is in
    let known : AreFaceNumbers (skeleton_graph c.args.tree.now c.args.p) (system_at family c.args.p) c.at-numbers.result.now =
    numbers-tell (skeleton_graph c.args.tree.now c.args.p) (system_at family c.args.p) c.at-numbers.result.now (row-numbers c.args.tree.now family c.args.faces.now know c.args.p a.near c.at-numbers.result.now c.at-numbers.ensures) in
    let told : on_wanted (node_at c.args.tree.now c.args.p).kind (skeleton_graph c.args.tree.now c.args.p) (system_at family c.args.p) c.args.above (2 * there) ≡ true =
    ap (λ (z : Kind). on_wanted z (skeleton_graph c.args.tree.now c.args.p) (system_at family c.args.p) c.args.above (2 * there)) (sym c.kind-kind.ensures) ∙ sym (c.is_wanted.ensures (skeleton_graph c.args.tree.now c.args.p) (system_at family c.args.p) known) ∙ c.if-is_wanted.true in
    asked-first g c.args.tree.now block family know.systems know.plane c.args.p c.args.k c.args.above a there here within within_too to from told

pub returns-then-is_wanted-2 : goal.returns-then-is_wanted-2
returns-then-is_wanted-2 c = λ g family block know.
    let a = c.requires.askable in
    let there = c.link_back-there.result in
    let here = c.link_to-here.result in
    let within = c.link_back-there.ensures.item in
    let within_too : here < length (node_at c.args.tree.now c.args.k).items = subst (λ (z : List Item). here < length z) c.items.ensures c.link_to-here.ensures.within in
    let to = c.link_back-there.ensures.link in
    let from = subst (λ (z : List Item). (nth_item z here).what ≡ Link c.args.p) c.items.ensures c.link_to-here.ensures.is in
    let known : AreFaceNumbers (skeleton_graph c.args.tree.now c.args.p) (system_at family c.args.p) c.at-numbers.result.now =
    numbers-tell (skeleton_graph c.args.tree.now c.args.p) (system_at family c.args.p) c.at-numbers.result.now (row-numbers c.args.tree.now family c.args.faces.now know c.args.p a.near c.at-numbers.result.now c.at-numbers.ensures) in
    let told_2 : on_wanted (node_at c.args.tree.now c.args.p).kind (skeleton_graph c.args.tree.now c.args.p) (system_at family c.args.p) c.args.above (2 * there + 1) ≡ true =
    ap (λ (z : Kind). on_wanted z (skeleton_graph c.args.tree.now c.args.p) (system_at family c.args.p) c.args.above (2 * there + 1)) (sym c.kind-kind.ensures) ∙ sym (c.is_wanted-2.ensures (skeleton_graph c.args.tree.now c.args.p) (system_at family c.args.p) known) ∙ c.if-is_wanted-2.true in
    asked-second g c.args.tree.now block family know.systems know.plane c.args.p c.args.k c.args.above a there here within within_too to from told_2

pub returns : goal.returns
returns c = λ g family block know.
    let a = c.requires.askable in
    let there = c.link_back-there.result in
    let here = c.link_to-here.result in
    let within = c.link_back-there.ensures.item in
    let within_too : here < length (node_at c.args.tree.now c.args.k).items = subst (λ (z : List Item). here < length z) c.items.ensures c.link_to-here.ensures.within in
    let to = c.link_back-there.ensures.link in
    let from = subst (λ (z : List Item). (nth_item z here).what ≡ Link c.args.p) c.items.ensures c.link_to-here.ensures.is in
    let known : AreFaceNumbers (skeleton_graph c.args.tree.now c.args.p) (system_at family c.args.p) c.at-numbers.result.now =
    numbers-tell (skeleton_graph c.args.tree.now c.args.p) (system_at family c.args.p) c.at-numbers.result.now (row-numbers c.args.tree.now family c.args.faces.now know c.args.p a.near c.at-numbers.result.now c.at-numbers.ensures) in
    let told : on_wanted (node_at c.args.tree.now c.args.p).kind (skeleton_graph c.args.tree.now c.args.p) (system_at family c.args.p) c.args.above (2 * there) ≡ false =
    ap (λ (z : Kind). on_wanted z (skeleton_graph c.args.tree.now c.args.p) (system_at family c.args.p) c.args.above (2 * there)) (sym c.kind-kind.ensures) ∙ sym (c.is_wanted.ensures (skeleton_graph c.args.tree.now c.args.p) (system_at family c.args.p) known) ∙ c.if-is_wanted.false in
    let told_2 : on_wanted (node_at c.args.tree.now c.args.p).kind (skeleton_graph c.args.tree.now c.args.p) (system_at family c.args.p) c.args.above (2 * there + 1) ≡ false =
    ap (λ (z : Kind). on_wanted z (skeleton_graph c.args.tree.now c.args.p) (system_at family c.args.p) c.args.above (2 * there + 1)) (sym c.kind-kind.ensures) ∙ sym (c.is_wanted-2.ensures (skeleton_graph c.args.tree.now c.args.p) (system_at family c.args.p) known) ∙ c.if-is_wanted-2.false in
    asked-none g c.args.tree.now block family know.systems know.plane c.args.p c.args.k c.args.above a there here within within_too to from told told_2
