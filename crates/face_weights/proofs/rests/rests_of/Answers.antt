use Rattle.std.proofs.Common.{◌≡◌, ◌≢◌, ◌<◌, ◌≤◌, ◌*◌, ◌/◌, ℕ, List, length, sym, ap, ◌∙◌, subst}
use Rattle.std.proofs.lemmas.Result.{IfOk-weaker}
use Rattle.permutations.specs.Count.{sum_below}
use Rattle.multigraph.specs.Graph.{max_edges}
use Rattle.pair_split.specs.Tutte.{node_at}
use Rattle.pair_split.specs.declared.components.Kind.TheVariants.{P}
use Rattle.face_weights.specs.Numbers.{number_at}
use Rattle.face_weights.specs.Sums.{weight_in}
use Rattle.face_weights.proofs.NodeCode.{other-kind, bond-several, row-numbers, rest-pairs, numbers-twice, numbers-within, totals-own, totals-rest}
use Rattle.face_weights.proofs.Totals.{share}
use Rattle.face_weights.proofs.rests.rests_of.Goals as goal

pub pair_rests-requires : goal.pair_rests-requires
pair_rests-requires c = record { several = subst (λ n. 2 ≤ n) (sym c.requires.number) (bond-several c.requires.block.0 c.args.tree.now c.requires.block.1 c.args.k c.requires.node (sym c.in-P.ensures)) }

pub at-numbers-requires : goal.at-numbers-requires
at-numbers-requires c = subst (λ n. c.args.k < n) (sym c.requires.faces.1.each) c.requires.node

pub totals_of-requires : goal.totals_of-requires
totals_of-requires c =
    let family = c.requires.faces.0 in
    let read = row-numbers c.args.tree.now family c.args.faces.now c.requires.faces.1 c.args.k c.requires.node c.at-numbers.result.now c.at-numbers.ensures in
    record {
      number = numbers-twice c.requires.block.0 c.args.tree.now c.requires.block.1 c.args.k c.requires.node family c.args.weights.now c.requires.number c.at-numbers.result.now read;
      within = numbers-within c.requires.block.0 c.args.tree.now c.requires.block.1 c.args.k c.requires.node family c.args.weights.now c.requires.number c.at-numbers.result.now read;
      few = subst (λ n. sum_below n (weight_in c.args.weights.now) ≤ 2 * max_edges) (sym c.requires.number) c.requires.few;
    }

pub face_rests-requires : goal.face_rests-requires
face_rests-requires c =
    let family = c.requires.faces.0 in
    let read = row-numbers c.args.tree.now family c.args.faces.now c.requires.faces.1 c.args.k c.requires.node c.at-numbers.result.now c.at-numbers.ensures in
    record {
      number = numbers-twice c.requires.block.0 c.args.tree.now c.requires.block.1 c.args.k c.requires.node family c.args.weights.now c.requires.number c.at-numbers.result.now read;
      within = λ d m. subst (λ n. number_at c.at-numbers.result.now d < n) (sym (ap length c.deref.ensures.value ∙ c.in_ok-totals_of-in-S.ensures.number)) (numbers-within c.requires.block.0 c.args.tree.now c.requires.block.1 c.args.k c.requires.node family c.args.weights.now c.requires.number c.at-numbers.result.now read d m);
      own = λ d m. subst (λ z. weight_in c.args.weights.now (d / 2) ≤ weight_in z (number_at c.at-numbers.result.now d)) (sym c.deref.ensures.value) (totals-own c.requires.block.0 c.args.tree.now c.requires.block.1 c.args.k c.requires.node family c.args.weights.now c.requires.number c.at-numbers.result.now read c.totals_of.new.totals.items c.in_ok-totals_of-in-S.ensures.each d m);
    }

pub returns-in-P-clause-each : goal.returns-in-P-clause-each
returns-in-P-clause-each c = IfOk-weaker c.pair_rests.result _ _ (λ u h family know i l. rest-pairs c.requires.block.0 c.args.tree.now c.requires.block.1 c.args.k c.requires.node family c.args.weights.now c.requires.number i (weight_in c.pair_rests.new.rests.items i) (sym c.in-P.ensures)
    (h i (subst (λ n. i < n) (sym c.requires.number) l))) c.pair_rests.ensures.each

pub returns-in_ok-totals_of-in-S : goal.returns-in_ok-totals_of-in-S
returns-in_ok-totals_of-in-S c =
    let other : (node_at c.args.tree.now c.args.k).kind ≢ P = λ e. other-kind c.kind.result c.in-S.is (c.kind.ensures ∙ e) in
    record {
      number = IfOk-weaker c.face_rests.result _ _ (λ u e. e ∙ c.requires.number) c.face_rests.ensures.number;
      each = IfOk-weaker c.face_rests.result _ _ (λ u h family know i l.
          let read = row-numbers c.args.tree.now family c.args.faces.now know c.args.k c.requires.node c.at-numbers.result.now c.at-numbers.ensures in
          totals-rest c.requires.block.0 c.args.tree.now c.requires.block.1 c.args.k c.requires.node family c.args.weights.now c.requires.number c.at-numbers.result.now read c.deref.result.now
          (subst (λ (z : List ℕ). (t : ℕ) → t < length c.at-numbers.result.now → weight_in z t ≡ sum_below (length c.at-numbers.result.now) (share c.at-numbers.result.now c.args.weights.now t)) (sym c.deref.ensures.value) c.in_ok-totals_of-in-S.ensures.each) i (weight_in c.face_rests.new.rests.items i) other l
          (h i (subst (λ n. i < n) (sym c.requires.number) l))) c.face_rests.ensures.each;
    }
