use Rattle.std.proofs.Common.{◌≡◌, ◌+◌, ◌*◌, ◌/◌, ◌%◌, ◌<◌, ◌≤◌, inl, refl, sym, ◌∙◌, subst, arith}
use Rattle.dart_maps.proofs.Darts.{twin-even}
use Rattle.long_face.specs.Heaviest.{number_in}
use Rattle.long_face.proofs.Best.{two-kinds}
use Rattle.long_face.proofs.wanting.want_of.Goals as goal

pub bounds-sums-twin : goal.bounds-sums-twin
bounds-sums-twin c = let r = c.requires.sides c.in-R.is in subst (λ n. c.twin.result < n) (sym r.1) (c.twin.ensures.within r.0 r.2)

pub returns-else-dart-eq0 : goal.returns-else-dart-eq0
returns-else-dart-eq0 c =
    let d = c.args.dart in
    let weights = c.args.weights.now in
    let o = c.other_greatest-other.ensures in
    let even : (2 * (d / 2)) % 2 ≡ 0 = omega arith in
    let r = c.requires.bond c.in-P.is in
    let odd : d ≡ 2 * (d / 2) + 1 = omega (arith, c.if-dart-eq0.false) in
    record {
      same = refl;
      pair = λ e. record { first_in = omega (arith, r.2); second_in = o.within; two = λ q. o.apart (sym q); on = inl (odd ∙ sym (twin-even (2 * (d / 2)) even)) };
      bounds = λ e h l n. let m : number_in weights h ≤ number_in weights c.other_greatest-other.result = o.most h l n in omega (arith, m);
      reached = λ e. (c.other_greatest-other.result, o.within, o.apart, refl);
      sides = λ e. absurd (two-kinds c.args.kind c.in-P.is e);
    }
