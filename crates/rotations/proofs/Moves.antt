-- What the exchanges and reversals of the calls do to the order of one vertex, and that the others keep theirs.
use Rattle.std.proofs.Common.{◌≡◌, ◌≢◌, ℕ, ◌<◌, cond, eqb, ◌⊎◌, true, List, [], ◌∷◌, ◌++◌, length, get_or, refl, sym, ap, ◌∙◌, subst, inl, inr, arith, append_assoc}
use Rattle.std.specs.List.Sorted.{IsPermutation}
use Rattle.std.proofs.lemmas.List.Sorted.{IsPermutation-trans, IsPermutation-append_comm, IsPermutation-append_left}
use Rattle.std.proofs.lemmas.List.{length-map, get_or_past}
use Rattle.std.proofs.lemmas.Bool.{cases_eq, cases_lt, eq-eqb, ne_eqb, cond-true, cond-false}
use Rattle.permutations.specs.Members.{is_member, is_distinct}
use Rattle.permutations.specs.Cyclic.{first_or, from_least, IsTurn}
use Rattle.permutations.specs.Exchange.{exchange}
use Rattle.permutations.proofs.Members.{member-head, member-append_left, member-append_right, member-append_cases, member-append_comm, distinct-append_comm}
use Rattle.permutations.proofs.Arrangements.{permutation-member, permutation-distinct}
use Rattle.permutations.proofs.Turned.{IsTurn-permutation}
use Rattle.permutations.proofs.NormalForm.{written-first}
use Rattle.ring_arena.specs.Links.{Links, AreInverse, AreNow}
use Rattle.rotations.specs.Rotation.{order_at}
use Rattle.rotations.specs.Rings.{dart_at, orders, AreRings}
use Rattle.permutations.specs.Ring.{turns}
use Rattle.rotations.specs.Runs.{IsParted, IsKeptElsewhere}
use Rattle.rotations.specs.declared.rings.Ring.{Ring}
use Rattle.rotations.proofs.Darts.{dart-in, dart-injective}
use Rattle.rotations.proofs.Cycles.{Chain, chain-join, chain-front, chain-back, cycle-from, cycle-to, cycle-swap, exchange-kept, links-exchanged}
use Rattle.rotations.proofs.Reorder.{IsReordered, new-order, new-rings, new-vertices}
use Rattle.rotations.proofs.Runs.{parts-distinct, in-order, last-in, moved-permutation}

-- the order of v is another one, and the others stay
pub record IsMadeAt (tails : List ℕ) (old new : Links) (rings : List Ring) (v : ℕ) (order : List ℕ) : Type 0 where
  pub kept : AreRings tails new.next new.prev rings
  pub here : order_at (orders new.next rings) v ≡ from_least order
  pub elsewhere : IsKeptElsewhere (orders old.next rings) (orders new.next rings) v

module _ (tails : List ℕ) (old : Links) (rings : List Ring) (k : AreRings tails old.next old.prev rings) (v : ℕ) (l : v < length rings) where
  -- links that follow another order of the edges at v, and elsewhere are the same
  pub made-at : (new : Links) (order : List ℕ) → AreInverse new → length new.next ≡ length old.next → IsReordered tails v new (order_at (orders old.next rings) v) order
      → ((d : ℕ) → d < length old.next → get_or tails d 0 ≢ v → get_or new.next d 0 ≡ get_or old.next d 0) → IsMadeAt tails old new rings v order
  made-at new order inv count r stay = record {
    kept = new-rings tails old new rings k inv count (λ w. cond (eqb w v) order (order_at (orders old.next rings) w)) each;
    here = new-order tails old new rings k inv count (λ w. cond (eqb w v) order (order_at (orders old.next rings) w)) each v l ∙ ap from_least (cond-true (eqb v v) order (order_at (orders old.next rings) v) (eq-eqb v v refl));
    elsewhere = record {
      vertices = new-vertices tails old new rings k inv count (λ w. cond (eqb w v) order (order_at (orders old.next rings) w)) each;
      others = λ w n. elim (cases_lt w (length rings)) [
        | inl m ↦
            new-order tails old new rings k inv count (λ w. cond (eqb w v) order (order_at (orders old.next rings) w)) each w m
            ∙ (ap from_least (cond-false (eqb w v) order (order_at (orders old.next rings) w) (ne_eqb w v n))
            ∙ written-first (order_at (orders old.next rings) w) (λ e t. k.least w e m t))
        | inr m ↦
            get_or_past (orders new.next rings) w [] (omega (arith, length-map rings (λ (ring : Ring). turns new.next ring.first ring.degree)))
            ∙ sym (get_or_past (orders old.next rings) w [] (omega (arith, length-map rings (λ (ring : Ring). turns old.next ring.first ring.degree))))
      ];
    };
  }
    where
      each : (w : ℕ) → w < length rings → IsReordered tails w new (order_at (orders old.next rings) w) (cond (eqb w v) order (order_at (orders old.next rings) w))
      each w m = elim (cases_eq w v) [
        | inl same ↦ subst (λ (o : List ℕ). IsReordered tails w new (order_at (orders old.next rings) w) o) (sym (cond-true (eqb w v) order (order_at (orders old.next rings) w) (eq-eqb w v same)))
            (subst (λ (u : ℕ). IsReordered tails u new (order_at (orders old.next rings) u) order) (sym same) r)
        | inr n ↦ subst (λ (o : List ℕ). IsReordered tails w new (order_at (orders old.next rings) w) o) (sym (cond-false (eqb w v) order (order_at (orders old.next rings) w) (ne_eqb w v n)))
            (record {
              distinct = (k.rounds w m).distinct;
              members = λ e. refl;
              forth = λ e t. stay (dart_at tails w e) (dart-in tails w e (length old.next) (omega (arith, (k.rounds w m).darts e t, k.next_long)))
                  (λ same. n (sym ((k.rounds w m).tail e t) ∙ same)) ∙ (k.linked w m).forth e t;
            })
      ]

  -- darts of the edges at v are nodes, and leave v
  pub node : (e : ℕ) → is_member e (order_at (orders old.next rings) v) ≡ true → dart_at tails v e < length old.next
  node e m = dart-in tails v e (length old.next) (omega (arith, (k.rounds v l).darts e m, k.next_long))

  pub elsewhere : (d e : ℕ) → is_member e (order_at (orders old.next rings) v) ≡ true → get_or tails d 0 ≢ v → d ≢ dart_at tails v e
  elsewhere d e m n same = n (ap (λ (z : ℕ). get_or tails z 0) same ∙ (k.rounds v l).tail e m)

  -- the order is a chain back to its first edge, from each place on
  pub chain-round : (a b : List ℕ) (z : ℕ) → IsTurn (order_at (orders old.next rings) v) (a ++ b) → Chain (dart_at tails v) (λ d. get_or old.next d 0) (a ++ b) (first_or z (a ++ b))
  chain-round a b z t =
      subst (λ (o : List ℕ). Chain (dart_at tails v) (λ d. get_or old.next d 0) o (first_or z o)) (sym t.after)
      (cycle-swap (dart_at tails v) (λ d. get_or old.next d 0) t.front t.back z
      (subst (λ (o : List ℕ). Chain (dart_at tails v) (λ d. get_or old.next d 0) o (first_or z o)) t.before
      (cycle-from (dart_at tails v) (λ d. get_or old.next d 0) (order_at (orders old.next rings) v) z (k.rounds v l).distinct (k.linked v l).forth)))

  -- a chain of the same edges back to its first is the new order
  pub reordered : (new : Links) (order : List ℕ) (z : ℕ) → IsPermutation (order_at (orders old.next rings) v) order → Chain (dart_at tails v) (λ d. get_or new.next d 0) order (first_or z order) → IsReordered tails v new (order_at (orders old.next rings) v) order
  reordered new order z p c =
      let once : is_distinct order ≡ true = permutation-distinct (order_at (orders old.next rings) v) order p (k.rounds v l).distinct in
      record {
        distinct = once;
        members = λ e. permutation-member (order_at (orders old.next rings) v) order e p;
        forth = cycle-to (dart_at tails v) (λ d. get_or new.next d 0) order z once c;
      }

  -- a run is cut out: it is a ring then, and so are the others
  module _ (first last : ℕ) (run c : List ℕ) (y : ℕ) (p : IsParted (order_at (orders old.next rings) v) first last run (c ++ y ∷ [])) (mid : Links)
      (now : AreNow old mid (exchange (dart_at tails v y) (dart_at tails v last) (λ d. get_or old.next d 0))) where
    parts : is_distinct (run ++ (c ++ y ∷ [])) ≡ true
    parts = parts-distinct (order_at (orders old.next rings) v) first last run (c ++ y ∷ []) p (k.rounds v l).distinct

    member : (e : ℕ) → is_member e (run ++ (c ++ y ∷ [])) ≡ true → is_member e (order_at (orders old.next rings) v) ≡ true
    member = in-order (order_at (orders old.next rings) v) first last run (c ++ y ∷ []) p

    pub cut-out : Chain (dart_at tails v) (λ d. get_or mid.next d 0) (c ++ y ∷ []) (first_or first (c ++ y ∷ [])) × Chain (dart_at tails v) (λ d. get_or mid.next d 0) run first
    cut-out =
        let round : Chain (dart_at tails v) (λ d. get_or old.next d 0) (run ++ (c ++ y ∷ [])) first = subst (λ (z : ℕ). Chain (dart_at tails v) (λ d. get_or old.next d 0) (run ++ (c ++ y ∷ [])) z) (ap (λ (r : List ℕ). first_or 0 (r ++ (c ++ y ∷ []))) p.is_run.begins) (chain-round run (c ++ y ∷ []) 0 p.round) in
        let both =
        links-exchanged (dart_at tails v) (dart-injective tails v) old mid c y p.is_run.ahead last first (first_or first (c ++ y ∷ [])) now
        (subst (λ (r : List ℕ). is_distinct ((c ++ y ∷ []) ++ r) ≡ true) p.is_run.ends (distinct-append_comm run (c ++ y ∷ []) parts))
        (λ e m. node e (member e (either e (member-append_cases e (c ++ y ∷ []) (p.is_run.ahead ++ last ∷ []) m))))
        (chain-back (dart_at tails v) (λ d. get_or old.next d 0) run (c ++ y ∷ []) first round)
        (subst (λ (r : List ℕ). Chain (dart_at tails v) (λ d. get_or old.next d 0) r (first_or first (c ++ y ∷ []))) p.is_run.ends (chain-front (dart_at tails v) (λ d. get_or old.next d 0) run (c ++ y ∷ []) first round)) in
        (both.0, subst (λ (r : List ℕ). Chain (dart_at tails v) (λ d. get_or mid.next d 0) r first) (sym p.is_run.ends) both.1)
      where
        either : (e : ℕ) → (is_member e (c ++ y ∷ []) ≡ true) ⊎ (is_member e (p.is_run.ahead ++ last ∷ []) ≡ true) → is_member e (run ++ (c ++ y ∷ [])) ≡ true
        either e (inl m) = member-append_right e run (c ++ y ∷ []) m
        either e (inr m) = member-append_left e run (c ++ y ∷ []) (subst (λ (r : List ℕ). is_member e r ≡ true) (sym p.is_run.ends) m)

    pub cut-stays : (d : ℕ) → d < length old.next → get_or tails d 0 ≢ v → get_or mid.next d 0 ≡ get_or old.next d 0
    cut-stays d w n =
        exchange-kept (dart_at tails v) (dart-injective tails v) old mid y last d now w
        (elsewhere d y (member y (member-append_right y run (c ++ y ∷ []) (member-append_right y c (y ∷ []) (member-head y [])))) n)
        (elsewhere d last (last-in (order_at (orders old.next rings) v) first last run (c ++ y ∷ []) p) n)

  -- and put in behind an edge of the others
  pub run-moved : (first last edge y : ℕ) (run front back c : List ℕ) (mid new : Links) → IsParted (order_at (orders old.next rings) v) first last run (front ++ edge ∷ back) → front ++ edge ∷ back ≡ c ++ y ∷ []
      → AreNow old mid (exchange (dart_at tails v y) (dart_at tails v last) (λ d. get_or old.next d 0)) → AreNow mid new (exchange (dart_at tails v edge) (dart_at tails v last) (λ d. get_or mid.next d 0))
      → IsMadeAt tails old new rings v (front ++ edge ∷ (run ++ back))
  run-moved first last edge y run front back c mid new p ends now₁ now₂ =
      made-at new (front ++ edge ∷ (run ++ back)) now₂.inverse (now₂.count ∙ now₁.count)
      (reordered new (front ++ edge ∷ (run ++ back)) first (moved-permutation (order_at (orders old.next rings) v) first last edge run front back p) final)
      (λ d w n. exchange-kept (dart_at tails v) (dart-injective tails v) mid new edge last d now₂ (omega (arith, now₁.count)) (elsewhere d edge at_edge n) (elsewhere d last at_last n)
      ∙ cut-stays first last run c y q mid now₁ d w n)
    where
      q : IsParted (order_at (orders old.next rings) v) first last run (c ++ y ∷ [])
      q = subst (λ (o : List ℕ). IsParted (order_at (orders old.next rings) v) first last run o) ends p

      at_last : is_member last (order_at (orders old.next rings) v) ≡ true
      at_last = last-in (order_at (orders old.next rings) v) first last run (front ++ edge ∷ back) p

      at_edge : is_member edge (order_at (orders old.next rings) v) ≡ true
      at_edge = in-order (order_at (orders old.next rings) v) first last run (front ++ edge ∷ back) p edge (member-append_right edge run (front ++ edge ∷ back) (member-append_right edge front (edge ∷ back) (member-head edge back)))

      turned-others : ((front ++ edge ∷ []) ++ back ≡ front ++ edge ∷ back) × (back ++ (front ++ edge ∷ []) ≡ (back ++ front) ++ edge ∷ [])
      turned-others = (append_assoc front (edge ∷ []) back, sym (append_assoc back front (edge ∷ [])))

      two : Chain (dart_at tails v) (λ d. get_or mid.next d 0) (c ++ y ∷ []) (first_or first (c ++ y ∷ [])) × Chain (dart_at tails v) (λ d. get_or mid.next d 0) run first
      two = cut-out first last run c y q mid now₁

      ring : Chain (dart_at tails v) (λ d. get_or mid.next d 0) ((back ++ front) ++ edge ∷ []) (first_or first ((back ++ front) ++ edge ∷ []))
      ring =
          subst (λ (o : List ℕ). Chain (dart_at tails v) (λ d. get_or mid.next d 0) o (first_or first o)) turned-others.1
          (cycle-swap (dart_at tails v) (λ d. get_or mid.next d 0) (front ++ edge ∷ []) back first
          (subst (λ (o : List ℕ). Chain (dart_at tails v) (λ d. get_or mid.next d 0) o (first_or first o)) (sym (turned-others.0 ∙ ends)) two.0))

      as_others : (e : ℕ) → is_member e ((back ++ front) ++ edge ∷ []) ≡ is_member e (front ++ edge ∷ back)
      as_others e = ap (is_member e) (sym turned-others.1) ∙ (member-append_comm e back (front ++ edge ∷ []) ∙ ap (is_member e) turned-others.0)

      once : is_distinct (((back ++ front) ++ edge ∷ []) ++ (p.is_run.ahead ++ last ∷ [])) ≡ true
      once = subst (λ (r : List ℕ). is_distinct (((back ++ front) ++ edge ∷ []) ++ r) ≡ true) p.is_run.ends
          (permutation-distinct (order_at (orders old.next rings) v) (((back ++ front) ++ edge ∷ []) ++ run) shuffled (k.rounds v l).distinct)
        where
          shuffled : IsPermutation (order_at (orders old.next rings) v) (((back ++ front) ++ edge ∷ []) ++ run)
          shuffled =
              IsPermutation-trans (order_at (orders old.next rings) v) (run ++ (front ++ edge ∷ back)) (((back ++ front) ++ edge ∷ []) ++ run) (IsTurn-permutation (order_at (orders old.next rings) v) (run ++ (front ++ edge ∷ back)) p.round)
              (IsPermutation-trans (run ++ (front ++ edge ∷ back)) ((front ++ edge ∷ back) ++ run) (((back ++ front) ++ edge ∷ []) ++ run) (IsPermutation-append_comm run (front ++ edge ∷ back))
              (IsPermutation-append_left run (front ++ edge ∷ back) ((back ++ front) ++ edge ∷ [])
              (subst (λ (o : List ℕ). IsPermutation o ((back ++ front) ++ edge ∷ [])) turned-others.0 (subst (λ (o : List ℕ). IsPermutation ((front ++ edge ∷ []) ++ back) o) turned-others.1 (IsPermutation-append_comm (front ++ edge ∷ []) back)))))

      both : Chain (dart_at tails v) (λ d. get_or new.next d 0) ((back ++ front) ++ edge ∷ []) first × Chain (dart_at tails v) (λ d. get_or new.next d 0) (p.is_run.ahead ++ last ∷ []) (first_or first ((back ++ front) ++ edge ∷ []))
      both =
          links-exchanged (dart_at tails v) (dart-injective tails v) mid new (back ++ front) edge p.is_run.ahead last (first_or first ((back ++ front) ++ edge ∷ [])) first now₂ once
          (λ e m. subst (λ (n : ℕ). dart_at tails v e < n) (sym now₁.count) (node e (in-order (order_at (orders old.next rings) v) first last run (front ++ edge ∷ back) p e (either e (member-append_cases e ((back ++ front) ++ edge ∷ []) (p.is_run.ahead ++ last ∷ []) m)))))
          ring (subst (λ (r : List ℕ). Chain (dart_at tails v) (λ d. get_or mid.next d 0) r first) p.is_run.ends two.1)
        where
          either : (e : ℕ) → (is_member e ((back ++ front) ++ edge ∷ []) ≡ true) ⊎ (is_member e (p.is_run.ahead ++ last ∷ []) ≡ true) → is_member e (run ++ (front ++ edge ∷ back)) ≡ true
          either e (inl m) = member-append_right e run (front ++ edge ∷ back) (sym (as_others e) ∙ m)
          either e (inr m) = member-append_left e run (front ++ edge ∷ back) (subst (λ (r : List ℕ). is_member e r ≡ true) (sym p.is_run.ends) m)

      joined : Chain (dart_at tails v) (λ d. get_or new.next d 0) (run ++ ((back ++ front) ++ edge ∷ [])) (first_or first (run ++ ((back ++ front) ++ edge ∷ [])))
      joined =
          subst (λ (z : ℕ). Chain (dart_at tails v) (λ d. get_or new.next d 0) (run ++ ((back ++ front) ++ edge ∷ [])) z) (sym (ap (λ (r : List ℕ). first_or first (r ++ ((back ++ front) ++ edge ∷ []))) p.is_run.begins))
          (chain-join (dart_at tails v) (λ d. get_or new.next d 0) run ((back ++ front) ++ edge ∷ []) first
          (subst (λ (r : List ℕ). Chain (dart_at tails v) (λ d. get_or new.next d 0) r (first_or first ((back ++ front) ++ edge ∷ []))) (sym p.is_run.ends) both.1) both.0)

      final : Chain (dart_at tails v) (λ d. get_or new.next d 0) (front ++ edge ∷ (run ++ back)) (first_or first (front ++ edge ∷ (run ++ back)))
      final =
          subst (λ (o : List ℕ). Chain (dart_at tails v) (λ d. get_or new.next d 0) o (first_or first o)) (append_assoc front (edge ∷ []) (run ++ back))
          (cycle-swap (dart_at tails v) (λ d. get_or new.next d 0) (run ++ back) (front ++ edge ∷ []) first
          (subst (λ (o : List ℕ). Chain (dart_at tails v) (λ d. get_or new.next d 0) o (first_or first o)) (ap (λ (t : List ℕ). run ++ t) (sym turned-others.1) ∙ sym (append_assoc run back (front ++ edge ∷ []))) joined))
