-- What turning a run, and turning the whole round, does to the order of one vertex.
use Rattle.std.proofs.Common.{◌≡◌, ℕ, ◌<◌, ◌⊎◌, true, List, [], ◌∷◌, ◌++◌, length, get_or, reverse, refl, sym, ap, ◌∙◌, subst, inl, inr, arith, append-nil}
use Rattle.std.specs.List.Sorted.{IsPermutation}
use Rattle.std.proofs.lemmas.List.{reverse-append}
use Rattle.std.proofs.lemmas.List.Sorted.{IsPermutation-trans, IsPermutation-append_comm}
use Rattle.std.proofs.lemmas.Bool.{both_ways}
use Rattle.permutations.specs.Members.{is_member, is_distinct}
use Rattle.permutations.specs.Cyclic.{first_or, successor, predecessor, IsTurn}
use Rattle.permutations.specs.Exchange.{exchange}
use Rattle.permutations.proofs.Members.{member-head, member-append_left, member-append_right, member-append_cases, member-reverse, distinct-append_left, distinct-append_apart, distinct-reverse}
use Rattle.permutations.proofs.Successor.{predecessor-member, successor-predecessor}
use Rattle.permutations.proofs.Arrangements.{permutation-distinct}
use Rattle.ring_arena.specs.Links.{Links, AreInverse, AreNow, reversed_at}
use Rattle.rotations.specs.Rotation.{order_at}
use Rattle.rotations.specs.Rings.{dart_at, orders, AreRings}
use Rattle.rotations.specs.Runs.{IsParted}
use Rattle.rotations.specs.declared.rings.Ring.{Ring}
use Rattle.rotations.proofs.Reorder.{IsReordered}
use Rattle.rotations.proofs.Darts.{dart-edge, dart-injective}
use Rattle.rotations.proofs.Cycles.{Chain, chain-join, chain-ext, cycle-from, cycle-to, exchange-kept, links-exchanged, run-reversed, others-kept}
use Rattle.rotations.proofs.Runs.{parts-distinct, in-order, first-in, first-run, turned-permutation}
use Rattle.rotations.proofs.Moves.{IsMadeAt, made-at, node, elsewhere, chain-round, reordered, cut-out, cut-stays}

module _ (tails : List ℕ) (old : Links) (rings : List Ring) (k : AreRings tails old.next old.prev rings) where
  -- before the dart of an edge is that of its predecessor
  dart-before : (w : ℕ) → w < length rings → (e : ℕ) → is_member e (order_at (orders old.next rings) w) ≡ true → get_or old.prev (dart_at tails w e) 0 ≡ dart_at tails w (predecessor (order_at (orders old.next rings) w) e)
  dart-before w l e m =
      ap (λ (x : ℕ). get_or old.prev (dart_at tails w x) 0) (sym (successor-predecessor (order_at (orders old.next rings) w) e (k.rounds w l).distinct))
      ∙ (k.linked w l).back (predecessor (order_at (orders old.next rings) w) e) (predecessor-member (order_at (orders old.next rings) w) e m)

  -- where next and prev are exchanged, the round of each vertex is turned
  pub each-reversed : (new : Links) → AreNow old new (λ d. get_or old.prev d 0) → (w : ℕ) → w < length rings → IsReordered tails w new (order_at (orders old.next rings) w) (reverse (order_at (orders old.next rings) w))
  each-reversed new now w l = record {
    distinct = distinct-reverse (order_at (orders old.next rings) w) (k.rounds w l).distinct;
    members = λ e. member-reverse e (order_at (orders old.next rings) w);
    forth = λ e t.
        let m : is_member e (order_at (orders old.next rings) w) ≡ true = sym (member-reverse e (order_at (orders old.next rings) w)) ∙ t in
        now.behind (dart_at tails w e) (node tails old rings k w l e m) ∙ dart-before w l e m;
  }

module _ (tails : List ℕ) (old : Links) (rings : List Ring) (k : AreRings tails old.next old.prev rings) (inv : AreInverse old) (v : ℕ) (l : v < length rings) where
  -- a run that is the whole round turned
  pub whole-turned : (first last : ℕ) (run : List ℕ) (new : Links) → IsParted (order_at (orders old.next rings) v) first last run [] → AreNow old new (reversed_at old (dart_at tails v first)) → IsMadeAt tails old new rings v (reverse run ++ [])
  whole-turned first last run new p now =
      let turn : IsTurn (order_at (orders old.next rings) v) run = subst (λ (r : List ℕ). IsTurn (order_at (orders old.next rings) v) r) (append-nil run) p.round in
      let once : is_distinct run ≡ true = subst (λ (r : List ℕ). is_distinct r ≡ true) (append-nil run) (parts-distinct (order_at (orders old.next rings) v) first last run [] p (k.rounds v l).distinct) in
      let inside : (e : ℕ) → is_member e run ≡ true → is_member e (order_at (orders old.next rings) v) ≡ true = λ e m. in-order (order_at (orders old.next rings) v) first last run [] p e (member-append_left e run [] m) in
      let at_first : is_member first run ≡ true = first-run (order_at (orders old.next rings) v) first last run [] p in
      let forth : (e : ℕ) → is_member e run ≡ true → get_or old.next (dart_at tails v e) 0 ≡ dart_at tails v (successor run e) =
      cycle-to (dart_at tails v) (λ d. get_or old.next d 0) run 0 once
      (subst (λ (r : List ℕ). Chain (dart_at tails v) (λ d. get_or old.next d 0) r (first_or 0 r)) (append-nil run) (chain-round tails old rings k v l run [] 0 p.round)) in
      subst (λ (r : List ℕ). IsMadeAt tails old new rings v r) (sym (append-nil (reverse run)))
      (made-at tails old rings k v l new (reverse run) now.inverse now.count
      (reordered tails old rings k v l new (reverse run) 0
      (subst (λ (r : List ℕ). IsPermutation (order_at (orders old.next rings) v) r) (append-nil (reverse run)) (turned-permutation (order_at (orders old.next rings) v) first last run [] p))
      (cycle-from (dart_at tails v) (λ d. get_or new.next d 0) (reverse run) 0 (distinct-reverse run once)
      (λ e t. run-reversed (dart_at tails v) (dart-edge tails v) old new inv run once (λ e m. node tails old rings k v l e (inside e m)) forth first at_first now e (sym (member-reverse e run) ∙ t))))
      (λ d w n. others-kept (dart_at tails v) (dart-edge tails v) old new inv run once (λ e m. node tails old rings k v l e (inside e m)) forth first at_first now d w (λ e t s. elsewhere tails old rings k v l d e (inside e t) n (sym s))))

  -- a run turned in its place: cut out, turned, and spliced in
  pub run-turned : (first last y : ℕ) (run c : List ℕ) (mid back new : Links) → IsParted (order_at (orders old.next rings) v) first last run (c ++ y ∷ [])
      → AreNow old mid (exchange (dart_at tails v y) (dart_at tails v last) (λ d. get_or old.next d 0)) → AreNow mid back (reversed_at mid (dart_at tails v first)) → AreNow back new (exchange (dart_at tails v y) (dart_at tails v first) (λ d. get_or back.next d 0))
      → IsMadeAt tails old new rings v (reverse run ++ (c ++ y ∷ []))
  run-turned first last y run c mid back new p now₁ now₂ now₃ =
      made-at tails old rings k v l new (reverse run ++ (c ++ y ∷ [])) now₃.inverse (now₃.count ∙ (now₂.count ∙ now₁.count))
      (reordered tails old rings k v l new (reverse run ++ (c ++ y ∷ [])) first (turned-permutation (order_at (orders old.next rings) v) first last run (c ++ y ∷ []) p) joined)
      (λ d w n.
      exchange-kept (dart_at tails v) (dart-injective tails v) back new y first d now₃ (omega (arith, now₁.count, now₂.count)) (elsewhere tails old rings k v l d y at_y n) (elsewhere tails old rings k v l d first at_first n)
      ∙ (others-kept (dart_at tails v) (dart-edge tails v) mid back now₁.inverse run once nodes ring first in_run now₂ d (omega (arith, now₁.count)) (λ e t s. elsewhere tails old rings k v l d e (inside e (member-append_left e run (c ++ y ∷ []) t)) n (sym s))
      ∙ cut-stays tails old rings k v l first last run c y p mid now₁ d w n))
    where
      parts : is_distinct (run ++ (c ++ y ∷ [])) ≡ true
      parts = parts-distinct (order_at (orders old.next rings) v) first last run (c ++ y ∷ []) p (k.rounds v l).distinct

      once : is_distinct run ≡ true
      once = distinct-append_left run (c ++ y ∷ []) parts

      inside : (e : ℕ) → is_member e (run ++ (c ++ y ∷ [])) ≡ true → is_member e (order_at (orders old.next rings) v) ≡ true
      inside = in-order (order_at (orders old.next rings) v) first last run (c ++ y ∷ []) p

      at_first : is_member first (order_at (orders old.next rings) v) ≡ true
      at_first = first-in (order_at (orders old.next rings) v) first last run (c ++ y ∷ []) p

      in_run : is_member first run ≡ true
      in_run = first-run (order_at (orders old.next rings) v) first last run (c ++ y ∷ []) p

      at_y : is_member y (order_at (orders old.next rings) v) ≡ true
      at_y = inside y (member-append_right y run (c ++ y ∷ []) (member-append_right y c (y ∷ []) (member-head y [])))

      two : Chain (dart_at tails v) (λ d. get_or mid.next d 0) (c ++ y ∷ []) (first_or first (c ++ y ∷ [])) × Chain (dart_at tails v) (λ d. get_or mid.next d 0) run first
      two = cut-out tails old rings k v l first last run c y p mid now₁

      nodes : (e : ℕ) → is_member e run ≡ true → dart_at tails v e < length mid.next
      nodes e m = subst (λ (n : ℕ). dart_at tails v e < n) (sym now₁.count) (node tails old rings k v l e (inside e (member-append_left e run (c ++ y ∷ []) m)))

      ring : (e : ℕ) → is_member e run ≡ true → get_or mid.next (dart_at tails v e) 0 ≡ dart_at tails v (successor run e)
      ring = cycle-to (dart_at tails v) (λ d. get_or mid.next d 0) run first once
          (subst (λ (z : ℕ). Chain (dart_at tails v) (λ d. get_or mid.next d 0) run z) (sym (ap (first_or first) p.is_run.begins)) two.1)

      -- the run, turned, is a ring, and the others are as they were
      turned_ring : Chain (dart_at tails v) (λ d. get_or back.next d 0) (reverse run) (first_or first (reverse run))
      turned_ring = cycle-from (dart_at tails v) (λ d. get_or back.next d 0) (reverse run) first (distinct-reverse run once)
          (λ e t. run-reversed (dart_at tails v) (dart-edge tails v) mid back now₁.inverse run once nodes ring first in_run now₂ e (sym (member-reverse e run) ∙ t))

      other_ring : Chain (dart_at tails v) (λ d. get_or back.next d 0) (c ++ y ∷ []) (first_or first (c ++ y ∷ []))
      other_ring = chain-ext (dart_at tails v) (λ d. get_or mid.next d 0) (λ d. get_or back.next d 0) (c ++ y ∷ []) (first_or first (c ++ y ∷ []))
          (λ e m. others-kept (dart_at tails v) (dart-edge tails v) mid back now₁.inverse run once nodes ring first in_run now₂ (dart_at tails v e)
          (subst (λ (n : ℕ). dart_at tails v e < n) (sym now₁.count) (node tails old rings k v l e (inside e (member-append_right e run (c ++ y ∷ []) m))))
          (λ f t s. both_ways (is_member e (c ++ y ∷ [])) (distinct-append_apart run (c ++ y ∷ []) parts e (subst (λ (x : ℕ). is_member x run ≡ true) (dart-injective tails v f e s) t)) m))
          two.0

      last_first : reverse run ≡ reverse p.is_run.behind ++ first ∷ []
      last_first = ap reverse p.is_run.begins ∙ reverse-append (first ∷ []) p.is_run.behind

      apart : is_distinct ((c ++ y ∷ []) ++ (reverse p.is_run.behind ++ first ∷ [])) ≡ true
      apart = subst (λ (r : List ℕ). is_distinct ((c ++ y ∷ []) ++ r) ≡ true) last_first
          (permutation-distinct (order_at (orders old.next rings) v) ((c ++ y ∷ []) ++ reverse run)
          (IsPermutation-trans (order_at (orders old.next rings) v) (reverse run ++ (c ++ y ∷ [])) ((c ++ y ∷ []) ++ reverse run)
          (turned-permutation (order_at (orders old.next rings) v) first last run (c ++ y ∷ []) p) (IsPermutation-append_comm (reverse run) (c ++ y ∷ [])))
          (k.rounds v l).distinct)

      either : (e : ℕ) → (is_member e (c ++ y ∷ []) ≡ true) ⊎ (is_member e (reverse p.is_run.behind ++ first ∷ []) ≡ true) → is_member e (run ++ (c ++ y ∷ [])) ≡ true
      either e (inl m) = member-append_right e run (c ++ y ∷ []) m
      either e (inr m) = member-append_left e run (c ++ y ∷ []) (sym (member-reverse e run) ∙ (ap (is_member e) last_first ∙ m))

      both : Chain (dart_at tails v) (λ d. get_or new.next d 0) (c ++ y ∷ []) (first_or first (reverse run)) × Chain (dart_at tails v) (λ d. get_or new.next d 0) (reverse p.is_run.behind ++ first ∷ []) (first_or first (c ++ y ∷ []))
      both =
          links-exchanged (dart_at tails v) (dart-injective tails v) back new c y (reverse p.is_run.behind) first (first_or first (c ++ y ∷ [])) (first_or first (reverse run)) now₃ apart
          (λ e m. subst (λ (n : ℕ). dart_at tails v e < n) (sym (now₂.count ∙ now₁.count)) (node tails old rings k v l e (inside e (either e (member-append_cases e (c ++ y ∷ []) (reverse p.is_run.behind ++ first ∷ []) m)))))
          other_ring
          (subst (λ (r : List ℕ). Chain (dart_at tails v) (λ d. get_or back.next d 0) r (first_or first (reverse run))) last_first turned_ring)

      head : first_or first (reverse run ++ (c ++ y ∷ [])) ≡ first_or first (reverse run)
      head = ap (λ (r : List ℕ). first_or first (r ++ (c ++ y ∷ []))) last_first ∙ (begin (reverse p.is_run.behind) ∙ ap (first_or first) (sym last_first))
        where
          begin : (xs : List ℕ) → first_or first ((xs ++ first ∷ []) ++ (c ++ y ∷ [])) ≡ first_or first (xs ++ first ∷ [])
          begin [] = refl
          begin (x ∷ xs) = refl

      again : first_or (first_or first (reverse run)) (c ++ y ∷ []) ≡ first_or first (c ++ y ∷ [])
      again = begin c
        where
          begin : (xs : List ℕ) → first_or (first_or first (reverse run)) (xs ++ y ∷ []) ≡ first_or first (xs ++ y ∷ [])
          begin [] = refl
          begin (x ∷ xs) = refl

      joined : Chain (dart_at tails v) (λ d. get_or new.next d 0) (reverse run ++ (c ++ y ∷ [])) (first_or first (reverse run ++ (c ++ y ∷ [])))
      joined =
          subst (λ (z : ℕ). Chain (dart_at tails v) (λ d. get_or new.next d 0) (reverse run ++ (c ++ y ∷ [])) z) (sym head)
          (chain-join (dart_at tails v) (λ d. get_or new.next d 0) (reverse run) (c ++ y ∷ []) (first_or first (reverse run))
          (subst (λ (z : ℕ). Chain (dart_at tails v) (λ d. get_or new.next d 0) (reverse run) z) (sym again)
          (subst (λ (r : List ℕ). Chain (dart_at tails v) (λ d. get_or new.next d 0) r (first_or first (c ++ y ∷ []))) (sym last_first) both.1))
          both.0)
