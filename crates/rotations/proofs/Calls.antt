-- What the calls that change a rotation system leave, by what the steps of their bodies say.
use Rattle.std.proofs.Common.{◌≡◌, ◌≢◌, ℕ, ◌+◌, ◌*◌, ◌/◌, ◌<◌, true, List, [], ◌∷◌, ◌++◌, length, get_or, reverse, refl, sym, ap, ◌∙◌, subst, arith}
use Rattle.std.specs.List.{Contains}
use Rattle.std.proofs.lemmas.List.{length-map, get_or-map, ext_get_or}
use Rattle.permutations.specs.Members.{is_member}
use Rattle.permutations.specs.Cyclic.{successor, predecessor, from_least}
use Rattle.permutations.specs.Exchange.{exchange}
use Rattle.permutations.proofs.Members.{member-head, member-append_right}
use Rattle.permutations.proofs.Successor.{predecessor-member, successor-predecessor}
use Rattle.permutations.proofs.Arrangements.{contains-from_member}
use Rattle.ring_arena.specs.Links.{Links, AreInverse, AreNow, reversed_at}
use Rattle.rotations.specs.Rotation.{order_at}
use Rattle.rotations.specs.Rings.{dart_at, orders, AreRings, StandOnRings}
use Rattle.permutations.specs.Ring.{turns}
use Rattle.rotations.specs.Runs.{IsParted, IsOutside, IsRunMoved, IsRunTurned, IsKeptElsewhere, mirror_image}
use Rattle.rotations.specs.declared.rings.Ring.{Ring}
use Rattle.rotations.proofs.Membership.{member-from_contains}
use Rattle.rotations.proofs.Steps.{order-ring, kept-dart, kept-next_in}
use Rattle.rotations.proofs.Reorder.{new-order, new-rings, new-vertices}
use Rattle.rotations.proofs.Ends.{leave-ends}
use Rattle.rotations.proofs.Runs.{Parting, parting, first-in, last-in, in-order, last-cut, before-run, before-whole, before-is_last}
use Rattle.rotations.proofs.Moves.{IsMadeAt, run-moved}
use Rattle.rotations.proofs.Turning.{each-reversed, whole-turned, run-turned}

-- the edges that a call names are round the vertex
pub outside-first : (o : List ℕ) (first last edge : ℕ) → IsOutside o first last edge → Contains o first
outside-first o first last edge w = contains-from_member o first (first-in o first last w.run (w.front ++ edge ∷ w.back) w.parted)

pub outside-last : (o : List ℕ) (first last edge : ℕ) → IsOutside o first last edge → Contains o last
outside-last o first last edge w = contains-from_member o last (last-in o first last w.run (w.front ++ edge ∷ w.back) w.parted)

pub outside-edge : (o : List ℕ) (first last edge : ℕ) → IsOutside o first last edge → Contains o edge
outside-edge o first last edge w = contains-from_member o edge (in-order o first last w.run (w.front ++ edge ∷ w.back) w.parted edge (member-append_right edge w.run (w.front ++ edge ∷ w.back) (member-append_right edge w.front (edge ∷ w.back) (member-head edge w.back))))

pub before-in : (o : List ℕ) (e b : ℕ) → Contains o e → b ≡ predecessor o e → Contains o b
before-in o e b m is = subst (λ (x : ℕ). Contains o x) (sym is) (contains-from_member o (predecessor o e) (predecessor-member o e (member-from_contains o e m)))

-- the others end in an edge
others-end : (front : List ℕ) (edge : ℕ) (back : List ℕ) → (c : List ℕ) × (y : ℕ) × (front ++ edge ∷ back ≡ c ++ y ∷ [])
others-end [] edge back = last-cut edge back
others-end (x ∷ xs) edge back = last-cut x (xs ++ edge ∷ back)

-- a run is moved in the cyclic order r of a vertex
pub record IsMoved (tails : List ℕ) (new : Links) (rings : List Ring) (r : List (List ℕ)) (v first last edge : ℕ) : Type 0 where
  pub kept : AreRings tails new.next new.prev rings
  pub moved : IsRunMoved (order_at r v) (order_at (orders new.next rings) v) first last edge
  pub elsewhere : IsKeptElsewhere r (orders new.next rings) v

-- or turned
pub record IsTurned (tails : List ℕ) (new : Links) (rings : List Ring) (r : List (List ℕ)) (v first last : ℕ) : Type 0 where
  pub kept : AreRings tails new.next new.prev rings
  pub turned : IsRunTurned (order_at r v) (order_at (orders new.next rings) v) first last
  pub elsewhere : IsKeptElsewhere r (orders new.next rings) v

module _ (tails : List ℕ) (old : Links) (rings : List Ring) (k : AreRings tails old.next old.prev rings) (r : List (List ℕ)) (is : orders old.next rings ≡ r) where
  -- an edge round a vertex has its darts
  pub darts-there : (v e : ℕ) (ts : List ℕ) → ts ≡ tails → Contains (order_at r v) e → 2 * e + 1 < length ts
  darts-there v e ts et m = subst (λ (t : List ℕ). 2 * e + 1 < length t) (sym et) (kept-dart tails old.next old.prev rings v e k (subst (λ (q : List (List ℕ)). Contains (order_at q v) e) (sym is) m))

  pub node-there : (v e d : ℕ) (ts : List ℕ) → ts ≡ tails → d ≡ dart_at ts v e → Contains (order_at r v) e → d < length old.next
  node-there v e d ts et ed m =
      subst (λ (x : ℕ). x < length old.next) (sym (ed ∙ ap (λ (t : List ℕ). dart_at t v e) et))
      (kept-next_in tails old.next old.prev rings v e k (subst (λ (q : List (List ℕ)). Contains (order_at q v) e) (sym is) m))

  -- the rings, as they are shown
  pub shown : StandOnRings r old tails
  shown = record {
    leaves_each = sym k.next_long;
    node = λ v e m. node-there v e (dart_at tails v e) tails refl refl m;
    leaves = λ v e m. (k.rounds v (there v e m)).tail e (at v e m);
    next = λ v e m. (k.linked v (there v e m)).forth e (at v e m) ∙ ap (λ (q : List (List ℕ)). dart_at tails v (successor (order_at q v) e)) is;
    prev = λ v e m.
        ap (λ (x : ℕ). get_or old.prev (dart_at tails v x) 0) (sym (successor-predecessor (order_at (orders old.next rings) v) e (k.rounds v (there v e m)).distinct))
        ∙ ((k.linked v (there v e m)).back (predecessor (order_at (orders old.next rings) v) e) (predecessor-member (order_at (orders old.next rings) v) e (at v e m))
        ∙ ap (λ (q : List (List ℕ)). dart_at tails v (predecessor (order_at q v) e)) is);
    ends = λ g ok s. leave-ends g r tails ok s (λ v e m. darts-there v e tails refl (round v e m)) (λ v e m. (k.rounds v (there v e (round v e m))).tail e (at v e (round v e m)))
        (λ d l. subst (λ (q : List (List ℕ)). is_member (d / 2) (order_at q (get_or tails d 0)) ≡ true) is (k.each d l));
  }
    where
      round : (v e : ℕ) → is_member e (order_at r v) ≡ true → Contains (order_at r v) e
      round v e m = contains-from_member (order_at r v) e m

      back : (v e : ℕ) → Contains (order_at r v) e → Contains (order_at (orders old.next rings) v) e
      back v e m = subst (λ (q : List (List ℕ)). Contains (order_at q v) e) (sym is) m

      there : (v e : ℕ) → Contains (order_at r v) e → v < length rings
      there v e m = order-ring old.next rings v e (back v e m)

      at : (v e : ℕ) → Contains (order_at r v) e → is_member e (order_at (orders old.next rings) v) ≡ true
      at v e m = member-from_contains (order_at (orders old.next rings) v) e (back v e m)

-- the bodies of the calls, from the view that the rings have
module _ (tails : List ℕ) (old : Links) (rings : List Ring) (k : AreRings tails old.next old.prev rings) (v : ℕ) where
  own-moved : (first last edge b : ℕ) (mid new : Links) → IsOutside (order_at (orders old.next rings) v) first last edge → b ≡ predecessor (order_at (orders old.next rings) v) first
      → AreNow old mid (exchange (dart_at tails v b) (dart_at tails v last) (λ d. get_or old.next d 0)) → AreNow mid new (exchange (dart_at tails v edge) (dart_at tails v last) (λ d. get_or mid.next d 0))
      → IsMoved tails new rings (orders old.next rings) v first last edge
  own-moved first last edge b mid new w is now₁ now₂ =
      record {
        kept = made.kept;
        moved = record { run = w.run; front = w.front; back = w.back; parted = w.parted; moved = made.here };
        elsewhere = made.elsewhere;
      }
    where
      inside : v < length rings
      inside = order-ring old.next rings v first (outside-first (order_at (orders old.next rings) v) first last edge w)

      end : (c : List ℕ) × (y : ℕ) × (w.front ++ edge ∷ w.back ≡ c ++ y ∷ [])
      end = others-end w.front edge w.back

      same : b ≡ end.1
      same = is ∙ before-run (order_at (orders old.next rings) v) first last w.run end.0 end.1 (k.rounds v inside).distinct (subst (λ (o : List ℕ). IsParted (order_at (orders old.next rings) v) first last w.run o) end.2 w.parted)

      made : IsMadeAt tails old new rings v (w.front ++ edge ∷ (w.run ++ w.back))
      made = run-moved tails old rings k v inside first last edge end.1 w.run w.front w.back end.0 mid new w.parted end.2
          (subst (λ (x : ℕ). AreNow old mid (exchange (dart_at tails v x) (dart_at tails v last) (λ d. get_or old.next d 0))) same now₁) now₂

  own-whole : (first last b : ℕ) (new : Links) → AreInverse old → Contains (order_at (orders old.next rings) v) first → Contains (order_at (orders old.next rings) v) last → b ≡ predecessor (order_at (orders old.next rings) v) first → b ≡ last
      → AreNow old new (reversed_at old (dart_at tails v first)) → IsTurned tails new rings (orders old.next rings) v first last
  own-whole first last b new inv mf ml is it now =
      let inside : v < length rings = order-ring old.next rings v first mf in
      let part : Parting (order_at (orders old.next rings) v) first last = parting (order_at (orders old.next rings) v) first last (member-from_contains (order_at (orders old.next rings) v) first mf) (member-from_contains (order_at (orders old.next rings) v) last ml) in
      let none : part.others ≡ [] = before-is_last (order_at (orders old.next rings) v) first last part.run part.others (k.rounds v inside).distinct part.parted (sym is ∙ it) in
      let p : IsParted (order_at (orders old.next rings) v) first last part.run [] = subst (λ (o : List ℕ). IsParted (order_at (orders old.next rings) v) first last part.run o) none part.parted in
      let made : IsMadeAt tails old new rings v (reverse part.run ++ []) = whole-turned tails old rings k inv v inside first last part.run new p now in
      record { kept = made.kept; turned = record { run = part.run; others = []; parted = p; turned = made.here }; elsewhere = made.elsewhere }

  own-turned : (first last b : ℕ) (mid back new : Links) → AreInverse old → Contains (order_at (orders old.next rings) v) first → Contains (order_at (orders old.next rings) v) last → b ≡ predecessor (order_at (orders old.next rings) v) first → b ≢ last
      → AreNow old mid (exchange (dart_at tails v b) (dart_at tails v last) (λ d. get_or old.next d 0)) → AreNow mid back (reversed_at mid (dart_at tails v first)) → AreNow back new (exchange (dart_at tails v b) (dart_at tails v first) (λ d. get_or back.next d 0))
      → IsTurned tails new rings (orders old.next rings) v first last
  own-turned first last b mid back new inv mf ml is apart now₁ now₂ now₃ = go part.others part.parted
    where
      inside : v < length rings
      inside = order-ring old.next rings v first mf

      part : Parting (order_at (orders old.next rings) v) first last
      part = parting (order_at (orders old.next rings) v) first last (member-from_contains (order_at (orders old.next rings) v) first mf) (member-from_contains (order_at (orders old.next rings) v) last ml)

      go : (others : List ℕ) → IsParted (order_at (orders old.next rings) v) first last part.run others → IsTurned tails new rings (orders old.next rings) v first last
      go [] p = absurd (apart (is ∙ before-whole (order_at (orders old.next rings) v) first last part.run (k.rounds v inside).distinct p))
      go (x ∷ xs) p =
          let w = last-cut x xs in
          let q : IsParted (order_at (orders old.next rings) v) first last part.run (w.0 ++ w.1 ∷ []) = subst (λ (o : List ℕ). IsParted (order_at (orders old.next rings) v) first last part.run o) w.2 p in
          let same : b ≡ w.1 = is ∙ before-run (order_at (orders old.next rings) v) first last part.run w.0 w.1 (k.rounds v inside).distinct q in
          let made : IsMadeAt tails old new rings v (reverse part.run ++ (w.0 ++ w.1 ∷ [])) =
          run-turned tails old rings k inv v inside first last w.1 part.run w.0 mid back new q
          (subst (λ (z : ℕ). AreNow old mid (exchange (dart_at tails v z) (dart_at tails v last) (λ d. get_or old.next d 0))) same now₁) now₂
          (subst (λ (z : ℕ). AreNow back new (exchange (dart_at tails v z) (dart_at tails v first) (λ d. get_or back.next d 0))) same now₃) in
          record { kept = made.kept; turned = record { run = part.run; others = w.0 ++ w.1 ∷ []; parted = q; turned = made.here }; elsewhere = made.elsewhere }

-- the same with the view and the darts by name
pub call-moved : (tails : List ℕ) (old : Links) (rings : List Ring) → AreRings tails old.next old.prev rings → (r : List (List ℕ)) → orders old.next rings ≡ r → (v first last edge b d₁ d₂ d₃ : ℕ) (t₁ t₂ t₃ : List ℕ) (mid new : Links)
    → t₁ ≡ tails → t₂ ≡ tails → t₃ ≡ tails → d₁ ≡ dart_at t₁ v b → d₂ ≡ dart_at t₂ v last → d₃ ≡ dart_at t₃ v edge → IsOutside (order_at r v) first last edge → b ≡ predecessor (order_at r v) first
    → AreNow old mid (exchange d₁ d₂ (λ d. get_or old.next d 0)) → AreNow mid new (exchange d₃ d₂ (λ d. get_or mid.next d 0)) → IsMoved tails new rings r v first last edge
call-moved tails old rings k r is v first last edge b d₁ d₂ d₃ t₁ t₂ t₃ mid new e₁ e₂ e₃ f₁ f₂ f₃ w before now₁ now₂ =
    subst (λ (q : List (List ℕ)). IsOutside (order_at q v) first last edge → b ≡ predecessor (order_at q v) first → IsMoved tails new rings q v first last edge) is
    (λ u s. own-moved tails old rings k v first last edge b mid new u s
    (subst (λ (p : ℕ × ℕ). AreNow old mid (exchange p.0 p.1 (λ d. get_or old.next d 0))) (λ i. (g₁ i, g₂ i)) now₁)
    (subst (λ (p : ℕ × ℕ). AreNow mid new (exchange p.0 p.1 (λ d. get_or mid.next d 0))) (λ i. (g₃ i, g₂ i)) now₂))
    w before
  where
    g₁ : d₁ ≡ dart_at tails v b
    g₁ = f₁ ∙ ap (λ (t : List ℕ). dart_at t v b) e₁

    g₂ : d₂ ≡ dart_at tails v last
    g₂ = f₂ ∙ ap (λ (t : List ℕ). dart_at t v last) e₂

    g₃ : d₃ ≡ dart_at tails v edge
    g₃ = f₃ ∙ ap (λ (t : List ℕ). dart_at t v edge) e₃

pub call-whole : (tails : List ℕ) (old : Links) (rings : List Ring) → AreRings tails old.next old.prev rings → (r : List (List ℕ)) → orders old.next rings ≡ r → (v first last b d : ℕ) (t : List ℕ) (new : Links)
    → t ≡ tails → d ≡ dart_at t v first → AreInverse old → Contains (order_at r v) first → Contains (order_at r v) last → b ≡ predecessor (order_at r v) first → b ≡ last
    → AreNow old new (reversed_at old d) → IsTurned tails new rings r v first last
call-whole tails old rings k r is v first last b d t new e f inv mf ml before it now =
    subst (λ (q : List (List ℕ)). Contains (order_at q v) first → Contains (order_at q v) last → b ≡ predecessor (order_at q v) first → IsTurned tails new rings q v first last) is
    (λ x y s. own-whole tails old rings k v first last b new inv x y s it (subst (λ (z : ℕ). AreNow old new (reversed_at old z)) (f ∙ ap (λ (u : List ℕ). dart_at u v first) e) now))
    mf ml before

pub call-turned : (tails : List ℕ) (old : Links) (rings : List Ring) → AreRings tails old.next old.prev rings → (r : List (List ℕ)) → orders old.next rings ≡ r → (v first last b d₁ d₂ d₃ : ℕ) (t₁ t₂ t₃ : List ℕ) (mid back new : Links)
    → t₁ ≡ tails → t₂ ≡ tails → t₃ ≡ tails → d₁ ≡ dart_at t₁ v b → d₂ ≡ dart_at t₂ v last → d₃ ≡ dart_at t₃ v first → AreInverse old → Contains (order_at r v) first → Contains (order_at r v) last → b ≡ predecessor (order_at r v) first → b ≢ last
    → AreNow old mid (exchange d₁ d₂ (λ d. get_or old.next d 0)) → AreNow mid back (reversed_at mid d₃) → AreNow back new (exchange d₁ d₃ (λ d. get_or back.next d 0)) → IsTurned tails new rings r v first last
call-turned tails old rings k r is v first last b d₁ d₂ d₃ t₁ t₂ t₃ mid back new e₁ e₂ e₃ f₁ f₂ f₃ inv mf ml before apart now₁ now₂ now₃ =
    subst (λ (q : List (List ℕ)). Contains (order_at q v) first → Contains (order_at q v) last → b ≡ predecessor (order_at q v) first → IsTurned tails new rings q v first last) is
    (λ x y s. own-turned tails old rings k v first last b mid back new inv x y s apart
    (subst (λ (p : ℕ × ℕ). AreNow old mid (exchange p.0 p.1 (λ d. get_or old.next d 0))) (λ i. (g₁ i, g₂ i)) now₁)
    (subst (λ (z : ℕ). AreNow mid back (reversed_at mid z)) g₃ now₂)
    (subst (λ (p : ℕ × ℕ). AreNow back new (exchange p.0 p.1 (λ d. get_or back.next d 0))) (λ i. (g₁ i, g₃ i)) now₃))
    mf ml before
  where
    g₁ : d₁ ≡ dart_at tails v b
    g₁ = f₁ ∙ ap (λ (t : List ℕ). dart_at t v b) e₁

    g₂ : d₂ ≡ dart_at tails v last
    g₂ = f₂ ∙ ap (λ (t : List ℕ). dart_at t v last) e₂

    g₃ : d₃ ≡ dart_at tails v first
    g₃ = f₃ ∙ ap (λ (t : List ℕ). dart_at t v first) e₃

-- all the rings turned
pub record IsMirrored (tails : List ℕ) (new : Links) (rings : List Ring) (r : List (List ℕ)) : Type 0 where
  pub kept : AreRings tails new.next new.prev rings
  pub mirrored : orders new.next rings ≡ mirror_image r

pub call-mirrored : (tails : List ℕ) (old : Links) (rings : List Ring) → AreRings tails old.next old.prev rings → (r : List (List ℕ)) → orders old.next rings ≡ r → (new : Links) → AreNow old new (λ d. get_or old.prev d 0) → IsMirrored tails new rings r
call-mirrored tails old rings k r is new now = subst (λ (q : List (List ℕ)). IsMirrored tails new rings q) is (record {
  kept = new-rings tails old new rings k now.inverse now.count (λ w. reverse (order_at (orders old.next rings) w)) (each-reversed tails old rings k new now);
  mirrored = ext_get_or [] (orders new.next rings) (mirror_image (orders old.next rings)) (same ∙ sym (length-map (orders old.next rings) (λ order. from_least (reverse order)))) each;
})
  where
    same : length (orders new.next rings) ≡ length (orders old.next rings)
    same = new-vertices tails old new rings k now.inverse now.count (λ w. reverse (order_at (orders old.next rings) w)) (each-reversed tails old rings k new now)

    each : (w : ℕ) → w < length (orders new.next rings) → get_or (orders new.next rings) w [] ≡ get_or (mirror_image (orders old.next rings)) w []
    each w n =
        let l : w < length rings = omega (arith, length-map rings (λ (ring : Ring). turns new.next ring.first ring.degree)) in
        new-order tails old new rings k now.inverse now.count (λ v. reverse (order_at (orders old.next rings) v)) (each-reversed tails old rings k new now) w l
        ∙ sym (get_or-map (λ order. from_least (reverse order)) (orders old.next rings) w [] [] (omega (arith, same)))
