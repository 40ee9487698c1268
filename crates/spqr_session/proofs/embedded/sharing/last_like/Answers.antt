use Rattle.std.proofs.Common.{◌≡◌, ℕ, ◌-◌, ◌<◌, List, length, take, drop, reverse, Option, None, Some, Contains, MatchOption, IfSome, rules, tests, arith, ◌∙◌, subst, sym}
use Rattle.std.specs.Prelude.{⊤}
use Rattle.std.proofs.lemmas.Iterator.{YieldsList-from_take, first_from_find}
use Rattle.std.proofs.lemmas.Iterator.Adapters.{YieldsList-from_rev_slice}
use Rattle.std.proofs.lemmas.List.{length-reverse, get_or-reverse, take-append-drop}
use Rattle.std.proofs.lemmas.List.Elements.{Contains-append_left, Contains-from_at}
use Rattle.spqr_session.specs.Embedded.{BlockView}
use Rattle.spqr_session.proofs.embedded.sharing.last_like.Goals as goal

-- what is among the last few of a list is in it
turned-has : (xs : List BlockView) (x : BlockView) → Contains (reverse xs) x → Contains xs x
turned-has xs x h =
    let k = h.0 in
    let m : k < length xs = omega (arith, h.1, length-reverse xs) in
    (length xs - 1 - k, omega (arith, m), sym (get_or-reverse xs k x m) ∙ h.2)

last-has : (n : ℕ) (xs : List BlockView) (x : BlockView) → Contains (take n (reverse xs)) x → Contains xs x
last-has n xs x h = turned-has xs x (subst (λ (l : List BlockView). Contains l x) (take-append-drop n (reverse xs)) (Contains-append_left (take n (reverse xs)) (drop n (reverse xs)) x h))

where-some : {X : Type 0} (r : Option X) (N : Type 0) (P Q : X → Type 0) → ((x : X) → P x → Q x) → MatchOption r N P → IfSome r Q
where-some None N P Q f h = tt
where-some (Some x) N P Q f h = f x h

pub returns : goal.returns
returns c =
    let few = take 8 (reverse c.args.before.now) in
    let is = first_from_find _ _ c.find.result (λ (v : BlockView). v.tree.part.graph ≡ c.args.graph.now) (λ (v : BlockView). ⊤) c.find.ensures.ran (YieldsList-from_take 8 (YieldsList-from_rev_slice c.args.before.now cc) cc) (λ x q k. search (rules, tests)) (λ x q k. search (rules, tests)) in
    record {
      among = where-some c.find.result _ _ _ (λ x h. last-has 8 c.args.before.now x.now (Contains-from_at few x.now (h.1, h.2, h.3))) is;
      graph = where-some c.find.result _ _ _ (λ x h. h.0) is;
    }
