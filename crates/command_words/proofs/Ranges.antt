-- A graph that is asked for has from 6 to 20,000 edges.
use Rattle.std.proofs.Common.{◌≡◌, ℕ, ◌<◌, ◌≤◌, ◌^◌, Bool, true, false, ◌&&◌, cond, nat_le, nat_lt, List, Option, Some, None, option_and_then, bytes_eq, codes, refl, subst, arith}
use Rattle.std.proofs.lemmas.Bool.{leb-true, ltb-true}
use Rattle.std.specs.List.{list_all}
use Rattle.decimals.specs.Number.{are_digits, number_below, value_of}
use Rattle.command_words.specs.Form.{Asked, Run, Make, is_plain, at_least, make_of, command_of, three_in, form_of}

-- the number is below the limit
abbrev IsBelow : ℕ → Option ℕ → Type 0
IsBelow limit None = Unit {0}
IsBelow limit (Some n) = n < limit

-- the number is in the range
abbrev IsIn : Option ℕ → Type 0
IsIn None = Unit {0}
IsIn (Some n) = (6 ≤ n) × (n < 20001)

-- so is that of what is asked
abbrev AsksIn : Option Asked → Type 0
AsksIn None = Unit {0}
AsksIn (Some (Run graph script)) = Unit {0}
AsksIn (Some (Make n seed)) = (6 ≤ n) × (n < 20001)

below : (limit : ℕ) (text : List ℕ) → IsBelow limit (number_below limit text)
below limit text = choose (are_digits text) (nat_lt (value_of text) limit) (λ h. ltb-true (value_of text) limit h)
  where
    choose : (a b : Bool) → (b ≡ true → value_of text < limit) → IsBelow limit (cond (a && b) (Some (value_of text)) None)
    choose false b h = tt
    choose true false h = tt
    choose true true h = h refl

inside : (o : Option ℕ) → IsBelow 20001 o → IsIn (at_least 6 o)
inside None h = tt
inside (Some n) h = choose (nat_le 6 n) (λ t. leb-true 6 n t)
  where
    choose : (t : Bool) → (t ≡ true → 6 ≤ n) → IsIn (cond t (Some n) None)
    choose false g = tt
    choose true g = (g refl, h)

makes : (o s : Option ℕ) → IsIn o → AsksIn (make_of o s)
makes None s h = tt
makes (Some n) None h = tt
makes (Some n) (Some seed) h = h

commands : (words : List ℕ × List ℕ × List ℕ) → AsksIn (command_of words)
commands words = choose (bytes_eq words.0 (codes "run")) (bytes_eq words.0 (codes "make"))
  where
    choose : (a b : Bool) → AsksIn (cond a (Some (Run words.1 words.2)) (cond b (make_of (at_least 6 (number_below 20001 words.1)) (number_below (2 ^ 64) words.2)) None))
    choose true b = tt
    choose false true = makes (at_least 6 (number_below 20001 words.1)) (number_below (2 ^ 64) words.2) (inside (number_below 20001 words.1) (below 20001 words.1))
    choose false false = tt

forms : (words : List (List ℕ)) → AsksIn (form_of words)
forms words = choose (list_all is_plain words) (three_in words)
  where
    choose : (t : Bool) (o : Option (List ℕ × List ℕ × List ℕ)) → AsksIn (cond t (option_and_then command_of o) None)
    choose false o = tt
    choose true None = tt
    choose true (Some words) = commands words

-- where the words ask for a graph, the number of edges is in the range
pub make-range : (words : List (List ℕ)) (n seed : ℕ) → form_of words ≡ Some (Make n seed) → (6 ≤ n) × (n ≤ 20000)
make-range words n seed h = let r : (6 ≤ n) × (n < 20001) = subst AsksIn h (forms words) in (r.0, omega (arith, r.1))
