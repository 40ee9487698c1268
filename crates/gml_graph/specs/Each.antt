-- Values taken one after another, up to the first refusal.
use Rattle.std.specs.Prelude.{ℕ, zero, suc, List, [], ◌∷◌, ◌++◌, Result, Ok, Err}
use Rattle.gml_graph.specs.declared.fault.GraphFault.{GraphFault}

-- some values and one more, or the first refusal among them
abbrev pub and_one_more : {A : Type 0} → Result (List A) GraphFault → Result A GraphFault → Result (List A) GraphFault
and_one_more (Err e) r = Err e
and_one_more (Ok xs) (Err e) = Err e
and_one_more (Ok xs) (Ok x) = Ok (xs ++ x ∷ [])

-- the values at 0, 1, .., n - 1, or the first refusal among them
abbrev pub each_below : {A : Type 0} → ℕ → (ℕ → Result A GraphFault) → Result (List A) GraphFault
each_below zero f = Ok []
each_below (suc n) f = and_one_more (each_below n f) (f n)
