-- How many entries finished components have, counted along the list of them.
use Rattle.std.proofs.Common.{◌≡◌, ℕ, zero, suc, ◌+◌, ◌<◌, ◌≤◌, List, [], ◌∷◌, ◌++◌, length, take, slice_index_or, sym, ap, ◌∙◌, arith}
use Rattle.std.proofs.lemmas.List.{take_all, take_more}
use Rattle.pair_split.specs.declared.splitting.Finished.{Finished}
use Rattle.pair_split.specs.Writing.{entry_total}

-- one component behind the others
total-push : (parts : List Finished) (finished : Finished) → entry_total (parts ++ finished ∷ []) ≡ entry_total parts + length finished.edges
total-push [] finished = omega arith
total-push (x ∷ parts) finished = omega (arith, total-push parts finished)

-- one component more of the list
pub total-more : (parts : List Finished) (k : ℕ) (finished : Finished) → k < length parts → finished ≡ slice_index_or parts k finished → entry_total (take (k + 1) parts) ≡ entry_total (take k parts) + length finished.edges
total-more parts k finished l e = ap entry_total (take_more parts k finished l ∙ ap (λ (x : Finished). take k parts ++ x ∷ []) (sym e)) ∙ total-push (take k parts) finished

-- all of the list
pub total-all : (parts : List Finished) (k : ℕ) → length parts ≤ k → entry_total (take k parts) ≡ entry_total parts
total-all parts k l = ap entry_total (take_all k parts l)

-- some of the list have no more than all
pub total-some : (parts : List Finished) (k : ℕ) → entry_total (take k parts) ≤ entry_total parts
total-some [] zero = omega arith
total-some [] (suc k) = omega arith
total-some (x ∷ parts) zero = omega arith
total-some (x ∷ parts) (suc k) = omega (arith, total-some parts k)
